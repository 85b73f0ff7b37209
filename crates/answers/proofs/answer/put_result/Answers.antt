use Rattle.values.proofs.Idents.{ident_most_lem}
use Rattle.octets.proofs.Elements.{length_small, headed}
use Rattle.values.specs.Ident.{ident_octets}
use Rattle.octets.specs.Element.{element}
use Rattle.laws.proofs.Over.{wrote, puts_all, puts_none}
use mir.Facts.{to_z-of_z}
use lib.ListN.{length}
use Prim.Native.Nat.{◌+◌, ◌≤◌}
use native.Mathlib.Omega.{arith}
use Rattle.answers.proofs.answer.put_result.Goals as goal

pub overflow_add-size : goal.overflow_add-size
overflow_add-size c = let same = to_z-of_z c.ranges.identifier in
    let id = c.args.identifier in
    let range = c.ranges.identifier.sfits in
    let size = rw same at c.ident_size-size.ensures in
    omega (arith, size, ident_most_lem id range)

pub returns-then-out-size : goal.returns-then-out-size
returns-then-out-size c = let same = to_z-of_z c.ranges.identifier in
    let id = c.args.identifier in
    let range = c.ranges.identifier.sfits in
    let size = rw same at c.ident_size-size.ensures in
    let long = length_small 0xA2 (ident_octets id) (omega (arith, ident_most_lem id range)) in puts_none (omega (arith, size, long))

pub overflow_cast-size : goal.overflow_cast-size
overflow_cast-size c = let same = to_z-of_z c.ranges.identifier in
    let id = c.args.identifier in
    let range = c.ranges.identifier.sfits in
    let size = rw same at c.ident_size-size.ensures in
    omega (arith, size, ident_most_lem id range)

pub returns : goal.returns
returns c =
    let same = to_z-of_z c.ranges.identifier in
    let id = c.args.identifier in
    let range = c.ranges.identifier.sfits in
    let size = rw same at c.ident_size-size.ensures in
    let long = length_small 0xA2 (ident_octets id) (omega (arith, ident_most_lem id range)) in
    let fits : 0 + length (element 0xA2 (ident_octets id)) ≤ length
    c.args.out.now =
    omega (arith, size, long, c.if-out-size.false) in
    puts_all fits (headed fits size c.put_head-p.ensures
    (λ h. wrote h (rw same at c.put_ident.ensures)))
