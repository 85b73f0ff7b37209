use Rattle.values.proofs.Idents.{ident_most_lem}
use Rattle.octets.proofs.Elements.{length_small, headed}
use Rattle.values.specs.Ident.{ident_octets}
use Rattle.octets.specs.Element.{element}
use Rattle.laws.proofs.Over.{wrote, puts_then, puts_all, puts_none}
use mir.Facts.{to_z-of_z, to_z_pos}
use mir.Syntax.{w16}
use lib.IntN.{pos}
use lib.ListN.{length, length-append}
use mathlib.Core.List.{◌++◌}
use mathlib.Core.Path.{◌≡◌}
use Prim.Native.Nat.{◌+◌, ◌≤◌}
use native.Mathlib.Omega.{arith}
use Rattle.answers.proofs.answer.put_error.Goals as goal

pub overflow_add-size : goal.overflow_add-size
overflow_add-size c = let a = c.args in
    let id = a.identifier in
    let own = ident_octets id in
    let error = ident_octets (pos a.value) in
    let same = to_z-of_z c.ranges.identifier in
    let value = to_z_pos w16 {n = a.value} (omega (arith, c.ranges.value)) in
    let few = ident_most_lem id c.ranges.identifier.sfits in
    let few2 = ident_most_lem (pos a.value) (omega (arith, c.ranges.value)) in
    let size = rw same at c.ident_size.ensures in
    let size2 = rw value at c.ident_size-2.ensures in
    omega (arith, size, size2, few, few2)

pub overflow_add-size-2 : goal.overflow_add-size-2
overflow_add-size-2 c = let a = c.args in
    let id = a.identifier in
    let own = ident_octets id in
    let error = ident_octets (pos a.value) in
    let same = to_z-of_z c.ranges.identifier in
    let value = to_z_pos w16 {n = a.value} (omega (arith, c.ranges.value)) in
    let few = ident_most_lem id c.ranges.identifier.sfits in
    let few2 = ident_most_lem (pos a.value) (omega (arith, c.ranges.value)) in
    let size = rw same at c.ident_size.ensures in
    let size2 = rw value at c.ident_size-2.ensures in
    omega (arith, size, size2, few, few2)

pub returns-then-out-size : goal.returns-then-out-size
returns-then-out-size c = let a = c.args in
    let id = a.identifier in
    let own = ident_octets id in
    let error = ident_octets (pos a.value) in
    let same = to_z-of_z c.ranges.identifier in
    let value = to_z_pos w16 {n = a.value} (omega (arith, c.ranges.value)) in
    let few = ident_most_lem id c.ranges.identifier.sfits in
    let few2 = ident_most_lem (pos a.value) (omega (arith, c.ranges.value)) in
    let size = rw same at c.ident_size.ensures in
    let size2 = rw value at c.ident_size-2.ensures in
    let inside : c.ident_size.result + c.ident_size-2.result ≡ length (own ++ error) = omega
    (arith, length-append own error, size, size2) in
    let long = length_small 0xA3 (own ++ error) (omega (arith, inside, size, size2, few, few2)) in
    puts_none (omega (arith, inside, long))

pub overflow_cast-size : goal.overflow_cast-size
overflow_cast-size c = let a = c.args in
    let id = a.identifier in
    let own = ident_octets id in
    let error = ident_octets (pos a.value) in
    let same = to_z-of_z c.ranges.identifier in
    let value = to_z_pos w16 {n = a.value} (omega (arith, c.ranges.value)) in
    let few = ident_most_lem id c.ranges.identifier.sfits in
    let few2 = ident_most_lem (pos a.value) (omega (arith, c.ranges.value)) in
    let size = rw same at c.ident_size.ensures in
    let size2 = rw value at c.ident_size-2.ensures in
    omega (arith, size, size2, few, few2)

pub returns : goal.returns
returns c =
    let a = c.args in
    let id = a.identifier in
    let own = ident_octets id in
    let error = ident_octets (pos a.value) in
    let same = to_z-of_z c.ranges.identifier in
    let value = to_z_pos w16 {n = a.value} (omega (arith, c.ranges.value)) in
    let few = ident_most_lem id c.ranges.identifier.sfits in
    let few2 = ident_most_lem (pos a.value) (omega (arith, c.ranges.value)) in
    let size = rw same at c.ident_size.ensures in
    let size2 = rw value at c.ident_size-2.ensures in
    let inside : c.ident_size.result + c.ident_size-2.result ≡ length (own ++ error) = omega
    (arith, length-append own error, size, size2) in
    let long = length_small 0xA3 (own ++ error) (omega (arith, inside, size, size2, few, few2)) in
    let fits : 0 + length (element 0xA3 (own ++ error)) ≤ length a.out.now = omega (arith, inside, long, c.if-out-size.false) in
    puts_all fits (headed fits inside c.put_head-p.ensures
    (λ h. puts_then h (rw same at c.put_ident-q.ensures)
    (λ k. wrote k (rw value at c.put_ident.ensures))))
