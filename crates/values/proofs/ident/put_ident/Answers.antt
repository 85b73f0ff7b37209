use Rattle.values.proofs.Idents.{fewest_two, fewest_magnitude, length_ident, ident_octets_lem}
use Rattle.values.specs.Ident.{ident_fewest, bits}
use Rattle.laws.proofs.Over.{wrote, puts_none, puts_all}
use Rattle.octets.proofs.Rooms.{room_here, room_past}
use Rattle.octets.proofs.Elements.{headed}
use lib.ListN.{length}
use mir.Facts.{to_z-of_z}
use mathlib.Core.Path.{ap, ◌∙◌}
use Prim.Native.Nat.{ℕ}
use native.Mathlib.Omega.{arith}
use Rattle.values.proofs.ident.put_ident.Goals as goal

pub overflow_add-need : goal.overflow_add-need
overflow_add-need c = let z = c.args.value in
    let range = c.ranges.value.sfits in
    let count = rw (to_z-of_z c.ranges.value) at c.ident_fewest-w.ensures in
    omega (arith, count, fewest_two z range)

pub returns-then-not-has_room : goal.returns-then-not-has_room
returns-then-not-has_room c = let z = c.args.value in
    let a = c.args in
    let range = c.ranges.value.sfits in
    let count = rw (to_z-of_z c.ranges.value) at c.ident_fewest-w.ensures in
    rw (ident_octets_lem z range) (puts_none (omega (arith, room_past a.out.now a.at _ c.if-not-has_room.ensures, count, length_ident (ident_fewest z) z)))

pub pattern-u-requires : goal.pattern-u-requires
pattern-u-requires c = let z = c.args.value in
    let range = c.ranges.value.sfits in
    let same = to_z-of_z c.ranges.value in
    rw (same, rw same at c.ident_fewest-w.ensures) (fewest_two z range, fewest_magnitude z range)

pub overflow_cast-w : goal.overflow_cast-w
overflow_cast-w c = let count = rw (to_z-of_z c.ranges.value) at c.ident_fewest-w.ensures in
    omega (arith, count, fewest_two c.args.value c.ranges.value.sfits)

pub returns : goal.returns
returns c = let z = c.args.value in
    let same = to_z-of_z c.ranges.value in
    let count = rw same at c.ident_fewest-w.ensures in
    let octets = (rw same at c.pattern-u.ensures) ∙ ap (λ (w : ℕ). bits w z) count in
    let long = length_ident (ident_fewest z) z in
    let size = ap length (ident_octets_lem z c.ranges.value.sfits) in
    let a = c.args in
    let room = room_here a.out.now a.at _ c.if-not-has_room.ensures in
    puts_all (omega (arith, room, count, long, size))
    (headed (omega (arith, room, count, long, size)) (omega (arith, count, long))
    c.put_head-p.ensures
    (λ room. wrote room (rw (octets, count) at c.put_word.ensures)))
