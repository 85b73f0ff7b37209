use Rattle.octets.proofs.Elements.{length_head}
use Rattle.octets.proofs.Lengths.{shortest_most, shortest_holds}
use Rattle.octets.proofs.Rooms.{room_here, room_past}
use Rattle.laws.proofs.Over.{puts_none, puts_all}
use native.Mathlib.Omega.{arith}
use Rattle.octets.proofs.write.put_head.Goals as goal

pub overflow_add-need : goal.overflow_add-need
overflow_add-need c = omega (arith, c.length_fewest-k.ensures, shortest_most c.args.n)

pub returns-then-not-has_room : goal.returns-then-not-has_room
returns-then-not-has_room c =
    let a = c.args in
    puts_none (omega (arith, c.length_fewest-k.ensures, room_past a.out.now a.at _ c.if-not-has_room.ensures, length_head a.tag a.n))

pub write_head-requires : goal.write_head-requires
write_head-requires c =
    let a = c.args in
    let k = c.length_fewest-k.ensures in (
      omega (arith, room_here a.out.now a.at _ c.if-not-has_room.ensures),
      rw k (shortest_most a.n),
      rw k (shortest_holds a.n (omega arith)),
    )

pub returns : goal.returns
returns c =
    let a = c.args in
    let k = c.length_fewest-k.ensures in
    puts_all (omega (arith, k, room_here a.out.now a.at _ c.if-not-has_room.ensures, length_head a.tag a.n))
    (rw k at c.write_head.ensures)
