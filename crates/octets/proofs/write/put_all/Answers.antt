use native.Mathlib.Omega.{arith}
use Rattle.octets.proofs.Rooms.{room_here, room_past, copied}
use Rattle.laws.proofs.Over.{puts_none, puts_all}
use Rattle.octets.proofs.write.put_all.Goals as goal

pub returns-then-not-has_room : goal.returns-then-not-has_room
returns-then-not-has_room c = let a = c.args in puts_none (room_past a.out.now a.at _ c.if-not-has_room.ensures)

pub returns : goal.returns
returns c = let a = c.args in
    let room = room_here a.out.now a.at _ c.if-not-has_room.ensures in
    puts_all room (copied a.out.now a.at _ a.src.now _ (omega arith) c.copy_from_slice.ensures.after room)
