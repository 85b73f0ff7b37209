use Rattle.laws.proofs.Over.{puts_none, puts_all}
use Rattle.octets.proofs.Rooms.{room_here, room_past}
use Rattle.groups.proofs.groups.put_groups.Goals as goal

pub returns-then-not-has_room : goal.returns-then-not-has_room
returns-then-not-has_room c =
    let a = c.args in
    puts_none (rw c.groups_size-need.ensures at (room_past a.out.now a.at _ c.if-not-has_room.ensures))

pub returns : goal.returns
returns c =
    let a = c.args in
    puts_all (rw c.groups_size-need.ensures at (room_here a.out.now a.at _ c.if-not-has_room.ensures)) c.write_groups.ensures
