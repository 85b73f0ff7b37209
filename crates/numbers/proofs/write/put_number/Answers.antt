use native.Mathlib.Omega.{arith}
use Rattle.laws.proofs.Over.{puts_none, puts_all}
use Rattle.octets.proofs.Rooms.{room_here, room_past}
use Rattle.numbers.proofs.write.put_number.Goals as goal

pub returns-then-not-has_room : goal.returns-then-not-has_room
returns-then-not-has_room c =
    let a = c.args in
    puts_none (omega (arith, c.number_size-need.ensures, room_past a.out.now a.at _ c.if-not-has_room.ensures))

pub returns : goal.returns
returns c =
    let a = c.args in
    puts_all (omega (arith, c.number_size-need.ensures, room_here a.out.now a.at _ c.if-not-has_room.ensures)) c.write_number.ensures
