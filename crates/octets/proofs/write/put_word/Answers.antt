use native.Mathlib.Omega.{arith}
use Rattle.laws.proofs.Over.{puts_none, puts_all}
use Rattle.octets.proofs.Rooms.{room_here, room_past}
use Rattle.octets.proofs.Words.{length_word}
use Rattle.octets.proofs.write.put_word.Goals as goal

pub returns-then-not-has_room : goal.returns-then-not-has_room
returns-then-not-has_room c =
    let a = c.args in
    puts_none (omega (arith, room_past a.out.now a.at a.k c.if-not-has_room.ensures, length_word a.k a.n))

pub returns : goal.returns
returns c = let a = c.args in
    puts_all (omega (arith, room_here a.out.now a.at a.k c.if-not-has_room.ensures, length_word a.k a.n)) c.write_word.ensures
