use native.Mathlib.Omega.{arith}
use Rattle.octets.proofs.Rooms.{room_here, room_past}
use Rattle.octets.proofs.Words.{word_found, word_short, word_many}
use Rattle.octets.proofs.word.word_in.Goals as goal
use Rattle.octets.proofs.word.word_in.Goals.{else-k-le-WORDMOST-via-then-k-le-WORDMOST+else-has_room, else-k-le-WORDMOST-via-else-k-le-WORDMOST}

pub returns-then-has_room : goal.returns-then-has_room
returns-then-has_room c =
    let a = c.args in
    word_found (omega arith) (room_here a.s.now a.at a.k c.if-has_room.ensures) c.word_at.ensures

pub returns-else-k-le-WORDMOST : goal.returns-else-k-le-WORDMOST
returns-else-k-le-WORDMOST c =
    let a = c.args in
    elim c.else-k-le-WORDMOST.branch [
      | else-k-le-WORDMOST-via-then-k-le-WORDMOST+else-has_room w ↦ word_short (omega arith) (room_past a.s.now a.at a.k w.if-has_room.ensures)
      | else-k-le-WORDMOST-via-else-k-le-WORDMOST w ↦ word_many (omega arith)
    ]
