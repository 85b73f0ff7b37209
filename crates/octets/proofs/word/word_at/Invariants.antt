use Rattle.octets.specs.inner.Word.{WordAt}
use Rattle.octets.proofs.word.word_at.Given as goal

abbrev pub invariant-loop-i : goal.invariant-loop-i
invariant-loop-i l = WordAt l.i l.s l.at l.n
