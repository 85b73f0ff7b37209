use Rattle.octets.specs.Word.{word_octets}
use Rattle.laws.specs.Over.{over}
use lib.ListN.{length}
use mathlib.Core.Path.{◌≡◌}
use Rattle.octets.proofs.write.write_word.Given as goal

abbrev pub invariant-loop-i : goal.invariant-loop-i
invariant-loop-i l =
    (length l.out ≡ length l.initial.out) × (over l.out l.at (word_octets l.i l.rest) ≡ over l.initial.out l.at (word_octets l.k l.n))
