use Rattle.octets.proofs.Words.{length_word, word_turn, word_over}
use lib.ListN.{length-set}
use mathlib.Core.Path.{◌≡◌, sym, ap, ◌∙◌}
use Prim.Native.Nat.{ℕ, ◌+◌}
use native.Mathlib.Omega.{arith}
use Rattle.octets.proofs.write.write_word.Goals as goal

pub loop-i-preserved : goal.loop-i-preserved
loop-i-preserved c =
    let l = c.loop-i in
    (simp length-set l.invariant.0, word_turn l.out c.args.at l.i l.rest (omega arith) ∙ l.invariant.1)

pub returns : goal.returns
returns c = let a = c.args in
    let none : c.loop-i.i ≡ 0 = omega arith in
    record {
      moved = ap (λ (j : ℕ). a.at + j) (sym (length_word a.k a.n));
      holds = sym (word_over c.loop-i.out a.at c.loop-i.rest) ∙ (rw none at c.loop-i.invariant.1);
    }
