-- Each promise of the crate answers admits one answer, and one lent output afterwards. Assumes nothing.
use Prim.Native.Nat.{ℕ}
use mathlib.Core.Path.{◌≡◌}
use mathlib.Core.List.{List}
use lib.IntN.{ℤ}
use Rattle.laws.proofs.Picks.{both}
use Rattle.laws.proofs.Over.{only_puts}
use Rattle.answers.proofs.Numbers.{replies_is}
use Rattle.answers.specs.Answer.{PutAnswer}
use Rattle.answers.specs.Reply.{ReplyTo}
use Rattle.answers.specs.declared.answer.Answer.{Answer}
use Rattle.answers.specs.declared.reply.Reply.{Reply}

pub only_put_answer :
    (xs : List ℕ) (answer : Answer) {m n : ℕ} {ys zs : List ℕ} → PutAnswer xs answer m ys → PutAnswer xs answer n zs →
    (m ≡ n) × (ys ≡ zs)
only_put_answer xs answer = only_puts

pub only_reply_to :
    (identifier : ℤ) (operation : ℕ) (s : List ℕ) {a b : Reply} → ReplyTo identifier operation s a →
    ReplyTo identifier operation s b →
    a ≡ b
only_reply_to identifier operation s a b = both (replies_is a) (replies_is b)
