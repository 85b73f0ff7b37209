-- The numbers of what is told of an arriving component name it. Assumes nothing.
use Prim.Native.Nat.{ℕ}
use mathlib.Core.Path.{◌≡◌, sym, ap, ◌∙◌}
use Rattle.std.specs.Prelude.{Result, Ok, Err}
use Rattle.std.specs.Result.{result_map_both}
use Rattle.refusals.specs.declared.refusal.Refusal.{Refusal}
use Rattle.refusals.proofs.Refusals.{refusal_same, refuses_same, tells_same, refuses_not}
use Rattle.answers.proofs.Numbers.{answered_same}
use Rattle.answers.specs.Answer.{answered_by}
use Rattle.answers.specs.declared.answer.Answer.{Answer}
use Rattle.exchange.specs.Arrive.{arriving_told, arriving_count}
use Rattle.exchange.specs.declared.arrive.Answered.{Answered}

-- what came of it, without the count
abbrev answer_in : Result Answered Refusal → Result Answer Refusal
answer_in r = result_map_both (λ a. a.answer) (λ refusal. refusal) r

-- two of which the same is told have the same refusal or the same answer
pub answer_same : (a b : Result Answered Refusal) → arriving_told a ≡ arriving_told b → answer_in a ≡ answer_in b
answer_same (Err x) (Err y) h = ap Err (refusal_same x y (refuses_same _ _ h))
answer_same (Err x) (Ok b) h = absurd (refuses_not _ _ h)
answer_same (Ok a) (Err y) h = absurd (refuses_not _ _ (sym h))
answer_same (Ok a) (Ok b) h =
    ap Ok (answered_same a.answer b.answer (tells_same (answered_by a.answer) (answered_by b.answer) h))

abbrev answered_of : Answer → ℕ → Result Answered Refusal
answered_of answer count = Ok (record { answer = answer; count = count })

-- and with replies of the same size they are the same
pub arriving_same :
    (a b : Result Answered Refusal) → arriving_told a ≡ arriving_told b → arriving_count a ≡ arriving_count b → a ≡ b
arriving_same (Err x) (Err y) h _ = ap Err (refusal_same x y (refuses_same _ _ h))
arriving_same (Err x) (Ok b) h _ = absurd (refuses_not _ _ h)
arriving_same (Ok a) (Err y) h _ = absurd (refuses_not _ _ (sym h))
arriving_same (Ok a) (Ok b) h size =
    let same = answered_same a.answer b.answer (tells_same (answered_by a.answer) (answered_by b.answer) h) in
    ap (λ (x : Answer). answered_of x a.count) same ∙ ap (answered_of b.answer) size
