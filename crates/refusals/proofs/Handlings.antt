-- What is told names what came of it. Assumes nothing.
use Prim.Native.Nat.{ℕ}
use mathlib.Core.Path.{◌≡◌, refl, sym, ap, ◌∙◌}
use Rattle.std.specs.Prelude.{Result, Ok, Err}
use Rattle.refusals.specs.Refusal.{refusal_no, refuses}
use Rattle.refusals.proofs.Refusals.{refusal_same, refuses_same, refuses_not}
use Rattle.refusals.specs.Handling.{handling_told, written_count}
use Rattle.refusals.specs.declared.refusal.Refusal.{Refusal}

-- of what answers a number beside it, two of which the same is told and the same counted are the same
pub written_same :
    (a b : Result ℕ Refusal) → handling_told a ≡ handling_told b → written_count a ≡ written_count b → a ≡ b
written_same (Err x) (Err y) h _ = ap Err (refusal_same x y (refuses_same _ _ h))
written_same (Err x) (Ok n) h _ = absurd (refuses_not _ tt h)
written_same (Ok m) (Err y) h _ = absurd (refuses_not _ tt (sym h))
written_same (Ok m) (Ok n) _ same = ap Ok same

-- two of which the same is told are the same
pub handling_same : (a b : Result (Unit {0}) Refusal) → handling_told a ≡ handling_told b → a ≡ b
handling_same (Err x) (Err y) h = ap Err (refusal_same x y (refuses_same _ _ h))
handling_same (Err x) (Ok n) h = absurd (refuses_not _ tt h)
handling_same (Ok m) (Err y) h = absurd (refuses_not _ tt (sym h))
handling_same (Ok m) (Ok n) h = refl

told_refused :
    (refusal : Refusal) (w : Result ℕ Refusal) → handling_told w ≡ refuses (refusal_no refusal) → w ≡ Err refusal
told_refused refusal (Err x) h = ap Err (refusal_same x refusal (refuses_same _ _ h))
told_refused refusal (Ok n) h = absurd (refuses_not _ tt (sym h))

-- one answer is told as that refusal, and it counts no octet
pub only_not_written :
    (refusal : Refusal) {a b : Result ℕ Refusal} →
    handling_told a ≡ refuses (refusal_no refusal) → handling_told b ≡ refuses (refusal_no refusal) → a ≡ b
only_not_written refusal {a} {b} h g = told_refused refusal a h ∙ sym (told_refused refusal b g)
