-- What is told of a procedure on the page names it. Assumes nothing.
use Prim.Native.Nat.{ℕ}
use mathlib.Core.Path.{◌≡◌, refl, sym, ap}
use native.Mathlib.Omega.{arith}
use lib.ListN.{get_or}
use Rattle.refusals.proofs.Refusals.{refusal_same, refuses_same, refuses_not, tells_same}
use Rattle.end.specs.Shown.{Seen, seen_known, seen_doubt, shown_no}
use Rattle.std.specs.Prelude.{Result, Ok, Err}
use Rattle.refusals.specs.declared.refusal.Refusal.{Refusal}
use Rattle.end.specs.declared.show.Shown.{Shown}
use Rattle.end.specs.declared.show.Shown.TheVariants.{Known, Doubt}

-- a known procedure is not one in doubt
known_not : (count : ℕ) → seen_known count ≡ seen_doubt → ⊥
known_not count h = omega (arith, ap (λ (s : Seen). s.mark) h)

-- two of which the same is told are the same
pub shown_same : (a b : Result Shown Refusal) → shown_no a ≡ shown_no b → a ≡ b
shown_same (Err x) (Err y) h = ap Err (refusal_same x y (refuses_same _ _ h))
shown_same (Err x) (Ok (Known n)) h = absurd (refuses_not _ (seen_known n) h)
shown_same (Err x) (Ok Doubt) h = absurd (refuses_not _ seen_doubt h)
shown_same (Ok (Known m)) (Err y) h = absurd (refuses_not _ (seen_known m) (sym h))
shown_same (Ok (Known m)) (Ok (Known n)) h = ap (λ (n : ℕ). Ok (Known n)) (ap (λ (s : Seen). get_or s.values 0 0) (tells_same _ _ h))
shown_same (Ok (Known m)) (Ok Doubt) h = absurd (known_not m (tells_same _ _ h))
shown_same (Ok Doubt) (Err y) h = absurd (refuses_not _ seen_doubt (sym h))
shown_same (Ok Doubt) (Ok (Known n)) h = absurd (known_not n (sym (tells_same _ _ h)))
shown_same (Ok Doubt) (Ok Doubt) h = refl
