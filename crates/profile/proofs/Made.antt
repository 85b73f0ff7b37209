-- What `array::from_fn` makes, in the words of this library. Assumes nothing.
use Prim.Native.Nat.{ℕ, zero, suc, ◌+◌}
use mathlib.Core.Path.{◌≡◌, sym, ap, ◌∙◌}
use mathlib.Core.List.{List, ◌∷◌}
use native.Mathlib.Numerals.{add-one}
use native.Mathlib.Omega.{arith}
use lib.ListN.{length, drop, get_or, drop_of_length-le}
use lib.Seq.{drop-cons}
use denote.Param.Members.{Mut}
use Rattle.std.specs.Array.{IsFromFnResult, IsFromFnResultFrom}
use Rattle.std.specs.Fn.{Called}
use Rattle.laws.specs.Places.{each_from}
use Rattle.laws.proofs.Each.{spelled, each_spelled}

-- a closure that stays as it is, and gives of each place what h says
module _ {F B : Type 0} (g : Mut F (ℕ × Unit {0}) B) (f : F) (h : ℕ → B)
    (says : (i : ℕ) (y : B) (q : F) → Called g f (i, tt) y q → (q ≡ f) × (y ≡ h i)) where
  made_from : (n i : ℕ) (ys : List B) → length ys ≡ i + n → IsFromFnResultFrom g f ys i n → drop i ys ≡ spelled h n i
  made_from zero i ys long made = drop_of_length-le ys (omega arith)
  made_from (suc n) i ys long made =
      let said = says i made.1 made.0 made.3 in
      let there : get_or ys i made.1 ≡ h i = made.2.0 ∙ said.1 in
      rw (drop-cons ys i made.1 (omega arith), there)
      (ap (λ (l : List B). h i ∷ l) (rw add-one at (made_from n (i + 1) ys (omega arith) (rw said.0 at made.4))))

  pub made_each : (n : ℕ) (ys : List B) → IsFromFnResult g f ys n → ys ≡ each_from h n 0
  made_each n ys made = made_from n 0 ys (omega (arith, made.long)) made.each ∙ sym (each_spelled h n 0)
