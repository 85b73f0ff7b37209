-- Laws of the words of an explanation, for their writers. Assumes nothing.
use Prim.Native.Nat.{ℕ, min}
use mathlib.Core.Path.{◌≡◌, refl, ap, ◌∙◌}
use mathlib.Core.Bool.{true, false}
use mathlib.Core.List.{List, ◌++◌}
use native.Mathlib.Numerals.{add-one}
use native.Mathlib.Omega.{arith}
use lib.Dec.{eqb}
use lib.IntN.{ℤ, pos, negsuc, nat_abs}
use lib.Signed.{lt_z}
use lib.ListN.{length, take}
use lib.Seq.{length-take-le}
use mir.Syntax.{w16}
use mir.Val.{SFits, to_z, of_z}
use mir.Facts.{to_z-of_z}
use borrow.Author.Tests.{ltb-true, eqb-true, eqb-false}
use Rattle.laws.proofs.Picks.{by_bool}
use Rattle.numbers.specs.Number.{most}
use Rattle.texts.specs.Word.{decimal, hex_text, sub_text}
use Rattle.texts.proofs.Words.{sub_none, sub_all}
use Rattle.explanations.specs.Text.{chars, signed_text, octets_word}

-- ---- a subaddress

pub octets_counted :
    (count : ℕ) (sub : List ℕ) {few : ℕ} → length sub ≡ most → few ≡ min count most →
    sub_text (length (take few sub)) (take few sub) ≡ octets_word count sub
unfolding octets_word
octets_counted count sub {few} long is =
    let taken : length (take few sub) ≡ few = length-take-le few sub (omega arith) in
    by_bool (sub_text (length (take few sub)) (take few sub) ≡ octets_word count sub) (eqb count 0)
    (λ e. rw e (sub_none (length (take few sub)) (take few sub) (omega (arith, eqb-true count 0 e))))
    (λ e.
    rw e
    (sub_all (take few sub) (λ none. eqb-false count 0 e (omega arith)) ∙ ap (λ (k : ℕ). hex_text (take k sub)) is))

-- ---- numbers with a sign, by the machine's test and size

negative : (z : ℤ) → lt_z z (pos 0) ≡ true → signed_text z ≡ chars "-" ++ decimal (nat_abs z)
unfolding signed_text
negative (pos n) e = absurd (omega (arith, ltb-true n 0 e))
negative (negsuc n) e = rw add-one

positive : (z : ℤ) → lt_z z (pos 0) ≡ false → signed_text z ≡ decimal (nat_abs z)
unfolding signed_text
positive (pos n) e = refl
positive (negsuc n) e = let z : ◌≡◌ {A = ℕ} 0 1 = cc in absurd (omega arith)

module _ (z : ℤ) (fits : SFits w16 z) {size : ℕ} (is : size ≡ nat_abs (to_z w16 (of_z w16 z))) where
  same : size ≡ nat_abs z
  same = is ∙ ap nat_abs (to_z-of_z fits)

  pub signed_negative : lt_z (to_z w16 (of_z w16 z)) (pos 0) ≡ true → signed_text z ≡ chars "-" ++ decimal size
  signed_negative e = rw same (negative z (rw (to_z-of_z fits) at e))

  pub signed_positive : lt_z (to_z w16 (of_z w16 z)) (pos 0) ≡ false → signed_text z ≡ decimal size
  signed_positive e = rw same (positive z (rw (to_z-of_z fits) at e))
