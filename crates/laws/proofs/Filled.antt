-- An array that is filled from the front with the things of a list, and blanks past them; a list and what stands past it. Assumes nothing.
use Prim.Native.Nat.{ℕ, zero, suc, min, ◌+◌, ◌-◌, ◌<◌, ◌≤◌}
use mathlib.Core.Path.{◌≡◌, refl, sym, ap, ◌∙◌}
use mathlib.Core.List.{List, [], ◌∷◌, ◌++◌, append-nil}
use native.Mathlib.Nat.{sub-zero, zero-min, min-zero, suc-min-suc}
use native.Mathlib.Numerals.{add-one}
use native.Mathlib.Omega.{arith}
use lib.ListN.{length, take, drop, get_or, set, replicate, length-set, length-replicate, take-append-drop}
use lib.Seq.{take_all, take-nil, take-append-le, take-suc-set, drop-set-lt, append_snoc, length-take-le}

-- k of the things of `whole` stand in an array of `size`, blanks after them, and `left` is still to come
pub record Filled {A : Type 0} (size : ℕ) (blank : A) (whole left : List A) (k : ℕ) (array : List A) : Type 0 where
  pub fits : k ≤ size
  pub long : length array ≡ size
  pub come : take k array ++ left ≡ whole
  pub rest : drop k array ≡ replicate (size - k) blank

-- the array of a list
abbrev pub Full : {A : Type 0} → ℕ → A → List A → ℕ → List A → Type 0
Full size blank whole k array =
    (k ≡ length whole) × (array ≡ whole ++ replicate (size - length whole) blank) × (length whole ≤ size)

module _ {A : Type 0} (size : ℕ) (blank : A) (whole : List A) where
  pub filled_none : Filled size blank whole whole 0 (replicate size blank)
  filled_none = record { fits = omega arith; long = length-replicate size blank; come = refl; rest = rw sub-zero }

  drop_more : (n : ℕ) (l : List A) (m : ℕ) → drop n l ≡ replicate (suc m) blank → drop (suc n) l ≡ replicate m blank
  drop_more zero [] m h = ap (drop 1) h
  drop_more zero (x ∷ l) m h = ap (drop 1) h
  drop_more (suc n) [] m h = ap (drop 1) h
  drop_more (suc n) (x ∷ l) m h = drop_more n l m h

  pub filled_next :
      (x : A) (left : List A) (k : ℕ) (array : List A) → k < size → Filled size blank whole (x ∷ left) k array →
      Filled size blank whole left (k + 1) (set array k x)
  filled_next x left k array h so =
      let less : size - k ≡ suc (size - suc k) = omega arith in
      record {
        fits = omega arith;
        long = length-set array k x ∙ so.long;
        come = rw (add-one k, take-suc-set array k x (omega (arith, so.long)), append_snoc (take k array) x left) so.come;
        rest = rw (add-one k, drop-set-lt (suc k) array k x (omega arith)) (drop_more k array (size - suc k) (rw less at so.rest));
      }

  -- nothing is to come, or there is no room
  pub filled_done : (k : ℕ) (array : List A) → Filled size blank whole [] k array → Full size blank whole k array
  filled_done k array so =
      let all : take k array ≡ whole = sym (append-nil (take k array)) ∙ so.come in
      let many : length (take k array) ≡ k = length-take-le k array (omega (arith, so.fits, so.long)) in
      let short : length whole ≡ k = ap length (sym all) ∙ many in
      (sym short, rw short (sym (take-append-drop k array) ∙ rw (all, so.rest)), omega (arith, so.fits))

  pub filled_full :
      (left : List A) (array : List A) → Filled size blank whole left size array → Full size blank (take size whole) size array
  filled_full left array so =
      let all : take size array ≡ array = take_all size array (omega (arith, so.long)) in
      let front : take size whole ≡ array =
      rw (← so.come, all) (take-append-le size array left (omega (arith, so.long)) ∙ all) in
      let none : size - length array ≡ 0 = omega (arith, so.long) in
      (rw front (sym so.long), rw (front, none) (sym (append-nil array)), rw front (omega (arith, so.long)))

-- what stands past a list does not matter before its end
pub get_any : {A : Type 0} (l : List A) (i : ℕ) (a b : A) → i < length l → get_or l i a ≡ get_or l i b
get_any [] i a b h = absurd (omega (arith, h))
get_any (x ∷ xs) zero a b h = refl
get_any (x ∷ xs) (suc i) a b h = get_any xs i a b (omega (arith, h))

-- past the end nothing is stored
pub set_past : {A : Type 0} (l : List A) (i : ℕ) (a : A) → length l ≤ i → set l i a ≡ l
set_past [] i a h = refl
set_past (x ∷ xs) zero a h = absurd (omega (arith, h))
set_past (x ∷ xs) (suc i) a h = ap (λ (r : List _). x ∷ r) (set_past xs i a (omega (arith, h)))

-- as many of a list as a count says, and no more than there are
pub take_min : {A : Type 0} (count : ℕ) (l : List A) → take (min count (length l)) l ≡ take count l
take_min zero l = rw zero-min
take_min (suc count) [] = rw (min-zero, take-nil)
take_min (suc count) (x ∷ l) = rw suc-min-suc (ap (λ (m : List _). x ∷ m) (take_min count l))
