-- Laws of digits and of the types of a number, over plain values. Assumes nothing.
use Prim.Native.Nat.{ℕ, zero, suc, ◌+◌, ◌*◌, ◌≤◌, ◌<◌}
use mathlib.Core.Path.{◌≡◌, refl, ◌∙◌}
use mathlib.Core.Bool.{Bool, true, false}
use mathlib.Core.List.{List, [], ◌∷◌, ◌++◌}
use native.Mathlib.Nat.{zero-mul, suc-mul, add_comm}
use native.Mathlib.Numerals.{add-one}
use native.Mathlib.Omega.{arith}
use lib.ListN.{length, take, drop, get_or, replicate}
use lib.Seq.{drop-cons, drop-length}
use lib.Dec.{ltb, leb}
use borrow.Author.Tests.{le-leb, lt-leb, ltb-true, ltb-false, leb-true}
use Rattle.laws.specs.Pick.{pick}
use Rattle.std.specs.Char.{is_ascii_digit}
use Rattle.std.proofs.lemmas.List.{take-append-drop, drop-drop}
use Rattle.std.specs.List.{list_all}
use Rattle.std.specs.Simd.{first_chunks}
use Rattle.laws.proofs.Picks.{pick_ind, pick_then, pick_last}
use Rattle.codes.proofs.Searches.{and_pick}
use Rattle.codes.specs.Digits.{digit, all_digits, type_good}

-- a character that is refused on either side, or else what is left
digit_step :
    (c : ℕ) (rest : Bool) → pick (digit c) rest false ≡ pick (ltb c 48) false (pick (ltb 57 c) false rest)
digit_step c rest =
    let P : Bool → Type 0 = λ t. pick (digit c) rest false ≡ t in
    pick_ind P (ltb c 48) (λ e. rw (lt-leb 48 c (ltb-true c 48 e))) (λ low.
    pick_ind P (ltb 57 c)
    (λ e. rw (le-leb 48 c (ltb-false c 48 low), lt-leb c 57 (ltb-true 57 c e)))
    (λ high. rw (le-leb 48 c (ltb-false c 48 low), le-leb c 57 (ltb-false 57 c high))))

-- what is left of a string decides: one character more
digits_next :
    (s : List ℕ) (i : ℕ) → i < length s →
    all_digits (drop i s) ≡ pick (digit (get_or s i 0)) (all_digits (drop (i + 1) s)) false
unfolding all_digits
digits_next s i h = rw (add-one, drop-cons s i 0 h)

-- the same by the two tests of a character
pub digits_step :
    (s : List ℕ) (i : ℕ) → i < length s →
    all_digits (drop i s)
    ≡ pick (ltb (get_or s i 0) 48) false (pick (ltb 57 (get_or s i 0)) false (all_digits (drop (i + 1) s)))
digits_step s i h = digits_next s i h ∙ digit_step (get_or s i 0) (all_digits (drop (i + 1) s))

-- a test, then a second and a third
pick_both : (a b c : Bool) → pick a (pick b c false) false ≡ pick (pick a b false) c false
pick_both true b c = refl
pick_both false b c = refl

-- std's test of a character
pub digit_is : (c : ℕ) → is_ascii_digit c ≡ digit c
digit_is c = rw (and_pick (leb 48 c) (leb c 57), pick_last (leb c 57))

-- those of one list and those of another
digits_joined : (a b : List ℕ) → all_digits (a ++ b) ≡ pick (all_digits a) (all_digits b) false
unfolding all_digits
digits_joined [] b = refl
digits_joined (c ∷ a) b = rw (digits_joined a b) (pick_both (digit c) (all_digits a) (all_digits b))

-- tested so many at a time, and then those that are left
pub digits_chunked :
    (n k : ℕ) (s : List ℕ) →
    all_digits s ≡ pick (list_all all_digits (first_chunks n k s)) (all_digits (drop (k * n) s)) false
digits_chunked n zero s = rw zero-mul
digits_chunked n (suc k) s =
    let front : Bool = all_digits (take n s) in
    let cut = digits_joined (take n s) (drop n s) in
    let left : drop (k * n) (drop n s) ≡ drop (suc k * n) s = drop-drop (k * n) n s ∙ rw (suc-mul, add_comm n (k * n)) in
    rw take-append-drop at cut
    ∙ rw (digits_chunked n k (drop n s), left, and_pick front (list_all all_digits (first_chunks n k (drop n s))))
    (pick_both front _ _)

-- nothing is left
pub digits_end : (s : List ℕ) → all_digits (drop (length s) s) ≡ true
unfolding all_digits
digits_end s = rw drop-length

-- the first of some digits, and the others
digits_parts : (c : ℕ) (cs : List ℕ) → all_digits (c ∷ cs) ≡ true → (48 ≤ c) × (c ≤ 57) × (all_digits cs ≡ true)
unfolding all_digits
digits_parts c cs h =
    let first = pick_then (digit c) (all_digits cs) h in
    let low = pick_then (leb 48 c) (pick (leb c 57) true false) first.0 in
    let high = pick_then (leb c 57) true low.1 in
    (leb-true 48 c low.0, leb-true c 57 high.0, first.1)

-- each is one of the characters 48 to 57
pub all_each : (cs : List ℕ) → all_digits cs ≡ true → (i : ℕ) → i < length cs → (48 ≤ get_or cs i 0) × (get_or cs i 0 ≤ 57)
all_each [] h i lt = absurd (omega arith)
all_each (c ∷ cs) h zero lt = let p = digits_parts c cs h in (p.0, p.1)
all_each (c ∷ cs) h (suc i) lt = all_each cs (digits_parts c cs h).2 i (omega arith)

-- the character 0, any number of times
pub zeros_digits : (n : ℕ) → all_digits (replicate n 48) ≡ true
unfolding all_digits
zeros_digits zero = refl
zeros_digits (suc n) = zeros_digits n

-- ---- types

-- the types go up to 6
pub type_most : (kind : ℕ) → type_good kind ≡ true → kind ≤ 6
unfolding type_good
type_most kind h = leb-true kind 6 (pick_then (leb kind 6) _ h).0

-- 0 is one
pub type_zero : type_good 0 ≡ true
unfolding type_good
type_zero = refl
