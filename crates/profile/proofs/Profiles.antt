-- Laws of profiles, over plain values: what the loops over one need, and what a good one gives. Assumes nothing.
use Prim.Native.Nat.{ℕ, zero, suc, ◌+◌, ◌≤◌, ◌<◌}
use mathlib.Core.Path.{◌≡◌, refl, sym, ap, ◌∙◌}
use mathlib.Core.Bool.{Bool, true, false, ◌&&◌}
use mathlib.Core.List.{List, [], ◌∷◌, map, reverse}
use native.Mathlib.Numerals.{add-one}
use native.Mathlib.Omega.{arith}
use lib.ListN.{length, take, drop, get_or}
use lib.Seq.{drop-cons, drop-length}
use lib.Dec.{ltb, leb, eqb}
use borrow.Author.Tests.{eq-eqb, le-leb, ltb-true, leb-true, eqb-true}
use Rattle.std.specs.Bool.{Decides}
use Rattle.std.proofs.lemmas.Bool.Decides.{same_from_decides}
use Rattle.std.proofs.lemmas.List.{reverse-reverse}
use Rattle.std.proofs.lemmas.Slice.Eq.{IsBytesEq, compares_Decides}
use Rattle.laws.specs.Pick.{pick}
use Rattle.laws.specs.Tests.{all}
use Rattle.laws.specs.Places.{every_to}
use Rattle.laws.proofs.Tests.{all_at}
use Rattle.laws.proofs.Picks.{pick_ind, pick_last}
use Rattle.laws.proofs.Walks.{every_at}
use Rattle.codes.specs.Codes.{service_code}
use Rattle.numbers.specs.Number.{digits_of, number_good, tidy_number}
use Rattle.numbers.specs.declared.number.Number.{Number}
use Rattle.profile.specs.Profile.{numbers_most, services_most, prefixes_most, served_numbers, subscribed_services, same_digits, same_number}
use Rattle.profile.specs.Profile.{same, place_in, no_number}
use Rattle.profile.specs.Profile.{numbers_good, no_prefix, prefix_good, rising, services_good, flag, subscriptions_good, prefixes_good}
use Rattle.profile.specs.Profile.{profile_rules, profile_good}
use Rattle.profile.specs.declared.profile.Prefix.{Prefix}
use Rattle.profile.specs.declared.profile.Profile.{Profile}

-- ---- the digits of two numbers

-- the test compares head by head, so it holds of equal digits alone
compares : IsBytesEq same_digits
unfolding same_digits
compares = record {
  empty = refl;
  shorter = λ _ _. refl;
  longer = λ _ _. refl;
  heads = λ x y xs ys. pick_ind (λ t. t ≡ (eqb x y && same_digits xs ys)) (eqb x y) (λ e. rw (e, pick_last)) (λ e. rw e);
}

digits_decide : (a b : List ℕ) → Decides (same_digits a b) (a ≡ b)
digits_decide = compares_Decides same_digits compares

-- digits that agree from the last to the first
pub same_by_ends : (a b : List ℕ) (r : Bool) → Decides r (reverse a ≡ reverse b) → r ≡ same_digits a b
same_by_ends a b r ends =
    let d = digits_decide a b in
    let turned = λ (e : reverse a ≡ reverse b). sym (reverse-reverse a) ∙ ap reverse e ∙ reverse-reverse b in
    same_from_decides r (same_digits a b) ends (λ e. ap reverse (d.0 e), λ e. d.1 (turned e))

-- a test that stands behind another may come first
swap : (b c d : Bool) → all (b ∷ pick c d false ∷ []) ≡ pick c (all (b ∷ d ∷ [])) false
swap b true d = refl
swap true false d = refl
swap false false d = refl

-- the last digits of both, and those before them
pub same_last :
    (a b : List ℕ) (n i : ℕ) → n ≡ suc i → n ≤ length a → n ≤ length b →
    same_digits (take n a) (take n b)
    ≡ pick (eqb (get_or a i 0) (get_or b i 0)) (same_digits (take i a) (take i b)) false
unfolding same_digits
same_last [] b n i e la lb = absurd (omega arith)
same_last (x ∷ xs) [] n i e la lb = absurd (omega arith)
same_last (x ∷ xs) (y ∷ ys) n zero e la lb = rw e
same_last (x ∷ xs) (y ∷ ys) n (suc i) e la lb =
    rw (e, same_last xs ys (suc i) i refl (omega arith) (omega arith))
    (swap (eqb x y) (eqb (get_or xs i 0) (get_or ys i 0)) (same_digits (take i xs) (take i ys)))

-- a number is the same as itself
pub same_refl : (p : Profile) (a : Number) → same p a a ≡ true
unfolding same same_number
same_refl p a =
    rw (
      eq-eqb a.form a.form refl,
      eq-eqb a.kind a.kind refl,
      eq-eqb a.count a.count refl,
      (digits_decide (digits_of a) (digits_of a)).1 refl,
    )

-- numbers that are the same differ at most past their digits
pub same_tidy : (a b : Number) → same_number a b ≡ true → tidy_number a ≡ tidy_number b
unfolding same_number
same_tidy a b h =
    let digits : Bool = same_digits (digits_of a) (digits_of b) in
    let form : Bool = eqb a.form b.form in
    let kind : Bool = eqb a.kind b.kind in
    let each = all_at (form ∷ kind ∷ eqb a.count b.count ∷ digits ∷ []) in
    rw (
      eqb-true a.form b.form (each 0 h),
      eqb-true a.kind b.kind (each 1 h),
      (digits_decide (digits_of a) (digits_of b)).0 (each 3 h),
    )

-- ---- the place of a number

-- a place is no further than there are numbers
pub place_most : (p : Profile) (n : Number) (ns : List Number) → place_in p n ns ≤ length ns
unfolding place_in
place_most p n [] = omega arith
place_most p n (x ∷ xs) =
    pick_ind (λ k. k ≤ length (x ∷ xs)) (same p x n) (λ _. omega arith) (λ _. omega (arith, place_most p n xs))

-- ---- what is left to test where a count keeps its bounds

-- whether the number at a place is one that a table holds and the first of its kind
abbrev pub number_fits : Profile → ℕ → List Number → ℕ → Bool
number_fits p count numbers k =
    all
    (number_good (get_or numbers k no_number)
    ∷ eqb (place_in p (get_or numbers k no_number) (take count numbers)) k
    ∷ [])

abbrev pub numbers_fit : Profile → ℕ → Bool
numbers_fit p = every_to (number_fits p p.numbercount p.numbers)

abbrev pub prefix_fits : List Prefix → ℕ → Bool
prefix_fits prefixes k = prefix_good (get_or prefixes k no_prefix)

pub numbers_fair :
    (p : Profile) → 1 ≤ p.numbercount → p.numbercount ≤ numbers_most →
    numbers_good p ≡ numbers_fit p p.numbercount
unfolding numbers_good
numbers_fair p some few = rw (le-leb 1 p.numbercount some, le-leb p.numbercount numbers_most few, pick_last)

pub services_fair :
    (p : Profile) → 1 ≤ p.servicecount → p.servicecount ≤ services_most →
    services_good p ≡ rising 0 (subscribed_services p)
unfolding services_good
services_fair p some few = rw (le-leb 1 p.servicecount some, le-leb p.servicecount services_most few, pick_last)

pub prefixes_fair :
    (p : Profile) → p.prefixcount ≤ prefixes_most →
    prefixes_good p ≡ every_to (prefix_fits p.prefixes) p.prefixcount
unfolding prefixes_good
prefixes_fair p few = rw (le-leb p.prefixcount prefixes_most few, pick_last)

-- the tests of the three subscriptions, one by one
three_each :
    (l : List ℕ) → length l ≡ 3 →
    all (map flag l) ≡ all (flag (get_or l 0 0) ∷ flag (get_or l 1 0) ∷ flag (get_or l 2 0) ∷ [])
three_each [] h = absurd (omega arith)
three_each (a ∷ []) h = absurd (omega arith)
three_each (a ∷ b ∷ []) h = absurd (omega arith)
three_each (a ∷ b ∷ c ∷ []) h = refl
three_each (a ∷ b ∷ c ∷ d ∷ l) h = absurd (omega arith)

pub three_flags : (p : Profile) → length p.subscribed ≡ 3 → all (map flag p.subscribed) ≡ subscriptions_good p
unfolding subscriptions_good
three_flags p = three_each p.subscribed

-- ---- services that ascend

-- what is left decides: one service more
pub rising_step :
    (below : ℕ) (l : List ℕ) (k : ℕ) → k < length l →
    rising below (drop k l)
    ≡ pick (ltb below (get_or l k 0))
    (pick (service_code (get_or l k 0)) (rising (get_or l k 0) (drop (k + 1) l)) false)
    false
unfolding rising
rising_step below l k h = rw (add-one, drop-cons l k 0 h, pick_last)

-- nothing is left
pub rising_end : (below : ℕ) (l : List ℕ) → rising below (drop (length l) l) ≡ true
unfolding rising
rising_end below l = rw drop-length

-- the first of several: it is above `below`, one of the sixteen, and the others rise above it
pub record First (below code : ℕ) (codes : List ℕ) : Type 0 where
  pub above : below < code
  pub known : service_code code ≡ true
  pub rest : rising code codes ≡ true

pub rising_first :
    (below code : ℕ) (codes : List ℕ) → rising below (code ∷ codes) ≡ true → First below code codes
unfolding rising
rising_first below code codes h =
    let each = all_at (ltb below code ∷ service_code code ∷ rising code codes ∷ []) in
    record { above = ltb-true below code (each 0 h); known = each 1 h; rest = each 2 h }

-- each service is above `below`
pub rising_above :
    (below : ℕ) (cs : List ℕ) (k : ℕ) → rising below cs ≡ true → k < length cs → below < get_or cs k 0
rising_above below [] k h lt = absurd (omega arith)
rising_above below (c ∷ cs) zero h lt = (rising_first below c cs h).above
rising_above below (c ∷ cs) (suc k) h lt =
    let first = rising_first below c cs h in
    omega (arith, first.above, rising_above c cs k first.rest (omega arith))

-- ---- what a good profile gives

numbers_each :
    (p : Profile) → numbers_good p ≡ true →
    (1 ≤ p.numbercount) × (p.numbercount ≤ numbers_most) × (numbers_fit p p.numbercount ≡ true)
unfolding numbers_good
numbers_each p h =
    let n : ℕ = p.numbercount in
    let each = all_at (leb 1 n ∷ leb n numbers_most ∷ numbers_fit p n ∷ []) in
    (leb-true 1 n (each 0 h), leb-true n numbers_most (each 1 h), each 2 h)

services_rise :
    (p : Profile) → services_good p ≡ true →
    (1 ≤ p.servicecount) × (p.servicecount ≤ services_most) × (rising 0 (subscribed_services p) ≡ true)
unfolding services_good
services_rise p h =
    let n : ℕ = p.servicecount in
    let each = all_at (leb 1 n ∷ leb n services_most ∷ rising 0 (subscribed_services p) ∷ []) in
    (leb-true 1 n (each 0 h), leb-true n services_most (each 1 h), each 2 h)

-- what holds of cfu, cfb and cfnr holds of every procedure
three : (P : ℕ → Type 0) → P 0 → P 1 → P 2 → (k : ℕ) → k < 3 → P k
three P a b c zero h = a
three P a b c (suc zero) h = b
three P a b c (suc (suc zero)) h = c
three P a b c (suc (suc (suc k))) h = absurd (omega arith)

subscriptions_each :
    (p : Profile) → subscriptions_good p ≡ true → (k : ℕ) → k < 3 → get_or p.subscribed k 0 ≤ 1
unfolding subscriptions_good
subscriptions_each p h =
    let cfu : ℕ = get_or p.subscribed 0 0 in
    let cfb : ℕ = get_or p.subscribed 1 0 in
    let cfnr : ℕ = get_or p.subscribed 2 0 in
    let each = all_at (flag cfu ∷ flag cfb ∷ flag cfnr ∷ []) in
    three (λ k. get_or p.subscribed k 0 ≤ 1)
    (leb-true cfu 1 (each 0 h))
    (leb-true cfb 1 (each 1 h))
    (leb-true cfnr 1 (each 2 h))

-- a rule of a good profile, by its place in the list of them
pub rule_at :
    (p : Profile) (k : ℕ) → profile_good p ≡ true → get_or (profile_rules p) k true ≡ true
unfolding profile_good
rule_at p = all_at (profile_rules p)

-- a good profile: its numbers, its services and its subscriptions
pub record GoodProfile (p : Profile) : Type 0 where
  pub some : 1 ≤ p.numbercount
  pub few : p.numbercount ≤ numbers_most
  pub numbers : (k : ℕ) → k < p.numbercount → number_good (get_or p.numbers k no_number) ≡ true
  pub services_few : p.servicecount ≤ services_most
  pub rises : rising 0 (subscribed_services p) ≡ true
  pub flags : (k : ℕ) → k < 3 → get_or p.subscribed k 0 ≤ 1

pub good_profile : (p : Profile) → profile_good p ≡ true → GoodProfile p
good_profile p h =
    let n = numbers_each p (rule_at p 0 h) in
    let s = services_rise p (rule_at p 1 h) in
    record {
      some = n.0;
      few = n.1;
      numbers = λ k lt.
          let number : Number = get_or p.numbers k no_number in
          all_at (number_good number ∷ eqb (place_in p number (served_numbers p)) k ∷ []) 0
          (every_at (number_fits p p.numbercount p.numbers) p.numbercount k lt n.2);
      services_few = s.1;
      rises = s.2;
      flags = subscriptions_each p (rule_at p 2 h);
    }
