-- The place of a number among those that are served, and of a service among those of a profile: what a search over the places that are
-- counted finds. Assumes nothing.
use Prim.Native.Nat.{ℕ, zero, suc, min, ◌+◌, ◌≤◌, ◌<◌}
use mathlib.Core.Path.{◌≡◌, refl, sym, ap, ◌∙◌}
use mathlib.Core.Bool.{Bool, true, false, not, ◌||◌}
use mathlib.Core.List.{List, [], ◌∷◌}
use native.Mathlib.Omega.{arith}
use lib.ListN.{length, take, drop, get_or}
use lib.Dec.{eqb, eqb-zero-suc, eqb-suc-suc}
use Rattle.std.specs.List.{position, position_or_len, list_any, range_with_len}
use Rattle.std.specs.Option.{unwrap_or}
use Rattle.std.specs.Prelude.{Option}
use Rattle.std.proofs.lemmas.List.{take_min, length-take, get_or-take, drop_more}
use Rattle.std.proofs.lemmas.List.Recursion.{is_position_or_len}
use Rattle.laws.proofs.Picks.{by_bool, pick_last}
use Rattle.codes.specs.Codes.{place_of}
use Rattle.codes.proofs.Searches.{found_or_length}
use Rattle.codes.proofs.Tables.{place_is}
use Rattle.numbers.specs.declared.number.Number.{Number}
use Rattle.numbers.specs.Number.{number_good}
use Rattle.profile.specs.Profile.{same, place_in, no_number}
use Rattle.profile.specs.declared.profile.Profile.{Profile}
use Rattle.profile.proofs.Profiles.{same_refl, number_fits}

-- as many as a count says, and no more than there are
pub counted : {X : Type 0} (count most : ℕ) (l : List X) → length l ≡ most → take (min count most) l ≡ take count l
counted count most l long = ap (λ (m : ℕ). take (min count m) l) (sym long) ∙ take_min count l

-- the first of those that are counted, or else how many they are
found_counted :
    {X : Type 0} (test : X → Bool) (count most : ℕ) (l : List X) (r : Option ℕ) → length l ≡ most →
    r ≡ position test (take (min count most) l) →
    unwrap_or r (min count most) ≡ position_or_len test (take count l)
found_counted test count most l r long e =
    let many : length (take (min count most) l) ≡ min count most = omega (arith, length-take (min count most) l) in
    ap (unwrap_or r) (sym many)
    ∙ found_or_length test (take (min count most) l) r e
    ∙ ap (position_or_len test) (counted count most l long)

-- a test of what stands at k places, from place a on, is a test of k elements from there on
any_from :
    {X : Type 0} (test : X → Bool) (l : List X) (d : X) (a k : ℕ) → a + k ≤ length l →
    list_any (λ j. test (get_or l j d)) (range_with_len a k) ≡ list_any test (take k (drop a l))
any_from test l d a zero h = refl
any_from test l d a (suc k) h =
    rw (drop_more l a d (omega arith)) (ap (λ b. test (get_or l a d) || b) (any_from test l d (a + 1) k (omega arith)))

-- a test of what stands at the places before k is a test of the first k elements
pub any_before :
    {X : Type 0} (test : X → Bool) (l : List X) (d : X) {a n : ℕ} (k : ℕ) → a ≡ 0 → n ≡ k → k ≤ length l →
    list_any (λ j. test (get_or l j d)) (range_with_len a n) ≡ list_any test (take k l)
any_before test l d k start many h = rw (start, many) (any_from test l d 0 k (omega arith))

-- the place of a service is the first place at which it stands
pub slot_found :
    (service count most : ℕ) (services : List ℕ) (r : Option ℕ) → length services ≡ most →
    r ≡ position (λ x. eqb x service) (take (min count most) services) →
    unwrap_or r (min count most) ≡ place_of service (take count services)
slot_found service count most services r long e =
    found_counted (λ x. eqb x service) count most services r long e ∙ sym (place_is service (take count services))

module _ (p : Profile) (n : Number) where
  -- the place of a number is the first place at which the same one stands
  place_in_is : (numbers : List Number) → place_in p n numbers ≡ position_or_len (λ x. same p x n) numbers
  unfolding place_in
  place_in_is = is_position_or_len (place_in p n) (λ x. same p x n) refl (λ x xs. refl)

  pub number_found :
      (count most : ℕ) (numbers : List Number) (r : Option ℕ) → length numbers ≡ most →
      r ≡ position (λ x. same p x n) (take (min count most) numbers) →
      unwrap_or r (min count most) ≡ place_in p n (take count numbers)
  number_found count most numbers r long e =
      found_counted (λ x. same p x n) count most numbers r long e ∙ sym (place_in_is (take count numbers))

  -- a number that is the same as itself has its own place where none before it is the same, and no other
  pub own_place :
      (numbers : List Number) (k : ℕ) → k < length numbers → same p (get_or numbers k no_number) n ≡ true →
      eqb (place_in p n numbers) k ≡ not (list_any (λ x. same p x n) (take k numbers))
  unfolding place_in
  own_place [] k h e = absurd (omega arith)
  own_place (x ∷ numbers) zero h e = rw e
  own_place (x ∷ numbers) (suc k) h e =
      let one : 1 + place_in p n numbers ≡ suc (place_in p n numbers) = omega arith in
      by_bool _ (same p x n) (λ first. rw (first, eqb-zero-suc)) (λ other. rw (other, one, eqb-suc-suc) (own_place numbers k (omega arith) e))

-- what is left to test of a number that is served
module _ (p : Profile) (count : ℕ) (numbers : List Number) (k : ℕ) (h : k < count) (long : count ≤ length numbers) where
  abbrev served : List Number
  served = take count numbers

  abbrev number : Number
  number = get_or served k no_number

  there : get_or numbers k no_number ≡ number
  there = sym (get_or-take count numbers k no_number h)

  pub fits_bad : number_good number ≡ false → number_fits p count numbers k ≡ false
  fits_bad bad = rw (there, bad)

  -- that none before it is the same
  pub fits_own : number_good number ≡ true → number_fits p count numbers k ≡ not (list_any (λ x. same p x number) (take k served))
  fits_own good =
      rw (there, good, pick_last) (own_place p number served k (omega (arith, length-take count numbers)) (same_refl p number))
