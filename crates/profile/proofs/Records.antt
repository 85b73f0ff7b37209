-- Laws of the access record's reader, over plain values. Assumes nothing.
use Prim.Native.Nat.{ℕ, ◌+◌, ◌*◌, ◌-◌, ◌≤◌, ◌<◌}
use mathlib.Core.Path.{◌≡◌, refl, sym, ap, ◌∙◌}
use mathlib.Core.Bool.{Bool, true, false, false≢true}
use mathlib.Core.List.{List, [], ◌∷◌}
use native.Mathlib.Omega.{arith}
use lib.ListN.{length, take, drop, get_or, replicate}
use lib.Dec.{eqb}
use lib.Seq.{take-length, slice, length-slice}
use borrow.Author.Tests.{eqb-true}
use Rattle.std.specs.Prelude.{Option, Some, None}
use Rattle.std.proofs.lemmas.Option.{none-some, same_Some}
use Rattle.laws.specs.Over.{Puts, over}
use Rattle.laws.specs.Pick.{pick}
use Rattle.laws.specs.Places.{each_from}
use Rattle.laws.specs.Tests.{all}
use Rattle.laws.proofs.Each.{get_d_each, spelled, each_spelled, slice_each}
use Rattle.laws.proofs.Picks.{pick_ind}
use Rattle.laws.proofs.Over.{wrote, take_over, length_over}
use Rattle.laws.proofs.Parts.{part_slice}
use Rattle.numbers.specs.Number.{most}
use Rattle.numbers.specs.declared.number.Number.{Number}
use Rattle.profile.specs.Profile.{numbers_most, no_number, services_most, profile_good}
use Rattle.profile.specs.Access.{numbers_at, number_size, services_at, subscribed_at, flags_at}
use Rattle.profile.specs.Access.{access_size, number_from, prefixes_from, profile_from, AccessRead, no_access, access_read, profile_read}
use Rattle.profile.specs.declared.profile.Prefix.{Prefix}
use Rattle.profile.specs.declared.profile.Profile.{Profile}
use Rattle.laws.proofs.Tests.{all_at}

-- ---- digits

-- twenty octets that were written over twenty zeros are all that is there
whole_over : (ws : List ℕ) → length ws ≡ most → over (replicate most 0) 0 ws ≡ ws
whole_over ws long =
    let zeros : List ℕ = replicate most 0 in
    sym (take-length (over zeros 0 ws))
    ∙ rw (length_over zeros 0 ws, ← long) (take_over zeros ws (omega arith))

-- the places for digits, as the code copies them
pub digits_copied :
    (s : List ℕ) (at : ℕ) {next : ℕ} {ys : List ℕ} → at + most ≤ length s →
    Puts (replicate most 0) 0 (take (at + most - at) (drop at s)) next ys →
    ys ≡ slice at (at + most) s
digits_copied s at h p =
    let long : length (slice at (at + most) s) ≡ most = omega (arith, length-slice at (at + most) s h) in
    let part = part_slice at (at + most) s in
    (wrote (rw part (omega arith)) p).holds ∙ rw part (whole_over (slice at (at + most) s) long)

-- ---- the profile, field by field

pub profile_made :
    (s : List ℕ) (numbers : List Number) (prefixes : List Prefix) → length s ≡ access_size →
    numbers ≡ each_from (λ k. number_from s (numbers_at + number_size * k)) numbers_most 0 →
    prefixes ≡ prefixes_from s →
    ◌≡◌ {A = Profile}
    record {
      numbercount = get_or s 0 0;
      numbers = numbers;
      servicecount = get_or s 93 0;
      services = spelled (λ k. get_or s k 0) services_most services_at;
      subscribed = spelled (λ k. get_or s k 0) 3 subscribed_at;
      msn = get_or s flags_at 0;
      all = get_or s (flags_at + 1) 0;
      inuse = get_or s (flags_at + 2) 0;
      counted = get_or s (flags_at + 3) 0;
      option = get_or s (flags_at + 4) 0;
      release = get_or s (flags_at + 5) 0;
      limit = get_or s (flags_at + 6) 0;
      prefixcount = get_or s (flags_at + 7) 0;
      prefixes = prefixes;
    }
    (profile_from s)
unfolding profile_from
profile_made s numbers prefixes long served rest =
    rw (
      slice_each s 0 services_at services_most (omega arith) ∙ each_spelled _ _ _,
      slice_each s 0 subscribed_at 3 (omega arith) ∙ each_spelled _ _ _,
      served,
      rest,
    )

-- ---- what is read

pick_some : {A : Type 0} (b : Bool) (x y : A) → pick b (Some x) None ≡ Some y → (b ≡ true) × (x ≡ y)
pick_some true x y h = (refl, same_Some x y h)
pick_some false x y h = absurd (none-some y h)

pick_none : {A : Type 0} (b : Bool) (x : A) → pick b (Some x) None ≡ None → b ≡ false
pick_none true x h = absurd (none-some x (sym h))
pick_none false x h = refl

-- what holds of no record, and of a profile that breaks no rule in a record of the right size, holds of what is read
access_ind :
    (s : List ℕ) (P : AccessRead → Type 0) → P no_access →
    (length s ≡ access_size → profile_good (profile_from s) ≡ true → P (record { ok = true; profile = profile_from s })) →
    P (access_read s)
unfolding access_read
access_ind s P none good =
    let size : Bool = eqb (length s) access_size in
    let fair : Bool = profile_good (profile_from s) in
    pick_ind P (all (size ∷ fair ∷ []))
    (λ h. let each = all_at (size ∷ fair ∷ []) in good (eqb-true (length s) access_size (each 0 h)) (each 1 h))
    (λ _. none)

-- what was read, by whether there is a profile
pub read_some :
    (s : List ℕ) (r : Option Profile) (p : Profile) → r ≡ profile_read (access_read s) → r ≡ Some p →
    ((access_read s).ok ≡ true) × ((access_read s).profile ≡ p)
read_some s r p read is = pick_some (access_read s).ok _ p (sym read ∙ is)

pub read_none : (s : List ℕ) (r : Option Profile) → r ≡ profile_read (access_read s) → r ≡ None → (access_read s).ok ≡ false
read_none s r read is = pick_none (access_read s).ok (access_read s).profile (sym read ∙ is)

-- a profile that was read breaks no rule
pub access_good : (s : List ℕ) → (access_read s).ok ≡ true → profile_good (access_read s).profile ≡ true
access_good s =
    access_ind s (λ r. r.ok ≡ true → profile_good r.profile ≡ true)
    (λ h. absurd (false≢true h))
    (λ _ good _. good)

-- and its record has the record's size
pub access_size_lem : (s : List ℕ) → (access_read s).ok ≡ true → length s ≡ access_size
access_size_lem s =
    access_ind s (λ r. r.ok ≡ true → length s ≡ access_size) (λ h. absurd (false≢true h)) (λ long _ _. long)

-- its array of services has all its places
pub access_services : (s : List ℕ) → length (access_read s).profile.services ≡ services_most
unfolding profile_from
access_services s =
    access_ind s (λ r. length r.profile.services ≡ services_most) refl
    (λ long _. omega (arith, length-slice services_at (services_at + services_most) s (omega arith)))

-- the array of digits of a number has all its places
number_long : (s : List ℕ) (at : ℕ) → at + number_size ≤ length s → length (number_from s at).digits ≡ most
unfolding number_from
number_long s at h = omega (arith, length-slice (at + 3) (at + number_size) s h)

-- and so have those of the numbers of a profile that was read
pub access_numbers :
    (s : List ℕ) → (access_read s).ok ≡ true → (k : ℕ) → k < numbers_most →
    length (get_or (access_read s).profile.numbers k no_number).digits ≡ most
unfolding profile_from
access_numbers s =
    access_ind s
    (λ r. r.ok ≡ true → (k : ℕ) → k < numbers_most → length (get_or r.profile.numbers k no_number).digits ≡ most)
    (λ h. absurd (false≢true h))
    (λ long _ _ k low.
    ap (λ (n : Number). length n.digits) (get_d_each (λ k. number_from s (numbers_at + number_size * k)) numbers_most 0 k no_number low)
    ∙ number_long s (numbers_at + number_size * (0 + k)) (omega (arith, long, low)))
