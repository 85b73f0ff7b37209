-- What an interrogation lists of good instances: no more than the limit, and entries that break no rule. Assumes nothing.
use Prim.Native.Nat.{ℕ, ◌≤◌, ◌<◌}
use mathlib.Core.Path.{◌≡◌, refl, ap}
use mathlib.Core.Bool.{true}
use mathlib.Core.List.{List, [], ◌∷◌, map}
use native.Mathlib.Omega.{arith}
use lib.ListN.{length, get_or, length-map}
use borrow.Author.Tests.{lt-ltb}
use Rattle.laws.proofs.Picks.{by_bool}
use Rattle.laws.proofs.Thoses.{those_take, those_skip, those_none}
use Rattle.laws.proofs.Eaches.{Each, each_so, each_those}
use Rattle.numbers.specs.Number.{number_good}
use Rattle.numbers.specs.declared.number.Number.{Number}
use Rattle.profile.specs.Profile.{numbers_most, no_number, subscribed_services}
use Rattle.profile.specs.declared.profile.Profile.{Profile}
use Rattle.profile.proofs.Profiles.{GoodProfile}
use Rattle.lists.specs.Entry.{entry_good}
use Rattle.lists.specs.Entries.{all_good}
use Rattle.lists.proofs.Goods.{entry_good_lem, all_none, all_one, all_both}
use Rattle.instances.specs.Instance.{chosen, instance_good}
use Rattle.instances.specs.Run.{listed, served_number, entry_for, count_of}
use Rattle.instances.specs.declared.instance.Instance.{Instance}
use Rattle.instances.specs.declared.instance.Selection.{Selection}
use Rattle.instances.proofs.Choices.{chosen_is, concerns_is}
use Rattle.instances.proofs.Counts.{count_this, count_cons}
use Rattle.instances.proofs.Fits.{fits_of}
use Rattle.instances.proofs.Goods.{few_at, GoodList}

-- ---- how many

listed_few : (sel : Selection) (l : List Instance) → length (listed sel l) ≤ count_of sel.procedure l
listed_few sel [] = omega (arith, ap length (those_none (chosen sel) [] refl))
listed_few sel (x ∷ l) =
    let q = sel.procedure in
    by_bool (length (listed sel (x ∷ l)) ≤ count_of q (x ∷ l)) (chosen sel x)
    (λ h.
    omega (
      arith,
      listed_few sel l,
      ap length (those_take (chosen sel) (x ∷ l) l x refl h),
      count_this q (x ∷ l) l x refl (concerns_is sel x.procedure (chosen_is sel x h).0),
    ))
    (λ h. omega (arith, listed_few sel l, ap length (those_skip (chosen sel) (x ∷ l) l x refl h), count_cons q x l))

module _ (p : Profile) (sel : Selection) (most : ℕ) (l : List Instance) (so : GoodList p most l) where
  -- "at most 8 for each procedure"
  pub listed_most : sel.procedure < 3 → length (map (entry_for p.numbers) (listed sel l)) ≤ most
  listed_most three =
      omega (
        arith,
        length-map (listed sel l) (entry_for p.numbers),
        listed_few sel l,
        few_at most l so.few sel.procedure three,
      )

-- ---- entries

-- the number at a place that a profile may have
pub served_own : (numbers : List Number) (k : ℕ) → k < numbers_most → served_number numbers k ≡ get_or numbers k no_number
unfolding served_number
served_own numbers k h = rw (lt-ltb k numbers_most h)

module _ (p : Profile) (profile : GoodProfile p) where
  number_good_lem : (n : ℕ) → n < p.numbercount → number_good (served_number p.numbers n) ≡ true
  unfolding served_number
  number_good_lem n h = rw (lt-ltb n numbers_most (omega (arith, profile.few))) (profile.numbers n h)

  entry_for_good : (x : Instance) → instance_good p x ≡ true → entry_good (entry_for p.numbers x) ≡ true
  entry_for_good x h =
      let fits = fits_of p.subscribed p.numbercount (subscribed_services p) x h in
      entry_good_lem (entry_for p.numbers x) (number_good_lem x.number fits.number) fits.address

  entries_good : (l : List Instance) → Each (λ x. instance_good p x ≡ true) l → all_good (map (entry_for p.numbers) l) ≡ true
  entries_good [] h = all_none
  entries_good (x ∷ l) h =
      let e = entry_for p.numbers x in
      all_both (e ∷ []) (map (entry_for p.numbers) l) (all_one e (entry_for_good x h.0)) (entries_good l h.1)

  -- "Each carries the profile's own number"
  pub listed_good :
      (sel : Selection) (most : ℕ) (l : List Instance) → GoodList p most l →
      all_good (map (entry_for p.numbers) (listed sel l)) ≡ true
  listed_good sel most l so =
      entries_good (listed sel l)
      (each_so (λ x. (instance_good p x ≡ true) × (chosen sel x ≡ true)) (λ x. instance_good p x ≡ true) (λ x h. h.0) (listed sel l)
      (each_those (λ x. instance_good p x ≡ true) (chosen sel) l so.each))
