-- The place that a number and a service of the profile have in a row: which have one, and that they are those of the place.
-- Assumes nothing.
use Prim.Native.Nat.{◌*◌, ◌+◌, ◌<◌, ◌≤◌, ℕ}
use mathlib.Core.Bool.{true}
use mathlib.Core.List.{List}
use mathlib.Core.Path.{◌∙◌, ◌≡◌, ap, sym}
use native.Mathlib.Omega.{arith}
use lib.Dec.{ltb}
use lib.ListN.{get_or-eq_default, get_or, length, length-take}
use lib.Seq.{get_or-take}
use borrow.Author.Tests.{lt-ltb, ltb-false, ltb-true}
use Rattle.laws.proofs.Picks.{by_bool, pick_then}
use Rattle.codes.specs.Codes.{place_of}
use Rattle.codes.proofs.Tables.{place_stands}
use Rattle.numbers.specs.declared.number.Number.{Number}
use Rattle.profile.specs.Access.{access_read}
use Rattle.profile.specs.Profile.{no_number, numbers_most, profile_good, served_numbers, services_most, subscribed_services}
use Rattle.profile.specs.declared.profile.Profile.{Profile}
use Rattle.profile.proofs.Profiles.{GoodProfile, good_profile}
use Rattle.profile.proofs.Records.{access_good, access_numbers, access_services}
use Rattle.instances.specs.Instance.{among}
use Rattle.instances.proofs.Choices.{among_place, place_among}
use Rattle.instances.proofs.Finds.{has_place}
use Rattle.grid.specs.Row.{number_of_place, places, service_of_place}

-- ---- a profile as a machine reads it

-- it breaks no rule, and its arrays have all their places
pub record WholeProfile (p : Profile) : Type 0 where
  pub good : profile_good p ≡ true
  pub services : length p.services ≡ services_most
  pub numbers : numbers_most ≤ length p.numbers

pub access_whole : (access : List ℕ) → (access_read access).ok ≡ true → WholeProfile (access_read access).profile
access_whole access ok =
    let numbers : List Number = (access_read access).profile.numbers in
    record {
      good = access_good access ok;
      services = access_services access;
      numbers = by_bool (numbers_most ≤ length numbers) (ltb 3 (length numbers))
          (λ e. omega (arith, ltb-true 3 (length numbers) e))
          (λ e.
          let past : get_or numbers 3 no_number ≡ no_number = get_or-eq_default numbers no_number (ltb-false 3 (length numbers) e) in
          let none = ap (λ (n : Number). length n.digits) past in
          absurd (omega (arith, none, access_numbers access ok 3 (omega arith))));
    }

-- ---- the place of a number and a service

abbrev pub place_at : Profile → ℕ → ℕ → ℕ
place_at p n s = services_most * n + place_of s (subscribed_services p)

module _ (p : Profile) (whole : WholeProfile p) where
  pub rules : GoodProfile p
  rules = good_profile p whole.good

  pub numbers_many : length (served_numbers p) ≡ p.numbercount
  numbers_many = omega (arith, length-take p.numbercount p.numbers, rules.few, whole.numbers)

  pub services_many : length (subscribed_services p) ≡ p.servicecount
  services_many = omega (arith, length-take p.servicecount p.services, rules.services_few, whole.services)

  module _ (n s : ℕ) where
    -- a number and a service of the profile have a place, whose number and service they are
    pub record Place : Type 0 where
      pub number : n < p.numbercount
      pub slot : place_of s (subscribed_services p) < p.servicecount
      pub inside : place_at p n s < places
      pub numbered : number_of_place (place_at p n s) ≡ n
      pub slotted : service_of_place (place_at p n s) ≡ place_of s (subscribed_services p)
      pub service : get_or p.services (service_of_place (place_at p n s)) 0 ≡ s

    pub has_place_lem : has_place p n s ≡ true → Place
    has_place_lem h =
        let both = pick_then (ltb n (length (served_numbers p))) (among s (subscribed_services p)) h in
        let slot : ℕ = place_of s (subscribed_services p) in
        let low : n < p.numbercount = omega (arith, numbers_many, ltb-true n (length (served_numbers p)) both.0) in
        let first = among_place s (subscribed_services p) both.1 in
        let counted : slot < p.servicecount = omega (arith, services_many, first) in
        let slotted : service_of_place (place_at p n s) ≡ slot = omega (arith, counted, rules.services_few) in
        record {
          number = low;
          slot = counted;
          inside = omega (arith, low, counted, rules.services_few, rules.few);
          numbered = omega (arith, counted, rules.services_few);
          slotted = slotted;
          service = ap (λ (k : ℕ). get_or p.services k 0) slotted
              ∙ sym (get_or-take p.servicecount p.services slot 0 counted)
              ∙ place_stands s (subscribed_services p) first;
        }

    pub place_has : n < p.numbercount → place_of s (subscribed_services p) < p.servicecount → has_place p n s ≡ true
    place_has low slot =
        rw (
          lt-ltb n (length (served_numbers p)) (omega (arith, low, numbers_many)),
          place_among s (subscribed_services p) (omega (arith, slot, services_many)),
        )
