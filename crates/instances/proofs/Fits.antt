-- What the rules say of an instance, and codes among those of a profile. Assumes nothing.
use Prim.Native.Nat.{ℕ, ◌<◌, ◌≤◌}
use mathlib.Core.Path.{◌≡◌, refl, sym, ◌∙◌}
use mathlib.Core.Bool.{Bool, true, false, false≢true}
use mathlib.Core.List.{List, [], ◌∷◌}
use native.Mathlib.Omega.{arith}
use lib.ListN.{get_or}
use lib.Dec.{ltb, eqb}
use borrow.Author.Tests.{eq-eqb, lt-ltb, ltb-true, eqb-true}
use Rattle.laws.specs.Tests.{all}
use Rattle.laws.proofs.Picks.{pick_ind, pick_last, by_bool}
use Rattle.laws.proofs.Tests.{all_at, both_hold}
use Rattle.laws.proofs.Eaches.{Each, each_so}
use Rattle.codes.specs.Codes.{service_code}
use Rattle.codes.proofs.Tables.{service_most}
use Rattle.numbers.specs.Address.{address_good}
use Rattle.profile.specs.Profile.{rising}
use Rattle.profile.proofs.Profiles.{rising_first}
use Rattle.instances.specs.Instance.{procedures, among, instance_fits}
use Rattle.instances.specs.Run.{each_good}
use Rattle.instances.specs.declared.instance.Instance.{Instance}

-- ---- a code among others

among_first : (code : ℕ) (codes : List ℕ) → among code (code ∷ codes) ≡ true
unfolding among
among_first code codes = rw (eq-eqb code code refl)

among_later : (code x : ℕ) (codes : List ℕ) → among code codes ≡ true → among code (x ∷ codes) ≡ true
unfolding among
among_later code x codes h = rw h (pick_ind (λ t. t ≡ true) (eqb x code) {x = true} {y = true} (λ _. refl) (λ _. refl))

pub among_all : (codes : List ℕ) → Each (λ code. among code codes ≡ true) codes
among_all [] = tt
among_all (x ∷ codes) =
    (among_first x codes, each_so (λ code. among code codes ≡ true) _ (λ code h. among_later code x codes h) codes (among_all codes))

-- the services of a profile are known ones, above what comes before them
pub among_known :
    (below code : ℕ) (codes : List ℕ) → rising below codes ≡ true → among code codes ≡ true →
    (below < code) × (service_code code ≡ true)
unfolding among
among_known below code [] h k = absurd (false≢true k)
among_known below code (x ∷ codes) h k =
    let first = rising_first below x codes h in
    by_bool ((below < code) × (service_code code ≡ true)) (eqb x code)
    (λ e. rw (sym (eqb-true x code e)) (first.above, first.known))
    (λ e.
    let rest = among_known x code codes first.rest (sym (pick_last (among code codes)) ∙ rw e at k) in
    (omega (arith, first.above, rest.0), rest.1))

-- and small
pub among_small : (below code : ℕ) (codes : List ℕ) → rising below codes ≡ true → among code codes ≡ true → code ≤ 42
among_small below code codes h k = service_most code (among_known below code codes h k).1

-- ---- good instances

pub goods_of : (good : Instance → Bool) (l : List Instance) → each_good good l ≡ true → Each (λ x. good x ≡ true) l
unfolding each_good
goods_of good [] h = tt
goods_of good (x ∷ l) h = let t = both_hold (good x) (each_good good l) h in (t.0, goods_of good l t.1)

pub goods_all : (good : Instance → Bool) (l : List Instance) → Each (λ x. good x ≡ true) l → each_good good l ≡ true
unfolding each_good
goods_all good [] h = refl
goods_all good (x ∷ l) h = rw (h.0, goods_all good l h.1)

pub record Fits (subscribed : List ℕ) (numbers : ℕ) (services : List ℕ) (x : Instance) : Type 0 where
  pub procedure : x.procedure < 3
  pub subscribes : get_or subscribed x.procedure 0 ≡ 1
  pub number : x.number < numbers
  pub service : among x.service services ≡ true
  pub address : address_good x.address ≡ true

module _ (subscribed : List ℕ) (numbers : ℕ) (services : List ℕ) (x : Instance) where
  pub fits_of : instance_fits subscribed numbers services x ≡ true → Fits subscribed numbers services x
  unfolding instance_fits
  fits_of h =
      let tests = ltb x.procedure procedures
      ∷ eqb (get_or subscribed x.procedure 0) 1
      ∷ ltb x.number numbers
      ∷ among x.service services
      ∷ address_good x.address
      ∷ [] in
      record {
        procedure = ltb-true x.procedure procedures (all_at tests 0 h);
        subscribes = eqb-true (get_or subscribed x.procedure 0) 1 (all_at tests 1 h);
        number = ltb-true x.number numbers (all_at tests 2 h);
        service = all_at tests 3 h;
        address = all_at tests 4 h;
      }

  pub fits_is : Fits subscribed numbers services x → instance_fits subscribed numbers services x ≡ true
  unfolding instance_fits
  fits_is h = rw (
    lt-ltb x.procedure procedures h.procedure,
    eq-eqb (get_or subscribed x.procedure 0) 1 h.subscribes,
    lt-ltb x.number numbers h.number,
    h.service,
    h.address,
  )

  -- what fits has a place
  pub fits_place : Fits subscribed numbers services x → all (ltb x.number numbers ∷ among x.service services ∷ []) ≡ true
  fits_place h = rw (lt-ltb x.number numbers h.number, h.service)

  -- what has a place fits, by its procedure and address
  pub fits_made :
      x.procedure < 3 → get_or subscribed x.procedure 0 ≡ 1 →
      all (ltb x.number numbers ∷ among x.service services ∷ []) ≡ true → address_good x.address ≡ true →
      instance_fits subscribed numbers services x ≡ true
  fits_made three subscribes place address =
      let t = both_hold (ltb x.number numbers) (among x.service services) place in
      fits_is record {
        procedure = three;
        subscribes = subscribes;
        number = ltb-true x.number numbers t.0;
        service = t.1;
        address = address;
      }

  -- what breaks a rule does not fit
  pub not_fits : (Fits subscribed numbers services x → ⊥) → instance_fits subscribed numbers services x ≡ false
  not_fits h =
      let fits = instance_fits subscribed numbers services x in
      by_bool (fits ≡ false) fits (λ t. absurd (h (fits_of t))) (λ t. t)
