-- What an activation within the limit and a deactivation make of good instances is good, and ascends. Assumes nothing.
use Prim.Native.Nat.{ℕ, zero, suc, ◌+◌, ◌<◌, ◌≤◌}
use mathlib.Core.Path.{◌≡◌, refl, sym, ap, ◌∙◌}
use mathlib.Core.Bool.{Bool, true, not, false≢true}
use mathlib.Core.List.{List, [], ◌∷◌, ◌++◌, map}
use native.Mathlib.Omega.{arith}
use lib.ListN.{length, take, get_or, length-take}
use lib.Seq.{take_all}
use lib.Dec.{leb, eqb}
use borrow.Author.Tests.{le-leb, leb-true, eqb-true, eqb-false}
use Rattle.laws.proofs.Picks.{pick_last, by_bool}
use Rattle.laws.proofs.Tests.{all_at, both_hold}
use Rattle.laws.proofs.Thoses.{those_none, those_fewer}
use Rattle.laws.proofs.Eaches.{Each, each_so, each_append, each_those, each_map, Up, up_low, up_those, up_map}
use Rattle.codes.proofs.Tables.{service_most}
use Rattle.numbers.specs.Address.{address_good}
use Rattle.numbers.specs.declared.address.Address.{Address}
use Rattle.profile.specs.Profile.{subscribed_services, served_numbers, rising}
use Rattle.profile.specs.declared.profile.Profile.{Profile}
use Rattle.profile.proofs.Profiles.{rising_first, GoodProfile}
use Rattle.lists.specs.Entries.{instances_most}
use Rattle.instances.specs.Instance.{key, key_of, chosen, spared, among, instance_good}
use Rattle.instances.specs.Places.{run_most, place_for, places_from, picks, places_of}
use Rattle.instances.specs.Run.{instances_of, packed, deactivated, instance_at, activated, ascending, each_good, is_of, count_of}
use Rattle.instances.specs.Run.{few_of_each, instances_good, run_good}
use Rattle.instances.specs.declared.instance.Instance.{Instance}
use Rattle.instances.specs.declared.instance.Selection.{Selection}
use Rattle.instances.specs.declared.places.Place.{Place}
use Rattle.instances.specs.declared.run.Run.{Run}
use Rattle.instances.proofs.Runs.{packed_all}
use Rattle.instances.proofs.Choices.{concerns_own, is_chosen}
use Rattle.instances.proofs.Counts.{count_other, count_merged, all_three}
use Rattle.instances.proofs.Keys.{key_more, key_next, key_top, Small, key_same, up_of, up_ascending, each_merged, up_merged}
use Rattle.instances.proofs.Fits.{among_all, among_small, goods_of, goods_all, fits_of, fits_is}

-- two of which one is chosen and one is not
key_apart :
    (sel : Selection) (x y : Instance) → Small x × (chosen sel x ≡ true) → Small y × (spared sel y ≡ true) →
    key_of x ≡ key_of y → ⊥
unfolding chosen
key_apart sel x y hx hy e =
    let same = key_same x.procedure x.number x.service y.procedure y.number y.service
    hx.0.0 hy.0.0 hx.0.1 hy.0.1 e in
    let both : chosen sel x ≡ chosen sel y = rw (same.0, same.1, same.2) in
    false≢true (sym (ap not (sym both ∙ hx.1)) ∙ hy.1)

-- ---- the places of a profile, each with the address

module _ (q : ℕ) where
  abbrev pub place_key : Place → ℕ
  place_key w = key q w.number w.service

  up_row :
      (a low : ℕ) (codes : List ℕ) (rest : List Place) → low ≤ 255 → rising low codes ≡ true →
      Up place_key (key q a 255) rest → Up place_key (key q a low) (map (place_for a) codes ++ rest)
  up_row a low [] rest few h u = up_low place_key (key q a low) (key q a 255) rest (key_top q a low few) u
  up_row a low (code ∷ codes) rest few h u =
      let first = rising_first low code codes h in
      (key_more q a low code first.above, up_row a code codes rest (omega (arith, service_most code first.known)) first.rest u)

  pub up_places :
      (services : List ℕ) (many from : ℕ) → rising 0 services ≡ true →
      Up place_key (key q from 0) (places_from services many from)
  unfolding places_from
  up_places services zero from h = tt
  up_places services (suc many) from h =
      let rest = places_from services many (suc from) in
      up_row from 0 services rest (omega arith) h
      (up_low place_key (key q from 255) (key q (suc from) 0) rest (key_next q from) (up_places services many (suc from) h))

-- a number and a service of a profile
abbrev Held : ℕ → List ℕ → Place → Type 0
Held numbers services w = (w.number < numbers) × (among w.service services ≡ true)

each_places :
    (numbers : ℕ) (services : List ℕ) (many from : ℕ) → from + many ≤ numbers →
    Each (Held numbers services) (places_from services many from)
unfolding places_from
each_places numbers services zero from h = tt
each_places numbers services (suc many) from h =
    each_append (Held numbers services) (map (place_for from) services) (places_from services many (suc from))
    (each_map (Held numbers services) (place_for from) services
    (each_so (λ code. among code services ≡ true) _ (λ code e. (omega arith, e)) services (among_all services)))
    (each_places numbers services many (suc from) (omega arith))

-- ---- how many of each procedure

abbrev pub Few : ℕ → List Instance → Type 0
Few most l = (count_of 0 l ≤ most) × (count_of 1 l ≤ most) × (count_of 2 l ≤ most)

pub few_of : (most : ℕ) (l : List Instance) → few_of_each most l ≡ true → Few most l
unfolding few_of_each
few_of most l h =
    let tests : List Bool = leb (count_of 0 l) most ∷ leb (count_of 1 l) most ∷ leb (count_of 2 l) most ∷ [] in (
      leb-true (count_of 0 l) most (all_at tests 0 h),
      leb-true (count_of 1 l) most (all_at tests 1 h),
      leb-true (count_of 2 l) most
          (all_at tests 2 h),
    )

pub few_is : (most : ℕ) (l : List Instance) → Few most l → few_of_each most l ≡ true
unfolding few_of_each
few_is most l h = rw (le-leb (count_of 0 l) most h.0, le-leb (count_of 1 l) most h.1, le-leb (count_of 2 l) most h.2)

-- then there are few of any one
pub few_at : (most : ℕ) (l : List Instance) → Few most l → (q : ℕ) → q < 3 → count_of q l ≤ most
few_at most l h zero k = h.0
few_at most l h (suc zero) k = h.1
few_at most l h (suc (suc zero)) k = h.2
few_at most l h (suc (suc (suc q))) k = absurd (omega arith)

-- ---- good runs

pub record GoodList (p : Profile) (most : ℕ) (l : List Instance) : Type 0 where
  pub ascends : Up key_of 0 l
  pub each : Each (λ x. instance_good p x ≡ true) l
  pub few : Few most l

pub good_list : (p : Profile) (most : ℕ) (l : List Instance) → instances_good most p l ≡ true → GoodList p most l
good_list p most l h =
    let tests : List Bool = ascending 0 l ∷ each_good (instance_good p) l ∷ few_of_each most l ∷ [] in
    record {
      ascends = up_of 0 l (all_at tests 0 h);
      each = goods_of (instance_good p) l (all_at tests 1 h);
      few = few_of most l (all_at tests 2 h);
    }

pub list_good_lem : (p : Profile) (most : ℕ) (l : List Instance) → GoodList p most l → instances_good most p l ≡ true
list_good_lem p most l so = rw (up_ascending 0 l so.ascends, goods_all (instance_good p) l so.each, few_is most l so.few)

-- good instances find room
pub good_short : (p : Profile) (l : List Instance) → GoodList p instances_most l → length l ≤ run_most
good_short p l so =
    let procedures = each_so (λ x. instance_good p x ≡ true) (λ x. x.procedure < 3)
    (λ x h. (fits_of p.subscribed p.numbercount (subscribed_services p) x h).procedure) l so.each in
    omega (arith, all_three l procedures, so.few.0, so.few.1, so.few.2)

-- a run that breaks no rule, and the record of good instances
pub run_good_lem : (p : Profile) (most : ℕ) (run : Run) → run_good most p run ≡ true → GoodList p most (instances_of run)
unfolding run_good
run_good_lem p most run h =
    good_list p most (instances_of run) (both_hold (leb run.count run_most) (instances_good most p (instances_of run)) h).1

-- of a run that counts no more than there is room for, the instances decide
pub run_by : (p : Profile) (most : ℕ) (run : Run) → run.count ≤ run_most → run_good most p run ≡ instances_good most p (instances_of run)
unfolding run_good
run_by p most run few = rw (le-leb run.count run_most few) (pick_last (instances_good most p (instances_of run)))

pub good_run : (p : Profile) (l : List Instance) → GoodList p instances_most l → run_good instances_most p (packed l) ≡ true
unfolding run_good
good_run p l so =
    let few = good_short p l so in
    let whole : take run_most l ≡ l = take_all run_most l few in
    rw (packed_all l few, list_good_lem p instances_most l so, whole, le-leb (length l) run_most few)

-- nothing breaks no rule
pub empty_good : (p : Profile) → run_good instances_most p (packed []) ≡ true
empty_good p =
    let none : (q : ℕ) → count_of q [] ≤ instances_most = λ q. omega (arith, ap length (those_none (is_of q) [] refl)) in
    good_run p [] (record { ascends = tt; each = tt; few = (none 0, none 1, none 2) })

-- ---- a deactivation

pub cleared_good :
    (p : Profile) (sel : Selection) (most : ℕ) (l : List Instance) → GoodList p most l → GoodList p most (deactivated sel l)
cleared_good p sel most l so = record {
  ascends = up_those key_of (spared sel) 0 l so.ascends;
  each = each_so (λ x. (instance_good p x ≡ true) × (spared sel x ≡ true)) (λ x. instance_good p x ≡ true) (λ x h. h.0)
      (deactivated sel l) (each_those (λ x. instance_good p x ≡ true) (spared sel) l so.each);
  few = (
    omega (arith, so.few.0, those_fewer (spared sel) (is_of 0) l),
    omega (arith, so.few.1, those_fewer (spared sel) (is_of 1) l),
    omega (arith, so.few.2, those_fewer (spared sel) (is_of 2) l),
  );
}

-- ---- an activation

module _ (p : Profile) (profile : GoodProfile p) (sel : Selection) (address : Address) where
  abbrev here : Place → Instance
  here = instance_at sel.procedure address

  chosen_here : (w : Place) → picks sel w ≡ true → chosen sel (here w) ≡ true
  chosen_here w h = is_chosen sel (here w) (concerns_own sel) h

  none_made : (q : ℕ) → (sel.procedure ≡ q → ⊥) → (vs : List Place) → count_of q (map here vs) ≡ 0
  none_made q other [] = ap length (those_none (is_of q) [] refl)
  none_made q other (w ∷ vs) =
      count_other q (map here (w ∷ vs)) (map here vs) (here w) refl other ∙ none_made q other vs

  pub small_good : (x : Instance) → instance_good p x ≡ true → Small x
  small_good x h =
      let so = fits_of p.subscribed p.numbercount (subscribed_services p) x h in (
        omega (arith, so.number, profile.few),
        omega
            (arith, among_small 0 x.service (subscribed_services p) profile.rises so.service),
      )

  module _
      (three : sel.procedure < 3)
      (subscribes : get_or p.subscribed sel.procedure 0 ≡ 1)
      (good : address_good address ≡ true)
      (most : ℕ) (l : List Instance) (so : GoodList p most l)
      (within : count_of sel.procedure (activated p sel address l) ≤ most)
    where
      abbrev ws : List Place
      ws = places_of p sel

      all : Each (λ w. Held p.numbercount (subscribed_services p) w × (picks sel w ≡ true)) ws
      unfolding places_of
      all =
          each_those (Held p.numbercount (subscribed_services p)) (picks sel)
          (places_from (subscribed_services p) (length (served_numbers p)) 0)
          (each_places p.numbercount (subscribed_services p) (length (served_numbers p)) 0
          (omega (arith, length-take p.numbercount p.numbers)))

      made_good : Each (λ x. instance_good p x ≡ true) (map here ws)
      made_good =
          each_map (λ x. instance_good p x ≡ true) here ws
          (each_so (λ w. Held p.numbercount (subscribed_services p) w × (picks sel w ≡ true)) (λ w. instance_good p (here w) ≡ true)
          (λ w h. fits_is p.subscribed p.numbercount (subscribed_services p) (here w) record {
            procedure = three;
            subscribes = subscribes;
            number = h.0.0;
            service = h.0.1;
            address = good;
          }) ws all)

      made_up : Up key_of 0 (map here ws)
      unfolding places_of
      made_up =
          let every = places_from (subscribed_services p) (length (served_numbers p)) 0 in
          up_map key_of here 0 ws
          (up_those (λ w. key_of (here w)) (picks sel) 0 every
          (up_low (λ w. key_of (here w)) 0 (key sel.procedure 0 0) every (omega arith)
          (up_places sel.procedure (subscribed_services p) (length (served_numbers p)) 0 profile.rises)))

      made_small : Each (λ x. Small x × (chosen sel x ≡ true)) (map here ws)
      made_small =
          each_map (λ x. Small x × (chosen sel x ≡ true)) here ws
          (each_so (λ w. Held p.numbercount (subscribed_services p) w × (picks sel w ≡ true)) _
          (λ w h.
          let few = among_small 0 w.service (subscribed_services p) profile.rises h.0.1 in
          ((omega (arith, h.0.0, profile.few), omega (arith, few)), chosen_here w h.1)) ws all)

      kept_small : Each (λ x. Small x × (spared sel x ≡ true)) (deactivated sel l)
      kept_small =
          each_so (λ x. (instance_good p x ≡ true) × (spared sel x ≡ true)) _ (λ x h. (small_good x h.0, h.1))
          (deactivated sel l) (each_those (λ x. instance_good p x ≡ true) (spared sel) l so.each)

      still_few : (q : ℕ) → count_of q l ≤ most → count_of q (activated p sel address l) ≤ most
      still_few q h =
          let sum = count_merged q (map here ws) (deactivated sel l) in
          by_bool (count_of q (activated p sel address l) ≤ most) (eqb sel.procedure q)
          (λ e. rw (sym (eqb-true sel.procedure q e)) within)
          (λ e. omega (arith, sum, h, none_made q (eqb-false sel.procedure q e) ws, those_fewer (spared sel) (is_of q) l))

      pub activated_good : GoodList p most (activated p sel address l)
      activated_good =
          let kept = cleared_good p sel most l so in
          record {
            ascends = up_merged (λ x. Small x × (chosen sel x ≡ true)) (λ y. Small y × (spared sel y ≡ true)) (key_apart sel) 0
                (map here ws) (deactivated sel l) made_small kept_small made_up kept.ascends;
            each = each_merged (λ x. instance_good p x ≡ true) (map here ws) (deactivated sel l) made_good kept.each;
            few = (still_few 0 so.few.0, still_few 1 so.few.1, still_few 2 so.few.2);
          }
