-- The places of the numbers and services that a selection names, met one by one: these are the selected ones, and how many they are.
-- Assumes nothing.
use Prim.Native.Nat.{ℕ, zero, suc, min, ◌+◌, ◌-◌, ◌*◌, ◌<◌, ◌≤◌}
use mathlib.Core.Path.{◌≡◌, refl, sym, ◌∙◌}
use mathlib.Core.Bool.{true, false}
use mathlib.Core.List.{List, [], ◌∷◌, ◌++◌, map}
use native.Mathlib.Numerals.{add-one}
use native.Mathlib.Omega.{arith}
use lib.Dec.{ltb, eqb}
use lib.ListN.{length, drop, get_or, length-append, length-take, length-map, get_or-map}
use lib.Seq.{drop-length, drop-cons}
use borrow.Author.Tests.{eqb-true, eqb-false, eq-eqb, ne_eqb, ltb-true, ltb-false}
use Rattle.laws.specs.Pick.{pick}
use Rattle.laws.specs.Those.{those}
use Rattle.laws.proofs.Picks.{by_bool, pick_last}
use Rattle.laws.proofs.Thoses.{those_take, those_skip, those_none}
use Rattle.profile.specs.Profile.{subscribed_services}
use Rattle.profile.specs.declared.profile.Profile.{Profile}
use Rattle.instances.specs.Instance.{every_number, every_service, named, selected}
use Rattle.instances.specs.Places.{place_for, places_from, picks, places_of}
use Rattle.instances.specs.inner.Places.{numbers_named, services_named, places_named}
use Rattle.instances.specs.declared.instance.Selection.{Selection}
use Rattle.instances.specs.declared.places.Place.{Place}
use Rattle.instances.proofs.Choices.{named_every, named_one}

places_more :
    (services : List ℕ) (many from : ℕ) →
    places_from services (suc many) from ≡ map (place_for from) services ++ places_from services many (suc from)
unfolding places_from
places_more services many from = refl

places_none : (services : List ℕ) (from : ℕ) → places_from services 0 from ≡ []
unfolding places_from
places_none services from = refl

-- ---- of the numbers that are asked for

module _ (asked : ℕ) (services : List ℕ) where
  named_more :
      (many from : ℕ) →
      places_named asked services (suc many) from ≡
      pick (named every_number asked from) (map (place_for from) services) [] ++ places_named asked services many (suc from)
  unfolding places_named
  named_more many from = refl

  named_none : (from : ℕ) → places_named asked services 0 from ≡ []
  unfolding places_named
  named_none from = refl

  module _ (numbers a : ℕ) where
    -- those of the numbers from a on
    abbrev pub places_left : List Place
    places_left = places_named asked services (numbers - a) a

    module _ (h : a < numbers) where
      spelled :
          places_left ≡
          pick (named every_number asked a) (map (place_for a) services) [] ++ places_named asked services (numbers - (a + 1)) (a + 1)
      spelled =
          let less : numbers - a ≡ suc (numbers - (a + 1)) = omega arith in
          rw (less, named_more (numbers - (a + 1)) a, add-one a)

      pub number_named :
          named every_number asked a ≡ true →
          places_left ≡ map (place_for a) services ++ places_named asked services (numbers - (a + 1)) (a + 1)
      number_named t = rw t at spelled

      pub number_other :
          named every_number asked a ≡ false → places_left ≡ places_named asked services (numbers - (a + 1)) (a + 1)
      number_other t = rw t at spelled

    pub number_none : numbers ≤ a → places_left ≡ []
    number_none h =
        let none : numbers - a ≡ 0 = omega arith in
        rw (none, named_none a)

-- those of a number from its service b on
module _ (services : List ℕ) (a b : ℕ) where
  abbrev pub row_left : List Place
  row_left = drop b (map (place_for a) services)

  pub place_next :
      b < length services → row_left ≡ place_for a (get_or services b 0) ∷ drop (b + 1) (map (place_for a) services)
  place_next h =
      let long : b < length (map (place_for a) services) = rw length-map h in
      rw add-one (drop-cons (map (place_for a) services) b (place_for a 0) long ∙ rw (get_or-map (place_for a) services b 0))

  pub place_none : length services ≡ b → row_left ≡ []
  place_none e =
      let long : length (map (place_for a) services) ≡ b = rw length-map e in
      rw (← long) (drop-length (map (place_for a) services))

-- ---- those that are selected: of the numbers that are named, with the services that are

module _ (sel : Selection) (from : ℕ) where
  row_test :
      named every_number sel.number from ≡ true → (code : ℕ) →
      picks sel (place_for from code) ≡ named every_service sel.service code
  unfolding selected
  row_test h code = rw h (pick_last (named every_service sel.service code))

  module _ (ws : List Place) where
    row_named :
        named every_number sel.number from ≡ true → (services : List ℕ) →
        those (picks sel) (map (place_for from) services ++ ws) ≡
        map (place_for from) (services_named sel.service services) ++ those (picks sel) ws
    row_named h [] = rw (those_none (named every_service sel.service) [] refl)
    row_named h (x ∷ services) =
        let f = named every_service sel.service in
        let less = row_named h services in
        let test = row_test h x in
        let row = map (place_for from) services ++ ws in
        by_bool
        (those (picks sel) (map (place_for from) (x ∷ services) ++ ws) ≡
        map (place_for from) (services_named sel.service (x ∷ services)) ++ those (picks sel) ws)
        (f x)
        (λ t. rw (
          those_take f (x ∷ services) services x refl t,
          those_take (picks sel) (place_for from x ∷ row) row (place_for from x) refl
              (test ∙ t),
          less,
        ))
        (λ t. rw (
          those_skip f (x ∷ services) services x refl t,
          those_skip (picks sel) (place_for from x ∷ row) row (place_for from x) refl
              (test ∙ t),
          less,
        ))

    row_other :
        named every_number sel.number from ≡ false → (services : List ℕ) →
        those (picks sel) (map (place_for from) services ++ ws) ≡ those (picks sel) ws
    unfolding selected
    row_other h [] = refl
    row_other h (x ∷ services) = those_skip (picks sel) _ _ (place_for from x) refl (rw h) ∙ row_other h services

places_named_lem :
    (sel : Selection) (services : List ℕ) (many from : ℕ) →
    those (picks sel) (places_from services many from) ≡
    places_named sel.number (services_named sel.service services) many from
places_named_lem sel services zero from =
    rw (places_none services from, named_none sel.number (services_named sel.service services) from)
    (those_none (picks sel) [] refl)
places_named_lem sel services (suc many) from =
    let codes = services_named sel.service services in
    let ws = places_from services many (suc from) in
    let less = places_named_lem sel services many (suc from) in
    rw (places_more services many from, named_more sel.number codes many from)
    (by_bool
    (those (picks sel) (map (place_for from) services ++ ws) ≡
    pick (named every_number sel.number from) (map (place_for from) codes) [] ++ places_named sel.number codes many (suc from))
    (named every_number sel.number from)
    (λ h. rw (h, ← less) (row_named sel from ws h services))
    (λ h. rw (h, ← less) (row_other sel from ws h services)))

pub places_are :
    (p : Profile) (sel : Selection) (numbers : ℕ) → numbers ≡ min p.numbercount (length p.numbers) →
    places_named sel.number (services_named sel.service (subscribed_services p)) numbers 0 ≡ places_of p sel
unfolding places_of
places_are p sel numbers e =
    rw (length-take p.numbercount p.numbers, ← e) (sym (places_named_lem sel (subscribed_services p) numbers 0))

-- ---- how many are selected: each number that is named has each service that is

-- how many are named of `many` numbers, the first of which is `from`
abbrev numbers_from : ℕ → ℕ → ℕ → ℕ
numbers_from asked zero from = 0
numbers_from asked (suc many) from = pick (named every_number asked from) 1 0 + numbers_from asked many (suc from)

places_product :
    (asked : ℕ) (services : List ℕ) (many from : ℕ) →
    length (places_named asked services many from) ≡ numbers_from asked many from * length services
places_product asked services zero from = rw (named_none asked services from) (omega arith)
places_product asked services (suc many) from =
    let less = places_product asked services many (suc from) in
    let row = map (place_for from) services in
    let both = length-append row (places_named asked services many (suc from)) in
    rw (named_more asked services many from)
    (by_bool
    (length (pick (named every_number asked from) row [] ++ places_named asked services many (suc from)) ≡
    numbers_from asked (suc many) from * length services)
    (named every_number asked from)
    (λ h. rw h (omega (arith, less, both, length-map services (place_for from))))
    (λ h. rw h (omega (arith, less))))

numbers_every : (asked many from : ℕ) → asked ≡ every_number → numbers_from asked many from ≡ many
numbers_every asked zero from h = refl
numbers_every asked (suc many) from h =
    rw (named_every every_number asked from h) (omega (arith, numbers_every asked many (suc from) h))

-- where one is asked for, it is among them, or they begin past it, or they end short of it
module _ (asked : ℕ) (one : asked ≡ every_number → ⊥) where
  is_here : (from : ℕ) → asked ≡ from → named every_number asked from ≡ true
  is_here from h = named_one every_number asked from one ∙ eq-eqb asked from h

  not_here : (from : ℕ) → (asked ≡ from → ⊥) → named every_number asked from ≡ false
  not_here from h = named_one every_number asked from one ∙ ne_eqb asked from h

  numbers_past : (many from : ℕ) → asked < from → numbers_from asked many from ≡ 0
  numbers_past zero from h = refl
  numbers_past (suc many) from h =
      rw (not_here from (λ e. omega arith)) (omega (arith, numbers_past many (suc from) (omega arith)))

  numbers_short : (many from : ℕ) → from + many ≤ asked → numbers_from asked many from ≡ 0
  numbers_short zero from h = refl
  numbers_short (suc many) from h =
      rw (not_here from (λ e. omega arith)) (omega (arith, numbers_short many (suc from) (omega arith)))

  numbers_one : (many from : ℕ) → from ≤ asked → asked < from + many → numbers_from asked many from ≡ 1
  numbers_one zero from h less = absurd (omega arith)
  numbers_one (suc many) from h less =
      by_bool (numbers_from asked (suc many) from ≡ 1) (eqb asked from)
      (λ t.
      let e = eqb-true asked from t in
      rw (is_here from e) (omega (arith, numbers_past many (suc from) (omega arith))))
      (λ t.
      let e = eqb-false asked from t in
      rw (not_here from e) (omega (arith, numbers_one many (suc from) (omega arith) (omega arith))))

numbers_are : (asked many : ℕ) → numbers_from asked many 0 ≡ numbers_named asked many
numbers_are asked many =
    by_bool (numbers_from asked many 0 ≡ numbers_named asked many) (eqb asked every_number)
    (λ h. rw h (numbers_every asked many 0 (eqb-true asked every_number h)))
    (λ h.
    let one = eqb-false asked every_number h in
    rw h
    (by_bool (numbers_from asked many 0 ≡ pick (ltb asked many) 1 0) (ltb asked many)
    (λ t. rw t (numbers_one asked one many 0 (omega arith) (omega (arith, ltb-true asked many t))))
    (λ t. rw t (numbers_short asked one many 0 (omega (arith, ltb-false asked many t))))))

pub places_counted :
    (p : Profile) (sel : Selection) →
    numbers_named sel.number (min p.numbercount (length p.numbers)) * length (services_named sel.service (subscribed_services p)) ≡
    length (places_of p sel)
places_counted p sel =
    let many = min p.numbercount (length p.numbers) in
    rw (← places_are p sel many refl, ← numbers_are sel.number many)
    (sym (places_product sel.number (services_named sel.service (subscribed_services p)) many 0))
