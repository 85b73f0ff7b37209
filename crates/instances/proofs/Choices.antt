-- Which instances a selection chooses, which one stands at a place, and codes among others. Assumes nothing.
use Rattle.std.specs.List.{Contains, count_by}
use Rattle.std.proofs.lemmas.List.Recursion.{is_count_by}
use Prim.Native.Nat.{ℕ, zero, suc, ◌+◌, ◌<◌}
use mathlib.Core.Logic.{◌↔◌}
use mathlib.Core.Path.{◌≡◌, refl, sym, ap, ◌∙◌}
use mathlib.Core.Bool.{Bool, true, false, not, cond, false≢true}
use mathlib.Core.List.{List, [], ◌∷◌}
use mathlib.Core.Option.{none, some}
use native.Mathlib.Omega.{arith}
use lib.ListN.{length, get_or}
use lib.Dec.{eqb}
use borrow.Author.Tests.{eq-eqb, ne_eqb, eqb-true, eqb-false}
use Rattle.laws.specs.Pick.{pick}
use Rattle.laws.specs.Those.{those}
use Rattle.laws.proofs.Thoses.{those_take, those_skip, those_none}
use Rattle.laws.proofs.Filled.{get_any}
use Rattle.laws.proofs.Picks.{pick_then, pick_last, by_bool, not_passed}
use Rattle.codes.specs.Codes.{place_of}
use Rattle.codes.proofs.Tables.{place_first, place_stands}
use Rattle.instances.specs.Instance.{every_number, every_service, named, selected, concerns, chosen, spared, is_at, among}
use Rattle.instances.specs.Run.{forwarded_to, is_of}
use Rattle.instances.specs.declared.instance.Instance.{Instance}
use Rattle.instances.specs.declared.instance.Selection.{Selection}

-- ---- a selection

pub concerns_own : (sel : Selection) → concerns sel sel.procedure ≡ true
unfolding concerns
concerns_own sel = eq-eqb sel.procedure sel.procedure refl

pub concerns_is : (sel : Selection) (procedure : ℕ) → concerns sel procedure ≡ true → procedure ≡ sel.procedure
unfolding concerns
concerns_is sel procedure h = eqb-true procedure sel.procedure h

pub concerns_not : (sel : Selection) (procedure : ℕ) → concerns sel procedure ≡ false → procedure ≡ sel.procedure → ⊥
unfolding concerns
concerns_not sel procedure h = eqb-false procedure sel.procedure h

-- an instance that is chosen is of the procedure, and its number and service are selected
pub chosen_is :
    (sel : Selection) (x : Instance) → chosen sel x ≡ true →
    (concerns sel x.procedure ≡ true) × (selected sel x.number x.service ≡ true)
unfolding chosen
chosen_is sel x h =
    let t = pick_then (concerns sel x.procedure) _ h in
    (t.0, (pick_then (selected sel x.number x.service) true t.1).0)

pub is_chosen :
    (sel : Selection) (x : Instance) → concerns sel x.procedure ≡ true → selected sel x.number x.service ≡ true →
    chosen sel x ≡ true
unfolding chosen
is_chosen sel x c s = rw (c, s)

-- it goes by procedure, number and service
pub chosen_of : (sel : Selection) (x : Instance) → chosen sel x ≡ pick (concerns sel x.procedure) (selected sel x.number x.service) false
unfolding chosen
chosen_of sel x = rw (pick_last (selected sel x.number x.service))

-- of another procedure none is chosen
pub chosen_other : (sel : Selection) (x : Instance) → concerns sel x.procedure ≡ false → chosen sel x ≡ false
chosen_other sel x h = chosen_of sel x ∙ rw h

-- ---- a test that fails, or holds, turned round

pub kept_test : (b : Bool) → b ≡ false → not b ≡ true
kept_test b h = rw h

pub gone_test : (b : Bool) → b ≡ true → not b ≡ false
gone_test b h = rw h

-- ---- a code among others

module _ (code : ℕ) (l : List ℕ) where
  pub among_here : (x : ℕ) (m : List ℕ) → l ≡ x ∷ m → x ≡ code → among code l ≡ true
  unfolding among
  among_here x m e h = rw (e, eq-eqb x code h)

  pub among_on : (x : ℕ) (m : List ℕ) → l ≡ x ∷ m → (x ≡ code → ⊥) → among code l ≡ among code m
  unfolding among
  among_on x m e h = rw (e, ne_eqb x code h, pick_last (among code m))

  pub among_none : l ≡ [] → among code l ≡ false
  unfolding among
  among_none e = rw e

-- what stands at a place is among them
stands_among : (code : ℕ) (codes : List ℕ) (k : ℕ) → k < length codes → get_or codes k 0 ≡ code → among code codes ≡ true
stands_among code [] k h e = absurd (omega arith)
stands_among code (x ∷ codes) zero h e = among_here code (x ∷ codes) x codes refl e
stands_among code (x ∷ codes) (suc k) h e =
    by_bool (among code (x ∷ codes) ≡ true) (eqb x code)
    (λ t. among_here code (x ∷ codes) x codes refl (eqb-true x code t))
    (λ t. among_on code (x ∷ codes) x codes refl (eqb-false x code t) ∙ stands_among code codes k (omega arith) e)

-- one that has a place is among them
pub place_among : (code : ℕ) (codes : List ℕ) → place_of code codes < length codes → among code codes ≡ true
place_among code codes h = stands_among code codes (place_of code codes) h (place_stands code codes h)

-- and one that is among them has a place
pub among_place : (code : ℕ) (codes : List ℕ) → among code codes ≡ true → place_of code codes < length codes
among_place code [] h = absurd (false≢true (sym (among_none code [] refl) ∙ h))
among_place code (x ∷ codes) h =
    by_bool (place_of code (x ∷ codes) < length (x ∷ codes)) (eqb x code)
    (λ t. omega (arith, place_first code (x ∷ codes) 0 (omega arith) (eqb-true x code t)))
    (λ t.
    let later = among_place code codes (sym (among_on code (x ∷ codes) x codes refl (eqb-false x code t)) ∙ h) in
    omega (arith, later, place_first code (x ∷ codes) (suc (place_of code codes)) (omega arith) (place_stands code codes later)))

-- what a slice contains is among its codes
pub among_contains : (code : ℕ) (l : List ℕ) (b : Bool) → ((b ≡ true) ↔ Contains l code) → b ≡ among code l
among_contains code l b h =
    by_bool (b ≡ among code l) b
    (λ t.
    let at = h.0 t in
    t ∙ sym (stands_among code l at.0 at.1 (get_any l at.0 0 code at.1 ∙ at.2)))
    (λ f.
    by_bool (b ≡ among code l) (among code l)
    (λ t.
    let less = among_place code l t in
    absurd (false≢true (sym f ∙ h.1 (place_of code l, less, get_any l (place_of code l) code 0 less ∙ place_stands code l less))))
    (λ t. f ∙ sym t))

-- ---- how many pass a test, as an iterator counts them

pub those_count : {A : Type 0} (f : A → Bool) (l : List A) → length (those f l) ≡ count_by f l
those_count {A = A} f l =
    is_count_by (λ (xs : List A). length (those f xs)) f (ap length (those_none f [] refl))
    (λ x xs.
    by_bool (length (those f (x ∷ xs)) ≡ cond (f x) (1 + length (those f xs)) (length (those f xs))) (f x)
    (λ h. rw (those_take f (x ∷ xs) xs x refl h, h) (omega arith))
    (λ h. rw (those_skip f (x ∷ xs) xs x refl h, h)))
    l

-- ---- the instance of a procedure, number and service

module _ (procedure number service : ℕ) (l : List Instance) where
  pub find_here :
      (x : Instance) (m : List Instance) → l ≡ x ∷ m → is_at procedure number service x ≡ true →
      forwarded_to procedure number service l ≡ some x.address
  unfolding forwarded_to
  find_here x m e h = rw (e, h)

  pub find_on :
      (x : Instance) (m : List Instance) → l ≡ x ∷ m → is_at procedure number service x ≡ false →
      forwarded_to procedure number service l ≡ forwarded_to procedure number service m
  unfolding forwarded_to
  find_on x m e h = rw (e, h)

  pub find_none : l ≡ [] → forwarded_to procedure number service l ≡ none
  unfolding forwarded_to
  find_none e = rw e

-- ---- what was asked for

module _ (every asked is : ℕ) where
  pub named_every : asked ≡ every → named every asked is ≡ true
  unfolding named
  named_every h = rw (eq-eqb asked every h)

  pub named_one : (asked ≡ every → ⊥) → named every asked is ≡ eqb asked is
  unfolding named
  named_one h = rw (ne_eqb asked every h, pick_last (eqb asked is))

-- ---- every instance of a procedure

module _ (sel : Selection) (numbers : sel.number ≡ every_number) (services : sel.service ≡ every_service) where
  -- a selection of all numbers and all services chooses by the procedure
  pub chosen_every : (x : Instance) → chosen sel x ≡ is_of sel.procedure x
  unfolding chosen concerns selected
  chosen_every x =
      rw (named_every every_number sel.number x.number numbers, named_every every_service sel.service x.service services)
      (pick_last (is_of sel.procedure x))

  -- and spares those of other procedures alone
  pub spared_other : (x : Instance) → spared sel x ≡ true → is_of sel.procedure x ≡ false
  spared_other x h = not_passed (is_of sel.procedure x) (ap not (sym (chosen_every x)) ∙ h)
