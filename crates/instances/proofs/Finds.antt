-- What is found at a procedure, number and service after an activation or a deactivation, of any list. Assumes nothing.
use Prim.Native.Nat.{ℕ, zero, suc, ◌+◌}
use mathlib.Core.Path.{◌≡◌, refl, sym, ◌∙◌}
use mathlib.Core.Bool.{Bool, true, false, false≢true}
use mathlib.Core.List.{List, [], ◌∷◌, ◌++◌, map}
use mathlib.Core.Option.{none, some}
use native.Mathlib.Nat.{zero-add}
use native.Mathlib.Omega.{arith}
use lib.ListN.{length}
use lib.Dec.{ltb, eqb}
use borrow.Author.Tests.{eq-eqb, ne_eqb, lt-ltb, le-ltb, ltb-true, ltb-false, eqb-true, eqb-false}
use Rattle.laws.specs.Pick.{pick}
use Rattle.laws.specs.Those.{those}
use Rattle.laws.proofs.Picks.{pick_ind, pick_then, pick_last, by_bool}
use Rattle.laws.proofs.Tests.{all_at}
use Rattle.laws.proofs.Thoses.{those_take, those_skip, those_none}
use Rattle.laws.proofs.Eaches.{Each, each_so, each_map, each_those}
use Rattle.numbers.specs.declared.address.Address.{Address}
use Rattle.profile.specs.Profile.{subscribed_services, served_numbers}
use Rattle.profile.specs.declared.profile.Profile.{Profile}
use Rattle.instances.specs.Instance.{key_of, selected, concerns, chosen, spared, is_at, among}
use Rattle.instances.specs.Places.{place_for, places_from, picks, places_of}
use Rattle.instances.specs.Run.{deactivated, forwarded_to, instance_at, merged, activated}
use Rattle.instances.specs.declared.instance.Instance.{Instance}
use Rattle.instances.specs.declared.instance.Selection.{Selection}
use Rattle.instances.specs.declared.places.Place.{Place}
use Rattle.instances.proofs.Choices.{chosen_of, is_chosen, concerns_own, concerns_is, kept_test, gone_test, find_here, find_on, find_none}

-- whether a selection names a procedure, number and service
abbrev pub names : Selection → ℕ → ℕ → ℕ → Bool
names sel q n s = pick (concerns sel q) (selected sel n s) false

module _ (q n s : ℕ) where
  -- what is there is chosen exactly if its place is named
  at_chosen : (sel : Selection) (x : Instance) → is_at q n s x ≡ true → chosen sel x ≡ names sel q n s
  unfolding is_at
  at_chosen sel x h =
      let tests : List Bool = eqb x.procedure q ∷ eqb x.number n ∷ eqb x.service s ∷ [] in
      rw (
        chosen_of sel x,
        eqb-true x.procedure q (all_at tests 0 h),
        eqb-true x.number n (all_at tests 1 h),
        eqb-true x.service s
            (all_at tests 2 h),
      )

  -- ---- a deactivation

  -- "removes every active selected instance", and none else
  pub find_cleared :
      (sel : Selection) (l : List Instance) →
      forwarded_to q n s (deactivated sel l) ≡ pick (names sel q n s) none (forwarded_to q n s l)
  find_cleared sel [] =
      rw (those_none (spared sel) [] refl, find_none q n s [] refl)
      (pick_ind (λ r. none ≡ r) (names sel q n s) {x = none} {y = none} (λ _. refl) (λ _. refl))
  find_cleared sel (x ∷ l) =
      let so = find_cleared sel l in
      by_bool _ (chosen sel x)
      (λ (c : chosen sel x ≡ true).
      let skips = those_skip (spared sel) (x ∷ l) l x refl (gone_test _ c) in
      by_bool _ (is_at q n s x)
      (λ (h : is_at q n s x ≡ true). rw (skips, so, sym (at_chosen sel x h) ∙ c))
      (λ (h : is_at q n s x ≡ false). rw (skips, so, find_on q n s (x ∷ l) x l refl h)))
      (λ (c : chosen sel x ≡ false).
      let takes = those_take (spared sel) (x ∷ l) l x refl (kept_test _ c) in
      by_bool _ (is_at q n s x)
      (λ (h : is_at q n s x ≡ true).
      rw (
        takes,
        sym (at_chosen sel x h)
            ∙ c,
        find_here q n s (x ∷ deactivated sel l) x (deactivated sel l) refl h,
        find_here q n s (x ∷ l) x l refl h,
      ))
      (λ (h : is_at q n s x ≡ false).
      rw (takes, find_on q n s (x ∷ deactivated sel l) x (deactivated sel l) refl h, find_on q n s (x ∷ l) x l refl h) so))

  -- ---- two lists as one, of which one has none there

  abbrev Not : Instance → Type 0
  Not x = is_at q n s x ≡ false

  find_not : (l : List Instance) → Each Not l → forwarded_to q n s l ≡ none
  find_not [] h = find_none q n s [] refl
  find_not (x ∷ l) h = find_on q n s (x ∷ l) x l refl h.0 ∙ find_not l h.1

  find_same :
      (x : Instance) (l m : List Instance) → forwarded_to q n s l ≡ forwarded_to q n s m →
      forwarded_to q n s (x ∷ l) ≡ forwarded_to q n s (x ∷ m)
  find_same x l m e =
      by_bool (forwarded_to q n s (x ∷ l) ≡ forwarded_to q n s (x ∷ m)) (is_at q n s x)
      (λ h. find_here q n s (x ∷ l) x l refl h ∙ sym (find_here q n s (x ∷ m) x m refl h))
      (λ h. find_on q n s (x ∷ l) x l refl h ∙ e ∙ sym (find_on q n s (x ∷ m) x m refl h))

  find_first : (xs ys : List Instance) → Each Not ys → forwarded_to q n s (merged xs ys) ≡ forwarded_to q n s xs
  unfolding merged
  find_first [] ys h = find_not ys h ∙ sym (find_none q n s [] refl)
  find_first (x ∷ xs) [] h = refl
  find_first (x ∷ xs) (y ∷ ys) h =
      let left = find_first (x ∷ xs) ys h.1 in
      let right = find_first xs (y ∷ ys) h in
      pick_ind (λ m. forwarded_to q n s m ≡ forwarded_to q n s (x ∷ xs)) (ltb (key_of y) (key_of x))
      {x = y ∷ merged (x ∷ xs) ys}
      {y = x ∷ merged xs (y ∷ ys)}
      (λ _. find_on q n s (y ∷ merged (x ∷ xs) ys) y (merged (x ∷ xs) ys) refl h.0 ∙ left)
      (λ _. find_same x (merged xs (y ∷ ys)) xs right)

  find_second : (xs ys : List Instance) → Each Not xs → forwarded_to q n s (merged xs ys) ≡ forwarded_to q n s ys
  unfolding merged
  find_second [] ys h = refl
  find_second (x ∷ xs) [] h = find_not (x ∷ xs) h ∙ sym (find_none q n s [] refl)
  find_second (x ∷ xs) (y ∷ ys) h =
      let left = find_second (x ∷ xs) ys h in
      let right = find_second xs (y ∷ ys) h.1 in
      pick_ind (λ m. forwarded_to q n s m ≡ forwarded_to q n s (y ∷ ys)) (ltb (key_of y) (key_of x))
      {x = y ∷ merged (x ∷ xs) ys}
      {y = x ∷ merged xs (y ∷ ys)}
      (λ _. find_same y (merged (x ∷ xs) ys) ys left)
      (λ _. find_on q n s (x ∷ merged xs (y ∷ ys)) x (merged xs (y ∷ ys)) refl h.0 ∙ right)

-- ---- the places of a profile

module _ (n s : ℕ) where
  abbrev pub is_place : Place → Bool
  is_place w = pick (eqb w.number n) (eqb w.service s) false

  -- whether a place stands in a list
  abbrev pub stands : List Place → Bool
  stands [] = false
  stands (w ∷ ws) = pick (is_place w) true (stands ws)

  stands_append : (vs ws : List Place) → stands (vs ++ ws) ≡ pick (stands vs) true (stands ws)
  stands_append [] ws = refl
  stands_append (v ∷ vs) ws =
      by_bool (stands (v ∷ vs ++ ws) ≡ pick (stands (v ∷ vs)) true (stands ws)) (is_place v)
      (λ h. rw h)
      (λ h. rw h (stands_append vs ws))

  stands_row : (a : ℕ) (codes : List ℕ) → stands (map (place_for a) codes) ≡ pick (eqb a n) (among s codes) false
  unfolding among
  stands_row a [] = pick_ind (λ t. false ≡ t) (eqb a n) {x = false} {y = false} (λ _. refl) (λ _. refl)
  stands_row a (code ∷ codes) =
      by_bool (stands (map (place_for a) (code ∷ codes)) ≡ pick (eqb a n) (among s (code ∷ codes)) false) (eqb a n)
      (λ h. rw (h, stands_row a codes, h, pick_last (among s codes)))
      (λ h. rw (h, stands_row a codes, h))

  place_picks : (sel : Selection) (w : Place) → is_place w ≡ true → picks sel w ≡ selected sel n s
  place_picks sel w h =
      let a = pick_then (eqb w.number n) (eqb w.service s) h in
      rw (eqb-true w.number n a.0, eqb-true w.service s a.1)

  -- those that are selected
  stands_those :
      (sel : Selection) (ws : List Place) → stands (those (picks sel) ws) ≡ pick (selected sel n s) (stands ws) false
  stands_those sel [] =
      rw (those_none (picks sel) [] refl)
      (pick_ind (λ t. false ≡ t) (selected sel n s) {x = false} {y = false} (λ _. refl) (λ _. refl))
  stands_those sel (w ∷ ws) =
      let so = stands_those sel ws in
      let takes = those_take (picks sel) (w ∷ ws) ws w refl in
      let skips = those_skip (picks sel) (w ∷ ws) ws w refl in
      by_bool (stands (those (picks sel) (w ∷ ws)) ≡ pick (selected sel n s) (stands (w ∷ ws)) false) (is_place w)
      (λ h. by_bool _ (selected sel n s)
      (λ (t : selected sel n s ≡ true). rw (takes (place_picks sel w h ∙ t), h, t))
      (λ (t : selected sel n s ≡ false). rw (skips (place_picks sel w h ∙ t), so, t)))
      (λ h. by_bool _ (picks sel w)
      (λ (t : picks sel w ≡ true). rw (takes t, h) so)
      (λ (t : picks sel w ≡ false). rw (skips t, h) so))

  stands_places :
      (services : List ℕ) (many from : ℕ) →
      stands (places_from services many from) ≡ pick (ltb n from) false (pick (ltb n (from + many)) (among s services) false)
  unfolding places_from
  stands_places services zero from =
      by_bool (false ≡ pick (ltb n from) false (pick (ltb n (from + 0)) (among s services) false)) (ltb n from)
      (λ h. rw h)
      (λ h. rw (h, le-ltb n (from + 0) (omega (arith, ltb-false n from h))))
  stands_places services (suc many) from =
      let so = stands_places services many (suc from) in
      let more : suc from + many ≡ from + suc many = omega arith in
      rw (stands_append (map (place_for from) services) (places_from services many (suc from)), stands_row from services, so, more)
      (by_bool _ (ltb n from)
      (λ (h : ltb n from ≡ true).
      let less = ltb-true n from h in
      rw (h, ne_eqb from n (λ e. omega arith), lt-ltb n (suc from) (omega arith)))
      (λ (h : ltb n from ≡ false).
      let least = ltb-false n from h in
      by_bool _ (eqb from n)
      (λ (e : eqb from n ≡ true).
      let same = eqb-true from n e in
      rw (h, e, lt-ltb n (suc from) (omega arith), lt-ltb n (from + suc many) (omega arith)) (pick_last (among s services)))
      (λ (e : eqb from n ≡ false).
      let other = eqb-false from n e in
      rw (h, e, le-ltb n (suc from) (omega (arith, other))))))

-- ---- an activation

-- whether a profile has the number and the service
abbrev pub has_place : Profile → ℕ → ℕ → Bool
has_place p n s = pick (ltb n (length (served_numbers p))) (among s (subscribed_services p)) false

each_any : {A : Type 0} (l : List A) → Each (λ (x : A). Unit {0}) l
each_any [] = tt
each_any (x ∷ l) = (tt, each_any l)

module _ (q n s : ℕ) (sel : Selection) (address : Address) where
  abbrev here : Place → Instance
  here = instance_at sel.procedure address

  at_here : (w : Place) → q ≡ sel.procedure → is_at q n s (here w) ≡ is_place n s w
  unfolding is_at
  at_here w e = rw (eq-eqb sel.procedure q (sym e), pick_last (eqb w.service s))

  chosen_here : (w : Place) → picks sel w ≡ true → chosen sel (here w) ≡ true
  chosen_here w h = is_chosen sel (here w) (concerns_own sel) h

  -- what is not chosen where the selection names the place, or chosen where it does not, is not there
  not_there : (x : Instance) → (chosen sel x ≡ names sel q n s → ⊥) → is_at q n s x ≡ false
  not_there x h = by_bool (is_at q n s x ≡ false) (is_at q n s x) (λ e. absurd (h (at_chosen q n s sel x e))) (λ e. e)

  find_made :
      (ws : List Place) → q ≡ sel.procedure →
      forwarded_to q n s (map here ws) ≡ pick (stands n s ws) (some address) none
  find_made [] e = find_none q n s [] refl
  find_made (w ∷ ws) e =
      let there = at_here w e in
      let rest = map here ws in
      by_bool (forwarded_to q n s (map here (w ∷ ws)) ≡ pick (stands n s (w ∷ ws)) (some address) none) (is_place n s w)
      (λ h. rw h (find_here q n s (here w ∷ rest) (here w) rest refl (there ∙ h)))
      (λ h. rw h (find_on q n s (here w ∷ rest) (here w) rest refl (there ∙ h) ∙ find_made ws e))

  every_picked : (p : Profile) → Each (λ w. Unit {0} × (picks sel w ≡ true)) (places_of p sel)
  unfolding places_of
  every_picked p =
      let every = places_from (subscribed_services p) (length (served_numbers p)) 0 in
      each_those (λ w. Unit {0}) (picks sel) every (each_any every)

  pub stands_of : (p : Profile) → selected sel n s ≡ true → stands n s (places_of p sel) ≡ has_place p n s
  unfolding places_of
  stands_of p h =
      let many = length (served_numbers p) in
      stands_those n s sel (places_from (subscribed_services p) many 0)
      ∙ rw (h, stands_places n s (subscribed_services p) many 0, le-ltb n 0 (omega arith), zero-add many)

  -- "every selected number and service .. gets the address, replacing an older one", and none else changes
  pub find_put :
      (p : Profile) (l : List Instance) →
      forwarded_to q n s (activated p sel address l) ≡
      pick (names sel q n s) (pick (has_place p n s) (some address) none) (forwarded_to q n s l)
  find_put p l =
      let ws = places_of p sel in
      let kept = deactivated sel l in
      by_bool _ (names sel q n s)
      (λ (c : names sel q n s ≡ true).
      let both = pick_then (concerns sel q) (selected sel n s) c in
      let none = each_so (λ x. Unit {0} × (spared sel x ≡ true)) (λ x. is_at q n s x ≡ false)
      (λ x h. not_there x (λ e. false≢true (sym (gone_test _ (e ∙ c)) ∙ h.1))) kept
      (each_those (λ x. Unit {0}) (spared sel) l (each_any l)) in
      rw (c, ← stands_of p both.1)
      (find_first q n s (map here ws) kept none ∙ find_made ws (concerns_is sel q both.0)))
      (λ (c : names sel q n s ≡ false).
      let none = each_map (λ x. is_at q n s x ≡ false) here ws
      (each_so (λ w. Unit {0} × (picks sel w ≡ true)) (λ w. is_at q n s (here w) ≡ false)
      (λ w h. not_there (here w) (λ e. false≢true (sym (sym (chosen_here w h.1) ∙ e ∙ c)))) ws (every_picked p)) in
      rw c (find_second q n s (map here ws) kept none ∙ find_cleared q n s sel l ∙ rw c))
