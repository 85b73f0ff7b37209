-- Instances that ascend are known by what is found at each procedure, number and service. Assumes nothing.
use Prim.Native.Nat.{ℕ, ◌≤◌}
use mathlib.Core.Path.{◌≡◌, refl, sym, ap, ◌∙◌}
use mathlib.Core.Bool.{Bool, true, false}
use mathlib.Core.List.{List, [], ◌∷◌, ◌++◌}
use mathlib.Core.Option.{Option, none, some}
use native.Mathlib.Omega.{arith}
use lib.Dec.{eqb, ltb}
use borrow.Author.Tests.{eq-eqb, eqb-true, ltb-true, ltb-false}
use Rattle.laws.specs.Pick.{pick}
use Rattle.laws.proofs.Picks.{by_bool, pick_last}
use Rattle.laws.proofs.Tests.{all_at}
use Rattle.laws.proofs.Eaches.{Each, Up}
use Rattle.numbers.specs.declared.address.Address.{Address}
use Rattle.instances.specs.Instance.{every_number, every_service, instance_of, is_at, key, key_of, named, selected}
use Rattle.instances.specs.Run.{forwarded_to}
use Rattle.instances.specs.declared.instance.Instance.{Instance}
use Rattle.instances.specs.declared.instance.Selection.{Selection}
use Rattle.instances.proofs.Choices.{find_here, find_on, find_none}
use Rattle.instances.proofs.Keys.{Small, key_same}

-- an address is found, or it is not
pub some_none : {a : Address} → ◌≡◌ {A = Option Address} (some a) none → ⊥
some_none h = let z : ◌≡◌ {A = ℕ} 0 1 = cc in omega arith

abbrev inside : Address → Option Address → Address
inside a none = a
inside a (some b) = b

some_same : (a b : Address) → ◌≡◌ {A = Option Address} (some a) (some b) → a ≡ b
some_same a b h = ap (λ o. inside a o) h

-- ---- the instance of a procedure, number and service

module _ (q n s : ℕ) (x : Instance) where
  pub is_at_lem : x.procedure ≡ q → x.number ≡ n → x.service ≡ s → is_at q n s x ≡ true
  unfolding is_at
  is_at_lem a b c = rw (eq-eqb x.procedure q a, eq-eqb x.number n b, eq-eqb x.service s c)

  pub at_is : is_at q n s x ≡ true → (x.procedure ≡ q) × (x.number ≡ n) × (x.service ≡ s)
  unfolding is_at
  at_is h =
      let tests : List Bool = eqb x.procedure q ∷ eqb x.number n ∷ eqb x.service s ∷ [] in
      (eqb-true x.procedure q (all_at tests 0 h), eqb-true x.number n (all_at tests 1 h), eqb-true x.service s (all_at tests 2 h))

  pub not_at : (x.procedure ≡ q → x.number ≡ n → x.service ≡ s → ⊥) → is_at q n s x ≡ false
  not_at h =
      by_bool (is_at q n s x ≡ false) (is_at q n s x) (λ e. let is = at_is e in absurd (h is.0 is.1 is.2)) (λ e. e)

-- ---- what is found in two lists, one after the other

module _ (q n s : ℕ) where
  pub found_after : (xs ys : List Instance) → forwarded_to q n s xs ≡ none → forwarded_to q n s (xs ++ ys) ≡ forwarded_to q n s ys
  found_after [] ys h = refl
  found_after (x ∷ xs) ys h =
      by_bool (forwarded_to q n s (x ∷ xs ++ ys) ≡ forwarded_to q n s ys) (is_at q n s x)
      (λ e. absurd (some_none (sym (find_here q n s (x ∷ xs) x xs refl e) ∙ h)))
      (λ e. find_on q n s (x ∷ xs ++ ys) x (xs ++ ys) refl e ∙ found_after xs ys (sym (find_on q n s (x ∷ xs) x xs refl e) ∙ h))

  pub found_before : (xs ys : List Instance) → forwarded_to q n s ys ≡ none → forwarded_to q n s (xs ++ ys) ≡ forwarded_to q n s xs
  found_before [] ys h = h ∙ sym (find_none q n s [] refl)
  found_before (x ∷ xs) ys h =
      by_bool (forwarded_to q n s (x ∷ xs ++ ys) ≡ forwarded_to q n s (x ∷ xs)) (is_at q n s x)
      (λ e. find_here q n s (x ∷ xs ++ ys) x (xs ++ ys) refl e ∙ sym (find_here q n s (x ∷ xs) x xs refl e))
      (λ e.
      find_on q n s (x ∷ xs ++ ys) x (xs ++ ys) refl e
      ∙ found_before xs ys h
      ∙ sym (find_on q n s (x ∷ xs) x xs refl e))

  -- ---- in a list that ascends

  -- there is none whose key is not above what comes before
  pub found_low : (b : ℕ) (l : List Instance) → Up key_of b l → key q n s ≤ b → forwarded_to q n s l ≡ none
  found_low b [] up low = find_none q n s [] refl
  found_low b (x ∷ l) up low =
      find_on q n s (x ∷ l) x l refl
      (not_at q n s x (λ i j k. let same : key_of x ≡ key q n s = rw (i, j, k) in omega (arith, same, low, up.0)))
      ∙ found_low (key_of x) l up.1 (omega (arith, low, up.0))

found_own : (x : Instance) (l : List Instance) → forwarded_to x.procedure x.number x.service (x ∷ l) ≡ some x.address
found_own x l = find_here _ _ _ (x ∷ l) x l refl (is_at_lem _ _ _ x refl refl refl)

-- the first of a list in which the instance x is found has no higher key
first_low :
    (x y : Instance) (b : ℕ) (ys : List Instance) → Up key_of b (y ∷ ys) →
    forwarded_to x.procedure x.number x.service (y ∷ ys) ≡ some x.address → key_of y ≤ key_of x
first_low x y b ys up found =
    by_bool (key_of y ≤ key_of x) (ltb (key_of x) (key_of y))
    (λ e.
    let less = ltb-true (key_of x) (key_of y) e in
    absurd (some_none (sym found ∙ found_low _ _ _ (key_of x) (y ∷ ys) (less, up.1) (omega arith))))
    (λ e. ltb-false (key_of x) (key_of y) e)

-- lists in which the same is found everywhere
abbrev pub FoundSame : List Instance → List Instance → Type 0
FoundSame xs ys = (q n s : ℕ) → forwarded_to q n s xs ≡ forwarded_to q n s ys

module _ (b : ℕ) (x y : Instance) (xs ys : List Instance) (ups : Up key_of b (x ∷ xs)) (upt : Up key_of b (y ∷ ys)) (smallx : Small x)
    (smally : Small y) (same : FoundSame (x ∷ xs) (y ∷ ys)) where
  keys_same : (x.procedure ≡ y.procedure) × (x.number ≡ y.number) × (x.service ≡ y.service)
  keys_same =
      let low = first_low x y b ys upt (sym (same _ _ _) ∙ found_own x xs) in
      let high = first_low y x b xs ups (same _ _ _ ∙ found_own y ys) in
      key_same _ _ _ _ _ _ smallx.0 smally.0 smallx.1 smally.1 (omega (arith, low, high))

  -- the first is the same
  firsts_same : x ≡ y
  firsts_same =
      let keys = keys_same in
      let there : forwarded_to x.procedure x.number x.service (y ∷ ys) ≡ some y.address =
      rw (keys.0, keys.1, keys.2) (found_own y ys) in
      let address : x.address ≡ y.address = some_same _ _ (sym (found_own x xs) ∙ same _ _ _ ∙ there) in
      ap (λ (q : ℕ). instance_of q x.number x.service x.address) keys.0
      ∙ ap (λ (n : ℕ). instance_of y.procedure n x.service x.address) keys.1
      ∙ ap (λ (s : ℕ). instance_of y.procedure y.number s x.address) keys.2
      ∙ ap (λ (a : Address). instance_of y.procedure y.number y.service a) address

  -- and so is the rest
  rests_found : FoundSame xs ys
  rests_found q n s =
      by_bool (forwarded_to q n s xs ≡ forwarded_to q n s ys) (is_at q n s x)
      (λ e.
      let is = at_is q n s x e in
      let here : key q n s ≡ key_of x = rw (sym is.0, sym is.1, sym is.2) in
      let there : key_of x ≡ key_of y = ap key_of firsts_same in
      found_low q n s (key_of x) xs ups.1 (omega (arith, here))
      ∙ sym (found_low q n s (key_of y) ys upt.1 (omega (arith, here, there))))
      (λ e.
      sym (find_on q n s (x ∷ xs) x xs refl e)
      ∙ same q n s
      ∙ find_on q n s (y ∷ ys) y ys refl (ap (is_at q n s) (sym firsts_same) ∙ e))

-- two lists that ascend and in which the same is found are one list
pub found_same :
    (b : ℕ) (xs ys : List Instance) → Up key_of b xs → Up key_of b ys → Each Small xs → Each Small ys → FoundSame xs ys → xs ≡ ys
found_same b [] [] ups upt smalls smallt same = refl
found_same b [] (y ∷ ys) ups upt smalls smallt same =
    absurd (some_none (sym (found_own y ys) ∙ sym (same _ _ _) ∙ find_none _ _ _ [] refl))
found_same b (x ∷ xs) [] ups upt smalls smallt same =
    absurd (some_none (sym (found_own x xs) ∙ same _ _ _ ∙ find_none _ _ _ [] refl))
found_same b (x ∷ xs) (y ∷ ys) ups upt smalls smallt same =
    let one = firsts_same b x y xs ys ups upt smalls.0 smallt.0 same in
    let rest = rests_found b x y xs ys ups upt smalls.0 smallt.0 same in
    let up : Up key_of (key_of x) ys = rw one upt.1 in
    ap (λ (l : List Instance). x ∷ l) (found_same (key_of x) xs ys ups.1 up smalls.1 smallt.1 rest)
    ∙ ap (λ (i : Instance). i ∷ ys) one

-- ---- what a selection says of a number and a service

pub selected_is :
    (sel : Selection) (n s : ℕ) →
    selected sel n s ≡ pick (named every_number sel.number n) (named every_service sel.service s) false
unfolding selected
selected_is sel n s = rw (pick_last (named every_service sel.service s))
