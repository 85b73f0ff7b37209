-- How many instances of a procedure there are: of a list met one by one, of two lists as one, after an activation. Assumes nothing.
use Prim.Native.Nat.{ℕ, zero, suc, ◌+◌, ◌<◌}
use mathlib.Core.Path.{◌≡◌, refl, ap, ◌∙◌}
use mathlib.Core.Bool.{true, false}
use mathlib.Core.List.{List, [], ◌∷◌, map}
use native.Mathlib.Omega.{arith}
use lib.ListN.{length}
use lib.Dec.{ltb, eqb}
use borrow.Author.Tests.{eq-eqb, ne_eqb}
use Rattle.laws.specs.Pick.{pick}
use Rattle.laws.proofs.Picks.{pick_ind, by_bool}
use Rattle.laws.proofs.Thoses.{those_take, those_skip, those_none}
use Rattle.laws.proofs.Eaches.{Each}
use Rattle.numbers.specs.declared.address.Address.{Address}
use Rattle.profile.specs.declared.profile.Profile.{Profile}
use Rattle.instances.specs.Instance.{key_of, chosen, spared}
use Rattle.instances.specs.Places.{places_of}
use Rattle.instances.specs.Run.{deactivated, instance_at, merged, activated, is_of, count_of}
use Rattle.instances.specs.declared.instance.Instance.{Instance}
use Rattle.instances.specs.declared.instance.Selection.{Selection}
use Rattle.instances.specs.declared.places.Place.{Place}
use Rattle.instances.proofs.Choices.{kept_test, gone_test}

-- ---- one more, of this procedure or of another

module _ (q : ℕ) (l m : List Instance) (x : Instance) (e : l ≡ x ∷ m) where
  pub count_this : x.procedure ≡ q → count_of q l ≡ suc (count_of q m)
  count_this h = ap length (those_take (is_of q) l m x e (eq-eqb x.procedure q h))

  pub count_other : (x.procedure ≡ q → ⊥) → count_of q l ≡ count_of q m
  count_other h = ap length (those_skip (is_of q) l m x e (ne_eqb x.procedure q h))

-- ---- of a deactivation, met one by one

module _ (sel : Selection) (is js : List Instance) (x : Instance) (e : is ≡ x ∷ js) where
  pub after_chosen : (q : ℕ) → chosen sel x ≡ true → count_of q (deactivated sel is) ≡ count_of q (deactivated sel js)
  after_chosen q h = ap (count_of q) (those_skip (spared sel) is js x e (gone_test _ h))

  pub after_one :
      (q : ℕ) → x.procedure ≡ q → chosen sel x ≡ false →
      count_of q (deactivated sel is) ≡ suc (count_of q (deactivated sel js))
  after_one q same h =
      count_this q (deactivated sel is) (deactivated sel js) x (those_take (spared sel) is js x e (kept_test _ h)) same

  pub after_other :
      (q : ℕ) → (x.procedure ≡ q → ⊥) → count_of q (deactivated sel is) ≡ count_of q (deactivated sel js)
  after_other q other =
      by_bool (count_of q (deactivated sel is) ≡ count_of q (deactivated sel js)) (chosen sel x)
      (after_chosen q)
      (λ h. count_other q (deactivated sel is) (deactivated sel js) x (those_take (spared sel) is js x e (kept_test _ h)) other)

-- ---- of two lists as one

-- what one more adds
abbrev pub one : ℕ → Instance → ℕ
one q x = pick (is_of q x) 1 0

pub count_cons : (q : ℕ) (x : Instance) (xs : List Instance) → count_of q (x ∷ xs) ≡ one q x + count_of q xs
count_cons q x xs =
    by_bool (count_of q (x ∷ xs) ≡ one q x + count_of q xs) (is_of q x)
    (λ h. rw h (omega (arith, ap length (those_take (is_of q) (x ∷ xs) xs x refl h))))
    (λ h. rw h (omega (arith, ap length (those_skip (is_of q) (x ∷ xs) xs x refl h))))

pub count_merged : (q : ℕ) (xs ys : List Instance) → count_of q (merged xs ys) ≡ count_of q xs + count_of q ys
unfolding merged
count_merged q [] ys = omega (arith, ap length (those_none (is_of q) [] refl))
count_merged q (x ∷ xs) [] = omega (arith, ap length (those_none (is_of q) [] refl))
count_merged q (x ∷ xs) (y ∷ ys) =
    let left = count_merged q (x ∷ xs) ys in
    let right = count_merged q xs (y ∷ ys) in
    pick_ind (λ l. count_of q l ≡ count_of q (x ∷ xs) + count_of q (y ∷ ys)) (ltb (key_of y) (key_of x))
    {x = y ∷ merged (x ∷ xs) ys}
    {y = x ∷ merged xs (y ∷ ys)}
    (λ _. omega (arith, left, count_cons q y (merged (x ∷ xs) ys), count_cons q y ys))
    (λ _. omega (arith, right, count_cons q x (merged xs (y ∷ ys)), count_cons q x xs))

pub count_made :
    (q : ℕ) (address : Address) (ws : List Place) → count_of q (map (instance_at q address) ws) ≡ length ws
count_made q address [] = ap length (those_none (is_of q) [] refl)
count_made q address (w ∷ ws) =
    count_this q _ (map (instance_at q address) ws) (instance_at q address w) refl refl ∙ ap suc (count_made q address ws)

-- ---- after an activation: the places that are selected, and the instances that are not, whatever the address is
pub count_activated :
    (p : Profile) (sel : Selection) (address : Address) (is : List Instance) →
    count_of sel.procedure (activated p sel address is) ≡
    length (places_of p sel) + count_of sel.procedure (deactivated sel is)
count_activated p sel address is =
    let q = sel.procedure in
    let both = count_merged q (map (instance_at q address) (places_of p sel)) (deactivated sel is) in
    omega (arith, both, count_made q address (places_of p sel))

-- ---- every instance is of one of three procedures

three : (q : ℕ) → q < 3 → pick (eqb q 0) 1 0 + pick (eqb q 1) 1 0 + pick (eqb q 2) 1 0 ≡ 1
three zero h = refl
three (suc zero) h = refl
three (suc (suc zero)) h = refl
three (suc (suc (suc q))) h = absurd (omega arith)

pub all_three : (l : List Instance) → Each (λ x. x.procedure < 3) l → length l ≡ count_of 0 l + count_of 1 l + count_of 2 l
all_three [] h =
    let none : (q : ℕ) → count_of q [] ≡ 0 = λ q. ap length (those_none (is_of q) [] refl) in
    omega (arith, none 0, none 1, none 2)
all_three (x ∷ l) h =
    omega (arith, all_three l h.1, three x.procedure h.0, count_cons 0 x l, count_cons 1 x l, count_cons 2 x l)
