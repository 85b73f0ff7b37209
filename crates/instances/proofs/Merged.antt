-- Two ascending lists as one: with nothing on either side, which of two heads comes first, and how long it is. Assumes nothing.
use Prim.Native.Nat.{◌+◌, ◌<◌, ◌≤◌}
use mathlib.Core.Path.{◌≡◌, refl, sym, ap, ◌∙◌}
use mathlib.Core.Bool.{Bool, false}
use mathlib.Core.List.{List, [], ◌∷◌}
use native.Mathlib.Omega.{arith}
use lib.ListN.{length}
use lib.Dec.{ltb}
use borrow.Author.Tests.{lt-ltb, le-ltb}
use Rattle.laws.specs.Those.{those}
use Rattle.laws.proofs.Picks.{pick_ind, by_bool}
use Rattle.laws.proofs.Eaches.{Each}
use Rattle.laws.proofs.Thoses.{those_take, those_skip, those_none}
use Rattle.instances.specs.Instance.{key_of}
use Rattle.instances.specs.Run.{merged}
use Rattle.instances.specs.declared.instance.Instance.{Instance}

-- ---- with nothing

-- where the first list has none, the second is all there is
pub nil_merged : (ys : List Instance) → merged [] ys ≡ ys
unfolding merged
nil_merged ys = refl

-- and the other way round
pub merged_nil : (xs : List Instance) → merged xs [] ≡ xs
unfolding merged
merged_nil [] = refl
merged_nil (x ∷ xs) = refl

-- ---- the first of the two lists as one

module _ (xs ys : List Instance) where
  module _ (y : Instance) (vs : List Instance) (on : ys ≡ y ∷ vs) where
    -- there is nothing else
    pub merge_rest : xs ≡ [] → merged xs ys ≡ y ∷ merged xs vs
    merge_rest none = rw (none, on, nil_merged (y ∷ vs), nil_merged vs)

    -- its key is below that of the other
    pub merge_lower : (x : Instance) (us : List Instance) → xs ≡ x ∷ us → key_of y < key_of x → merged xs ys ≡ y ∷ merged xs vs
    unfolding merged
    merge_lower x us more h = rw (more, on, lt-ltb (key_of y) (key_of x) h)

  module _ (x : Instance) (us : List Instance) (more : xs ≡ x ∷ us) where
    -- there is nothing else
    pub merge_last : ys ≡ [] → merged xs ys ≡ x ∷ merged us ys
    merge_last none = rw (more, none, merged_nil (x ∷ us), merged_nil us)

    -- its key is not above that of the other
    pub merge_higher : (y : Instance) (vs : List Instance) → ys ≡ y ∷ vs → key_of x ≤ key_of y → merged xs ys ≡ x ∷ merged us ys
    unfolding merged
    merge_higher y vs on h = rw (more, on, le-ltb (key_of y) (key_of x) h)

-- ---- how long it is

-- none is lost
pub merged_length : (xs ys : List Instance) → length (merged xs ys) ≡ length xs + length ys
unfolding merged
merged_length [] ys = omega arith
merged_length (x ∷ xs) [] = omega arith
merged_length (x ∷ xs) (y ∷ ys) =
    let left = merged_length (x ∷ xs) ys in
    let right = merged_length xs (y ∷ ys) in
    pick_ind (λ l. length l ≡ length (x ∷ xs) + length (y ∷ ys)) (ltb (key_of y) (key_of x))
    {x = y ∷ merged (x ∷ xs) ys}
    {y = x ∷ merged xs (y ∷ ys)}
    (λ _. omega (arith, left))
    (λ _. omega (arith, right))

-- ---- those of the one list that pass a test

-- where none passes
pub those_gone : (f : Instance → Bool) (l : List Instance) → Each (λ x. f x ≡ false) l → those f l ≡ []
those_gone f [] h = those_none f [] refl
those_gone f (x ∷ l) h = those_skip f (x ∷ l) l x refl h.0 ∙ those_gone f l h.1

-- those of two lists as one, where none of the first passes
pub gone_merged : (f : Instance → Bool) (xs ys : List Instance) → Each (λ x. f x ≡ false) xs → those f (merged xs ys) ≡ those f ys
unfolding merged
gone_merged f [] ys h = refl
gone_merged f (x ∷ xs) [] h = those_gone f (x ∷ xs) h ∙ sym (those_none f [] refl)
gone_merged f (x ∷ xs) (y ∷ ys) h =
    pick_ind (λ l. those f l ≡ those f (y ∷ ys)) (ltb (key_of y) (key_of x)) {x = y ∷ merged (x ∷ xs) ys} {y = x ∷ merged xs (y ∷ ys)}
    (λ _. both (gone_merged f (x ∷ xs) ys h))
    (λ _. those_skip f (x ∷ merged xs (y ∷ ys)) (merged xs (y ∷ ys)) x refl h.0 ∙ gone_merged f xs (y ∷ ys) h.1)
  where
    both : those f (merged (x ∷ xs) ys) ≡ those f ys → those f (y ∷ merged (x ∷ xs) ys) ≡ those f (y ∷ ys)
    both e =
        by_bool (those f (y ∷ merged (x ∷ xs) ys) ≡ those f (y ∷ ys)) (f y)
        (λ k. those_take f _ (merged (x ∷ xs) ys) y refl k ∙ (ap (λ m. y ∷ m) e ∙ sym (those_take f _ ys y refl k)))
        (λ k. those_skip f _ (merged (x ∷ xs) ys) y refl k ∙ (e ∙ sym (those_skip f _ ys y refl k)))
