-- What is held of a procedure, of lists of instances that are filtered and merged: its instances, with zeros where a record carries no
-- meaning. Assumes nothing.
use Prim.Native.Nat.{ℕ, suc, ◌-◌, ◌<◌, ◌≤◌}
use mathlib.Core.Path.{◌≡◌, refl, sym, ap, ◌∙◌}
use mathlib.Core.Bool.{Bool, true, false, not, false≢true}
use mathlib.Core.List.{List, [], ◌∷◌, map}
use native.Mathlib.Omega.{arith}
use lib.ListN.{length, length-map}
use lib.Dec.{ltb}
use borrow.Author.Tests.{eq-eqb, ltb-true, ltb-false}
use Rattle.laws.specs.Those.{those}
use Rattle.laws.proofs.Picks.{by_bool}
use Rattle.laws.proofs.Thoses.{those_take, those_skip, those_none, those_sub}
use Rattle.laws.proofs.Eaches.{Each, each_map, Up, up_those, up_map}
use Rattle.numbers.specs.Address.{tidy_address}
use Rattle.numbers.specs.declared.address.Address.{Address}
use Rattle.instances.specs.Instance.{key_of, chosen, spared}
use Rattle.instances.specs.Run.{instance_at, merged, is_of, count_of}
use Rattle.instances.specs.declared.instance.Instance.{Instance}
use Rattle.instances.specs.declared.instance.Selection.{Selection}
use Rattle.instances.specs.declared.places.Place.{Place}
use Rattle.instances.proofs.Choices.{concerns_is, chosen_is, chosen_of}
use Rattle.instances.proofs.Merged.{nil_merged, merged_nil, merge_lower, merge_higher, gone_merged}
use Rattle.forms.proofs.Fits.{tidy_instance, tidy_twice}

-- the instances of a procedure, with zeros where a record carries no meaning
unfoldable pub held_of : ℕ → List Instance → List Instance
held_of procedure is = map tidy_instance (those (is_of procedure) is)

-- ---- those of a list

module _ {A : Type 0} where
  pub those_yes : (f : A → Bool) (x : A) (l : List A) → f x ≡ true → those f (x ∷ l) ≡ x ∷ those f l
  those_yes f x l e = those_take f (x ∷ l) l x refl e

  pub those_no : (f : A → Bool) (x : A) (l : List A) → f x ≡ false → those f (x ∷ l) ≡ those f l
  those_no f x l e = those_skip f (x ∷ l) l x refl e

  pub those_nil : (f : A → Bool) → those f [] ≡ []
  those_nil f = those_none f [] refl

  -- two tests, one after the other
  pub those_both : (f g : A → Bool) (l : List A) → those f (those g l) ≡ those g (those f l)
  those_both f g [] = rw (those_nil g, those_nil f, those_nil g)
  those_both f g (x ∷ l) =
      let P : Type 0 = those f (those g (x ∷ l)) ≡ those g (those f (x ∷ l)) in
      by_bool P (f x)
      (λ e. by_bool P (g x)
      (λ d. rw (those_yes g x l d, those_yes f x l e, those_yes f x (those g l) e, those_yes g x (those f l) d)
      (ap (λ m. x ∷ m) (those_both f g l)))
      (λ d. rw (those_no g x l d, those_yes f x l e, those_no g x (those f l) d) (those_both f g l)))
      (λ e. by_bool P (g x)
      (λ d. rw (those_yes g x l d, those_no f x l e, those_no f x (those g l) e) (those_both f g l))
      (λ d. rw (those_no g x l d, those_no f x l e) (those_both f g l)))

  pub those_same : (f g : A → Bool) → ((x : A) → f x ≡ g x) → (l : List A) → those f l ≡ those g l
  those_same f g h [] = those_nil f ∙ sym (those_nil g)
  those_same f g h (x ∷ l) =
      by_bool (those f (x ∷ l) ≡ those g (x ∷ l)) (f x)
      (λ e. those_yes f x l e ∙ (ap (λ m. x ∷ m) (those_same f g h l) ∙ sym (those_yes g x l (sym (h x) ∙ e))))
      (λ e. those_no f x l e ∙ (those_same f g h l ∙ sym (those_no g x l (sym (h x) ∙ e))))

  pub those_all : (f : A → Bool) (l : List A) → Each (λ x. f x ≡ true) l → those f l ≡ l
  those_all f [] h = those_nil f
  those_all f (x ∷ l) h = those_yes f x l h.0 ∙ ap (λ m. x ∷ m) (those_all f l h.1)

pub those_map : {A B : Type 0} (f : B → Bool) (g : A → B) (l : List A) → those f (map g l) ≡ map g (those (λ x. f (g x)) l)
those_map f g [] = rw (those_nil f, those_nil (λ x. f (g x)))
those_map f g (x ∷ l) =
    by_bool (those f (map g (x ∷ l)) ≡ map g (those (λ x. f (g x)) (x ∷ l))) (f (g x))
    (λ e. those_yes f (g x) (map g l) e ∙ (ap (λ m. g x ∷ m) (those_map f g l) ∙ ap (map g) (sym (those_yes (λ x. f (g x)) x l e))))
    (λ e. those_no f (g x) (map g l) e ∙ (those_map f g l ∙ ap (map g) (sym (those_no (λ x. f (g x)) x l e))))

pub map_same : {A B : Type 0} (f g : A → B) (l : List A) → Each (λ x. f x ≡ g x) l → map f l ≡ map g l
map_same f g [] h = refl
map_same f g (x ∷ l) h = rw (h.0, map_same f g l h.1)

pub map_map : {A B C : Type 0} (f : B → C) (g : A → B) (l : List A) → map f (map g l) ≡ map (λ x. f (g x)) l
map_map f g [] = refl
map_map f g (x ∷ l) = ap (λ m. f (g x) ∷ m) (map_map f g l)

pub each_any : {A : Type 0} (P : A → Type 0) → ((x : A) → P x) → (l : List A) → Each P l
each_any P h [] = tt
each_any P h (x ∷ l) = (h x, each_any P h l)

-- ---- two lists as one

merged_low : (x y : Instance) (xs ys : List Instance) → key_of y < key_of x → merged (x ∷ xs) (y ∷ ys) ≡ y ∷ merged (x ∷ xs) ys
merged_low x y xs ys h = merge_lower (x ∷ xs) (y ∷ ys) y ys refl x xs refl h

merged_high : (x y : Instance) (xs ys : List Instance) → key_of x ≤ key_of y → merged (x ∷ xs) (y ∷ ys) ≡ x ∷ merged xs (y ∷ ys)
merged_high x y xs ys h = merge_higher (x ∷ xs) (y ∷ ys) x xs refl y ys refl h

-- of two keys, one is not above the other
either : {P : Type 0} (m n : ℕ) → (m < n → P) → (n ≤ m → P) → P
either {P} m n f g = by_bool P (ltb m n) (λ e. f (ltb-true m n e)) (λ e. g (ltb-false m n e))

pub merged_head : (x : Instance) (xs ys : List Instance) (b : ℕ) → key_of x ≤ suc b → Up key_of b ys → merged (x ∷ xs) ys ≡ x ∷ merged xs ys
merged_head x xs [] b h u = merged_nil (x ∷ xs) ∙ ap (λ m. x ∷ m) (sym (merged_nil xs))
merged_head x xs (y ∷ ys) b h u = merged_high x y xs ys (omega (arith, u.0))

-- those that all pass, merged with others
pub those_merged :
    (f : Instance → Bool) (b : ℕ) (xs ys : List Instance) → Each (λ x. f x ≡ true) xs → Up key_of b ys →
    those f (merged xs ys) ≡ merged xs (those f ys)
those_merged f b [] ys h u = rw (nil_merged ys, nil_merged (those f ys))
those_merged f b (x ∷ xs) [] h u = rw (merged_nil (x ∷ xs), those_nil f, merged_nil (x ∷ xs)) (those_all f (x ∷ xs) h)
those_merged f b (x ∷ xs) (y ∷ ys) h u =
    either (key_of y) (key_of x)
    (λ l. by_bool (those f (merged (x ∷ xs) (y ∷ ys)) ≡ merged (x ∷ xs) (those f (y ∷ ys))) (f y)
    (λ e.
    rw (merged_low x y xs ys l, those_yes f y (merged (x ∷ xs) ys) e, those_yes f y ys e, merged_low x y xs (those f ys) l)
    (ap (λ m. y ∷ m) (those_merged f (key_of y) (x ∷ xs) ys h u.1)))
    (λ e.
    rw (merged_low x y xs ys l, those_no f y (merged (x ∷ xs) ys) e, those_no f y ys e)
    (those_merged f (key_of y) (x ∷ xs) ys h u.1)))
    (λ l.
    let low : Up key_of (key_of y - 1) (y ∷ ys) = (omega (arith, u.0), u.1) in
    let up = up_those key_of f (key_of y - 1) (y ∷ ys) low in
    rw (
      merged_high x y xs ys l,
      those_yes f x (merged xs (y ∷ ys)) h.0,
      merged_head x xs (those f (y ∷ ys)) (key_of y - 1) (omega (arith, u.0)) up,
    )
    (ap (λ m. x ∷ m) (those_merged f b xs (y ∷ ys) h.1 u)))

map_merged : (xs ys : List Instance) → map tidy_instance (merged xs ys) ≡ merged (map tidy_instance xs) (map tidy_instance ys)
map_merged [] ys = ap (map tidy_instance) (nil_merged ys) ∙ sym (nil_merged (map tidy_instance ys))
map_merged (x ∷ xs) [] = ap (map tidy_instance) (merged_nil (x ∷ xs)) ∙ sym (merged_nil (map tidy_instance (x ∷ xs)))
map_merged (x ∷ xs) (y ∷ ys) =
    let t : List Instance → List Instance = map tidy_instance in
    either (key_of y) (key_of x)
    (λ l.
    ap t (merged_low x y xs ys l)
    ∙ (ap (λ m. tidy_instance y ∷ m) (map_merged (x ∷ xs) ys) ∙ sym (merged_low (tidy_instance x) (tidy_instance y) (t xs) (t ys) l)))
    (λ l.
    ap t (merged_high x y xs ys l)
    ∙ (ap (λ m. tidy_instance x ∷ m) (map_merged xs (y ∷ ys)) ∙ sym (merged_high (tidy_instance x) (tidy_instance y) (t xs) (t ys) l)))

-- ---- what is held

-- a selection goes by procedure, number and service
chosen_tidy : (sel : Selection) (x : Instance) → chosen sel (tidy_instance x) ≡ chosen sel x
chosen_tidy sel x = chosen_of sel (tidy_instance x) ∙ sym (chosen_of sel x)

module _ (q : ℕ) where
  pub held_twice : (is : List Instance) → held_of q (held_of q is) ≡ held_of q is
  unfolding held_of
  held_twice is =
      let l = those (is_of q) is in
      ap (map tidy_instance) (those_map (is_of q) tidy_instance l)
      ∙ (map_map tidy_instance tidy_instance (those (is_of q) l)
      ∙ (map_same (λ x. tidy_instance (tidy_instance x)) tidy_instance (those (is_of q) l) (each_any _ tidy_twice (those (is_of q) l))
      ∙ ap (map tidy_instance) (those_sub (is_of q) (is_of q) (λ x e. e) is)))

  pub held_up : (b : ℕ) (is : List Instance) → Up key_of b is → Up key_of b (held_of q is)
  unfolding held_of
  held_up b is u = up_map key_of tidy_instance b (those (is_of q) is) (up_those key_of (is_of q) b is u)

  pub held_count : (is : List Instance) → length (held_of q is) ≡ count_of q is
  unfolding held_of
  held_count is = length-map (those (is_of q) is) tidy_instance

  pub held_spared : (sel : Selection) (is : List Instance) → held_of q (those (spared sel) is) ≡ those (spared sel) (held_of q is)
  unfolding held_of
  held_spared sel is =
      ap (map tidy_instance) (those_both (is_of q) (spared sel) is)
      ∙ sym (those_map (spared sel) tidy_instance (those (is_of q) is)
      ∙ ap (map tidy_instance)
      (those_same (λ x. spared sel (tidy_instance x)) (spared sel) (λ x. ap not (chosen_tidy sel x)) (those (is_of q) is)))

  pub held_merged :
      (b : ℕ) (xs ys : List Instance) → Each (λ x. is_of q x ≡ true) xs → Up key_of b ys →
      held_of q (merged xs ys) ≡ merged (map tidy_instance xs) (held_of q ys)
  unfolding held_of
  held_merged b xs ys h u = ap (map tidy_instance) (those_merged (is_of q) b xs ys h u) ∙ map_merged xs (those (is_of q) ys)

  pub held_past : (xs ys : List Instance) → Each (λ x. is_of q x ≡ false) xs → held_of q (merged xs ys) ≡ held_of q ys
  unfolding held_of
  held_past xs ys h = ap (map tidy_instance) (gone_merged (is_of q) xs ys h)

  -- instances of other procedures are not touched
  pub held_kept :
      (f : Instance → Bool) → ((x : Instance) → is_of q x ≡ true → f x ≡ true) → (is : List Instance) → held_of q (those f is) ≡ held_of q is
  unfolding held_of
  held_kept f so is = ap (map tidy_instance) (those_sub (is_of q) f so is)

  pub held_dropped :
      (f : Instance → Bool) → ((x : Instance) → f x ≡ true → is_of q x ≡ false) → (is : List Instance) → held_of q (those f is) ≡ []
  unfolding held_of
  held_dropped f so is = ap (map tidy_instance) (those_both (is_of q) f is ∙ gone is)
    where
      gone : (is : List Instance) → those f (those (is_of q) is) ≡ []
      gone [] = ap (those f) (those_nil (is_of q)) ∙ those_nil f
      gone (x ∷ is) =
          by_bool (those f (those (is_of q) (x ∷ is)) ≡ []) (is_of q x)
          (λ e.
          rw (those_yes (is_of q) x is e)
          (by_bool (those f (x ∷ those (is_of q) is) ≡ []) (f x)
          (λ d. absurd (false≢true (sym (so x d) ∙ e)))
          (λ d. those_no f x (those (is_of q) is) d ∙ gone is)))
          (λ e. rw (those_no (is_of q) x is e) (gone is))

-- ---- what a selection chooses

-- a selection chooses of its procedure alone
chosen_own : (sel : Selection) (x : Instance) → chosen sel x ≡ true → is_of sel.procedure x ≡ true
chosen_own sel x h = eq-eqb x.procedure sel.procedure (concerns_is sel x.procedure (chosen_is sel x h).0)

pub held_chosen : (sel : Selection) (is : List Instance) → length (those (chosen sel) (held_of sel.procedure is)) ≡ length (those (chosen sel) is)
unfolding held_of
held_chosen sel is =
    let own : List Instance = those (is_of sel.procedure) is in
    ap length
    (those_map (chosen sel) tidy_instance own
    ∙ ap (map tidy_instance) (those_same (λ x. chosen sel (tidy_instance x)) (chosen sel) (chosen_tidy sel) own))
    ∙ (length-map (those (chosen sel) own) tidy_instance ∙ ap length (those_sub (chosen sel) (is_of sel.procedure) (chosen_own sel) is))

-- ---- instances made of places

pub made_of : (q : ℕ) (a : Address) (ws : List Place) → Each (λ x. is_of q x ≡ true) (map (instance_at q a) ws)
made_of q a ws = each_map (λ x. is_of q x ≡ true) (instance_at q a) ws (each_any _ (λ w. eq-eqb q q refl) ws)

pub made_tidy :
    (q : ℕ) (a : Address) (ws : List Place) →
    map tidy_instance (map (instance_at q (tidy_address a)) ws) ≡ map tidy_instance (map (instance_at q a) ws)
made_tidy q a [] = refl
made_tidy q a (w ∷ ws) = rw (tidy_twice (instance_at q a w)) (ap (λ m. tidy_instance (instance_at q a w) ∷ m) (made_tidy q a ws))
