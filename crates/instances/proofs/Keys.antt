-- Keys: one number for procedure, number and service; ascending lists of instances by their keys. Assumes nothing.
use Prim.Native.Nat.{ℕ, suc, ◌<◌, ◌≤◌}
use mathlib.Core.Logic.{◌⊎◌, inl, inr, ⊎_elim}
use mathlib.Core.Path.{◌≡◌, refl, sym, ◌∙◌}
use mathlib.Core.Bool.{true}
use mathlib.Core.List.{List, [], ◌∷◌}
use native.Mathlib.Nat.{eq-or-lt_of_le}
use native.Mathlib.Omega.{arith}
use lib.Dec.{ltb}
use borrow.Author.Tests.{lt-ltb, le-ltb, ltb-true, ltb-false}
use Rattle.laws.proofs.Picks.{pick_ind, by_bool}
use Rattle.laws.proofs.Tests.{both_hold}
use Rattle.laws.proofs.Eaches.{Each, Up}
use Rattle.instances.specs.Instance.{key, key_of}
use Rattle.instances.specs.Run.{merged, ascending}
use Rattle.instances.specs.declared.instance.Instance.{Instance}

pub key_more : (q a c d : ℕ) → c < d → key q a c < key q a d
unfolding key
key_more q a c d h = omega arith

pub key_next : (q a : ℕ) → key q a 255 ≤ key q (suc a) 0
unfolding key
key_next q a = omega arith

pub key_top : (q a c : ℕ) → c ≤ 255 → key q a c ≤ key q a 255
unfolding key
key_top q a c h = omega arith

-- an earlier procedure, and an earlier number of a procedure, has the lower key
pub key_procedure : (q a c r b d : ℕ) → a < 256 → c < 256 → q < r → key q a c < key r b d
unfolding key
key_procedure q a c r b d ha hc h = omega arith

pub key_number : (q a c b d : ℕ) → c < 256 → a < b → key q a c < key q b d
unfolding key
key_number q a c b d hc h = omega arith

-- which of two keys is lower, by the first of the three that differs
module _ (q a c r b d : ℕ) (ha : a < 256) (hc : c < 256) (hb : b < 256) (hd : d < 256) where
  abbrev mine : ℕ
  mine = key q a c

  abbrev yours : ℕ
  yours = key r b d

  pub before_procedure : (q ≡ r → ⊥) → ltb q r ≡ ltb (key q a c) (key r b d)
  before_procedure other =
      by_bool (ltb q r ≡ ltb mine yours) (ltb q r)
      (λ h. h ∙ sym (lt-ltb mine yours (key_procedure q a c r b d ha hc (ltb-true q r h))))
      (λ h.
      let more : r < q = omega (arith, ltb-false q r h, other) in
      h ∙ sym (le-ltb mine yours (omega (arith, key_procedure r b d q a c hb hd more))))

  pub before_number : q ≡ r → (a ≡ b → ⊥) → ltb a b ≡ ltb (key q a c) (key r b d)
  unfolding key
  before_number same other =
      by_bool (ltb a b ≡ ltb mine yours) (ltb a b)
      (λ h. h ∙ sym (lt-ltb mine yours (omega (arith, ltb-true a b h, same))))
      (λ h. h ∙ sym (le-ltb mine yours (omega (arith, ltb-false a b h, other, same))))

  pub before_service : q ≡ r → a ≡ b → ltb c d ≡ ltb (key q a c) (key r b d)
  unfolding key
  before_service same equal =
      by_bool (ltb c d ≡ ltb mine yours) (ltb c d)
      (λ h. h ∙ sym (lt-ltb mine yours (omega (arith, ltb-true c d h, same, equal))))
      (λ h. h ∙ sym (le-ltb mine yours (omega (arith, ltb-false c d h, same, equal))))

-- a service has a code above 0, and so the key
pub key_some : (q a c : ℕ) → (c ≡ 0 → ⊥) → 0 < key q a c
unfolding key
key_some q a c h = omega arith

-- the lower key has the earlier procedure; of the same the earlier number; of the same the earlier service
pub key_earlier :
    (q a c r b d : ℕ) → b < 256 → d < 256 → key q a c < key r b d →
    (q < r) ⊎ ((q ≡ r) × ((a < b) ⊎ ((a ≡ b) × (c < d))))
unfolding key
key_earlier q a c r b d hb hd h =
    ⊎_elim
    (λ (same : q ≡ r).
    inr (
      same,
      ⊎_elim
          (λ (equal : a ≡ b). inr (equal, omega arith))
          (λ (less : a < b). inl less)
          (eq-or-lt_of_le (omega arith)),
    ))
    (λ (less : q < r). inl less)
    (eq-or-lt_of_le (omega arith))

-- a procedure's keys begin with that of no number and service, and who has one above it is of no earlier procedure
pub key_first : (q r a c : ℕ) → q ≤ r → key q 0 0 ≤ key r a c
unfolding key
key_first q r a c h = omega arith

pub key_least : (q r a c below : ℕ) → a < 256 → c < 256 → key q 0 0 ≤ below → below < key r a c → q ≤ r
unfolding key
key_least q r a c below ha hc low above = omega arith

abbrev pub Small : Instance → Type 0
Small x = (x.number < 256) × (x.service < 256)

pub key_same :
    (q a c r b d : ℕ) → a < 256 → b < 256 → c < 256 → d < 256 → key q a c ≡ key r b d → (q ≡ r) × (a ≡ b) × (c ≡ d)
unfolding key
key_same q a c r b d ha hb hc hd e = (omega arith, omega arith, omega arith)

-- ---- ascending

pub up_of : (below : ℕ) (l : List Instance) → ascending below l ≡ true → Up key_of below l
unfolding ascending
up_of below [] h = tt
up_of below (x ∷ l) h =
    let t = both_hold (ltb below (key_of x)) (ascending (key_of x) l) h in
    (ltb-true below (key_of x) t.0, up_of (key_of x) l t.1)

pub up_ascending : (below : ℕ) (l : List Instance) → Up key_of below l → ascending below l ≡ true
unfolding ascending
up_ascending below [] h = refl
up_ascending below (x ∷ l) h = rw (lt-ltb below (key_of x) h.0, up_ascending (key_of x) l h.1)

-- ---- two lists as one

pub each_merged : (P : Instance → Type 0) (xs ys : List Instance) → Each P xs → Each P ys → Each P (merged xs ys)
unfolding merged
each_merged P [] ys h k = k
each_merged P (x ∷ xs) [] h k = h
each_merged P (x ∷ xs) (y ∷ ys) h k =
    pick_ind (Each P) (ltb (key_of y) (key_of x)) {x = y ∷ merged (x ∷ xs) ys} {y = x ∷ merged xs (y ∷ ys)}
    (λ _. (k.0, each_merged P (x ∷ xs) ys h k.1))
    (λ _. (h.0, each_merged P xs (y ∷ ys) h.1 k))

-- of two lists that ascend and have no key in common
pub up_merged :
    (P Q : Instance → Type 0) → ((x y : Instance) → P x → Q y → key_of x ≡ key_of y → ⊥) →
    (b : ℕ) (xs ys : List Instance) → Each P xs → Each Q ys → Up key_of b xs → Up key_of b ys →
    Up key_of b (merged xs ys)
unfolding merged
up_merged P Q apart b [] ys ps qs h k = k
up_merged P Q apart b (x ∷ xs) [] ps qs h k = h
up_merged P Q apart b (x ∷ xs) (y ∷ ys) ps qs h k =
    pick_ind (Up key_of b) (ltb (key_of y) (key_of x)) {x = y ∷ merged (x ∷ xs) ys} {y = x ∷ merged xs (y ∷ ys)}
    (λ e. (k.0, up_merged P Q apart (key_of y) (x ∷ xs) ys ps qs.1 (ltb-true (key_of y) (key_of x) e, h.1) k.1))
    (λ e.
    let other = apart x y ps.0 qs.0 in
    let above : key_of x < key_of y = omega (arith, ltb-false (key_of y) (key_of x) e, other) in
    (h.0, up_merged P Q apart (key_of x) xs (y ∷ ys) ps.1 qs h.1 (above, k.1)))
