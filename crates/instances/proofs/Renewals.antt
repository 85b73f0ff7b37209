-- A run whose instances are changed where they stand, one place after the other. Assumes nothing.
use Prim.Native.Nat.{ℕ, zero, suc, min, ◌+◌, ◌-◌, ◌<◌, ◌≤◌}
use mathlib.Core.Path.{◌≡◌, refl, sym, ap, ◌∙◌}
use mathlib.Core.Bool.{true, false}
use mathlib.Core.List.{List, [], ◌∷◌, ◌++◌, map}
use native.Mathlib.Nat.{sub-zero, suc-sub-suc}
use native.Mathlib.Numerals.{add-one}
use native.Mathlib.Omega.{arith}
use lib.ListN.{length, take, get_or, set, replicate, length-map}
use lib.Seq.{length-take-le, set-get_or}
use Rattle.laws.proofs.Filled.{take_min}
use Rattle.numbers.specs.declared.address.Address.{Address}
use Rattle.instances.specs.Instance.{instance_of, blank_instance, chosen}
use Rattle.instances.specs.Places.{run_most}
use Rattle.instances.specs.Run.{instances_of, packed, renewed}
use Rattle.instances.specs.declared.instance.Instance.{Instance}
use Rattle.instances.specs.declared.instance.Selection.{Selection}
use Rattle.instances.specs.declared.run.Run.{Run}
use Rattle.instances.proofs.Runs.{outside, packed_done}

-- ---- an array of which the first n are changed, and the others made blank

module _ {A : Type 0} (f : A → A) (blank : A) where
  -- the array when its first i places are done
  abbrev pub redone : ℕ → ℕ → List A → List A
  redone n zero l = l
  redone n (suc i) [] = []
  redone zero (suc i) (x ∷ l) = blank ∷ redone zero i l
  redone (suc n) (suc i) (x ∷ l) = f x ∷ redone n i l

  -- the next place is as it was
  pub redone_at : (n i : ℕ) (l : List A) (d : A) → get_or (redone n i l) i d ≡ get_or l i d
  redone_at n zero l d = refl
  redone_at n (suc i) [] d = refl
  redone_at zero (suc i) (x ∷ l) d = redone_at zero i l d
  redone_at (suc n) (suc i) (x ∷ l) d = redone_at n i l d

  -- it is changed
  pub redone_change :
      (n i : ℕ) (l : List A) (d : A) → i < n → set (redone n i l) i (f (get_or l i d)) ≡ redone n (suc i) l
  redone_change zero i l d h = let none : ⊥ = omega arith in absurd none
  redone_change (suc n) zero [] d h = refl
  redone_change (suc n) zero (x ∷ l) d h = refl
  redone_change (suc n) (suc i) [] d h = refl
  redone_change (suc n) (suc i) (x ∷ l) d h = ap (λ (r : List A). f x ∷ r) (redone_change n i l d (omega arith))

  -- or made blank
  pub redone_blank : (n i : ℕ) (l : List A) → n ≤ i → set (redone n i l) i blank ≡ redone n (suc i) l
  redone_blank zero zero [] h = refl
  redone_blank zero zero (x ∷ l) h = refl
  redone_blank zero (suc i) [] h = refl
  redone_blank zero (suc i) (x ∷ l) h = ap (λ (r : List A). blank ∷ r) (redone_blank zero i l (omega arith))
  redone_blank (suc n) zero l h = let none : ⊥ = omega arith in absurd none
  redone_blank (suc n) (suc i) [] h = refl
  redone_blank (suc n) (suc i) (x ∷ l) h = ap (λ (r : List A). f x ∷ r) (redone_blank n i l (omega arith))

  -- all are done
  pub redone_all :
      (n : ℕ) (l : List A) → n ≤ length l →
      redone n (length l) l ≡ map f (take n l) ++ replicate (length l - n) blank
  redone_all zero [] h = refl
  redone_all zero (x ∷ l) h =
      let rest : redone zero (length l) l ≡ replicate (length l) blank = rw sub-zero at (redone_all zero l (omega arith)) in
      rw sub-zero (ap (λ (r : List A). blank ∷ r) rest)
  redone_all (suc n) [] h = let none : ⊥ = omega arith in absurd none
  redone_all (suc n) (x ∷ l) h = rw suc-sub-suc (ap (λ (r : List A). f x ∷ r) (redone_all n l (omega arith)))

-- ---- instances that get an address

module _ (sel : Selection) (address : Address) (n : ℕ) (l : List Instance) where
  abbrev new : Instance → Instance
  new = renewed sel address

  -- the places of a run when the first i are done
  abbrev pub renewed_to : ℕ → List Instance
  renewed_to i = redone new blank_instance n i l

  module _ (i : ℕ) (array : List Instance) (so : array ≡ renewed_to i) where
    -- the instance that is read is the old one
    old : get_or array i outside ≡ get_or l i outside
    old = ap (λ (r : List Instance). get_or r i outside) so ∙ redone_at new blank_instance n i l outside

    changes : i < n → set array i (new (get_or array i outside)) ≡ renewed_to (i + 1)
    changes h = rw (old, so, add-one i) (redone_change new blank_instance n i l outside h)

    pub renews_one :
        i < n → chosen sel (get_or array i outside) ≡ true →
        set array i (instance_of (get_or array i outside).procedure (get_or array i outside).number (get_or array i outside).service address) ≡
        renewed_to (i + 1)
    renews_one h picked = rw picked at (changes h)

    pub spares_one : i < n → chosen sel (get_or array i outside) ≡ false → array ≡ renewed_to (i + 1)
    spares_one h left = sym (set-get_or array i outside) ∙ rw left at (changes h)

    pub blanks_one : n ≤ i → set array i blank_instance ≡ renewed_to (i + 1)
    blanks_one h = rw (so, add-one i) (redone_blank new blank_instance n i l h)

-- when all places are done, the array is that of the renewed instances
pub renew_answer :
    (sel : Selection) (address : Address) (run : Run) (n : ℕ) (array : List Instance) → n ≡ min run.count run_most →
    length run.run ≡ run_most → array ≡ renewed_to sel address n run.run run_most →
    ◌≡◌ {A = Run} record { count = n; run = array } (packed (map (renewed sel address) (instances_of run)))
renew_answer sel address run n array few long so =
    let new = renewed sel address in
    let held : take n run.run ≡ instances_of run = rw (few, ← long) (take_min run.count run.run) in
    let many : length (map new (instances_of run)) ≡ n =
    length-map (instances_of run) new ∙ ap length (sym held) ∙ length-take-le n run.run (omega (arith, few, long)) in
    let done = redone_all new blank_instance n run.run (omega (arith, few, long)) in
    let all = rw (long, held) at done in
    packed_done (map new (instances_of run)) n array (sym many, rw many (so ∙ all), omega (arith, many, few))
