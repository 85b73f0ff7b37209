-- The instances that a run counts, met one by one, and the record of those that were stored. Assumes nothing.
use Prim.Native.Nat.{ℕ, min, ◌+◌, ◌-◌, ◌<◌, ◌≤◌}
use mathlib.Core.Path.{◌≡◌}
use mathlib.Core.List.{List, [], ◌∷◌}
use native.Mathlib.Numerals.{add-one}
use native.Mathlib.Omega.{arith}
use lib.ListN.{length, take, drop, get_or, replicate, drop_of_length-le}
use lib.Seq.{take_all, take-append_seam, drop-cons}
use Rattle.laws.proofs.Lefts.{left_cons, left_none}
use Rattle.laws.proofs.Filled.{Full, take_min}
use Rattle.instances.specs.Instance.{instance_of, blank_instance}
use Rattle.instances.specs.Places.{run_most}
use Rattle.instances.specs.Run.{instances_of, packed}
use Rattle.instances.specs.declared.instance.Instance.{Instance}
use Rattle.instances.specs.declared.run.Run.{Run}

-- ---- the things of a slice, met one by one

module _ {A : Type 0} (l : List A) (i : ℕ) where
  pub next_of : (d : A) → i < length l → drop i l ≡ get_or l i d ∷ drop (i + 1) l
  next_of d h = rw add-one (drop-cons l i d h)

  pub none_of : length l ≤ i → drop i l ≡ []
  none_of h = drop_of_length-le l h

-- ---- things that are counted

pub step :
    {A : Type 0} (count : ℕ) (l : List A) (i : ℕ) (d : A) → i < count → i < length l →
    drop i (take count l) ≡ get_or l i d ∷ drop (i + 1) (take count l)
step count l i d h long = rw add-one (left_cons count l i d h long)

-- as many as the code takes of an array: those that are counted
pub stored_is :
    {A : Type 0} (n count size : ℕ) (l : List A) → n ≡ min count size → length l ≡ size → take n l ≡ take count l
stored_is n count size l h long = rw (h, ← long) (take_min count l)

-- what the machine reads past an array
abbrev pub outside : Instance
outside =
    instance_of 0 0 0 (record { number = record { form = 0; kind = 0; count = 0; digits = [] }; subcount = 0; sub = [] })

module _ (run : Run) (n i : ℕ) (few : n ≡ min run.count run_most) (long : length run.run ≡ run_most) where
  pub next_is : i < n → drop i (instances_of run) ≡ get_or run.run i outside ∷ drop (i + 1) (instances_of run)
  next_is h = step run.count run.run i outside (omega arith) (omega arith)

  pub none_left : n ≤ i → drop i (instances_of run) ≡ []
  none_left h = left_none run.count run.run i (omega (arith, few, long))

-- ---- the record of instances

-- all of them were stored, or as many as there is room for
pub packed_done :
    (is : List Instance) (k : ℕ) (array : List Instance) → Full run_most blank_instance is k array →
    ◌≡◌ {A = Run} record { count = k; run = array } (packed is)
packed_done is k array so = rw (take_all run_most is so.2, so.1, so.0)

pub packed_full :
    (is : List Instance) (k : ℕ) (array : List Instance) → Full run_most blank_instance (take run_most is) k array →
    ◌≡◌ {A = Run} record { count = k; run = array } (packed is)
packed_full is k array so = rw (so.1, so.0)

-- where there is room, the record holds them all, and is their array
pub packed_all : (is : List Instance) → length is ≤ run_most → instances_of (packed is) ≡ is
packed_all is few = rw (take_all run_most is few) (take-append_seam is (replicate (run_most - length is) blank_instance))
