-- A run that is made instance by instance: blanks stand after those that it has. Assumes nothing.
use Prim.Native.Nat.{ℕ, zero, suc, ◌+◌, ◌-◌, ◌<◌, ◌≤◌}
use mathlib.Core.Path.{◌≡◌, refl, sym, ap, subst, ◌∙◌}
use mathlib.Core.List.{List, [], ◌∷◌, ◌++◌, append-nil}
use native.Mathlib.Omega.{arith}
use lib.ListN.{length, take, set, replicate, length-append, length-take, length-replicate}
use lib.Seq.{take-append-le, take-append_seam, drop-append_seam}
use Rattle.laws.proofs.Filled.{Filled, filled_next, filled_done}
use Rattle.instances.specs.Instance.{blank_instance}
use Rattle.instances.specs.Places.{run_most}
use Rattle.instances.specs.Run.{instances_of, packed}
use Rattle.instances.specs.declared.instance.Instance.{Instance}
use Rattle.instances.specs.declared.run.Run.{Run}
use Rattle.instances.proofs.Runs.{packed_done}
use Rattle.end.specs.inner.Listed.{Packed}

-- ---- the record of a list has the first of them, as many as there is room for

take_again : {A : Type 0} (n : ℕ) (l ys : List A) → take n (take n l ++ ys) ≡ take n (l ++ ys)
take_again zero l ys = refl
take_again (suc n) [] ys = refl
take_again (suc n) (x ∷ l) ys = ap (λ (m : List _). x ∷ m) (take_again n l ys)

-- of two lists with the same first ones it is the same
abbrev record_of : List Instance → Run
record_of is = record { count = length is; run = is ++ replicate (run_most - length is) blank_instance }

pub packed_held : (l : List Instance) → instances_of (packed l) ≡ take run_most l
packed_held l = take-append_seam (take run_most l) (replicate (run_most - length (take run_most l)) blank_instance)

pub packed_more : (l ys : List Instance) → packed (instances_of (packed l) ++ ys) ≡ packed (l ++ ys)
packed_more l ys = rw (packed_held l) (ap record_of (take_again run_most l ys))

pub packed_packed : (l : List Instance) → Packed (packed l)
packed_packed l =
    let all : packed (instances_of (packed l) ++ []) ≡ packed (l ++ []) = packed_more l [] in
    sym (rw (append-nil (instances_of (packed l)), append-nil l) at all)

-- what is added to it, and then more, is added to the list
pub added_twice :
    (a b d : List Instance) (r s t : Run) → r ≡ packed a → s ≡ packed (instances_of r ++ b) → t ≡ packed (instances_of s ++ d) →
    t ≡ packed ((a ++ b) ++ d)
added_twice a b d r s t first second third =
    let both : s ≡ packed (a ++ b) = second ∙ rw first (packed_more a b) in
    third ∙ rw both (packed_more (a ++ b) d)

-- ---- one more

-- where there is room
module _ (x : Instance) (t : List Instance) (room : length t < run_most) where
  filled : Filled run_most blank_instance (t ++ x ∷ []) (x ∷ []) (length t) (t ++ replicate (run_most - length t) blank_instance)
  filled = record {
    fits = omega (arith, room);
    long =
        omega (
          arith,
          room,
          length-append t (replicate (run_most - length t) blank_instance),
          length-replicate (run_most - length t) blank_instance,
        );
    come = rw (take-append_seam t (replicate (run_most - length t) blank_instance));
    rest = drop-append_seam t (replicate (run_most - length t) blank_instance);
  }

  pub one_more :
      ◌≡◌ {A = Run}
      record { count = length t + 1; run = set (t ++ replicate (run_most - length t) blank_instance) (length t) x }
      (packed (t ++ x ∷ []))
  one_more =
      packed_done (t ++ x ∷ []) _ _ (filled_done _ _ _ _ _ (filled_next run_most blank_instance (t ++ x ∷ []) x [] (length t) _ room filled))

pub added :
    (l : List Instance) (run : Run) (x : Instance) → run ≡ packed l → run.count < run_most →
    ◌≡◌ {A = Run} record { count = run.count + 1; run = set run.run run.count x } (packed (l ++ x ∷ []))
added l run x is h =
    let P : Run → Type 0 = λ r.
    r.count < run_most → ◌≡◌ {A = Run} record { count = r.count + 1; run = set r.run r.count x } (packed (l ++ x ∷ [])) in
    subst P (sym is) (λ room. one_more x (take run_most l) room ∙ ap record_of (take_again run_most l (x ∷ []))) h

-- where there is none
pub added_none : (l : List Instance) (run : Run) (ys : List Instance) → run ≡ packed l → run_most ≤ run.count → run ≡ packed (l ++ ys)
added_none l run ys is full =
    let most : run_most ≤ length l = omega (arith, full, ap (λ (r : Run). r.count) is, length-take run_most l) in
    is ∙ ap record_of (sym (take-append-le run_most l ys most))
