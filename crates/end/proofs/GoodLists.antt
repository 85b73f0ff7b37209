-- A list whose instances come in order, and what it means that a list is good. Assumes nothing.
use Prim.Native.Nat.{ℕ}
use mathlib.Core.Path.{◌≡◌, refl, ap, ◌∙◌}
use mathlib.Core.Bool.{true}
use mathlib.Core.List.{List, [], ◌∷◌, map}
use native.Mathlib.Omega.{arith}
use Rattle.laws.proofs.Tests.{both_hold}
use Rattle.laws.proofs.Eaches.{Each, Up}
use Rattle.profile.specs.declared.profile.Profile.{Profile}
use Rattle.lists.specs.declared.entry.Entry.{Entry}
use Rattle.instances.specs.Instance.{key_of}
use Rattle.instances.specs.Run.{merged, is_of, each_good, instances_good}
use Rattle.instances.specs.declared.instance.Instance.{Instance}
use Rattle.instances.proofs.Merged.{nil_merged, merged_nil, merge_higher}
use Rattle.instances.proofs.Fits.{goods_of, goods_all}
use Rattle.instances.proofs.Goods.{GoodList, good_list, list_good_lem}
use Rattle.end.specs.Listed.{instance_for, sorted, instances_listed, list_good}

-- one that is below all others comes first
first_merged : (x : Instance) (l : List Instance) → Up key_of (key_of x) l → merged (x ∷ []) l ≡ x ∷ l
first_merged x [] u = merged_nil (x ∷ [])
first_merged x (y ∷ l) u =
    merge_higher (x ∷ []) (y ∷ l) x [] refl y l refl (omega (arith, u.0)) ∙ ap (λ (m : List Instance). x ∷ m) (nil_merged (y ∷ l))

sorted_same : (b : ℕ) (l : List Instance) → Up key_of b l → sorted l ≡ l
unfolding sorted
sorted_same b [] u = refl
sorted_same b (x ∷ l) u = ap (merged (x ∷ [])) (sorted_same (key_of x) l u.1) ∙ first_merged x l u.1

-- entries whose instances ascend are in order
pub from_ascending : (p : Profile) (es : List Entry) → Up key_of 0 (map (instance_for p) es) → instances_listed p es ≡ map (instance_for p) es
unfolding instances_listed
from_ascending p es u = sorted_same 0 (map (instance_for p) es) u

-- a good list: each instance is of the procedure, and together they obey the table's rules
module _ (most : ℕ) (p : Profile) (procedure : ℕ) (new : List Instance) where
  pub is_list : Each (λ x. is_of procedure x ≡ true) new → GoodList p most new → list_good most p procedure new ≡ true
  unfolding list_good
  is_list own good = rw (goods_all (is_of procedure) new own, list_good_lem p most new good)

  -- the first of the two alone, as `replaced_by` asks it
  pub list_own : list_good most p procedure new ≡ true → each_good (is_of procedure) new ≡ true
  unfolding list_good
  list_own h = (both_hold (each_good (is_of procedure) new) (instances_good most p new) h).0

  pub list_is : list_good most p procedure new ≡ true → Each (λ x. is_of procedure x ≡ true) new × GoodList p most new
  unfolding list_good
  list_is h =
      let t = both_hold (each_good (is_of procedure) new) (instances_good most p new) h in
      (goods_of (is_of procedure) new t.0, good_list p most new t.1)
