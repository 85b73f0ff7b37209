-- A night sheet: "Form 1; last handled; instance count; then for each, strictly ascending by the first three, .. Nothing after."
-- (document 01, "Night sheet")
use Rattle.std.specs.Prelude.{ℕ, zero, suc, Bool, true, List, [], ◌∷◌, ◌++◌, length, leb, eqb}
use Rattle.laws.specs.Pick.{pick}
use Rattle.laws.specs.Tests.{all}
use Rattle.laws.specs.Got.{Got, got, wrong, and_then}
use Rattle.instances.specs.Run.{ascending, few_of_each}
use Rattle.instances.specs.declared.instance.Instance.{Instance}
use Rattle.forms.specs.Instance.{all_groups, instance_octets, field_at, instance_from}
use Rattle.forms.specs.declared.form.Form.{Form}

-- what a sheet holds
pub record Sheet : Type 0 where
  pub last : ℕ
  pub instances : List Instance

-- ---- written

unfoldable pub instances_octets : List Instance → List ℕ
instances_octets [] = []
instances_octets (i ∷ is) = instance_octets i ++ instances_octets is

unfoldable pub sheet_octets : Form → ℕ → List Instance → List ℕ
sheet_octets f last is = all_groups (f.code ∷ last ∷ length is ∷ []) ++ instances_octets is

-- ---- read

-- n instances, one after the other
unfoldable pub instances_from : Form → ℕ → List ℕ → ℕ → Got (List Instance)
instances_from f zero s at = got [] at
instances_from f (suc n) s at =
    and_then (instance_from f s at) (λ x p. and_then (instances_from f n s p) (λ xs q. got (x ∷ xs) q))

-- "strictly ascending by the first three", and of each procedure no more than the form has
unfoldable pub in_order : Form → List Instance → Bool
in_order f is = all (ascending 0 is ∷ few_of_each f.perprocedure is ∷ [])

-- the whole input, "Nothing after": by the rules of the form alone
unfoldable pub sheet_in : Form → List ℕ → Got Sheet
sheet_in f s =
    and_then (field_at (eqb f.code) s 0) (λ _ p.
    and_then (field_at (λ n. leb n f.lastmost) s p) (λ last q.
    and_then (field_at (λ n. true) s q) (λ count a.
    and_then (instances_from f count s a) (λ is next.
    pick (all (eqb next (length s) ∷ in_order f is ∷ [])) (got (record { last = last; instances = is }) next) wrong))))
