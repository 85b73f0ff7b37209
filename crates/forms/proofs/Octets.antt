-- Fields, instances and sheets are written one after the other. Assumes nothing.
use Prim.Native.Nat.{ℕ}
use mathlib.Core.Path.{◌≡◌, refl}
use mathlib.Core.List.{List, [], ◌∷◌, ◌++◌, append_assoc, append-nil}
use lib.ListN.{length}
use Rattle.groups.specs.Groups.{groups}
use Rattle.instances.specs.declared.instance.Instance.{Instance}
use Rattle.forms.specs.Instance.{all_groups, instance_fields, instance_octets}
use Rattle.forms.specs.Sheet.{instances_octets, sheet_octets}
use Rattle.forms.specs.declared.form.Form.{Form}

-- ---- fields

pub fields_none : all_groups [] ≡ []
unfolding all_groups
fields_none = refl

pub fields_more : (n : ℕ) (ns : List ℕ) → all_groups (n ∷ ns) ≡ groups n ++ all_groups ns
unfolding all_groups
fields_more n ns = refl

pub fields_both : (ns ms : List ℕ) → all_groups (ns ++ ms) ≡ all_groups ns ++ all_groups ms
fields_both [] ms = rw fields_none
fields_both (n ∷ ns) ms =
    rw (fields_more n (ns ++ ms), fields_both ns ms, fields_more n ns, append_assoc (groups n) (all_groups ns) (all_groups ms))

-- ---- instances

pub octets_none : instances_octets [] ≡ []
unfolding instances_octets
octets_none = refl

pub octets_more : (i : Instance) (is : List Instance) → instances_octets (i ∷ is) ≡ all_groups (instance_fields i) ++ instances_octets is
unfolding instances_octets instance_octets
octets_more i is = refl

pub octets_one : (i : Instance) → instances_octets (i ∷ []) ≡ all_groups (instance_fields i)
octets_one i = rw (octets_more i [], octets_none) (append-nil (all_groups (instance_fields i)))

pub octets_both : (is ks : List Instance) → instances_octets (is ++ ks) ≡ instances_octets is ++ instances_octets ks
octets_both [] ks = rw octets_none
octets_both (i ∷ is) ks =
    rw (
      octets_more i (is ++ ks),
      octets_both is ks,
      octets_more i is,
      append_assoc (all_groups (instance_fields i)) (instances_octets is) (instances_octets ks),
    )

-- ---- a sheet

pub sheet_octets_lem :
    (f : Form) (last : ℕ) (is : List Instance) →
    sheet_octets f last is ≡ all_groups (f.code ∷ last ∷ length is ∷ []) ++ instances_octets is
unfolding sheet_octets
sheet_octets_lem f last is = refl
