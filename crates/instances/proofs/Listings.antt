-- The entries of the instances that are selected, met one by one, and the record of those that were stored. Assumes nothing.
use Prim.Native.Nat.{ℕ}
use mathlib.Core.Path.{◌≡◌, ap}
use mathlib.Core.Bool.{true, false}
use mathlib.Core.List.{List, [], ◌∷◌, map}
use lib.ListN.{take}
use lib.Seq.{take_all}
use Rattle.laws.proofs.Filled.{Full}
use Rattle.laws.proofs.Thoses.{those_take, those_skip, those_none}
use Rattle.numbers.specs.declared.number.Number.{Number}
use Rattle.lists.specs.Entry.{no_entry}
use Rattle.lists.specs.Entries.{instances_most, entries_of}
use Rattle.lists.specs.declared.entry.Entry.{Entry}
use Rattle.lists.specs.declared.entries.Entries.{Entries}
use Rattle.instances.specs.Instance.{chosen}
use Rattle.instances.specs.Run.{listed, entry_for}
use Rattle.instances.specs.declared.instance.Instance.{Instance}
use Rattle.instances.specs.declared.instance.Selection.{Selection}

-- the entries of the instances that are selected
abbrev pub entries_for : List Number → Selection → List Instance → List Entry
entries_for numbers sel is = map (entry_for numbers) (listed sel is)

module _ (numbers : List Number) (sel : Selection) (l : List Instance) where
  pub entries_none : l ≡ [] → entries_for numbers sel l ≡ []
  entries_none none = ap (map (entry_for numbers)) (those_none (chosen sel) l none)

  module _ (x : Instance) (m : List Instance) (on : l ≡ x ∷ m) where
    pub entries_take : chosen sel x ≡ true → entries_for numbers sel l ≡ entry_for numbers x ∷ entries_for numbers sel m
    entries_take h = ap (map (entry_for numbers)) (those_take (chosen sel) l m x on h)

    pub entries_skip : chosen sel x ≡ false → entries_for numbers sel l ≡ entries_for numbers sel m
    entries_skip h = ap (map (entry_for numbers)) (those_skip (chosen sel) l m x on h)

-- all of them were stored, or as many as a list may have
pub entries_answer :
    (es : List Entry) (k : ℕ) (array : List Entry) → Full instances_most no_entry es k array →
    ◌≡◌ {A = Entries} record { count = k; entries = array } (entries_of (take instances_most es))
entries_answer es k array so = rw (take_all instances_most es so.2, so.1, so.0)

pub entries_full :
    (es : List Entry) (k : ℕ) (array : List Entry) → Full instances_most no_entry (take instances_most es) k array →
    ◌≡◌ {A = Entries} record { count = k; entries = array } (entries_of (take instances_most es))
entries_full es k array so = rw (so.1, so.0)
