-- Each promise of the crate lists admits one answer, and one lent output afterwards. Assumes nothing.
use Prim.Native.Nat.{ℕ}
use mathlib.Core.Path.{◌≡◌}
use mathlib.Core.List.{List}
use lib.IntN.{ℤ}
use Rattle.laws.proofs.Picks.{both}
use Rattle.laws.proofs.Over.{only_puts}
use Rattle.lists.specs.Entries.{EntriesAt, NoEntries}
use Rattle.lists.specs.Listed.{PutList, PutListHead}
use Rattle.lists.specs.declared.entries.Entries.{Entries}
use Rattle.std.specs.Prelude.{Option}

pub only_entries_at :
    (s : List ℕ) (at end : ℕ) {a b : Option Entries} → EntriesAt s at end a → EntriesAt s at end b → a ≡ b
only_entries_at s at end = both

pub only_put_list :
    (xs : List ℕ) (identifier : ℤ) (list : Entries) {m n : ℕ} {ys zs : List ℕ} → PutList xs identifier list m ys →
    PutList xs identifier list n zs →
    (m ≡ n) × (ys ≡ zs)
only_put_list xs identifier list = only_puts

pub only_put_list_head :
    (xs : List ℕ) (identifier : ℤ) (size : ℕ) {m n : ℕ} {ys zs : List ℕ} → PutListHead xs identifier size m ys →
    PutListHead xs identifier size n zs →
    (m ≡ n) × (ys ≡ zs)
only_put_list_head xs identifier size a b = (both a.moved b.moved, both a.holds b.holds)

pub only_no_entries : {a b : Entries} → NoEntries a → NoEntries b → a ≡ b
only_no_entries = both
