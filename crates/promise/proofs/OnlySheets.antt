-- Each promise of the crate sheets admits one answer, and one lent output afterwards. Assumes nothing.
use Prim.Native.Nat.{ℕ}
use mathlib.Core.List.{List}
use mathlib.Core.Path.{◌≡◌, sym, ap}
use Rattle.std.specs.Prelude.{Result, Ok, Err}
use Rattle.laws.proofs.Picks.{both}
use Rattle.exchange.specs.declared.table.Table.{Table}
use Rattle.refusals.specs.declared.refusal.Refusal.{Refusal}
use Rattle.refusals.specs.Handling.{handling_told}
use Rattle.refusals.proofs.Refusals.{refusal_same, refuses_same, refuses_not}
use Rattle.refusals.proofs.Handlings.{written_same}
use Rattle.sheets.specs.Sheets.{table_read, WritesSheet, ReadsSheet}

pub only_write_sheet :
    (access : List ℕ) (t : Table) (xs : List ℕ) {r q : Result ℕ Refusal} {ys zs : List ℕ} → WritesSheet access t xs r ys →
    WritesSheet access t xs q zs →
    (r ≡ q) × (ys ≡ zs)
only_write_sheet access t xs {r} {q} a b = (
  written_same r q (both a.told b.told) (both a.count b.count),
  both a.lent b.lent,
)

-- two of which the same is told, and the same table was read, are the same
read_same :
    (r q : Result Table Refusal) → handling_told r ≡ handling_told q → table_read r ≡ table_read q → r ≡ q
read_same (Err x) (Err y) told _ = ap Err (refusal_same x y (refuses_same _ _ told))
read_same (Err x) (Ok u) told _ = absurd (refuses_not _ tt told)
read_same (Ok t) (Err y) told _ = absurd (refuses_not _ tt (sym told))
read_same (Ok t) (Ok u) _ table = ap Ok table

pub only_read_sheet :
    (access s : List ℕ) {r q : Result Table Refusal} → ReadsSheet access s r → ReadsSheet access s q → r ≡ q
only_read_sheet access s {r} {q} a b = read_same r q (both a.told b.told) (both a.table b.table)
