-- Night sheets against a profile: a table is written as one, and one is read as a table (document 01, "Night sheet", "Local refusals").
use Rattle.std.specs.Prelude.{ℕ, ◌≡◌, Bool, false, not, List, [], ◌∷◌, length, ltb, Result, Ok, Err}
use Rattle.laws.specs.Tests.{test, first}
use Rattle.laws.specs.Got.{Got, got, wrong}
use Rattle.laws.specs.Over.{over}
use Rattle.refusals.specs.Refusal.{refusal_no, Told, refuses, tells}
use Rattle.refusals.specs.declared.refusal.Refusal.{Refusal}
use Rattle.refusals.specs.declared.refusal.Refusal.TheVariants.{ShortOutput, BadProfile, BadTable, BadSheet}
use Rattle.profile.specs.Access.{access_read}
use Rattle.profile.specs.declared.profile.Profile.{Profile}
use Rattle.lists.specs.Entries.{instances_most}
use Rattle.instances.specs.Run.{instances_of, packed, instances_good}
use Rattle.exchange.specs.Table.{table_of, fresh_table, table_good}
use Rattle.exchange.specs.declared.table.Table.{Table}
use Rattle.forms.specs.Form.{form1}
use Rattle.forms.specs.Size.{sheet_most}
use Rattle.forms.specs.Sheet.{Sheet, sheet_octets, sheet_in}
use Rattle.refusals.specs.Handling.{handling_told, written_count, Made, not_made, made}

-- ---- a table is written

-- "Lowest number first"
unfoldable pub wrote_sheet : List ℕ → Table → ℕ → Made
wrote_sheet access t size =
    first
    (test (ltb size (sheet_most form1)) ShortOutput
    ∷ test (not (access_read access).ok) BadProfile
    ∷ test (not (table_good instances_most (access_read access).profile t)) BadTable
    ∷ [])
    not_made
    (made (sheet_octets form1 t.last (instances_of t.run)))

-- what `write_sheet` promises: the refusal, how many octets the sheet has, and every octet of the output
pub record WritesSheet (access : List ℕ) (t : Table) (xs : List ℕ) (r : Result ℕ Refusal) (ys : List ℕ) : Type 0 where
  pub told : handling_told r ≡ (wrote_sheet access t (length xs)).told
  pub count : written_count r ≡ length (wrote_sheet access t (length xs)).octets
  pub lent : ys ≡ over xs 0 (wrote_sheet access t (length xs)).octets

-- ---- a sheet is read

-- "anything outside the table's rules is refusal 9": whether it is a sheet, and its instances break no rule of the profile
abbrev pub sheet_allowed : Profile → Got Sheet → Bool
sheet_allowed p (got sheet next) = instances_good instances_most p sheet.instances
sheet_allowed p wrong = false

-- the table that it holds
abbrev pub table_in : Got Sheet → Table
table_in (got sheet next) = table_of sheet.last (packed sheet.instances)
table_in wrong = fresh_table

-- what is told, and the table that is read
pub record TableRead : Type 0 where
  pub told : Told (Unit {0})
  pub table : Table

abbrev pub not_read : Refusal → TableRead
not_read refusal = record { told = refuses (refusal_no refusal); table = fresh_table }

-- "Lowest number first"
unfoldable pub read_sheet : List ℕ → List ℕ → TableRead
read_sheet access s =
    first
    (test (not (access_read access).ok) BadProfile
    ∷ test (not (sheet_allowed (access_read access).profile (sheet_in form1 s))) BadSheet
    ∷ [])
    not_read
    (record { told = tells tt; table = table_in (sheet_in form1 s) })

-- the table that was read; where the sheet is refused, that of a new access, which says nothing of the sheet
abbrev pub table_read : Result Table Refusal → Table
table_read (Ok t) = t
table_read (Err _) = fresh_table

-- what `read_sheet` promises: the refusal and the table
pub record ReadsSheet (access s : List ℕ) (r : Result Table Refusal) : Type 0 where
  pub told : handling_told r ≡ (read_sheet access s).told
  pub table : table_read r ≡ (read_sheet access s).table
