-- Night sheets written, read and listed, as C is told.
use Rattle.std.specs.Prelude.{ℕ, ◌≡◌, List, length}
use Rattle.laws.specs.Over.{over}
use Rattle.refusals.specs.Refusal.{refusal_in}
use Rattle.exchange.specs.declared.table.Table.{Table}
use Rattle.sheets.specs.Sheets.{wrote_sheet, read_sheet}
use Rattle.listings.specs.Listing.{listed_sheet}
use Rattle.sconcetoad.specs.declared.written.Octets.{Octets}
use Rattle.sconcetoad.specs.declared.night.SheetTaken.{SheetTaken}

-- what `sconcetoad_write_sheet` promises: the refusal, how many octets the sheet has, and every octet of the output
pub record SheetWrittenBy (access : List ℕ) (t : Table) (xs : List ℕ) (r : Octets) (ys : List ℕ) : Type 0 where
  pub refusal : r.refusal ≡ refusal_in (wrote_sheet access t (length xs)).told
  pub count : r.count ≡ length (wrote_sheet access t (length xs)).octets
  pub lent : ys ≡ over xs 0 (wrote_sheet access t (length xs)).octets

-- what `sconcetoad_read_sheet` promises: the refusal, and the table, a fresh one where it is refused
pub record SheetTakenBy (access s : List ℕ) (r : SheetTaken) : Type 0 where
  pub refusal : r.refusal ≡ refusal_in (read_sheet access s).told
  pub table : r.table ≡ (read_sheet access s).table

-- what `sconcetoad_list_sheet` promises: the refusal, how many octets the listing has, and every octet of the output
pub record SheetListedBy (s xs : List ℕ) (r : Octets) (ys : List ℕ) : Type 0 where
  pub refusal : r.refusal ≡ refusal_in (listed_sheet s (length xs)).told
  pub count : r.count ≡ length (listed_sheet s (length xs)).octets
  pub lent : ys ≡ over xs 0 (listed_sheet s (length xs)).octets
