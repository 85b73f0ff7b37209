-- A table in the first layout written as a night sheet: its refusals, lowest first, and the sheet, which reads back; and what was read
-- is written again. Assumes nothing.
use Prim.Native.Nat.{◌<◌, ◌≤◌, ℕ}
use mathlib.Core.Bool.{false, true}
use mathlib.Core.List.{List}
use mathlib.Core.Path.{◌∙◌, ◌≡◌, ap, sym}
use lib.Dec.{ltb}
use lib.ListN.{get_or, length}
use borrow.Author.Tests.{le-ltb, lt-ltb, ltb-false, ltb-true}
use Rattle.laws.proofs.Picks.{by_bool}
use Rattle.refusals.specs.Refusal.{tells}
use Rattle.refusals.specs.declared.refusal.Refusal.TheVariants.{BadProfile, BadTable, ShortOutput}
use Rattle.refusals.proofs.Refusals.{refuses_not}
use Rattle.profile.specs.Access.{access_read}
use Rattle.profile.proofs.Records.{access_good, access_services}
use Rattle.lists.specs.Entries.{instances_most}
use Rattle.forms.specs.Form.{form1}
use Rattle.refusals.specs.Handling.{Made, made, not_made}
use Rattle.forms.specs.Sheet.{sheet_octets}
use Rattle.forms.specs.Size.{sheet_most}
use Rattle.grid.specs.Holds.{holds}
use Rattle.grid.specs.Sheets.{grid_read_sheet, grid_wrote_sheet}
use Rattle.grid.specs.Table.{GridTable, grid_table_good}
use Rattle.grid.proofs.ReadTables.{accepted_table, read_good, read_ok}
use Rattle.grid.proofs.TableTrips.{GridReadsAs, table_back}
use Rattle.grid.proofs.WrittenInstances.{GridArrays, sheet_fits}

module _ (access : List ℕ) (t : GridTable) (size : ℕ) where
  pub writes_short : size < sheet_most form1 → grid_wrote_sheet access t size ≡ not_made ShortOutput
  unfolding grid_wrote_sheet
  writes_short short = rw (lt-ltb size (sheet_most form1) short)

  module _ (room : sheet_most form1 ≤ size) where
    pub writes_profile : (access_read access).ok ≡ false → grid_wrote_sheet access t size ≡ not_made BadProfile
    unfolding grid_wrote_sheet
    writes_profile bad = rw (le-ltb size (sheet_most form1) room, bad)

    module _ (ok : (access_read access).ok ≡ true) where
      pub writes_table :
          grid_table_good instances_most (access_read access).profile t ≡ false → grid_wrote_sheet access t size ≡ not_made BadTable
      unfolding grid_wrote_sheet
      writes_table bad = rw (le-ltb size (sheet_most form1) room, ok, bad)

      pub writes_sheet :
          grid_table_good instances_most (access_read access).profile t ≡ true →
          grid_wrote_sheet access t size ≡ made (sheet_octets form1 t.last (holds t.grid))
      unfolding grid_wrote_sheet
      writes_sheet good = rw (le-ltb size (sheet_most form1) room, ok, good)

-- ---- a table that is written

-- there was room, and neither the profile nor the table was refused
module _ (access : List ℕ) (t : GridTable) (size : ℕ) (told : (grid_wrote_sheet access t size).told ≡ tells tt) where
  pub written_room : sheet_most form1 ≤ size
  written_room =
      by_bool _ (ltb size (sheet_most form1))
      (λ e. absurd (refuses_not _ tt
      (sym (ap (λ (w : Made). w.told) (writes_short access t size (ltb-true size (sheet_most form1) e))) ∙ told)))
      (λ e. ltb-false size (sheet_most form1) e)

  pub written_ok : (access_read access).ok ≡ true
  written_ok =
      by_bool _ (access_read access).ok (λ e. e)
      (λ e. absurd (refuses_not _ tt (sym (ap (λ (w : Made). w.told) (writes_profile access t size written_room e)) ∙ told)))

  pub written_good : grid_table_good instances_most (access_read access).profile t ≡ true
  written_good =
      by_bool _ (grid_table_good instances_most (access_read access).profile t) (λ e. e)
      (λ e. absurd (refuses_not _ tt (sym (ap (λ (w : Made). w.told) (writes_table access t size written_room written_ok e)) ∙ told)))

  written_octets : (grid_wrote_sheet access t size).octets ≡ sheet_octets form1 t.last (holds t.grid)
  written_octets = ap (λ (w : Made). w.octets) (writes_sheet access t size written_room written_ok written_good)

  -- its sheet fits
  pub written_fits : GridArrays t → length (grid_wrote_sheet access t size).octets ≤ sheet_most form1
  written_fits arrays =
      rw written_octets
      (sheet_fits (access_read access).profile t written_good (access_good access written_ok) (access_services access) arrays)

  -- and is read back as a table that holds the same
  pub written_back : GridArrays t → GridReadsAs access (grid_wrote_sheet access t size).octets t
  written_back arrays = rw written_octets (table_back access t written_ok written_good arrays)

-- ---- a sheet that was accepted

-- it is written again, octet for octet
pub accepted_again :
    (access s : List ℕ) → ((i : ℕ) → get_or s i 0 < 256) → (grid_read_sheet access s).told ≡ tells tt →
    (size : ℕ) → sheet_most form1 ≤ size →
    grid_wrote_sheet access (grid_read_sheet access s).table size ≡ made s
accepted_again access s small told size room =
    writes_sheet access (grid_read_sheet access s).table size room (read_ok access s told) (read_good access s told)
    ∙ ap made (sym (accepted_table access s told small))
