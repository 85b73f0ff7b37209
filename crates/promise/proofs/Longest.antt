-- The least output is enough for every reply and for every night sheet, and a table needs it whole: "lent output under 707 octets (any
-- component) or 1,613 (sheet)". Assumes nothing.
use Prim.Native.Nat.{ℕ, ◌≤◌}
use mathlib.Core.Path.{◌≡◌}
use mathlib.Core.Bool.{true}
use mathlib.Core.List.{List}
use lib.ListN.{length}
use Rattle.laws.proofs.Eaches.{Each}
use Rattle.profile.specs.Access.{access_read}
use Rattle.lists.specs.Entries.{instances_most}
use Rattle.instances.specs.Run.{instances_of}
use Rattle.exchange.specs.Table.{table_good}
use Rattle.exchange.specs.Arrive.{done}
use Rattle.exchange.specs.declared.table.Table.{Table}
use Rattle.exchange.proofs.Nexts.{reply_fits}
use Rattle.sheets.specs.Sheets.{wrote_sheet}
use Rattle.sheets.proofs.WrittenTables.{Arrays}
use Rattle.sheets.proofs.WrittenSheets.{sheet_written_most}
use Rattle.promise.specs.Longest.{wide_access, full_table, last_interrogation}
use Rattle.promise.proofs.Samples.{row}

-- the table of the longest reply and of the longest sheet breaks no rule
pub full_good : table_good instances_most (access_read wide_access).profile full_table ≡ true
full_good = (row 46).0.0

pub longest_reply :
    ((access : List ℕ) (t : Table) (s : List ℕ) (size : ℕ) → length (done access t s size).octets ≤ 707)
    × (length (done wide_access full_table last_interrogation 707).octets ≡ 707)
longest_reply = (reply_fits, (row 46).0.1)

-- of tables whose arrays are as a machine's
pub longest_sheet_lem :
    ((access : List ℕ) (t : Table) (size : ℕ) → Each Arrays (instances_of t.run) → length (wrote_sheet access t size).octets ≤ 1613)
    × (length (wrote_sheet wide_access full_table 1613).octets ≡ 1613)
longest_sheet_lem = (sheet_written_most, (row 47).0)
