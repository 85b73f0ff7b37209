-- When a table in the first layout and a table whose instances are one packed run are the same table, and what it says that they answer
-- alike (document 02, R-10: "Replies, sheets, calls and refusals must equal those of the grid for every sequence of requests. Show this
-- once, by what instances a table holds.").
use Rattle.std.specs.Prelude.{ℕ, false, true, List, [], ◌∷◌, ◌⊎◌, ◌≡◌}
use Rattle.refusals.specs.Refusal.{Told}
use Rattle.profile.specs.declared.profile.Profile.{Profile}
use Rattle.lists.specs.Entries.{instances_most}
use Rattle.answers.specs.Answer.{Answered}
use Rattle.instances.specs.Run.{instances_of}
use Rattle.exchange.specs.Arrive.{Done, done}
use Rattle.exchange.specs.Table.{table_good}
use Rattle.exchange.specs.declared.table.Table.{Table}
use Rattle.calls.specs.Divert.{comes}
use Rattle.calls.specs.Original.{original_in}
use Rattle.sheets.specs.Sheets.{TableRead, wrote_sheet}
use Rattle.grid.specs.Arrive.{GridDone, grid_done}
use Rattle.grid.specs.Calls.{grid_comes, grid_original}
use Rattle.grid.specs.Grid.{GridShaped}
use Rattle.grid.specs.Holds.{holds}
use Rattle.grid.specs.Sheets.{GridTableRead, grid_wrote_sheet}
use Rattle.grid.specs.Table.{GridTable, grid_table_good}

-- ---- tables

-- neither breaks a rule of the profile, and both have the same last handled identifier and hold the same instances, in the same order and
-- with the same addresses, octet for octet
pub record HoldSame (p : Profile) (g : GridTable) (t : Table) : Type 0 where
  pub shaped : GridShaped g.grid
  pub grid_good_lem : grid_table_good instances_most p g ≡ true
  pub run_good_lem : table_good instances_most p t ≡ true
  pub last : g.last ≡ t.last
  pub held : holds g.grid ≡ instances_of t.run

-- both break a rule, whatever they hold: either is refusal 4. Rules can be broken in ways that the other layout has no octets for: a run
-- may be out of order, hold a place twice or count more than 24; a cell may hold the code of another service than its place has. So such
-- tables correspond by being bad, not by what they hold.
pub record BothBreak (p : Profile) (g : GridTable) (t : Table) : Type 0 where
  pub grid_bad : grid_table_good instances_most p g ≡ false
  pub run_bad : table_good instances_most p t ≡ false

abbrev pub SameTable : Profile → GridTable → Table → Type 0
SameTable p g t = HoldSame p g t ⊎ BothBreak p g t

-- ---- what is done with a component: the same answer or refusal, the same octets, and the same table

pub record DoneSame (p : Profile) (x : GridDone) (y : Done) : Type 0 where
  pub told : x.told ≡ y.told
  pub octets : x.octets ≡ y.octets
  pub tables : SameTable p x.table y.table

-- ---- and with any sequence of them

-- an arriving component, and the size of the output that is lent for its reply
pub record Component : Type 0 where
  pub octets : List ℕ
  pub size : ℕ

-- what is told and written
pub record Reply : Type 0 where
  pub told : Told Answered
  pub octets : List ℕ

-- each reply, in order, and the table afterwards
unfoldable pub grid_replies : List ℕ → GridTable → List Component → List Reply
grid_replies access g [] = []
grid_replies access g (c ∷ cs) =
    record { told = (grid_done access g c.octets c.size).told; octets = (grid_done access g c.octets c.size).octets }
    ∷ grid_replies access (grid_done access g c.octets c.size).table cs

unfoldable pub grid_after : List ℕ → GridTable → List Component → GridTable
grid_after access g [] = g
grid_after access g (c ∷ cs) = grid_after access (grid_done access g c.octets c.size).table cs

unfoldable pub run_replies : List ℕ → Table → List Component → List Reply
run_replies access t [] = []
run_replies access t (c ∷ cs) =
    record { told = (done access t c.octets c.size).told; octets = (done access t c.octets c.size).octets }
    ∷ run_replies access (done access t c.octets c.size).table cs

unfoldable pub run_after : List ℕ → Table → List Component → Table
run_after access t [] = t
run_after access t (c ∷ cs) = run_after access (done access t c.octets c.size).table cs

-- ---- the whole

-- "Replies, sheets, calls and refusals .. equal .. for every sequence of requests": whatever components came before
pub record Alike (access : List ℕ) (g : GridTable) (t : Table) : Type 0 where
  pub replies : (cs : List Component) → grid_replies access g cs ≡ run_replies access t cs
  pub calls :
      (cs : List Component) (call : List ℕ) → grid_comes access (grid_after access g cs) call ≡ comes access (run_after access t cs) call
  pub originals :
      (cs : List Component) (call : List ℕ) →
      grid_original access (grid_after access g cs) call ≡ original_in access (run_after access t cs) call
  pub sheets :
      (cs : List Component) (size : ℕ) → grid_wrote_sheet access (grid_after access g cs) size ≡ wrote_sheet access (run_after access t cs) size

-- and octets that are read as a sheet: both refuse them alike, or both read a table, and the tables hold the same
pub record ReadSame (p : Profile) (x : GridTableRead) (y : TableRead) : Type 0 where
  pub told : x.told ≡ y.told
  pub tables : HoldSame p x.table y.table
