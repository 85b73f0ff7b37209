-- Night sheets of tables in the first layout: a table written as a sheet, and a sheet read as a table against a profile (document 01,
-- "Night sheet", "Local refusals").
use Rattle.std.specs.Prelude.{◌*◌, ◌+◌, ℕ, Bool, false, not, true, List, [], ◌∷◌, eqb, ltb, get_or, set}
use Rattle.laws.specs.Got.{Got, got, wrong}
use Rattle.laws.specs.Pick.{pick}
use Rattle.laws.specs.Tests.{all, first, test}
use Rattle.refusals.specs.Refusal.{Told, refusal_no, refuses, tells}
use Rattle.refusals.specs.declared.refusal.Refusal.{Refusal}
use Rattle.refusals.specs.declared.refusal.Refusal.TheVariants.{BadProfile, BadSheet, BadTable, ShortOutput}
use Rattle.codes.specs.Codes.{place_of}
use Rattle.profile.specs.Access.{access_read}
use Rattle.profile.specs.Profile.{services_most, subscribed_services}
use Rattle.profile.specs.declared.profile.Profile.{Profile}
use Rattle.lists.specs.Entries.{instances_most}
use Rattle.instances.specs.declared.instance.Instance.{Instance}
use Rattle.forms.specs.Form.{form1}
use Rattle.refusals.specs.Handling.{Made, made, not_made}
use Rattle.forms.specs.Sheet.{Sheet, sheet_in, sheet_octets}
use Rattle.forms.specs.Size.{sheet_most}
use Rattle.grid.specs.Grid.{Grid, no_grid, row_at}
use Rattle.grid.specs.Holds.{holds}
use Rattle.grid.specs.Row.{cell_of}
use Rattle.grid.specs.Table.{GridTable, grid_fresh, grid_table_good}

-- ---- a table is written

-- "Lowest number first"
unfoldable pub grid_wrote_sheet : List ℕ → GridTable → ℕ → Made
grid_wrote_sheet access t size =
    first
    (test (ltb size (sheet_most form1)) ShortOutput
    ∷ test (not (access_read access).ok) BadProfile
    ∷ test (not (grid_table_good instances_most (access_read access).profile t)) BadTable
    ∷ [])
    not_made
    (made (sheet_octets form1 t.last (holds t.grid)))

-- ---- a sheet is read

-- "anything outside the table's rules is refusal 9": an instance of a subscribed procedure and service, for a number of the profile
unfoldable pub grid_in_profile : Profile → Instance → Bool
grid_in_profile p i =
    all
    (eqb (get_or p.subscribed i.procedure 0) 1
    ∷ ltb i.number p.numbercount
    ∷ ltb (place_of i.service (subscribed_services p)) p.servicecount
    ∷ [])

unfoldable pub grid_all_in : Profile → List Instance → Bool
grid_all_in p [] = true
grid_all_in p (i ∷ is) = pick (grid_in_profile p i) (grid_all_in p is) false

-- the grid with one instance more, and with all
abbrev pub place_of_instance : Profile → Instance → ℕ
place_of_instance p i = services_most * i.number + place_of i.service (subscribed_services p)

unfoldable pub grid_placed : Profile → Grid → Instance → Grid
grid_placed p grid i = record {
  rows = set grid.rows i.procedure
      (record { cells = set (row_at grid i.procedure).cells (place_of_instance p i) (cell_of i.service i.address) });
}

unfoldable pub all_placed : Profile → Grid → List Instance → Grid
all_placed p grid [] = grid
all_placed p grid (i ∷ is) = all_placed p (grid_placed p grid i) is

-- whether it is a sheet, and a table of the profile can hold it; and the table that it holds
abbrev pub grid_sheet_allowed : Profile → Got Sheet → Bool
grid_sheet_allowed p (got sheet next) = grid_all_in p sheet.instances
grid_sheet_allowed p wrong = false

abbrev pub grid_table_in : Profile → Got Sheet → GridTable
grid_table_in p (got sheet next) = record { last = sheet.last; grid = all_placed p no_grid sheet.instances }
grid_table_in p wrong = grid_fresh

-- what is told, and the table that is read
pub record GridTableRead : Type 0 where
  pub told : Told (Unit {0})
  pub table : GridTable

abbrev pub grid_not_read : Refusal → GridTableRead
grid_not_read refusal = record { told = refuses (refusal_no refusal); table = grid_fresh }

-- "Lowest number first"
unfoldable pub grid_read_sheet : List ℕ → List ℕ → GridTableRead
grid_read_sheet access s =
    first
    (test (not (access_read access).ok) BadProfile
    ∷ test (not (grid_sheet_allowed (access_read access).profile (sheet_in form1 s))) BadSheet
    ∷ [])
    grid_not_read
    (record { told = tells tt; table = grid_table_in (access_read access).profile (sheet_in form1 s) })
