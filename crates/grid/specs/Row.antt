-- What a procedure holds in the first layout: a row of cells, one for each number and each service of the profile (document 01, "Profile
-- and table"). A place is a number and a service: the places of the first number come first, each number's by service code.
use Rattle.std.specs.Prelude.{◌%◌, ◌*◌, ◌/◌, ℕ, Bool, false, not, true, List, [], ◌∷◌, eqb, leb, ltb, get_or}
use Rattle.std.proofs.Math.Option.{Option, none, some}
use Rattle.laws.specs.Pick.{pick}
use Rattle.laws.specs.Places.{changed_from, count_to, every_to, gathered}
use Rattle.laws.specs.Tests.{all, any}
use Rattle.numbers.specs.Address.{address_good, blank_address, tidy_address}
use Rattle.numbers.specs.declared.address.Address.{Address}
use Rattle.profile.specs.Profile.{numbers_most, services_most}
use Rattle.profile.specs.declared.profile.Profile.{Profile}
use Rattle.lists.specs.Entry.{entry_of}
use Rattle.lists.specs.declared.entry.Entry.{Entry}

-- the number and the service of a place, by their places in the profile
abbrev pub places : ℕ
places = numbers_most * services_most

abbrev pub number_of_place : ℕ → ℕ
number_of_place j = j / services_most

abbrev pub service_of_place : ℕ → ℕ
service_of_place j = j % services_most

-- ---- cells

-- an instance of the service; none where that is 0
pub record Cell : Type 0 where
  pub service : ℕ
  pub address : Address

pub record Row : Type 0 where
  pub cells : List Cell

-- an instance of the service `code`; a cell whose code is 0 holds none, and its address carries no meaning
abbrev pub cell_of : ℕ → Address → Cell
cell_of code address = record { service = code; address = address }

abbrev pub no_cell : Cell
no_cell = cell_of 0 blank_address

-- the cell of a place, and what stands for one past the array
abbrev pub outside : Cell
outside = cell_of 0 (record { number = record { form = 0; kind = 0; count = 0; digits = [] }; subcount = 0; sub = [] })

abbrev pub cell_at : Row → ℕ → Cell
cell_at row j = get_or row.cells j outside

-- whether an instance is active at the place
unfoldable pub active : Row → ℕ → Bool
active row j = not (eqb (cell_at row j).service 0)

-- what a row holds at each place, whatever its layout: perhaps an address
abbrev pub View : Type 0
View = ℕ → Option Address

unfoldable pub held : Row → View
held row j = pick (active row j) (some (tidy_address (cell_at row j).address)) none

-- the instance at a place: its address where one is active
pub record Held : Type 0 where
  pub ok : Bool
  pub address : Address

abbrev pub no_held : Held
no_held = record { ok = false; address = no_cell.address }

unfoldable pub held_at : Row → ℕ → Held
held_at row j = pick (active row j) (record { ok = true; address = (cell_at row j).address }) no_held

-- ---- places that are selected

-- the places that are selected, each by the code of its service; 0 at any other
pub record Places : Type 0 where
  pub codes : List ℕ

abbrev pub code_of_place : Places → ℕ → ℕ
code_of_place w j = get_or w.codes j 0

unfoldable pub grid_selected : Places → ℕ → Bool
grid_selected w j = not (eqb (code_of_place w j) 0)

-- how many instances there are with one at every selected place
unfoldable pub count_with : Places → Row → ℕ
count_with w row = count_to (λ j. pick (active row j) true (grid_selected w j)) places

-- how many selected instances are active
unfoldable pub active_of : Places → Row → ℕ
active_of w row = count_to (λ j. pick (grid_selected w j) (active row j) false) places

-- "every selected number and service .. gets the address, replacing an older one, all together"
unfoldable pub put_in : Places → Address → Row → Row
put_in w address row = record {
  cells = changed_from (λ j x. pick (grid_selected w j) (cell_of (code_of_place w j) address) x) 0 row.cells;
}

-- "removes every active selected instance"
unfoldable pub clear_in : Places → Row → Row
clear_in w row = record { cells = changed_from (λ j x. pick (grid_selected w j) no_cell x) 0 row.cells }

-- "every active selected instance, by profile number, then service code. Each carries the profile's own number."
unfoldable pub entry_of_place : Profile → ℕ → Row → ℕ → Entry
entry_of_place p procedure row j =
    entry_of (get_or p.numbers (number_of_place j) (record { form = 0; kind = 0; count = 0; digits = [] }))
    (cell_at row j).service
    procedure
    (cell_at row j).address

unfoldable pub grid_entries : Profile → ℕ → Places → Row → List Entry
grid_entries p procedure w row =
    gathered (λ j. pick (grid_selected w j) (pick (active row j) (entry_of_place p procedure row j ∷ []) []) []) places

-- ---- rows that break no rule

-- "hold only subscribed procedures and services and profile numbers", and addresses by the rules for numbers
unfoldable pub cell_good : Profile → ℕ → ℕ → Cell → Bool
cell_good p procedure j x =
    any
    (eqb x.service 0
    ∷ all
    (eqb (get_or p.subscribed procedure 0) 1
    ∷ ltb (number_of_place j) p.numbercount
    ∷ ltb (service_of_place j) p.servicecount
    ∷ eqb x.service (get_or p.services (service_of_place j) 0)
    ∷ address_good x.address
    ∷ [])
    ∷ [])

-- "at most 8 for each procedure", over the limit
unfoldable pub row_good : ℕ → Profile → ℕ → Row → Bool
row_good limit p procedure row =
    all (every_to (λ j. cell_good p procedure j (cell_at row j)) places ∷ leb (count_to (active row) places) limit ∷ [])
