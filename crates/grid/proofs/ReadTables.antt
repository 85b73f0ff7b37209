-- What a sheet that is accepted gives: a table that breaks no rule, for which exactly these octets are written. Assumes nothing.
use Prim.Native.Nat.{◌<◌, ℕ}
use mathlib.Core.Bool.{false, not, true}
use mathlib.Core.List.{List}
use mathlib.Core.Path.{◌∙◌, ◌≡◌, ap, refl, sym}
use native.Mathlib.Omega.{arith}
use lib.Dec.{eqb}
use lib.ListN.{get_or}
use borrow.Author.Tests.{eqb-false}
use Rattle.laws.specs.Got.{Got, got, wrong}
use Rattle.laws.specs.Pick.{pick}
use Rattle.laws.proofs.Eaches.{Each, Up, each_so}
use Rattle.laws.proofs.Gots.{found_is}
use Rattle.laws.proofs.Picks.{by_bool, not_passed, pick_then}
use Rattle.refusals.specs.Refusal.{tells}
use Rattle.refusals.specs.declared.refusal.Refusal.TheVariants.{BadProfile, BadSheet}
use Rattle.refusals.proofs.Refusals.{refuses_not}
use Rattle.profile.specs.Access.{access_read}
use Rattle.profile.specs.declared.profile.Profile.{Profile}
use Rattle.profile.proofs.Records.{access_good, access_services}
use Rattle.lists.specs.Entries.{instances_most}
use Rattle.instances.specs.Instance.{key_of}
use Rattle.instances.specs.declared.instance.Instance.{Instance}
use Rattle.instances.proofs.Goods.{few_of}
use Rattle.instances.proofs.Keys.{up_of}
use Rattle.forms.specs.Form.{form1}
use Rattle.forms.specs.Sheet.{Sheet, sheet_in, sheet_octets}
use Rattle.forms.proofs.Accepted.{sheet_only}
use Rattle.forms.proofs.Fits.{FieldsFit, order_of}
use Rattle.forms.proofs.Readers.{service_few}
use Rattle.forms.proofs.Sheets.{Allowed, sheet_allowed_lem}
use Rattle.grid.specs.Grid.{no_grid}
use Rattle.grid.specs.Holds.{holds}
use Rattle.grid.specs.Sheets.{GridTableRead, all_placed, grid_all_in, grid_not_read, grid_read_sheet, grid_sheet_allowed, grid_table_in}
use Rattle.grid.specs.Table.{GridTable, grid_table_good}
use Rattle.grid.proofs.PlacedCells.{Holdable}
use Rattle.grid.proofs.PlacedGoods.{grid_placed_lem}
use Rattle.grid.proofs.PlacedOrders.{placed_instances}
use Rattle.grid.proofs.Tables.{table_grid}

-- what is read where the profile is good: the sheet decides
abbrev pub grid_table_from : Profile → Got Sheet → GridTableRead
grid_table_from p g = pick (not (grid_sheet_allowed p g)) (grid_not_read BadSheet) (record { told = tells tt; table = grid_table_in p g })

-- ---- what is read, test by test

module _ (access s : List ℕ) where
  pub read_profile : (access_read access).ok ≡ false → grid_read_sheet access s ≡ grid_not_read BadProfile
  unfolding grid_read_sheet
  read_profile bad = rw bad

  -- where the profile is good the sheet decides
  pub read_from : (access_read access).ok ≡ true → grid_read_sheet access s ≡ grid_table_from (access_read access).profile (sheet_in form1 s)
  unfolding grid_read_sheet
  read_from ok = rw ok

-- ---- a sheet that is accepted

-- its instances may stand in cells
pub fields_holdable : (i : Instance) → FieldsFit form1 i → Holdable i
fields_holdable i fits = record {
  procedure = fits.procedure;
  some = eqb-false i.service 0 (not_passed _ (pick_then (not (eqb i.service 0)) _ fits.service).0);
  small = omega (arith, service_few i.service fits.service);
  address = fits.address.good;
}

abbrev grid_table_of : Profile → Sheet → GridTable
grid_table_of p sheet = record { last = sheet.last; grid = all_placed p no_grid sheet.instances }

-- what was found, and the table of it
record Taken (p : Profile) (g : Got Sheet) : Type 0 where
  sheet : Sheet
  next : ℕ
  found : g ≡ got sheet next
  all : grid_all_in p sheet.instances ≡ true
  table : (grid_table_from p g).table ≡ grid_table_of p sheet

taken : (p : Profile) (g : Got Sheet) → (grid_table_from p g).told ≡ tells tt → Taken p g
taken p (got sheet next) is =
    by_bool _ (grid_all_in p sheet.instances)
    (λ e. record { sheet = sheet; next = next; found = refl; all = e; table = rw e })
    (λ e. absurd (refuses_not _ tt (rw e at is)))
taken p wrong is = absurd (refuses_not _ tt is)

module _ (access s : List ℕ) (accepted : (grid_read_sheet access s).told ≡ tells tt) where
  abbrev p : Profile
  p = (access_read access).profile

  pub read_ok : (access_read access).ok ≡ true
  unfolding grid_read_sheet
  read_ok =
      by_bool _ (access_read access).ok (λ e. e)
      (λ e. absurd (refuses_not _ tt (rw e at accepted)))

  was : Taken p (sheet_in form1 s)
  was = taken p (sheet_in form1 s) (sym (ap (λ r. r.told) (read_from access s read_ok)) ∙ accepted)

  table_is : (grid_read_sheet access s).table ≡ grid_table_of p was.sheet
  table_is = ap (λ r. r.table) (read_from access s read_ok) ∙ was.table

  allowed : Allowed form1 was.sheet
  allowed = found_is (Allowed form1) was.found (sheet_allowed_lem form1 s)

  up : Up key_of 0 was.sheet.instances
  up = up_of 0 was.sheet.instances (order_of form1 was.sheet.instances allowed.order).0

  holdable : Each Holdable was.sheet.instances
  holdable = each_so (FieldsFit form1) Holdable fields_holdable was.sheet.instances allowed.each

  instances_are : holds (grid_read_sheet access s).table.grid ≡ was.sheet.instances
  instances_are =
      ap (λ (t : GridTable). holds t.grid) table_is
      ∙ placed_instances p (access_good access read_ok) (access_services access) was.sheet.instances
      up holdable was.all

  -- an accepted sheet is exactly the octets that are written for the table that it gives
  pub accepted_table :
      ((i : ℕ) → get_or s i 0 < 256) →
      s ≡ sheet_octets form1 (grid_read_sheet access s).table.last (holds (grid_read_sheet access s).table.grid)
  accepted_table small =
      sheet_only s small form1 was.sheet was.next was.found
      ∙ ap (λ (last : ℕ). sheet_octets form1 last was.sheet.instances) (sym (ap (λ (t : GridTable). t.last) table_is))
      ∙ ap (sheet_octets form1 (grid_read_sheet access s).table.last) (sym instances_are)

  -- and the table breaks no rule
  pub read_good : grid_table_good instances_most (access_read access).profile (grid_read_sheet access s).table ≡ true
  read_good =
      let few = few_of form1.perprocedure was.sheet.instances (order_of form1 was.sheet.instances allowed.order).1 in
      rw table_is
      (table_grid instances_most p (grid_table_of p was.sheet) allowed.last
      ∙ grid_placed_lem instances_most p (access_good access read_ok) (access_services access) was.sheet.instances up holdable
      was.all few)

-- two accepted sheets of one access that give the same table are the same octets
pub sheets_apart :
    (access s u : List ℕ) → ((i : ℕ) → get_or s i 0 < 256) → ((i : ℕ) → get_or u i 0 < 256) →
    (grid_read_sheet access s).told ≡ tells tt →
    (grid_read_sheet access u).told ≡ tells tt →
    (grid_read_sheet access s).table ≡ (grid_read_sheet access u).table →
    s ≡ u
sheets_apart access s u small little a b same =
    accepted_table access s a small
    ∙ ap (λ (t : GridTable). sheet_octets form1 t.last (holds t.grid)) same
    ∙ sym (accepted_table access u b little)
