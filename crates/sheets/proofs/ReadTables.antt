-- What a sheet that is accepted gives: a table that breaks no rule, for which exactly these octets are written. Assumes nothing.
use Prim.Native.Nat.{ℕ, ◌≤◌, ◌<◌}
use mathlib.Core.Path.{◌≡◌, refl, sym, ap, ◌∙◌}
use mathlib.Core.Bool.{true}
use mathlib.Core.List.{List}
use lib.ListN.{length, get_or}
use Rattle.laws.specs.Got.{Got, got, wrong}
use Rattle.laws.proofs.Gots.{found_is}
use Rattle.laws.proofs.Picks.{by_bool}
use Rattle.refusals.specs.Refusal.{tells}
use Rattle.refusals.proofs.Refusals.{refuses_not}
use Rattle.profile.specs.Access.{access_read}
use Rattle.profile.specs.declared.profile.Profile.{Profile}
use Rattle.lists.specs.Entries.{instances_most}
use Rattle.instances.specs.Run.{instances_of, packed, instances_good}
use Rattle.instances.proofs.Goods.{good_list, good_run}
use Rattle.exchange.specs.Table.{table_of, table_good}
use Rattle.exchange.specs.declared.table.Table.{Table}
use Rattle.exchange.proofs.Tables.{good_table}
use Rattle.forms.specs.Form.{form1}
use Rattle.forms.specs.Sheet.{Sheet, sheet_octets, sheet_in}
use Rattle.forms.proofs.Fits.{form1_short}
use Rattle.forms.proofs.Sheets.{Allowed, sheet_allowed_lem, allowed_packed}
use Rattle.forms.proofs.Accepted.{sheet_only, accepted_form1}
use Rattle.sheets.specs.Sheets.{read_sheet}
use Rattle.sheets.proofs.Tables.{table_from}

-- what was found, and the table of it
record Taken (p : Profile) (g : Got Sheet) : Type 0 where
  sheet : Sheet
  next : ℕ
  found : g ≡ got sheet next
  good : instances_good instances_most p sheet.instances ≡ true
  table : (table_from p g).table ≡ table_of sheet.last (packed sheet.instances)

taken : (p : Profile) (g : Got Sheet) → (table_from p g).told ≡ tells tt → Taken p g
taken p (got sheet next) is =
    by_bool (Taken p (got sheet next)) (instances_good instances_most p sheet.instances)
    (λ e. record { sheet = sheet; next = next; found = refl; good = e; table = rw e })
    (λ e. absurd (refuses_not _ tt (rw e at is)))
taken p wrong is = absurd (refuses_not _ tt is)

module _ (access s : List ℕ) (accepted : (read_sheet access s).told ≡ tells tt) where
  abbrev p : Profile
  p = (access_read access).profile

  pub read_ok : (access_read access).ok ≡ true
  unfolding read_sheet
  read_ok =
      by_bool ((access_read access).ok ≡ true) (access_read access).ok (λ e. e)
      (λ e. absurd (refuses_not _ tt (rw e at accepted)))

  read_is : read_sheet access s ≡ table_from p (sheet_in form1 s)
  unfolding read_sheet
  read_is = rw read_ok

  was : Taken p (sheet_in form1 s)
  was = taken p (sheet_in form1 s) (sym (ap (λ r. r.told) read_is) ∙ accepted)

  abbrev sheet : Sheet
  sheet = was.sheet

  table_is : (read_sheet access s).table ≡ table_of sheet.last (packed sheet.instances)
  table_is = ap (λ r. r.table) read_is ∙ was.table

  allowed : Allowed form1 sheet
  allowed = found_is (Allowed form1) was.found (sheet_allowed_lem form1 s)

  instances_are : instances_of (read_sheet access s).table.run ≡ sheet.instances
  instances_are = ap (λ (t : Table). instances_of t.run) table_is ∙ allowed_packed form1 form1_short sheet allowed

  -- an accepted sheet is exactly the octets that are written for the table that it gives
  pub accepted_table :
      ((i : ℕ) → get_or s i 0 < 256) →
      s ≡ sheet_octets form1 (read_sheet access s).table.last (instances_of (read_sheet access s).table.run)
  accepted_table small =
      sheet_only s small form1 sheet was.next was.found
      ∙ ap (λ (last : ℕ). sheet_octets form1 last sheet.instances) (sym (ap (λ (t : Table). t.last) table_is))
      ∙ ap (sheet_octets form1 (read_sheet access s).table.last) (sym instances_are)

  -- of which there are at most 1,613
  pub accepted_size : ((i : ℕ) → get_or s i 0 < 256) → length s ≤ 1613
  accepted_size small = accepted_form1 s small sheet was.next was.found

  -- and the table breaks no rule
  pub read_good : table_good instances_most (access_read access).profile (read_sheet access s).table ≡ true
  read_good =
      rw table_is
      (good_table instances_most p (table_of sheet.last (packed sheet.instances)) allowed.last
      (good_run p sheet.instances (good_list p instances_most sheet.instances was.good)))

-- two accepted sheets of one access that give the same table are the same octets
pub sheets_apart :
    (access s u : List ℕ) → ((i : ℕ) → get_or s i 0 < 256) → ((i : ℕ) → get_or u i 0 < 256) →
    (read_sheet access s).told ≡ tells tt →
    (read_sheet access u).told ≡ tells tt →
    (read_sheet access s).table ≡ (read_sheet access u).table →
    s ≡ u
sheets_apart access s u small little a b same =
    accepted_table access s a small
    ∙ ap (λ (t : Table). sheet_octets form1 t.last (instances_of t.run)) same
    ∙ sym (accepted_table access u b little)
