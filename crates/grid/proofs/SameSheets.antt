-- Night sheets of a grid and of a run that hold the same: the same octets are written, and the same octets are read as tables that hold the
-- same, or refused alike (document 02, R-10). Assumes nothing.
use Prim.Native.Nat.{ℕ}
use mathlib.Core.Bool.{false, false≢true, true}
use mathlib.Core.List.{List}
use mathlib.Core.Logic.{⊎_elim}
use mathlib.Core.Path.{◌∙◌, ◌≡◌, ap, refl, subst, sym}
use lib.Dec.{ltb}
use borrow.Author.Tests.{ltb-false, ltb-true}
use Rattle.std.specs.Prelude.{Option, Some, None, Err}
use Rattle.laws.proofs.Eaches.{each_so}
use Rattle.laws.proofs.Picks.{by_bool}
use Rattle.refusals.specs.Handling.{made}
use Rattle.refusals.specs.Refusal.{tells}
use Rattle.refusals.specs.declared.refusal.Refusal.{Refusal}
use Rattle.refusals.specs.declared.refusal.Refusal.TheVariants.{BadProfile, BadSheet}
use Rattle.profile.specs.Access.{access_read}
use Rattle.profile.specs.declared.profile.Profile.{Profile}
use Rattle.lists.specs.Entries.{instances_most}
use Rattle.instances.specs.Run.{instances_of, run_good}
use Rattle.instances.specs.declared.instance.Instance.{Instance}
use Rattle.instances.proofs.Goods.{GoodList, few_of, good_run, run_good_lem}
use Rattle.instances.proofs.Keys.{up_of}
use Rattle.exchange.specs.declared.table.Table.{Table}
use Rattle.forms.specs.Form.{form1}
use Rattle.forms.specs.Formed.{form_read}
use Rattle.forms.specs.Sheet.{sheet_in, sheet_octets}
use Rattle.forms.specs.Size.{sheet_most}
use Rattle.forms.specs.declared.sheet.FormRead.{FormRead}
use Rattle.forms.proofs.Fits.{FieldsFit, order_of}
use Rattle.forms.proofs.Sheets.{FormFound, form_found, form_none}
use Rattle.sheets.specs.Sheets.{ReadsSheet, read_sheet, wrote_sheet}
use Rattle.sheets.proofs.ReadTables as run
use Rattle.sheets.proofs.Tables.{reads_form, reads_outside, reads_profile, reads_table}
use Rattle.sheets.proofs.WrittenSheets as written
use Rattle.grid.specs.Equal.{BothBreak, HoldSame, ReadSame, SameTable}
use Rattle.grid.specs.Grid.{no_grid}
use Rattle.grid.specs.Holds.{holds}
use Rattle.grid.specs.Sheets.{GridTableRead, all_placed, grid_all_in, grid_not_read, grid_read_sheet, grid_wrote_sheet}
use Rattle.grid.specs.Table.{GridTable, grid_fresh}
use Rattle.grid.proofs.PlacedCells.{Holdable}
use Rattle.grid.proofs.PlacedGoods.{good_in, in_good, placed_holds, placed_whole}
use Rattle.grid.proofs.ProfilePlaces.{access_whole}
use Rattle.grid.proofs.ReadTables.{fields_holdable, read_from, read_good, read_profile}
use Rattle.grid.proofs.SameTables.{fresh_same}
use Rattle.grid.proofs.WrittenSheets.{writes_profile, writes_sheet, writes_short, writes_table}

-- ---- written

pub wrote_same :
    (access : List ℕ) (g : GridTable) (t : Table) (size : ℕ) → SameTable (access_read access).profile g t →
    grid_wrote_sheet access g size ≡ wrote_sheet access t size
wrote_same access g t size so =
    let p : Profile = (access_read access).profile in
    let Goal : Type 0 = grid_wrote_sheet access g size ≡ wrote_sheet access t size in
    by_bool Goal (ltb size (sheet_most form1))
    (λ e.
    let short = ltb-true size (sheet_most form1) e in
    writes_short access g size short ∙ sym (written.writes_short access t size short))
    (λ e.
    let room = ltb-false size (sheet_most form1) e in
    by_bool Goal (access_read access).ok
    (λ ok.
    ⊎_elim
    (λ (same : HoldSame p g t).
    writes_sheet access g size room ok same.grid_good_lem
    ∙ ap (λ (last : ℕ). made (sheet_octets form1 last (holds g.grid))) same.last
    ∙ ap (λ (is : List Instance). made (sheet_octets form1 t.last is)) same.held
    ∙ sym (written.writes_sheet access t size room ok same.run_good_lem))
    (λ (broken : BothBreak p g t).
    writes_table access g size room ok broken.grid_bad ∙ sym (written.writes_table access t size room ok broken.run_bad))
    so)
    (λ bad. writes_profile access g size room bad ∙ sym (written.writes_profile access t size room bad)))

-- ---- read

module _ (access s : List ℕ) where
  abbrev p : Profile
  p = (access_read access).profile

  abbrev Alike : GridTableRead → Type 0
  Alike x = ReadSame p x (read_sheet access s)

  -- both refuse, and the tables are those of a new access
  both_refuse : (refusal : Refusal) → ReadsSheet access s (Err refusal) → Alike (grid_not_read refusal)
  both_refuse refusal reads = record {
    told = reads.told;
    tables = subst (HoldSame p grid_fresh) reads.table (fresh_same p);
  }

  module _ (ok : (access_read access).ok ≡ true) where
    abbrev read_here : Option FormRead
    read_here = form_read (sheet_in form1 s)

    module _ (form : FormRead) (formed : read_here ≡ Some form) where
      was : FormFound s form
      was = form_found s refl formed

      abbrev is : List Instance
      is = was.sheet.instances

      -- the run of the sheet breaks no rule exactly if its instances are in the profile
      held_good : run_good instances_most p form.run ≡ true → GoodList p instances_most is
      held_good good = subst (GoodList p instances_most) was.instances (run_good_lem p instances_most form.run good)

      run_held : grid_all_in p is ≡ true → run_good instances_most p form.run ≡ true
      run_held all =
          let order = order_of form1 is was.allowed.order in
          let holdable = each_so (FieldsFit form1) Holdable fields_holdable is was.allowed.each in
          ap (run_good instances_most p) was.run
          ∙ good_run p is (record {
            ascends = up_of 0 is order.0;
            each = in_good p (access_whole access ok) is holdable all;
            few = few_of instances_most is order.1;
          })

      both_read : run_good instances_most p form.run ≡ true → Alike (grid_read_sheet access s)
      both_read good =
          let whole = access_whole access ok in
          let so = held_good good in
          let read : grid_read_sheet access
          s ≡ record { told = tells tt; table = record { last = was.sheet.last; grid = all_placed p no_grid is } } =
          read_from access s ok ∙ rw (was.is, good_in p whole is so.each) in
          let reads = reads_table access s p (ok, refl) read_here refl form formed good in
          record {
            told = ap (λ (x : GridTableRead). x.told) read ∙ reads.told;
            tables = record {
              shaped = rw read (placed_whole p whole instances_most is so);
              grid_good_lem = read_good access s (ap (λ (x : GridTableRead). x.told) read);
              run_good_lem = run.read_good access s (sym reads.told);
              last =
                  ap (λ (x : GridTableRead). x.table.last) read
                  ∙ sym was.last
                  ∙ ap (λ (t : Table). t.last) reads.table;
              held =
                  ap (λ (x : GridTableRead). holds x.table.grid) read
                  ∙ placed_holds p whole instances_most is so
                  ∙ sym was.instances
                  ∙ ap (λ (t : Table). instances_of t.run) reads.table;
            };
          }

      none_read : run_good instances_most p form.run ≡ false → Alike (grid_read_sheet access s)
      none_read bad =
          let outside : grid_all_in p is ≡ false =
          by_bool (grid_all_in p is ≡ false) (grid_all_in p is) (λ all. absurd (false≢true (sym bad ∙ run_held all))) (λ e. e) in
          let read : grid_read_sheet access s ≡ grid_not_read BadSheet = read_from access s ok ∙ rw (was.is, outside) in
          rw read (both_refuse BadSheet (reads_outside access s p (ok, refl) read_here refl form formed bad))

    -- by what the octets are as a sheet of form 1
    formed_same : (r : Option FormRead) → read_here ≡ r → Alike (grid_read_sheet access s)
    formed_same (Some form) formed =
        by_bool (Alike (grid_read_sheet access s)) (run_good instances_most p form.run) (both_read form formed) (none_read form formed)
    formed_same None unformed =
        let read : grid_read_sheet access s ≡ grid_not_read BadSheet = read_from access s ok ∙ rw (form_none s refl unformed) in
        rw read (both_refuse BadSheet (reads_form access s p (ok, refl) read_here refl unformed))

  -- any octets are refused alike, or read as tables that hold the same
  pub read_same : ReadSame (access_read access).profile (grid_read_sheet access s) (read_sheet access s)
  read_same =
      by_bool (Alike (grid_read_sheet access s)) (access_read access).ok
      (λ ok. formed_same ok (read_here ok) refl)
      (λ bad.
      rw (read_profile access s bad)
      (both_refuse BadProfile (reads_profile access s bad)))
