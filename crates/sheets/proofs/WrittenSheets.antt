-- What `write_sheet` writes: its refusals, lowest first, and the sheet. Assumes nothing.
use Prim.Native.Nat.{ℕ, ◌≤◌, ◌<◌}
use mathlib.Core.Path.{◌≡◌, sym, ◌∙◌}
use mathlib.Core.Bool.{true, false, not}
use mathlib.Core.List.{List}
use native.Mathlib.Nat.{zero-add}
use native.Mathlib.Omega.{arith}
use lib.ListN.{length}
use lib.Dec.{ltb}
use borrow.Author.Tests.{lt-ltb, le-ltb, not-false}
use Rattle.std.specs.Prelude.{Ok, Err}
use Rattle.laws.specs.Over.{Wrote}
use Rattle.laws.proofs.Over.{over_nil}
use Rattle.laws.proofs.Cases.{cases}
use Rattle.laws.proofs.Picks.{pick_ind}
use Rattle.laws.proofs.Eaches.{Each}
use Rattle.refusals.specs.declared.refusal.Refusal.{Refusal}
use Rattle.refusals.specs.declared.refusal.Refusal.TheVariants.{ShortOutput, BadProfile, BadTable}
use Rattle.profile.specs.Access.{access_read}
use Rattle.profile.proofs.Records.{access_good, read_some, read_none}
use Rattle.lists.specs.Entries.{instances_most}
use Rattle.instances.specs.Places.{run_most}
use Rattle.instances.specs.Run.{instances_of}
use Rattle.exchange.specs.Table.{last_most, table_good}
use Rattle.exchange.specs.declared.table.Table.{Table}
use Rattle.exchange.proofs.Tables.{table_good_lem}
use Rattle.forms.specs.Form.{form1}
use Rattle.forms.specs.Size.{sheet_most}
use Rattle.forms.specs.Sheet.{sheet_octets}
use Rattle.refusals.specs.Handling.{Made, not_made, made}
use Rattle.sheets.specs.Sheets.{wrote_sheet, WritesSheet}
use Rattle.sheets.specs.inner.Write.{Space, AllWritable}
use Rattle.sheets.proofs.WrittenTables.{Arrays, instances_few, instances_count, table_writable, sheet_fits}

module _ (access : List ℕ) (t : Table) (size : ℕ) where
  pub writes_short : size < sheet_most form1 → wrote_sheet access t size ≡ not_made ShortOutput
  unfolding wrote_sheet
  writes_short short = rw (lt-ltb size (sheet_most form1) short)

  module _ (enough : sheet_most form1 ≤ size) where
    pub writes_profile : (access_read access).ok ≡ false → wrote_sheet access t size ≡ not_made BadProfile
    unfolding wrote_sheet
    writes_profile bad = rw (le-ltb size (sheet_most form1) enough, bad)

    module _ (ok : (access_read access).ok ≡ true) where
      pub writes_table :
          table_good instances_most (access_read access).profile t ≡ false → wrote_sheet access t size ≡ not_made BadTable
      unfolding wrote_sheet
      writes_table bad = rw (le-ltb size (sheet_most form1) enough, ok, bad)

      pub writes_sheet :
          table_good instances_most (access_read access).profile t ≡ true →
          wrote_sheet access t size ≡ made (sheet_octets form1 t.last (instances_of t.run))
      unfolding wrote_sheet
      writes_sheet good = rw (le-ltb size (sheet_most form1) enough, ok, good)

-- "under .. 1,613 (sheet)": every sheet that is written fits there
pub sheet_written_most :
    (access : List ℕ) (t : Table) (size : ℕ) → Each Arrays (instances_of t.run) →
    length (wrote_sheet access t size).octets ≤ sheet_most form1
unfolding wrote_sheet
sheet_written_most access t size arrays =
    let p = (access_read access).profile in
    let P : Made → Type 0 = λ m. length m.octets ≤ sheet_most form1 in
    pick_ind P (ltb size (sheet_most form1)) (λ _. omega arith) (λ _.
    pick_ind P (not (access_read access).ok) (λ _. omega arith) (λ ok.
    pick_ind P (not (table_good instances_most p t)) (λ _. omega arith) (λ good.
    sheet_fits p t (not-false _ good) (access_good access (not-false _ ok)) arrays)))

-- what is refused writes nothing
pub refused_writes :
    (access : List ℕ) (t : Table) (xs : List ℕ) (refusal : Refusal) →
    wrote_sheet access t (length xs) ≡ not_made refusal →
    WritesSheet access t xs (Err refusal) xs
refused_writes access t xs refusal is = record { told = rw is; count = rw is; lent = rw is (sym (over_nil xs 0)) }

-- what is not refused is written whole
pub sheet_writes :
    (access : List ℕ) (t : Table) (xs : List ℕ) (n : ℕ) (ys : List ℕ) →
    wrote_sheet access t (length xs) ≡ made (sheet_octets form1 t.last (instances_of t.run)) →
    Wrote xs 0 (sheet_octets form1 t.last (instances_of t.run)) n ys →
    WritesSheet access t xs (Ok n) ys
sheet_writes access t xs n ys is w = record {
  told = rw is;
  count = rw is (w.moved ∙ zero-add _);
  lent = rw is w.holds;
}

-- ---- a table that is not refused

-- its instances are as many as it counts, few and such as a sheet may hold, and there is space for all of them after the first
-- three fields
pub record Ready (t : Table) (xs : List ℕ) : Type 0 where
  pub last : t.last ≤ last_most
  pub count : length (instances_of t.run) ≡ t.run.count
  pub few : length (instances_of t.run) < 128
  pub most : t.run.count ≤ run_most
  pub space : Space xs 5 (instances_of t.run)
  pub writable : AllWritable (instances_of t.run)

pub ready :
    (access : List ℕ) (t : Table) (xs : List ℕ) → sheet_most form1 ≤ length xs → (access_read access).ok ≡ true →
    table_good instances_most (access_read access).profile t ≡ true →
    length t.run.run ≡ run_most →
    Ready t xs
ready access t xs enough ok good long =
    let p = (access_read access).profile in
    let few = instances_few p t good in
    record {
      last = (table_good_lem instances_most p t good).0;
      count = instances_count p t good long;
      few = omega (arith, few);
      most = omega (arith, few, instances_count p t good long);
      space = omega (arith, few, enough);
      writable = table_writable p t good (access_good access ok);
    }

-- what finds that a refusal is promised
pub ruleset writes = (cases, over_nil, read_some, read_none)
