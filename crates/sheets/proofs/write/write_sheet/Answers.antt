use Rattle.laws.proofs.Parts.{unmapped}
use Rattle.profile.specs.Access.{access_read}
use Rattle.profile.proofs.Records.{read_some}
use Rattle.instances.specs.Places.{run_most}
use Rattle.instances.specs.Run.{instances_of}
use Rattle.lists.specs.Entries.{instances_most}
use Rattle.exchange.specs.Table.{table_good}
use Rattle.forms.specs.Form.{form1}
use Rattle.forms.specs.Size.{sheet_most}
use Rattle.sheets.proofs.InstanceWriters.{sheet_space, sheet_wrote}
use Rattle.sheets.proofs.WrittenSheets.{writes_sheet, sheet_writes, Ready, ready}
use Prim.Native.Nat.{◌≤◌}
use lib.ListN.{length}
use mathlib.Core.Path.{◌≡◌, sym, ◌∙◌}
use mathlib.Core.Bool.{true}
use native.Mathlib.Omega.{arith}
use borrow.Author.Rules.{rules}
use Rattle.sheets.proofs.write.write_sheet.Goals as goal

-- where nothing is refused
pub write_run-count-requires : goal.write_run-count-requires
write_run-count-requires c = let a = c.args in
    let read = read_some a.access.now _ _ c.read_access.ensures c.in-Some.is in
    let long : length a.table.run.run ≡ run_most = search (unmapped, rules, c.good) in
    let f : Ready a.table a.out.now =
    ready a.access.now a.table a.out.now (omega (arith, c.if-out-lt-SHEETMOST.false)) read.0
    (rw read.1 (sym c.good.ensures ∙ c.if-not-good.false)) long in
    let t = a.table in (
      f.most,
      f.writable,
      sheet_space form1 t.last (instances_of t.run) (omega arith) f.last f.few f.space
          (rw c.form_one-f.ensures at c.put_groups-p.ensures) c.put_groups-q.ensures
          (rw (sym f.count) at c.put_groups-k.ensures),
    )

pub returns : goal.returns
returns c = let a = c.args in
    let read = read_some a.access.now _ _ c.read_access.ensures c.in-Some.is in
    let enough : sheet_most form1 ≤ length a.out.now = omega (arith, c.if-out-lt-SHEETMOST.false) in
    let good : table_good instances_most (access_read a.access.now).profile a.table ≡ true =
    rw read.1 (sym c.good.ensures ∙ c.if-not-good.false) in
    let long : length a.table.run.run ≡ run_most = search (unmapped, rules, c.good) in
    let f : Ready a.table a.out.now = ready a.access.now a.table a.out.now enough read.0 good long in
    let t = a.table in
    sheet_writes a.access.now t a.out.now _ _
    (writes_sheet a.access.now t (length a.out.now) enough read.0 good)
    (sheet_wrote form1 t.last (instances_of t.run) (omega arith) f.last f.few f.space
    (rw c.form_one-f.ensures at c.put_groups-p.ensures) c.put_groups-q.ensures
    (rw (sym f.count) at c.put_groups-k.ensures) c.write_run-count.ensures)
