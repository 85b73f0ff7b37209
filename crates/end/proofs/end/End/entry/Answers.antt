use Rattle.end.proofs.Shows.{entry_none, out_count, out_refused, out_doubt, count_most, known_read, entry_there}
use Rattle.std.specs.Prelude.{Ok}
use Rattle.end.specs.Shown.{shown_no}
use Rattle.profile.proofs.Records.{read_some, read_none}
use native.Mathlib.Omega.{arith}
use mathlib.Core.Bool.{false≢true}
use mathlib.Core.Path.{sym, ap, ◌∙◌}
use Rattle.end.proofs.end.End.entry.Goals as goal

pub returns-then-count-i : goal.returns-then-count-i
returns-then-count-i c =
    let a = c.args in
    let is = sym (ap shown_no (c.in-Ok.is ∙ ap Ok c.in-Known.is)) ∙ c.shown-shown.ensures in
    rw c.no_entries-none.ensures
    (entry_none a.access.now a.self a.procedure a.i _ (sym (ap shown_no c.in-Ok.is) ∙ c.shown-shown.ensures)
    (omega (arith, out_count a.access.now a.self a.procedure _ is, c.if-count-i.true)))

pub unreachable-requires : goal.unreachable-requires
unreachable-requires c =
    let a = c.args in
    let is = sym (ap shown_no (c.in-Ok.is ∙ ap Ok c.in-Known.is)) ∙ c.shown-shown.ensures in
    false≢true (sym (read_none _ _ c.read_access.ensures c.in_default-read_access.is) ∙ known_read a.access.now a.self a.procedure _ is)

pub offset_bounds-list-i : goal.offset_bounds-list-i
offset_bounds-list-i c =
    let a = c.args in
    let is = sym (ap shown_no (c.in-Ok.is ∙ ap Ok c.in-Known.is)) ∙ c.shown-shown.ensures in
    omega (arith, count_most a.access.now a.self a.procedure _ is, c.if-count-i.false)

pub bounds-list-i : goal.bounds-list-i
bounds-list-i c =
    let a = c.args in
    let is = sym (ap shown_no (c.in-Ok.is ∙ ap Ok c.in-Known.is)) ∙ c.shown-shown.ensures in
    omega (arith, count_most a.access.now a.self a.procedure _ is, c.if-count-i.false)

pub returns : goal.returns
returns c =
    let a = c.args in
    let is = sym (ap shown_no (c.in-Ok.is ∙ ap Ok c.in-Known.is)) ∙ c.shown-shown.ensures in
    rw c.in-Known.is
    (entry_there a.access.now a.self a.procedure _ is a.i
    (omega (arith, c.if-count-i.false)) _ _
    (rw (c.every_of-sel.ensures, ← (read_some _ _ _ c.read_access.ensures c.in-Some.is).1) at
    c.entries-list.ensures))

pub returns-in-Err : goal.returns-in-Err
returns-in-Err c =
    let a = c.args in
    let is = sym (ap shown_no c.in-Err.is) ∙ c.shown-shown.ensures in
    rw c.no_entries-none.ensures
    (entry_none a.access.now a.self a.procedure a.i _ c.shown-shown.ensures (out_refused a.access.now a.self a.procedure _ a.i is))

pub returns-in_default : goal.returns-in_default
returns-in_default c =
    let a = c.args in
    let is = sym (ap shown_no (c.in-Ok.is ∙ ap Ok c.in_default.is)) ∙ c.shown-shown.ensures in
    rw c.no_entries-none.ensures
    (entry_none a.access.now a.self a.procedure a.i _ (sym (ap shown_no c.in-Ok.is) ∙ c.shown-shown.ensures) (out_doubt a.access.now a.self a.procedure a.i is))
