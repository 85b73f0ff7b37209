use Rattle.octets.proofs.Founds.{found_got, found_wrong}
use Rattle.lists.proofs.Readers.{reached_first, reached_full, reached_wrong, reached_next, reached_answer}
use Rattle.lists.specs.Entry.{entry_at}
use Rattle.lists.specs.Entries.{instances_most}
use native.Mathlib.Omega.{arith}
use borrow.Author.Rules.{rules}
use Rattle.lists.proofs.entries.entries_at.Goals as goal

pub loop-here-init : goal.loop-here-init
loop-here-init c = let a = c.args in rw c.no_entry-none.ensures (reached_first instances_most a.s.now a.at a.end)

pub returns-then-count-eq-INSTANCESMOST : goal.returns-then-count-eq-INSTANCESMOST
returns-then-count-eq-INSTANCESMOST c =
    let a = c.args in
    let l = c.loop-here in
    let none = reached_full instances_most a.s.now a.at a.end l.count l.here l.entries l.invariant
    c.loop-here-test.true c.if-count-eq-INSTANCESMOST.true in
    rw none

pub returns-in_err-entry : goal.returns-in_err-entry
returns-in_err-entry c =
    let a = c.args in
    let l = c.loop-here in
    let unread = found_wrong (entry_at _ _ _) c.entry_at.ensures c.in_err-entry.was in
    let none = reached_wrong instances_most a.s.now a.at a.end l.count l.here l.entries l.invariant
    c.loop-here-test.true c.if-count-eq-INSTANCESMOST.false unread in
    rw none c.from_residual.ensures

pub loop-here-smaller : goal.loop-here-smaller
loop-here-smaller c = omega (arith, c.loop-here.invariant.few, c.if-count-eq-INSTANCESMOST.false)

pub loop-here-preserved : goal.loop-here-preserved
loop-here-preserved c =
    let a = c.args in
    let l = c.loop-here in
    let found = found_got (entry_at _ _ _) c.entry_at.ensures c.in_ok-entry.was in
    reached_next instances_most a.s.now a.at a.end l.count l.here l.entries l.invariant
    c.loop-here-test.true
    c.if-count-eq-INSTANCESMOST.false _ _ found

pub overflow_cast-result : goal.overflow_cast-result
overflow_cast-result c = search (rules, c.loop-here.invariant.few)

pub returns : goal.returns
returns c =
    let a = c.args in
    let l = c.loop-here in
    reached_answer a.s.now a.at a.end l.count l.here l.entries l.invariant c.loop-here-test.false
