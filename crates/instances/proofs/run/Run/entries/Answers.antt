use mathlib.Core.Path.{◌≡◌, sym, ◌∙◌}
use native.Mathlib.Omega.{arith}
use Rattle.lists.specs.Entries.{instances_most}
use Rattle.laws.proofs.Filled.{filled_next, filled_done, filled_full}
use Rattle.instances.proofs.Runs.{next_of, none_of, outside}
use Rattle.instances.proofs.Listings.{entries_none, entries_take, entries_skip, entries_answer, entries_full}
use Rattle.instances.proofs.run.Run.entries.Goals as goal
use Rattle.instances.proofs.run.Run.entries.Goals.{then-is_chosen, else-is_chosen}

pub loop-x-preserved : goal.loop-x-preserved
loop-x-preserved c =
    let l = c.loop-x in
    let a = c.args in
    let on = next_of c.instances-x-items.result.now l.x-index outside (omega arith) in
    let test = sym c.is_chosen.ensures in
    elim c.if-is_chosen.branch [
      | then-is_chosen v ↦ let takes = entries_take a.p.numbers a.sel _ _ _ on (test ∙ v.if-is_chosen.true) in
          rw (v.list-is, v.k-is, v.served_number.ensures) (omega arith, filled_next _ _ _ _ _ _ _ (omega arith) (rw takes at l.invariant.1))
      | else-is_chosen v ↦ let skips = entries_skip a.p.numbers a.sel _ _ _ on (test ∙ v.if-is_chosen.false) in
          rw (v.list-is, v.k-is) (omega arith, rw skips at l.invariant.1)
    ]

pub returns-then-k-eq-INSTANCESMOST : goal.returns-then-k-eq-INSTANCESMOST
returns-then-k-eq-INSTANCESMOST c =
    let l = c.loop-x in
    let end : l.k ≡ instances_most = c.if-k-eq-INSTANCESMOST.true in
    rw (← c.instances-x-items.ensures.held) (entries_full _ _ _ (rw end (filled_full _ _ _ _ _ (rw end at l.invariant.1))))

pub returns : goal.returns
returns c =
    let l = c.loop-x in
    let a = c.args in
    let none = entries_none a.p.numbers a.sel _ (none_of c.instances-x-items.result.now l.x-index (omega arith)) in
    rw (← c.instances-x-items.ensures.held) (entries_answer _ _ _ (filled_done _ _ _ _ _ (rw none at l.invariant.1)))
