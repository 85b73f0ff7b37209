use mathlib.Core.Path.{sym, ◌∙◌}
use native.Mathlib.Omega.{arith}
use Rattle.instances.specs.Instance.{spared}
use Rattle.laws.proofs.Filled.{filled_none, filled_next, filled_done}
use Rattle.instances.proofs.Runs.{next_of, none_of, outside, packed_done}
use Rattle.laws.proofs.Thoses.{those_take, those_skip, those_none}
use Rattle.instances.proofs.Choices.{kept_test, gone_test}
use Rattle.instances.proofs.run.Run.clear.Goals as goal
use Rattle.instances.proofs.run.Run.clear.Goals.{else-not-is_chosen, then-not-is_chosen}

pub loop-x-init : goal.loop-x-init
loop-x-init c = (omega arith, rw c.fresh_run-next.ensures (filled_none _ _ _))

pub loop-x-preserved : goal.loop-x-preserved
loop-x-preserved c =
    let l = c.loop-x in
    let few = c.instances-x-items.ensures.few in
    let on = next_of c.instances-x-items.result.now l.x-index outside (omega arith) in
    let test = sym c.is_chosen.ensures in
    let f = spared c.args.sel in
    elim c.if-not-is_chosen.branch [
      | then-not-is_chosen v ↦ let takes = those_take f _ _ _ on (kept_test _ (test ∙ v.if-not-is_chosen.true)) in
          rw (v.next-is, v.k-is) (omega arith, filled_next _ _ _ _ _ _ _ (omega arith) (rw takes at l.invariant.1))
      | else-not-is_chosen v ↦ let skips = those_skip f _ _ _ on (gone_test _ (test ∙ v.if-not-is_chosen.false)) in
          rw (v.next-is, v.k-is) (omega arith, rw skips at l.invariant.1)
    ]

pub returns : goal.returns
returns c =
    let l = c.loop-x in
    let none = those_none (spared c.args.sel) _ (none_of c.instances-x-items.result.now l.x-index (omega arith)) in
    rw (← c.instances-x-items.ensures.held) (packed_done _ _ _ (filled_done _ _ _ _ _ (rw none at l.invariant.1)))
