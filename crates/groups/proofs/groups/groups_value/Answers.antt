use Prim.Native.Nat.{◌+◌, ◌-◌}
use native.Mathlib.Omega.{arith}
use Rattle.groups.proofs.GroupTurns.{value_none, value_more, value_fits}
use Rattle.groups.proofs.groups.groups_value.Goals as goal

pub loop-i-init : goal.loop-i-init
loop-i-init c = value_none _ _ _

pub overflow_mul-v : goal.overflow_mul-v
overflow_mul-v c = let a = c.args in
    let i = c.loop-i.i in
    omega (arith, value_fits (a.k - i) a.s.now (a.at + i) (omega arith))

pub overflow_add-v : goal.overflow_add-v
overflow_add-v c = let a = c.args in
    let i = c.loop-i.i in
    omega (arith, value_fits (a.k - i) a.s.now (a.at + i) (omega arith))

pub loop-i-preserved : goal.loop-i-preserved
loop-i-preserved c = value_more _ _ _ _ _ c.loop-i-test.true (omega arith) c.loop-i.invariant
