use mathlib.Core.Path.{refl, sym}
use native.Mathlib.Omega.{arith}
use lib.ListN.{length-set}
use Rattle.laws.proofs.Over.{over_one}
use Rattle.groups.proofs.GroupTurns.{size_more, size_last, over_group, wrote_last}
use Rattle.groups.proofs.groups.write_groups.Goals as goal

pub bounds-out-p : goal.bounds-out-p
bounds-out-p c = omega (arith, size_more _ _ _ c.loop-rest-test.true c.loop-rest.invariant.1)

pub loop-rest-preserved : goal.loop-rest-preserved
loop-rest-preserved c = let l = c.loop-rest in
    let more = c.loop-rest-test.true in
    (simp length-set l.invariant.0, size_more _ _ _ more l.invariant.1, over_group _ _ _ _ more l.invariant.2)

pub bounds-out-p-2 : goal.bounds-out-p-2
bounds-out-p-2 c = omega (arith, size_last _ _ _ c.loop-rest-test.false c.loop-rest.invariant.1)

pub returns : goal.returns
returns c = let l = c.loop-rest in
    wrote_last c.loop-rest-test.false l.invariant.1 l.invariant.2 (record { moved = refl; holds = sym (over_one _ _ _) })
