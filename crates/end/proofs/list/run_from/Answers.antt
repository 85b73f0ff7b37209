use Rattle.std.proofs.Common.{◌≡◌, ◌-◌, length, arith, rules}
use Rattle.laws.proofs.Parts.{unmapped}
use Rattle.lists.specs.Entries.{instances_most}
use Rattle.end.proofs.Sorted.{array_none, array_next, array_done}
use Rattle.end.proofs.list.run_from.Goals as goal

-- the instances of the entries from i on stand in order at the places from i on, and blanks elsewhere
pub loop-i-init : goal.loop-i-init
loop-i-init c =
    let a = c.args in
    let few = c.stored-n.ensures in
    let long : length a.list.entries ≡ instances_most = search (unmapped, rules, c.well_formed) in
    (few, rw c.fresh_run-next.ensures (array_none a.p a.list _ few long))

pub loop-i-preserved : goal.loop-i-preserved
loop-i-preserved c =
    let a = c.args in
    let l = c.loop-i in
    let few = l.invariant.0 in
    let long : length a.list.entries ≡ instances_most = search (unmapped, rules, c.well_formed) in
    (few, array_next a.p a.list _ few long (l.i - 1) l.i _ _ _ (omega (arith, c.loop-i-test.true)) l.auto.i l.invariant.1 c.instance_for.ensures c.settle.ensures)

pub returns : goal.returns
returns c =
    let a = c.args in
    let l = c.loop-i in
    let end : l.i ≡ 0 = omega (arith, c.loop-i-test.false) in
    let long : length a.list.entries ≡ instances_most = search (unmapped, rules, c.well_formed) in
    array_done a.p a.list _ l.invariant.0 long l.next.run (rw end at l.invariant.1)
