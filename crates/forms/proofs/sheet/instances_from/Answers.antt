use Rattle.octets.proofs.Founds.{found_got, found_wrong}
use Rattle.forms.proofs.Instances.{going_first, going_wrong, going_next, going_all}
use Rattle.forms.specs.Instance.{instance_from}
use Rattle.forms.proofs.sheet.instances_from.Goals as goal

pub loop-i-init : goal.loop-i-init
loop-i-init c =
    let a = c.args in
    rw c.fresh_run-run.ensures (going_first a.f a.s.now a.at a.count)

pub returns-in_err-read : goal.returns-in_err-read
returns-in_err-read c =
    let a = c.args in
    let l = c.loop-i in
    let none = found_wrong (instance_from _ _ _) c.instance_at.ensures c.in_err-read.was in
    rw (c.from_residual.ensures, going_wrong a.f a.s.now a.at a.count l.i l.here l.run.run l.invariant c.loop-i-test.true none)

pub loop-i-preserved : goal.loop-i-preserved
loop-i-preserved c =
    let a = c.args in
    let l = c.loop-i in
    let read = found_got (instance_from _ _ _) c.instance_at.ensures c.in_ok-read.was in
    going_next a.f a.s.now a.at a.count l.i l.here l.run.run l.invariant c.loop-i-test.true _ _ c.requires read

pub returns : goal.returns
returns c =
    let a = c.args in
    let l = c.loop-i in
    going_all a.f a.s.now a.at a.count l.i l.here l.run.run l.invariant c.loop-i-test.false
