use mathlib.Core.Path.{◌≡◌}
use native.Mathlib.Omega.{arith}
use Rattle.instances.specs.Run.{instances_of}
use Rattle.instances.proofs.Runs.{outside}
use Rattle.sheets.proofs.InstanceWriters.{writable_at, run_first, run_all, run_space, run_next}
use Rattle.sheets.proofs.write.write_run.Goals as goal

pub loop-x-init : goal.loop-x-init
loop-x-init c = run_first (instances_of c.args.run.now) c.args.out.now c.args.at

pub write_instance-p-requires : goal.write_instance-p-requires
write_instance-p-requires c =
    let l = c.loop-x in
    let all : c.stored.result ≡ c.args.run.now.count = omega (arith, c.stored.ensures, c.requires.0) in
    let more = rw all at c.loop-x-test.true in
    rw all (writable_at _ c.requires.1 l.x-index outside more, run_space _ _ _ l.invariant more outside c.requires.2)

pub loop-x-preserved : goal.loop-x-preserved
loop-x-preserved c =
    let all : c.stored.result ≡ c.args.run.now.count = omega (arith, c.stored.ensures, c.requires.0) in
    run_next _ _ _ c.loop-x.invariant (rw all at c.loop-x-test.true) outside (rw all at c.write_instance-p.ensures)

pub returns : goal.returns
returns c =
    let all : c.stored.result ≡ c.args.run.now.count = omega (arith, c.stored.ensures, c.requires.0) in
    run_all _ _ _ c.loop-x.invariant (rw all at c.loop-x-test.false)
