use native.Mathlib.Numerals.{add-one}
use lib.Seq.{drop-cons}
use lib.ListN.{drop_of_length-le}
use mathlib.Core.Path.{refl}
use Rattle.instances.proofs.Runs.{outside}
use Rattle.end.proofs.Replaced.{adding_next, adding_skip, adding_done, others_skip, others_take, others_none}
use Rattle.end.proofs.picture.add_others.Goals as goal
use Rattle.end.proofs.picture.add_others.Goals.{then-x-procedure, else-x-procedure}

pub loop-x-init : goal.loop-x-init
loop-x-init c = record { held = c.requires; comes = refl }

pub loop-x-preserved : goal.loop-x-preserved
loop-x-preserved c =
    let a = c.args in
    let l = c.loop-x in
    let on = rw (← add-one l.x-index) at (drop-cons a.instances.now l.x-index outside c.loop-x-test.true) in
    elim c.if-x-procedure.branch [
      | then-x-procedure w ↦ rw w.next-is (adding_next _ _ _ l.invariant _ _ _ (others_take a.procedure _ _ _ on w.if-x-procedure.true) w.add.ensures)
      | else-x-procedure w ↦ rw w.next-is (adding_skip _ _ _ l.invariant _ (others_skip a.procedure _ _ _ on w.if-x-procedure.false))
    ]

pub returns : goal.returns
returns c = let l = c.loop-x in adding_done _ _ _ l.invariant (others_none c.args.procedure _ (drop_of_length-le c.args.instances.now c.loop-x-test.false))
