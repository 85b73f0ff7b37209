use Rattle.instances.proofs.run.fresh_run.Goals as goal

pub returns : goal.returns
returns c = rw c.blank_instance-none.ensures
