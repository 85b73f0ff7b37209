use Rattle.end.proofs.send.end_after.Goals as goal

pub waiting-requires : goal.waiting-requires
waiting-requires c = rw c.in-Ok.is at c.requires

pub returns-in-Err : goal.returns-in-Err
returns-in-Err c = rw c.in-Err.is

pub returns-in-Ok : goal.returns-in-Ok
returns-in-Ok c = rw c.in-Ok.is c.waiting.ensures
