use Rattle.instances.specs.Run.{instances_of}
use Rattle.end.proofs.Packings.{added, added_none}
use Rattle.end.proofs.picture.add.Goals as goal

pub returns-then-n-lt-ROOM : goal.returns-then-n-lt-ROOM
returns-then-n-lt-ROOM c = let run = c.args.next.now in added (instances_of run) run c.args.x c.requires c.if-n-lt-ROOM.true

pub returns-else-n-lt-ROOM : goal.returns-else-n-lt-ROOM
returns-else-n-lt-ROOM c = let run = c.args.next.now in added_none (instances_of run) run _ c.requires c.if-n-lt-ROOM.false
