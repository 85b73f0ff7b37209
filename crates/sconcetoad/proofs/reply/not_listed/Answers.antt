use mir.Facts.{to_z-of_z}
use Rattle.sconcetoad.proofs.reply.not_listed.Goals as goal

pub returns : goal.returns
returns c = rw (to_z-of_z c.ranges.value, c.no_entries-none.ensures)
