use mir.Facts.{to_z-of_z}
use Rattle.sconcetoad.proofs.said.nothing_asked.Goals as goal

pub returns : goal.returns
returns c = rw (to_z-of_z c.ranges.identifier, to_z-of_z c.ranges.operation, c.blank_request-request.ensures)
