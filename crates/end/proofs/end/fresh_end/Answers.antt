use Rattle.end.proofs.end.fresh_end.Goals as goal

pub returns : goal.returns
returns c = rw (c.blank_request-request.ensures, c.fresh_run-picture.ensures)
