use Rattle.end.proofs.Waitings.{written_left, written_sends}
use Rattle.end.proofs.send.sends.Goals as goal

pub end_after-requires : goal.end_after-requires
end_after-requires c = written_left _ _ _ _ _ _ _ c.send-outcome.ensures

pub returns : goal.returns
returns c = written_sends _ _ _ _ _ _ _ c.send-outcome.ensures _ c.end_after.ensures
