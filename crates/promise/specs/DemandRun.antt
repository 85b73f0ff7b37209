-- A run of demand 3's machine, so that the demand is not empty: an activation is lost, another is handled and its result lost, and an
-- interrogation is handled and heard. The profile and the requests are those of document 01's samples.
use Rattle.std.specs.Prelude.{ℕ, ◌≡◌, List, length}
use Rattle.refusals.specs.Refusal.{tells, output_least}
use Rattle.end.specs.Shown.{seen_known, shown, entries_out}
use Rattle.demand.specs.Machine.{World, Trace}
use Rattle.promise.specs.Samples.{sample_access}
use Rattle.promise.specs.Demand.{machine, begin, entries_held, Handled}

-- cfb
abbrev pub sample_procedure : ℕ
sample_procedure = 1

pub record SampleRun : Type 0 where
  pub ends : World (machine sample_access)
  pub run : Trace (machine sample_access) (begin sample_access) ends
  -- three requests were sent, and two of them answered
  pub sent : length ends.up ≡ 3
  pub answered : length ends.down ≡ 2
  -- cfb is shown as known with one instance, which is the table's
  pub known : shown sample_access ends.end sample_procedure ≡ tells (seen_known 1)
  pub out : length (entries_out sample_access ends.end sample_procedure) ≡ 1
  pub held : length (entries_held sample_access ends.table sample_procedure) ≡ 1

-- That run as far as its interrogation, which is handled and has this result. The end has heard nothing yet: however it hears, this is a run
-- of it.
pub record SampleHandled : Type 0 where
  pub asks : World (machine sample_access)
  pub run : Trace (machine sample_access) (begin sample_access) asks
  pub result : List ℕ
  pub handled : Handled sample_access asks output_least result
