-- What the private functions of a refused arrival answer.
use Rattle.refusals.specs.declared.refusal.Refusal.{Refusal}
use Rattle.std.specs.Prelude.{Err}
use Rattle.end.specs.declared.end.End.{End}
use Rattle.end.specs.declared.take.Moved.{Moved}

-- what is handed back where nothing is taken
abbrev pub move_refused : End → Refusal → Moved
move_refused e refusal = record { end = e; outcome = Err refusal }
