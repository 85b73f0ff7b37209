-- What the private functions hand back of an arriving component.
use Rattle.std.specs.Prelude.{ℕ, Ok, Err}
use Rattle.refusals.specs.declared.refusal.Refusal.{Refusal}
use Rattle.answers.specs.declared.answer.Answer.{Answer}
use Rattle.exchange.specs.declared.table.Table.{Table}
use Rattle.exchange.specs.declared.arrive.Arrived.{Arrived}

-- where it is refused
abbrev pub arrived_refused : Table → Refusal → Arrived
arrived_refused t refusal = record { table = t; outcome = Err refusal }

-- where it is answered, by so many octets
abbrev pub arrived_answered : Table → Answer → ℕ → Arrived
arrived_answered t a count = record { table = t; outcome = Ok (record { answer = a; count = count }) }
