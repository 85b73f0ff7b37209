-- What is told where nothing more is answered, and what is written beside it (document 01, "Local refusals").
use Rattle.std.specs.Prelude.{ℕ, List, [], Result, Ok, Err}
use Rattle.refusals.specs.Refusal.{refusal_no, Told, refuses, tells}
use Rattle.refusals.specs.declared.refusal.Refusal.{Refusal}

-- what is told: the refusal, or that it is done
abbrev pub handling_told : {A : Type 0} → Result A Refusal → Told (Unit {0})
handling_told (Err refusal) = refuses (refusal_no refusal)
handling_told (Ok _) = tells tt

-- how many octets were written; a refusal writes none
abbrev pub written_count : Result ℕ Refusal → ℕ
written_count (Ok count) = count
written_count (Err _) = 0

-- what is told, and the octets at the start of the lent output
pub record Made : Type 0 where
  pub told : Told (Unit {0})
  pub octets : List ℕ

-- "A local refusal .. writes nothing"
abbrev pub not_made : Refusal → Made
not_made refusal = record { told = refuses (refusal_no refusal); octets = [] }

abbrev pub made : List ℕ → Made
made octets = record { told = tells tt; octets = octets }
