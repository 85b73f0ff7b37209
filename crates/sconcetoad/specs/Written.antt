-- Components that are written, as C is told.
use Rattle.std.specs.Prelude.{ℕ, ◌≡◌, List, ℤ, length, Result}
use Rattle.laws.specs.Over.{Puts}
use Rattle.refusals.specs.Refusal.{refusal_in}
use Rattle.refusals.specs.Handling.{handling_told, written_count, Made}
use Rattle.refusals.specs.declared.refusal.Refusal.{Refusal}
use Rattle.requests.specs.declared.request.Request.{Request}
use Rattle.lists.specs.declared.entries.Entries.{Entries}
use Rattle.components.specs.Written.{wrote_request, wrote_list}
use Rattle.sconcetoad.specs.declared.written.Octets.{Octets}

-- what C is told: the refusal, and how many octets were written; what is refused writes none
abbrev pub octets_told : Result ℕ Refusal → Octets
octets_told outcome = record { refusal = refusal_in (handling_told outcome); count = written_count outcome }

-- what the telling of an outcome promises
abbrev pub OctetsTold : Result ℕ Refusal → Octets → Type 0
OctetsTold outcome r = r ≡ octets_told outcome

-- the refusal, how many octets were written, and every octet of the output
pub record MadeBy (m : Made) (xs : List ℕ) (r : Octets) (ys : List ℕ) : Type 0 where
  pub refusal : r.refusal ≡ refusal_in m.told
  pub lent : Puts xs 0 m.octets r.count ys

-- what `sconcetoad_put_request` promises
abbrev pub RequestWrittenBy : ℤ → ℕ → Request → List ℕ → Octets → List ℕ → Type 0
RequestWrittenBy identifier operation r xs w ys = MadeBy (wrote_request identifier operation r (length xs)) xs w ys

-- what `sconcetoad_put_list` promises
abbrev pub ListWrittenBy : ℤ → Entries → List ℕ → Octets → List ℕ → Type 0
ListWrittenBy identifier list xs w ys = MadeBy (wrote_list identifier list (length xs)) xs w ys
