-- What is answered of a call that comes to the access, by document 01's numbers (document 01, "Calls").
use Rattle.std.specs.Prelude.{ℕ, ◌≡◌, List, Option, Some, None, Result, Ok, Err}
use Rattle.refusals.specs.Refusal.{refusal_no, Told, refuses, tells}
use Rattle.refusals.specs.declared.refusal.Refusal.{Refusal}
use Rattle.exchange.specs.declared.table.Table.{Table}
use Rattle.calls.specs.Onward.{reason_no}
use Rattle.calls.specs.declared.onward.Reason.{Reason}
use Rattle.calls.specs.Divert.{notice_no, Course, passes, diverts, Comes, no_onward, comes}
use Rattle.calls.specs.declared.diverting.Notice.{Notice}
use Rattle.calls.specs.declared.diverting.Onward.{Onward}
use Rattle.calls.specs.declared.diverting.Diversion.{Diversion}

-- what comes of a call: it is refused, it is not diverted, or it is, for a reason and with a notice
abbrev pub Coming : Type 0
Coming = Result (Option (Reason × Notice)) Refusal

-- the same by its numbers
abbrev pub coming_told : Coming → Told Course
coming_told (Err refusal) = refuses (refusal_no refusal)
coming_told (Ok None) = tells passes
coming_told (Ok (Some (reason, notice))) = tells (diverts (reason_no reason) (notice_no notice))

-- what comes of a call, without what stands beside the reason and the notice
abbrev pub coming_of : {A : Type 0} → (A → Reason × Notice) → Result (Option A) Refusal → Coming
coming_of parts (Err refusal) = Err refusal
coming_of parts (Ok None) = Ok None
coming_of parts (Ok (Some a)) = Ok (Some (parts a))

abbrev pub diversion_coming : Result (Option Diversion) Refusal → Coming
diversion_coming = coming_of (λ d. (d.reason, d.notice))

-- the call that goes on; nothing of it where none does
abbrev pub onward_in : Result (Option Diversion) Refusal → Onward
onward_in (Err refusal) = no_onward
onward_in (Ok None) = no_onward
onward_in (Ok (Some d)) = d.call

-- what the functions promise: what is told by its numbers, and all of the call that goes on
pub record Becomes (x : Comes) (r : Result (Option Diversion) Refusal) : Type 0 where
  pub told : coming_told (diversion_coming r) ≡ x.told
  pub call : onward_in r ≡ x.call

-- what `divert` promises
abbrev pub DivertsTo : List ℕ → Table → List ℕ → Result (Option Diversion) Refusal → Type 0
DivertsTo access t s r = Becomes (comes access t s) r
