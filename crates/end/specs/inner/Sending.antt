-- What the private functions of sending ask and answer: the octets first, then the next end.
use Rattle.std.specs.Prelude.{ℕ, ◌<◌, ◌≡◌, List, length, Result, Ok, Err}
use Rattle.laws.specs.Over.{over}
use Rattle.refusals.specs.Handling.{handling_told, written_count}
use Rattle.refusals.specs.declared.refusal.Refusal.{Refusal}
use Rattle.requests.specs.declared.request.Request.{Request}
use Rattle.end.specs.End.{used_most}
use Rattle.end.specs.Sending.{sent, Sends}
use Rattle.end.specs.declared.end.End.{End}

-- all that `SendsBy` says but for the next end
pub record WrittenBy (done : Sends) (xs : List ℕ) (w : Result ℕ Refusal) (ys : List ℕ) : Type 0 where
  pub told : handling_told w ≡ done.told
  pub count : written_count w ≡ length done.octets
  pub lent : ys ≡ over xs 0 done.octets

-- the next end: it waits for the answer, or stays as it was
abbrev pub end_after : ℕ → Request → End → Result ℕ Refusal → End
end_after operation r e (Err refusal) = e
end_after operation r e (Ok count) = sent operation r e

-- an end that waits has used one identifier more
abbrev pub IdentifierLeft : End → Result ℕ Refusal → Type 0
IdentifierLeft e (Err refusal) = Unit {0}
IdentifierLeft e (Ok count) = e.used < used_most
