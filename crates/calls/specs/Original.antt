-- "The original called number handed on is a stretch of one of two lent records, the call's or the access's" (document 01, "Calls").
use Rattle.std.specs.Prelude.{ℕ, ◌+◌, ◌*◌, ◌≡◌, Bool, true, false, List, [], length, eqb, Option, Some, None, Result, Ok, Err}
use Rattle.std.proofs.Math.Seq.{slice}
use Rattle.laws.specs.Pick.{pick}
use Rattle.laws.specs.Over.{Puts}
use Rattle.refusals.specs.Refusal.{Told, refuses, tells}
use Rattle.refusals.specs.declared.refusal.Refusal.{Refusal}
use Rattle.profile.specs.Access.{access_read, numbers_at, number_size}
use Rattle.profile.specs.declared.profile.Profile.{Profile}
use Rattle.exchange.specs.declared.table.Table.{Table}
use Rattle.calls.specs.declared.call.Call.{Call}
use Rattle.calls.specs.Call.{original_at, call_from}
use Rattle.calls.specs.Divert.{Course, passes, diverts, served_of, comes}
use Rattle.calls.specs.Coming.{Coming, coming_told, coming_of}
use Rattle.calls.specs.declared.originals.Handed.{Handed}

-- where the digits of a number stand in the access record: after its form, type and count
abbrev pub served_digits_at : ℕ → ℕ
served_digits_at number = numbers_at + number_size * number + 3

-- "on the first diversion (counter 0) the served number .. later as received"
unfoldable pub handed_on : List ℕ → List ℕ → Profile → Call → List ℕ
handed_on access s p c =
    pick (eqb c.counter 0)
    (slice (served_digits_at c.number) (served_digits_at c.number + (served_of p c).count) access)
    (slice original_at (original_at + c.count) s)

abbrev pub goes_on : Told Course → Bool
goes_on (refuses number) = false
goes_on (tells passes) = false
goes_on (tells (diverts reasonNumber noticeNumber)) = true

-- no stretch where no call goes on
unfoldable pub original_in : List ℕ → Table → List ℕ → List ℕ
original_in access t s =
    pick (goes_on (comes access t s).told) (handed_on access s (access_read access).profile (call_from s)) []

-- what comes of the call
abbrev pub handed_coming : Result (Option Handed) Refusal → Coming
handed_coming = coming_of (λ h. (h.reason, h.notice))

-- how many digits are handed on, and how many were written; none where no call goes on
abbrev pub handed_length : Result (Option Handed) Refusal → ℕ
handed_length (Err refusal) = 0
handed_length (Ok None) = 0
handed_length (Ok (Some h)) = h.length

abbrev pub handed_count : Result (Option Handed) Refusal → ℕ
handed_count (Err refusal) = 0
handed_count (Ok None) = 0
handed_count (Ok (Some h)) = h.count

-- what `original` promises: what becomes of the call, how many digits are handed on, and each octet of the output, which has all of them or, where
-- there is no room, none
pub record PutsOriginal (access : List ℕ) (t : Table) (s xs : List ℕ) (r : Result (Option Handed) Refusal) (ys : List ℕ) : Type 0 where
  pub told : coming_told (handed_coming r) ≡ (comes access t s).told
  pub digits : handed_length r ≡ length (original_in access t s)
  pub lent : Puts xs 0 (original_in access t s) (handed_count r) ys
