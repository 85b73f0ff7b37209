-- The end sends a request: an activation, a deactivation, or the interrogation of all services and all numbers (document 01, "The customer
-- end", "Local refusals").
use Rattle.std.specs.Prelude.{ℕ, suc, ◌≡◌, not, List, [], ◌∷◌, pos, length, ltb, eqb}
use Rattle.laws.specs.Pick.{pick}
use Rattle.laws.specs.Tests.{test, first}
use Rattle.laws.specs.Over.{over}
use Rattle.laws.specs.Mark.{doubt, mark_no}
use Rattle.refusals.specs.Refusal.{refusal_no, Told, refuses, tells, output_least}
use Rattle.refusals.specs.Handling.{handling_told, written_count}
use Rattle.refusals.specs.declared.refusal.Refusal.{Refusal}
use Rattle.refusals.specs.declared.refusal.Refusal.TheVariants.{ShortOutput, BadProfile, BadTable, Outstanding, Exhausted, BadRequest}
use Rattle.codes.specs.Codes.{activation, deactivation, interrogation}
use Rattle.profile.specs.Access.{access_read}
use Rattle.requests.specs.Request.{no_forwarded, all_numbers, request_of}
use Rattle.requests.specs.Sent.{sendable, request_octets}
use Rattle.requests.specs.declared.request.Request.{Request}
use Rattle.lists.specs.Entries.{instances_most}
use Rattle.end.specs.End.{mark_at, marked, used_most, end_good}
use Rattle.end.specs.declared.end.End.{End}
use Rattle.end.specs.declared.send.Sent.{Sent}

-- "The end interrogates only all services and all numbers"
abbrev pub interrogation_of : ℕ → Request
interrogation_of procedure = request_of procedure 0 no_forwarded all_numbers

-- "Sending an activation or deactivation puts its procedure in doubt."
unfoldable pub marks_sent : ℕ → ℕ → List ℕ → List ℕ
marks_sent operation procedure marks = pick (eqb operation interrogation) marks (marked procedure (mark_no doubt) marks)

-- the end after it has sent: the request is outstanding, with the next identifier and the mark from before
unfoldable pub sent : ℕ → Request → End → End
sent operation r e = record {
  used = suc e.used;
  outstanding = 1;
  operation = operation;
  before = mark_at r.procedure e.marks;
  request = r;
  marks = marks_sent operation r.procedure e.marks;
  picture = e.picture;
}

-- the next end, what is told, and the octets at the start of the lent output
pub record Sends : Type 0 where
  pub end : End
  pub told : Told (Unit {0})
  pub octets : List ℕ

-- "A local refusal hands the .. picture back unchanged, writes nothing"
abbrev pub not_sent : End → Refusal → Sends
not_sent e refusal = record { end = e; told = refuses (refusal_no refusal); octets = [] }

-- "Lowest number first"; "a request that would earn an error is still sent"
unfoldable pub sends : List ℕ → ℕ → Request → End → ℕ → Sends
sends access operation r e size =
    first
    (test (ltb size output_least) ShortOutput
    ∷ test (not (access_read access).ok) BadProfile
    ∷ test (not (end_good instances_most (access_read access).profile e)) BadTable
    ∷ test (eqb e.outstanding 1) Outstanding
    ∷ test (eqb e.used used_most) Exhausted
    ∷ test (not (sendable operation r)) BadRequest
    ∷ [])
    (not_sent e)
    (record {
      end = sent operation r e;
      told = tells tt;
      octets = request_octets (pos (suc e.used)) operation r;
    })

-- the next end, the refusal, how many octets the component has, and every octet of the output
pub record SendsBy (done : Sends) (xs : List ℕ) (r : Sent) (ys : List ℕ) : Type 0 where
  pub end : r.end ≡ done.end
  pub told : handling_told r.outcome ≡ done.told
  pub count : written_count r.outcome ≡ length done.octets
  pub lent : ys ≡ over xs 0 done.octets

-- what `activate`, `deactivate` and `interrogate` promise
abbrev pub Activates : List ℕ → Request → End → List ℕ → Sent → List ℕ → Type 0
Activates access q e xs r ys = SendsBy (sends access activation q e (length xs)) xs r ys

abbrev pub Deactivates : List ℕ → Request → End → List ℕ → Sent → List ℕ → Type 0
Deactivates access q e xs r ys = SendsBy (sends access deactivation q e (length xs)) xs r ys

abbrev pub Interrogates : List ℕ → ℕ → End → List ℕ → Sent → List ℕ → Type 0
Interrogates access procedure e xs r ys =
    SendsBy (sends access interrogation (interrogation_of procedure) e (length xs)) xs r ys
