-- What becomes of a call: diverted, not diverted or refused (document 01, "Calls"; Q.732.2-5, 2.5.2.5.1.2).
use Rattle.std.specs.Prelude.{ℕ, ◌+◌, ◌≡◌, not, List, [], ◌∷◌, get_or, ltb, eqb}
use Rattle.std.proofs.Math.Option.{Option, none, some}
use Rattle.laws.specs.Pick.{pick}
use Rattle.laws.specs.Tests.{test, first}
use Rattle.refusals.specs.Refusal.{refusal_no, Told, refuses, tells}
use Rattle.refusals.specs.declared.refusal.Refusal.{Refusal}
use Rattle.refusals.specs.declared.refusal.Refusal.TheVariants.{BadProfile, BadTable, BadCall, LimitReached}
use Rattle.numbers.specs.Number.{blank_number}
use Rattle.numbers.specs.Address.{blank_address}
use Rattle.numbers.specs.declared.number.Number.{Number}
use Rattle.numbers.specs.declared.address.Address.{Address}
use Rattle.profile.specs.Access.{access_read}
use Rattle.profile.specs.Profile.{no_number}
use Rattle.profile.specs.declared.profile.Profile.{Profile}
use Rattle.lists.specs.Entries.{instances_most}
use Rattle.instances.specs.Run.{instances_of, forwarded_to}
use Rattle.instances.specs.declared.instance.Instance.{Instance}
use Rattle.exchange.specs.Table.{table_good}
use Rattle.exchange.specs.declared.table.Table.{Table}
use Rattle.calls.specs.Onward.{reason_of, options_for, option_after, preference_after, original_shown}
use Rattle.calls.specs.declared.call.Call.{Call}
use Rattle.calls.specs.Call.{call_from, call_good}
use Rattle.calls.specs.declared.event.Event.{Event}
use Rattle.calls.specs.declared.event.Event.TheVariants as event
use Rattle.calls.specs.declared.diverting.Notice.{Notice}
use Rattle.calls.specs.declared.diverting.Notice.TheVariants as notice
use Rattle.calls.specs.declared.diverting.Onward.{Onward}

-- ---- document 01's numbers

-- "none at 0; 'call is diverting' without number at 1; with forwarded-to number at 2"
abbrev pub notice_no : Notice → ℕ
notice_no notice.Silent = 0
notice_no notice.Diverting = 1
notice_no notice.DivertingTo = 2

-- what the number of a notice promises
abbrev pub NoticeNo : Notice → ℕ → Type 0
NoticeNo notice r = r ≡ notice_no notice

-- what becomes of a call that is not refused: it is not diverted, or the numbers of the reason and of the notice
pub data Course : Type 0 where
  passes : Course
  diverts : (reasonNumber noticeNumber : ℕ) → Course

-- ---- which instance applies

-- "Offered looks at cfu, busy at cfb, no reply at cfnr"
unfoldable pub procedure_of : Event → ℕ
procedure_of event.Offered = 0
procedure_of event.Busy = 1
procedure_of event.NoReply = 2

-- "for that number and service. No instance, or the access not in use: not diverted"
unfoldable pub applying : Profile → List Instance → Call → Option Address
applying p is c = pick (eqb p.inuse 0) none (forwarded_to (procedure_of c.event) c.number c.service is)

-- ---- what a diverted call becomes

-- the served number
unfoldable pub served_of : Profile → Call → Number
served_of p c = get_or p.numbers c.number no_number

-- "The caller's notice: .. with forwarded-to number at 2", and no number else
unfoldable pub noticed : ℕ → Address → Number
noticed option called = pick (eqb option 2) called.number blank_number

-- "counter one more"; "called number: the forwarded-to address; redirecting number: the served number, presentation allowed only if
-- released"
unfoldable pub onward : Profile → Call → Address → Onward
onward p c called = record {
  counter = c.counter + 1;
  called = called;
  redirecting = served_of p c;
  redirectingshown = (options_for p c).release;
  originalshown = original_shown p c;
  preference = preference_after c;
  option = option_after p c;
  noticed = noticed (option_after p c) called;
}

-- ---- the whole

-- what comes of a call: what is told, and the call that goes on; nothing of it where none does
pub record Comes : Type 0 where
  pub told : Told Course
  pub call : Onward

abbrev pub no_onward : Onward
no_onward = record {
  counter = 0;
  called = blank_address;
  redirecting = blank_number;
  redirectingshown = 0;
  originalshown = 0;
  preference = 0;
  option = 0;
  noticed = blank_number;
}

abbrev pub none_goes : Told Course → Comes
none_goes told = record { told = told; call = no_onward }

abbrev pub call_refused : Refusal → Comes
call_refused refusal = none_goes (refuses (refusal_no refusal))

-- the reason, and the notice whose number is the resulting option
abbrev pub goes : Profile → Call → Address → Comes
goes p c called = record { told = tells (diverts (reason_of c.event) (option_after p c)); call = onward p c called }

-- "No instance .. : not diverted, whatever the counter. An instance and counter not below the limit: refusal 6."
abbrev pub by_instance : Profile → Call → Option Address → Comes
by_instance p c none = none_goes (tells passes)
by_instance p c (some called) =
    first (test (not (ltb c.counter p.limit)) LimitReached ∷ []) call_refused (goes p c called)

abbrev pub by_call : Profile → Table → Call → Comes
by_call p t c = by_instance p c (applying p (instances_of t.run) c)

-- "Lowest number first, 6 last"
unfoldable pub comes : List ℕ → Table → List ℕ → Comes
comes access t s =
    first
    (test (not (access_read access).ok) BadProfile
    ∷ test (not (table_good instances_most (access_read access).profile t)) BadTable
    ∷ test (not (call_good (access_read access).profile s)) BadCall
    ∷ [])
    call_refused
    (by_call (access_read access).profile t (call_from s))
