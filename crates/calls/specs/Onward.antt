-- What a diverted call carries on, by the profile and the call alone (document 01, "Calls"; Q.732.2-5, 2.5.2.5.1.2).
use Rattle.std.specs.Prelude.{ℕ, ◌≡◌, ltb, eqb}
use Rattle.laws.specs.Pick.{pick}
use Rattle.profile.specs.declared.profile.Profile.{Profile}
use Rattle.calls.specs.declared.call.Call.{Call}
use Rattle.calls.specs.declared.event.Event.{Event}
use Rattle.calls.specs.declared.event.Event.TheVariants as event
use Rattle.calls.specs.declared.onward.Options.{Options}
use Rattle.calls.specs.declared.onward.Reason.{Reason}
use Rattle.calls.specs.declared.onward.Reason.TheVariants as reason

-- ---- the reason

-- "an event (offered, busy, no reply)": its number in the record
abbrev pub event_no : Event → ℕ
event_no event.Offered = 0
event_no event.Busy = 1
event_no event.NoReply = 2

-- the event of a record's octet: every one but the first two is no reply, and a record with one above it breaks a rule
abbrev pub event_in : ℕ → Event
event_in octet =
    pick (eqb octet (event_no event.Offered)) event.Offered (pick (eqb octet (event_no event.Busy)) event.Busy event.NoReply)

-- what the event of an octet promises
abbrev pub EventIn : ℕ → Event → Type 0
EventIn octet r = r ≡ event_in octet

-- "reason cfu 1, cfb 2, cfnr 3"
abbrev pub reason_no : Reason → ℕ
reason_no reason.Cfu = 1
reason_no reason.Cfb = 2
reason_no reason.Cfnr = 3

-- what the number of a reason promises
abbrev pub ReasonNo : Reason → ℕ → Type 0
ReasonNo reason r = r ≡ reason_no reason

-- "Offered looks at cfu, busy at cfb, no reply at cfnr"
unfoldable pub reason_of : Event → ℕ
reason_of event.Offered = reason_no reason.Cfu
reason_of event.Busy = reason_no reason.Cfb
reason_of event.NoReply = reason_no reason.Cfnr

-- ---- option, preference and presentation

-- the notification option and the release flag for the calls of a number and a service: a profile has one pair for all ("Profile and table")
unfoldable pub options_of : Profile → ℕ → ℕ → Options
options_of p number service = record { option = p.option; release = p.release }

abbrev pub options_for : Profile → Call → Options
options_for p c = options_of p c.number c.service

-- "option: the profile's on the first, afterwards the smaller of received and profile's"
unfoldable pub option_after : Profile → Call → ℕ
option_after p c =
    pick (eqb c.counter 0) (options_for p c).option
    (pick (ltb c.option (options_for p c).option) c.option (options_for p c).option)

-- "preference 1 becomes 0 on the first diversion only"
unfoldable pub preference_after : Call → ℕ
preference_after c = pick (eqb c.counter 0) (pick (eqb c.preference 1) 0 c.preference) c.preference

-- "original: on the first diversion (counter 0) the served number, presentation likewise; later as received"
unfoldable pub original_shown : Profile → Call → ℕ
original_shown p c = pick (eqb c.counter 0) (options_for p c).release c.presentation
