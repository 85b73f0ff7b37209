-- The wrong programs that document 01 shuts out by name ("How tight the promises are"), written out. Each is proved in
-- crates/promise/proofs/Wrong.antt to break the promise that document 01 names for it. Where document 01 says one thing that a program does
-- wrong, the program is made of any other, which does the rest as it likes, rightly too.
use Rattle.std.specs.Prelude.{ℕ, ◌≡◌, List, [], ◌∷◌, pos, leb, Option, Some, None, Result, Ok, Err}
use Rattle.laws.specs.Pick.{pick}
use Rattle.laws.specs.Over.{over}
use Rattle.laws.specs.Mark.{known, doubt, mark_no}
use Rattle.refusals.specs.Refusal.{output_least, tells}
use Rattle.refusals.specs.declared.refusal.Refusal.{Refusal}
use Rattle.codes.specs.Codes.{activation, interrogation}
use Rattle.profile.specs.Access.{access_read}
use Rattle.answers.specs.Answer.{answer_octets}
use Rattle.answers.specs.declared.answer.Answer.TheVariants as answer
use Rattle.exchange.specs.Table.{fresh_table}
use Rattle.exchange.specs.Arrive.{Done, done, Arrives}
use Rattle.exchange.specs.declared.table.Table.{Table}
use Rattle.exchange.specs.declared.arrive.Arrived.{Arrived}
use Rattle.calls.specs.Coming.{DivertsTo}
use Rattle.calls.specs.declared.diverting.Diversion.{Diversion}
use Rattle.end.specs.End.{fresh_end}
use Rattle.end.specs.Sending.{Sends, sends}
use Rattle.end.specs.Taking.{Takes}
use Rattle.end.specs.Shown.{seen_known, entries_shown, shown}
use Rattle.end.specs.declared.end.End.{End}
use Rattle.end.specs.declared.take.Moved.{Moved}
use Rattle.demand.specs.Machine.{World, handles, after, Trace, Quiet}
use Rattle.promise.specs.Samples.{sample_access, interrogation_of_cfb, activation_of_cfb}
use Rattle.promise.specs.Demand.{machine, begin, Replies, asked_by, entries_held, Handled}

-- ---- the exchange

-- what an exchange makes of an access record, its table, a component and the output that it is lent: its answer, and the output afterwards
pub record Out : Type 0 where
  pub answer : Arrived
  pub lent : List ℕ

abbrev pub ExchangeStep : Type 0
ExchangeStep = List ℕ → Table → List ℕ → List ℕ → Out

-- whether it keeps the promise of `arrive` there
abbrev pub ArrivesBy : ExchangeStep → List ℕ → Table → List ℕ → List ℕ → Type 0
ArrivesBy x access t s xs = Arrives access t s xs (x access t s xs).answer (x access t s xs).lent

-- "refusing everything": the table is handed back, nothing is written, and the refusal is told
abbrev pub refuses_all : Refusal → ExchangeStep
refuses_all refusal access t s xs = record {
  answer = record { table = t; outcome = Err refusal };
  lent = xs;
}

-- "one fixed reply": always the same octets, whatever is answered beside them
abbrev pub one_reply : List ℕ → (List ℕ → Table → List ℕ → List ℕ → Arrived) → ExchangeStep
one_reply octets answers access t s xs = record { answer = answers access t s xs; lent = over xs 0 octets }

-- "leaving the table untouched": what another exchange answers and writes, the right one too, but for the table
abbrev pub table_untouched : ExchangeStep → ExchangeStep
table_untouched x access t s xs = record {
  answer = record { table = t; outcome = (x access t s xs).answer.outcome };
  lent = (x access t s xs).lent;
}

-- ---- calls

-- what is made of an access record, a table and a call
abbrev pub Diverter : Type 0
Diverter = List ℕ → Table → List ℕ → Result (Option Diversion) Refusal

-- whether it keeps the promise of `divert` there
abbrev pub DivertsBy : Diverter → List ℕ → Table → List ℕ → Type 0
DivertsBy x access t s = DivertsTo access t s (x access t s)

-- the same call that goes on, if any does, but for its counter
abbrev pub with_counter : ℕ → Result (Option Diversion) Refusal → Result (Option Diversion) Refusal
with_counter counter (Err refusal) = Err refusal
with_counter counter (Ok None) = Ok None
with_counter counter (Ok (Some d)) =
    Ok
    (Some (record {
      reason = d.reason;
      notice = d.notice;
      call = record {
        counter = counter;
        called = d.call.called;
        redirecting = d.call.redirecting;
        redirectingshown = d.call.redirectingshown;
        originalshown = d.call.originalshown;
        preference = d.call.preference;
        option = d.call.option;
        noticed = d.call.noticed;
      };
    }))

-- "an invented counter": the diversion that another makes, but the counter is made up
abbrev pub invented_counter : (List ℕ → Table → List ℕ → ℕ) → Diverter → Diverter
invented_counter invents x access t s = with_counter (invents access t s) (x access t s)

-- a counter that is always the same
abbrev pub fixed_counter : ℕ → Diverter → Diverter
fixed_counter counter = invented_counter (λ _ _ _. counter)

-- ---- the customer end

-- what an end makes of an access record, itself, and what arrives: what stands there afterwards, and what is told
abbrev pub Taker : Type 0
Taker = List ℕ → End → List ℕ → Moved

-- whether it keeps the promise of `arrived` there
abbrev pub TakesBy : Taker → List ℕ → End → List ℕ → Type 0
TakesBy x access e s = Takes access e s (x access e s).outcome (x access e s).end

-- and everywhere
abbrev pub Keeps : Taker → Type 0
Keeps x = (access : List ℕ) (e : End) (s : List ℕ) → TakesBy x access e s

-- an end with the same mark for each procedure
abbrev pub all_marked : ℕ → End → End
all_marked mark e = record {
  used = e.used;
  outstanding = e.outstanding;
  operation = e.operation;
  before = e.before;
  request = e.request;
  marks = mark ∷ mark ∷ mark ∷ [];
  picture = e.picture;
}

-- "doubts everything": whatever arrives, every procedure is in doubt
abbrev pub doubts_all : Taker → Taker
doubts_all x access e s = record { end = all_marked (mark_no doubt) (x access e s).end; outcome = (x access e s).outcome }

-- demand 3's second sentence of an end that hears by `x`: "a whole interrogation that is handled, whose result is the first matching reply
-- to come, makes its procedure known". It is `FirstReply`, but that the last step of the run is taken by `x`.
abbrev pub FirstReplyBy : Taker → List ℕ → Type 0
FirstReplyBy x access =
    (w : World (machine access)) → Trace (machine access) (begin access) w →
    (size : ℕ) (a : List ℕ) (h : Handled access w size a) →
    (v : World (machine access)) (q : Trace (machine access) (after (machine access) w (handles size (asked_by w.end) h.arrives)) v) →
    Quiet (machine access) (Replies w.end) q →
    (count : ℕ) × (shown access (x access v.end a).end w.end.request.procedure ≡ tells (seen_known count))

-- what an end takes for the result of the request that it waits for: the very octets of that result
abbrev pub result_for : End → List ℕ
result_for e = answer_octets (answer.Result (pos e.used)) []

-- "an end that tracks its first request and afterwards pretends": from the second request on whatever arrives is the result that it waits
-- for, and everything is known
abbrev pub pretends : Taker → Taker
pretends x access e s =
    pick (leb e.used 1) (x access e s)
    (record { end = all_marked (mark_no known) (x access e (result_for e)).end; outcome = Ok tt })

-- ---- two requests over a path that loses and repeats, with an end that hears by `x`

-- the interrogation of cfb is sent, and answered
abbrev pub first_sent : Sends
first_sent = sends sample_access interrogation interrogation_of_cfb fresh_end output_least

abbrev pub first_answer : Done
first_answer = done sample_access fresh_table first_sent.octets output_least

abbrev pub first_heard : Taker → Moved
first_heard x = x sample_access first_sent.end first_answer.octets

-- the activation is sent, and lost: the exchange's table stays as it is. The first reply comes once more.
abbrev pub second_sent : Taker → Sends
second_sent x = sends sample_access activation activation_of_cfb (first_heard x).end output_least

abbrev pub second_heard : Taker → Moved
second_heard x = x sample_access (second_sent x).end first_answer.octets

-- the procedure that is asked for
abbrev pub cfb : ℕ
cfb = 1

-- what is shown as known is not what the table has
pub record KnownWrong (e : End) (t : Table) : Type 0 where
  pub count : ℕ
  pub known : shown sample_access e cfb ≡ tells (seen_known count)
  pub differs :
      entries_shown (access_read sample_access).profile e cfb ≡ entries_held sample_access t cfb → ⊥
