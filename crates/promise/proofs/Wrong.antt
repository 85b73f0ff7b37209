-- Each wrong program that document 01 shuts out by name breaks the promise named there, at a sample or in a dialogue of two requests.
-- Assumes nothing.
use Prim.Native.Nat.{ℕ, ◌+◌, ◌≤◌}
use mathlib.Core.Path.{◌≡◌, refl, sym, ap, ◌∙◌}
use mathlib.Core.Bool.{true}
use mathlib.Core.List.{List, []}
use native.Mathlib.Omega.{arith}
use lib.ListN.{length, get_or}
use Rattle.std.specs.Prelude.{Option, Some, None, Result, Ok, Err}
use lib.Dec.{ltb}
use borrow.Author.Tests.{ltb-true, ltb-false, le-leb}
use Rattle.std.specs.Prelude.{Ok, Err}
use Rattle.laws.specs.Over.{over}
use Rattle.laws.specs.Mark.{known, mark_no}
use Rattle.laws.proofs.Over.{over_eq}
use Rattle.laws.proofs.Picks.{both, by_bool}
use Rattle.refusals.specs.Refusal.{output_least, component_most, tells}
use Rattle.refusals.specs.declared.refusal.Refusal.{Refusal}
use Rattle.codes.specs.Codes.{activation}
use Rattle.profile.specs.Access.{access_read}
use Rattle.lists.specs.Entries.{instances_most}
use Rattle.instances.specs.Run.{packed}
use Rattle.exchange.specs.Table.{table_of, table_good, fresh_table}
use Rattle.exchange.specs.Arrive.{arriving_count, Done, done, Arrives}
use Rattle.exchange.specs.declared.table.Table.{Table}
use Rattle.exchange.specs.declared.arrive.Arrived.{Arrived}
use Rattle.exchange.proofs.Arrivals.{done_long, done_profile, done_table, done_answers}
use Rattle.calls.specs.Coming.{onward_in}
use Rattle.calls.specs.declared.diverting.Diversion.{Diversion}
use Rattle.calls.specs.declared.diverting.Onward.{Onward}
use Rattle.end.specs.Sending.{sends}
use Rattle.end.specs.Taking.{Moves, took, takes, MovesBy}
use Rattle.end.specs.Shown.{shown, entries_shown, seen_known}
use Rattle.end.specs.declared.end.End.{End}
use Rattle.end.specs.declared.take.Moved.{Moved}
use Rattle.end.proofs.Steps.{takes_ind}
use Rattle.end.proofs.Ends.{mark_doubt}
use Rattle.end.proofs.Shows.{known_by}
use Rattle.demand.specs.Machine.{handles, after, still}
use Rattle.demand.proofs.Stays.{heard_end}
use Rattle.promise.specs.Samples.{arrives, Says, sample_access, access_with, call_with, activated_table}
use Rattle.promise.specs.Samples.{activation_octets, activated_octets, duplicate_octets, fresh_octets, activation_of_cfb}
use Rattle.promise.specs.Samples.{end_at, interrogating_end, activating_end, activated_instances}
use Rattle.promise.specs.Wrong.{ExchangeStep, ArrivesBy, refuses_all, one_reply, table_untouched}
use Rattle.promise.specs.Wrong.{Diverter, DivertsBy, with_counter, invented_counter, fixed_counter}
use Rattle.promise.specs.Demand.{machine, asked_by, entries_held}
use Rattle.promise.specs.Wrong.{Taker, TakesBy, Keeps, all_marked, doubts_all, FirstReplyBy, result_for, pretends}
use Rattle.promise.specs.Wrong.{first_sent, first_answer, first_heard, second_sent, second_heard, cfb, KnownWrong}
use Rattle.promise.proofs.Samples.{row, sample_handled}
use Rattle.promise.proofs.Demands.{demand_3}

-- ---- the exchange

-- more output than the least changes nothing
done_roomy :
    (access : List ℕ) (t : Table) (s : List ℕ) (size : ℕ) → output_least ≤ size →
    done access t s size ≡ done access t s output_least
done_roomy access t s size room =
    let Same : Type 0 = done access t s size ≡ done access t s output_least in
    let least : output_least ≤ output_least = omega arith in
    by_bool Same (ltb component_most (length s))
    (λ h.
    let long = ltb-true component_most (length s) h in
    both (done_long access t s size room long) (done_long access t s output_least least long))
    (λ h.
    let fair = ltb-false component_most (length s) h in
    by_bool Same (access_read access).ok
    (λ ok.
    by_bool Same (table_good instances_most (access_read access).profile t)
    (λ good. both (done_answers access t s size room fair ok good) (done_answers access t s output_least least fair ok good))
    (λ bad. both (done_table access t s size room fair ok bad) (done_table access t s output_least least fair ok bad)))
    (λ bad. both (done_profile access t s size room fair bad) (done_profile access t s output_least least fair bad)))

-- what the promise says at a sample
module _
    (t : Table) (s octets : List ℕ) (next : Table) (is : Says (arrives sample_access t s octets next)) (xs : List ℕ)
    (room : output_least ≤ length xs) {r : Arrived} {ys : List ℕ} (k : Arrives sample_access t s xs r ys)
  where
    sample_table : r.table ≡ next
    sample_table = k.table ∙ ap (λ (d : Done). d.table) (done_roomy sample_access t s (length xs) room) ∙ is.1

    sample_octets : (done sample_access t s (length xs)).octets ≡ octets
    sample_octets = ap (λ (d : Done). d.octets) (done_roomy sample_access t s (length xs) room) ∙ is.0

    sample_count : arriving_count r.outcome ≡ length octets
    sample_count = k.count ∙ ap length sample_octets

    sample_lent : ys ≡ over xs 0 octets
    sample_lent = k.lent ∙ ap (over xs 0) sample_octets

activates : Says (arrives sample_access fresh_table activation_octets activated_octets activated_table)
activates = (row 27).0

again : Says (arrives sample_access activated_table activation_octets duplicate_octets activated_table)
again = (row 28).0

-- "refusing everything": the activation sample's reply has 5 octets
pub shut_out_refusing_everything :
    (refusal : Refusal) (xs : List ℕ) → output_least ≤ length xs →
    ArrivesBy (refuses_all refusal) sample_access fresh_table activation_octets xs → ⊥
shut_out_refusing_everything refusal xs room k =
    let z = sample_count fresh_table activation_octets activated_octets activated_table activates xs room k in
    omega (arith, z)

-- "one fixed reply": no octets are both the activation sample's reply and that to "the latter again"
pub shut_out_one_fixed_reply :
    (octets : List ℕ) (answers : List ℕ → Table → List ℕ → List ℕ → Arrived) (xs : List ℕ) → output_least ≤ length xs →
    ArrivesBy (one_reply octets answers) sample_access fresh_table activation_octets xs →
    ArrivesBy (one_reply octets answers) sample_access activated_table activation_octets xs →
    ⊥
shut_out_one_fixed_reply octets answers xs room a b =
    let first : over xs 0 octets ≡ over xs 0 activated_octets =
    sample_lent fresh_table activation_octets activated_octets activated_table activates xs room a in
    let second : over xs 0 octets ≡ over xs 0 duplicate_octets =
    sample_lent activated_table activation_octets duplicate_octets activated_table again xs room b in
    let head : List ℕ → ℕ = λ l. get_or l 0 0 in
    let z : ◌≡◌ {A = ℕ} 0xA2 0xA4 =
    sym (ap head (over_eq xs 0 activated_octets (omega (arith, room)))) ∙ ap head (sym first ∙ second)
    ∙ ap head (over_eq xs 0 duplicate_octets (omega (arith, room))) in
    omega (arith, z)

-- "leaving the table untouched": after the activation sample the last handled identifier is 2
pub shut_out_table_untouched :
    (x : ExchangeStep) (xs : List ℕ) → output_least ≤ length xs →
    ArrivesBy (table_untouched x) sample_access fresh_table activation_octets xs → ⊥
shut_out_table_untouched x xs room k =
    let z : ◌≡◌ {A = ℕ} 0 2 =
    ap (λ (t : Table). t.last) (sample_table fresh_table activation_octets activated_octets activated_table activates xs room k) in
    omega (arith, z)

-- ---- calls

-- a counter above 0 that goes on is the one that was made up
made_up :
    (counter more : ℕ) (r : Result (Option Diversion) Refusal) → (onward_in (with_counter counter r)).counter ≡ more + 1 →
    counter ≡ more + 1
made_up counter more (Err refusal) h = absurd (omega (arith, h))
made_up counter more (Ok None) h = absurd (omega (arith, h))
made_up counter more (Ok (Some d)) h = h

-- "an invented counter": any but one more, at the sample "counter 4, limit 5: diverted, counter 5"
pub shut_out_invented_counter :
    (invents : List ℕ → Table → List ℕ → ℕ) (x : Diverter) → (invents sample_access activated_table (call_with 4 0) ≡ 4 + 1 → ⊥) →
    DivertsBy (invented_counter invents x) sample_access activated_table (call_with 4 0) → ⊥
shut_out_invented_counter invents x differs k =
    differs
    (made_up _ 4 (x sample_access activated_table (call_with 4 0)) (ap (λ (c : Onward). c.counter) k.call ∙ (row 31).0.1))

-- any that is always the same, at that sample and the one of counter 1
pub shut_out_fixed_counter :
    (counter : ℕ) (x : Diverter) → DivertsBy (fixed_counter counter x) sample_access activated_table (call_with 4 0) →
    DivertsBy (fixed_counter counter x) (access_with 1) activated_table (call_with 1 2) → ⊥
shut_out_fixed_counter counter x a b =
    let five : counter ≡ 5 =
    made_up counter 4 (x sample_access activated_table (call_with 4 0)) (ap (λ (c : Onward). c.counter) a.call ∙ (row 31).0.1) in
    let two : counter ≡ 2 =
    made_up counter 1 (x (access_with 1) activated_table (call_with 1 2)) (ap (λ (c : Onward). c.counter) b.call ∙ (row 34).0.1) in
    omega (arith, five, two)

-- ---- the customer end

-- the interrogation is sent and answered
first_sent_lem : first_sent.end ≡ interrogating_end
first_sent_lem = (row 39).0.1

first_answer_lem : first_answer.octets ≡ fresh_octets
first_answer_lem =
    ap (λ (s : List ℕ). (done sample_access fresh_table s output_least).octets) (row 39).0.0
    ∙ (row 26).0.0

-- what an end makes of that
at_first : {A : Type 0} (f : End → List ℕ → A) → f first_sent.end first_answer.octets ≡ f interrogating_end fresh_octets
at_first f = ap (λ (e : End). f e first_answer.octets) first_sent_lem ∙ ap (f interrogating_end) first_answer_lem

first_taken : (takes sample_access first_sent.end first_answer.octets).end ≡ end_at 1 []
first_taken = at_first (λ e s. (takes sample_access e s).end) ∙ (row 40).0

-- "doubts everything": "a good list .. makes it known"
pub shut_out_doubting_everything : (x : Taker) → TakesBy (doubts_all x) sample_access first_sent.end first_answer.octets → ⊥
shut_out_doubting_everything x k =
    let z : ◌≡◌ {A = ℕ} 0 1 = ap (λ (e : End). get_or e.marks cfb 0) (k.end ∙ first_taken) in
    omega (arith, z)

-- and "a whole interrogation that is handled .. makes its procedure known"
pub shut_out_doubting_interrogations : (x : Taker) → FirstReplyBy (doubts_all x) sample_access → ⊥
shut_out_doubting_interrogations x k =
    let so = sample_handled in
    let w = so.asks in
    let v = after (machine sample_access) w (handles output_least (asked_by w.end) so.handled.arrives) in
    let known = k w so.run output_least so.result so.handled v still tt in
    let procedure = w.end.request.procedure in
    let by = known_by sample_access (doubts_all x sample_access v.end so.result).end procedure known.0 known.1 in
    omega (arith, by.mark, mark_doubt procedure)

-- which every end does that keeps the promise of `arrived`
pub keeping_interrogations :
    (x : Taker) → Keeps x → (access : List ℕ) → (access_read access).ok ≡ true → (access_read access).profile.counted ≡ 1 →
    FirstReplyBy x access
keeping_interrogations x keeps access ok counted w run size a h v q quiet =
    let known = (demand_3 access ok counted).known w run size a h v q quiet in
    let same = (keeps access v.end a).end ∙ sym (heard_end (machine access) v a known.0) in (
      known.1,
      ap (λ (e : End). shown access e w.end.request.procedure) same ∙ known.2,
    )

-- the table has no instance then, as the end's picture has none
first_table : first_answer.table ≡ table_of 1 (packed [])
first_table =
    ap (λ (s : List ℕ). (done sample_access fresh_table s output_least).table) (row 39).0.0
    ∙ (row 26).0.1

none_held : 0 ≡ length (entries_held sample_access first_answer.table cfb)
none_held =
    (known_by sample_access (end_at 1 []) cfb 0 (row 41).0).entries
    ∙ ap (λ (t : Table). length (entries_held sample_access t cfb)) (sym first_table)

module _ (x : Taker) (keeps : Keeps x) where
  -- it tracks its first request
  tracks_first : (access : List ℕ) (e : End) (s : List ℕ) → e.used ≤ 1 → TakesBy (pretends x) access e s
  tracks_first access e s first = rw (le-leb e.used 1 first) (keeps access e s)

  first_heard_lem : (first_heard (pretends x)).end ≡ end_at 1 []
  first_heard_lem =
      at_first (λ e s. (pretends x sample_access e s).end)
      ∙ (keeps sample_access interrogating_end fresh_octets).end
      ∙ (row 40).0

  second_sent_lem : (second_sent (pretends x)).end ≡ activating_end
  second_sent_lem =
      ap (λ (e : End). (sends sample_access activation activation_of_cfb e output_least).end) first_heard_lem
      ∙ (row 42).0.1

  at_second :
      {A : Type 0} (f : End → List ℕ → A) → f (second_sent (pretends x)).end first_answer.octets ≡ f activating_end fresh_octets
  at_second f = ap (λ (e : End). f e first_answer.octets) second_sent_lem ∙ ap (f activating_end) first_answer_lem

  -- it takes the first reply for the second, and shows the instance as known
  second_heard_lem : (second_heard (pretends x)).end ≡ end_at 2 activated_instances
  second_heard_lem =
      at_second (λ e s. (pretends x sample_access e s).end)
      ∙ ap (all_marked (mark_no known))
      ((keeps sample_access activating_end (result_for activating_end)).end
      ∙ ap (λ (s : List ℕ). (takes sample_access activating_end s).end) (row 15).0
      ∙ (row 44).0)

  second_shown : shown sample_access (second_heard (pretends x)).end cfb ≡ tells (seen_known 1)
  second_shown = ap (λ (e : End). shown sample_access e cfb) second_heard_lem ∙ (row 45).0

  second_differs :
      entries_shown (access_read sample_access).profile (second_heard (pretends x)).end cfb
      ≡ entries_held sample_access first_answer.table cfb → ⊥
  second_differs same =
      omega (arith, (known_by sample_access (second_heard (pretends x)).end cfb 1 second_shown).entries, ap length same, none_held)

  -- "an end that tracks its first request and afterwards pretends", made of an end that keeps the promise: it does keep it for the first
  -- request; then what it shows as known is not what the table has; "Anything else that arrives is dropped"
  pub shut_out_pretending :
      ((access : List ℕ) (e : End) (s : List ℕ) → e.used ≤ 1 → TakesBy (pretends x) access e s)
      × KnownWrong (second_heard (pretends x)).end first_answer.table
      × (TakesBy (pretends x) sample_access (second_sent (pretends x)).end first_answer.octets → ⊥)
  shut_out_pretending = (
    tracks_first,
    record { count = 1; known = second_shown; differs = second_differs },
    λ k.
        let z : ◌≡◌ {A = ℕ} 1 0 =
        ap (λ (e : End). get_or e.marks cfb 0)
        (sym second_heard_lem ∙ k.end ∙ at_second (λ e s. (takes sample_access e s).end) ∙ (row 43).0) in
        omega (arith, z),
  )

-- there is an end that keeps the promise, and so one that pretends
record Kept (d : Moves) : Type 0 where
  by : Moved
  kept : MovesBy d by

pub record Keeping : Type 0 where
  pub taker : Taker
  pub keeps : Keeps taker

pub keeping_end : Keeping
keeping_end = record { taker = λ access e s. (each access e s).by; keeps = λ access e s. (each access e s).kept }
  where
    each : (access : List ℕ) (e : End) (s : List ℕ) → Kept (takes access e s)
    each access e s =
        takes_ind access e s Kept
        (λ refusal. record { by = record { end = e; outcome = Err refusal }; kept = record { end = refl; told = refl } })
        (λ _ _ _. record {
          by = record { end = took (access_read access).profile e s; outcome = Ok tt };
          kept = record { end = refl; told = refl };
        })
