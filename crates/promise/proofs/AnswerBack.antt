-- What the exchange writes is, to the end whose request it answers, that answer. Assumes nothing.
use Prim.Native.Nat.{ℕ, ◌≤◌}
use mathlib.Core.Path.{◌≡◌, refl, sym, ap, subst, ◌∙◌}
use mathlib.Core.Bool.{true}
use mathlib.Core.List.{List, []}
use native.Mathlib.Omega.{arith}
use lib.IntN.{ℤ, pos}
use lib.ListN.{length}
use Rattle.refusals.specs.Refusal.{tells, output_least}
use Rattle.codes.specs.Codes.{interrogation}
use Rattle.profile.specs.Access.{access_read}
use Rattle.profile.specs.declared.profile.Profile.{Profile}
use Rattle.requests.specs.Heard.{local, heard}
use Rattle.requests.specs.declared.heard.Heard.TheVariants as heard
use Rattle.requests.specs.declared.heard.Operation.{Operation}
use Rattle.requests.specs.Sent.{sendable, request_octets, tidy_request}
use Rattle.requests.specs.Spelt.{Known}
use Rattle.requests.specs.declared.request.Request.{Request}
use Rattle.requests.proofs.Goods.{readable}
use Rattle.requests.proofs.Sizes.{request_most}
use Rattle.requests.proofs.Trips.{request_back}
use Rattle.lists.specs.Entries.{instances_most}
use Rattle.lists.specs.declared.entry.Entry.{Entry}
use Rattle.answers.specs.Answer.{answer_octets, Answered, answered_by}
use Rattle.answers.specs.Reply.{reply}
use Rattle.answers.specs.declared.answer.Answer.TheVariants as answer
use Rattle.answers.specs.declared.answer.Problem.{Problem}
use Rattle.answers.specs.declared.answer.Whose.TheVariants.{Own}
use Rattle.answers.proofs.Answers.{reject_back, error_back, result_back}
use Rattle.answers.proofs.Lists.{listing_back}
use Rattle.exchange.specs.Question.{known_operation, code_of, question}
use Rattle.exchange.specs.Step.{Step, stays, handled, step}
use Rattle.exchange.specs.Table.{table_good}
use Rattle.exchange.specs.Arrive.{Done, done}
use Rattle.exchange.specs.declared.table.Table.{Table}
use Rattle.exchange.proofs.Questions.{known_code}
use Rattle.exchange.proofs.Steps.{lists, handled_ind, step_says, step_asks}
use Rattle.exchange.proofs.Arrivals.{done_answers, StepFits, step_fits}
use Rattle.exchange.proofs.Nexts.{changing, heeded}
use Rattle.end.specs.Sending.{sends}
use Rattle.end.specs.declared.end.End.{End}
use Rattle.exchange.proofs.Askings.{Asking, rejected, judged, asking, asking_new}
use Rattle.end.proofs.Waitings.{sends_waits}
use Rattle.promise.specs.AnswerBack.{ListSaid, SaysBack, AnswersEnd}

-- ---- what a step answers

module _ (identifier : ℤ) (operation : ℕ) where
  -- the octets of a step's answer say it
  abbrev Said : Step → Type 0
  Said y = SaysBack identifier operation (answer_octets y.answer y.entries) y.answer y.entries

  rejected_said :
      (t : Table) (problem : Problem) → StepFits (stays t (answer.Reject (Own identifier) problem)) →
      Said (stays t (answer.Reject (Own identifier) problem))
  rejected_said t problem fits = (refl, reject_back identifier operation fits.answer problem [])

  module _ (p : Profile) (t : Table) (r : Request) where
    listed_said :
        operation ≡ interrogation → StepFits (lists p t identifier operation r) →
        ListSaid identifier operation
        (answer_octets (answer.Listing identifier) (lists p t identifier operation r).entries)
        (lists p t identifier operation r).entries
    listed_said asks fits =
        let es : List Entry = (lists p t identifier operation r).entries in
        let back = listing_back identifier instances_most es fits.answer fits.good fits.few (omega arith) in
        record {
          at = back.at;
          end = back.end;
          is = ap (λ (k : ℕ). reply identifier k (answer_octets (answer.Listing identifier) es)) asks ∙ back.is;
          entries = back.entries;
        }

    handled_said : Known operation → StepFits (handled p t identifier operation r) → Said (handled p t identifier operation r)
    handled_said is =
        handled_ind p t identifier operation r (λ y. StepFits y → Said y)
        (λ error _ fits. (refl, error_back identifier operation fits.answer.0 error [] fits.answer.1))
        (λ _ asks fits. (refl, asks, listed_said asks fits))
        (λ _ other fits. (refl, changing is other, result_back identifier operation fits.answer [] other))

module _ (p : Profile) (t : Table) (s : List ℕ) (identifier : ℤ) (operation : Operation) (n : ℕ) where
  step_said :
      (known_operation operation.value ≡ true → operation.value ≡ pos n) → StepFits (step p t s) →
      Asking identifier operation (question p t.last s) → Said identifier n (step p t s)
  step_said same fits (rejected problem e) =
      let is = step_says p t s (answer.Reject (Own identifier) problem) e in
      subst (Said identifier n) (sym is) (rejected_said identifier n t problem (subst StepFits is fits))
  step_said same fits (judged r known e) =
      let code : code_of operation.value ≡ n = ap code_of (same known) in
      let is : step p t s ≡ handled p t identifier n r =
      step_asks p t s identifier (code_of operation.value) r e ∙ ap (λ (k : ℕ). handled p t identifier k r) code in
      subst (Said identifier n) (sym is)
      (handled_said identifier n p t r (subst Known code (known_code operation.value known).1) (subst StepFits is fits))

-- ---- what the exchange writes

-- For every access record, table, component and output: where the component asks (an invoke whose identifier and operation can be read)
-- and is not refused, the octets that are written are the exchange's answer to the end that waits with that identifier and operation n.
-- An operation that the exchange does not know is rejected, and that is a reject whatever the end waits for.
pub answer_back :
    (access : List ℕ) (t : Table) (s : List ℕ) (size : ℕ) (x : Answered) (identifier : ℤ) (operation : Operation) (at end n : ℕ) →
    heard s ≡ heard.Asks identifier operation at end → (done access t s size).told ≡ tells x →
    (known_operation operation.value ≡ true → operation.value ≡ pos n) →
    SaysBack identifier n (done access t s size).octets
    (step (access_read access).profile t s).answer
    (step (access_read access).profile t s).entries
answer_back access t s size x identifier operation at end n hears told same =
    let p : Profile = (access_read access).profile in
    let so = heeded access t s size x told in
    let octets : (done access t s size).octets ≡ answer_octets (step p t s).answer (step p t s).entries =
    ap (λ (d : Done). d.octets) so.is in
    subst (λ (o : List ℕ). SaysBack identifier n o (step p t s).answer (step p t s).entries) (sym octets)
    (step_said p t s identifier operation n same (step_fits p t so.rules so.table s)
    (asking p t.last s identifier operation at end hears))

-- ---- to a request that the end sent

module _
    (access : List ℕ) (t : Table) (size : ℕ) (ok : (access_read access).ok ≡ true)
    (good : table_good instances_most (access_read access).profile t ≡ true) (room : output_least ≤ size)
  where
    pub request_answered :
        (e : End) → e.used ≤ 32767 → sendable e.operation e.request ≡ true →
        AnswersEnd access t size e (request_octets (pos e.used) e.operation e.request)
    request_answered e most fit =
        let p : Profile = (access_read access).profile in
        let s : List ℕ = request_octets (pos e.used) e.operation e.request in
        let fair = request_most (pos e.used) e.operation e.request (omega arith) fit in
        let back = request_back (pos e.used) e.operation e.request (omega arith) fit in
        let is = done_answers access t s size room (omega arith) ok good in
        let told : (done access t s size).told ≡ tells (answered_by (step p t s).answer) = ap (λ (d : Done). d.told) is in
        record {
          told = told;
          back =
              answer_back access t s size (answered_by (step p t s).answer) (pos e.used) (local (pos e.operation))
              back.at (length s) e.operation back.hears told (λ _. refl);
          judged = λ new.
              step_asks p t s (pos e.used) e.operation (tidy_request e.operation e.request)
              (asking_new p t.last s e.used e.operation back.at (length s)
              (tidy_request e.operation e.request) (length s) back.hears new
              (readable e.operation e.request fit).known back.asks);
        }

-- For every end, request and output of the end that is not refused, every good table and every output of the exchange that is not
-- short: the exchange does not refuse what the end wrote, and what it writes is its answer to the end that has sent.
pub sent_answered :
    (access : List ℕ) (operation : ℕ) (r : Request) (e : End) (size : ℕ) (t : Table) (room : ℕ) →
    (sends access operation r e size).told ≡ tells tt →
    table_good instances_most (access_read access).profile t ≡ true → output_least ≤ room →
    AnswersEnd access t room (sends access operation r e size).end (sends access operation r e size).octets
sent_answered access operation r e size t room told good large =
    let waits = sends_waits access operation r e size told in
    subst (AnswersEnd access t room (sends access operation r e size).end) (sym waits.octets)
    (request_answered access t room waits.ok good large (sends access operation r e size).end waits.used waits.sendable)
