-- The next table, whatever component came: it breaks no rule, and it is another one only where document 01 says so ("Replies, in
-- the order checked", "Local refusals"). Assumes nothing.
use Prim.Native.Nat.{ℕ, ◌≤◌, ◌<◌}
use mathlib.Core.Path.{◌≡◌, refl, sym, ap, ◌∙◌}
use mathlib.Core.Bool.{true, not}
use mathlib.Core.List.{List, []}
use mathlib.Core.Option.{none}
use mathlib.Core.Logic.{◌⊎◌, inl, inr, ⊎_elim}
use native.Mathlib.Omega.{arith}
use lib.IntN.{ℤ, pos, negsuc}
use lib.Signed.{mag}
use lib.ListN.{length}
use lib.Dec.{eqb, ltb}
use borrow.Author.Tests.{not-false}
use Rattle.laws.proofs.Picks.{pick_ind}
use Rattle.refusals.specs.Refusal.{refuses, tells, output_least, component_most}
use Rattle.refusals.specs.declared.refusal.Refusal.{Refusal}
use Rattle.refusals.specs.declared.refusal.Refusal.TheVariants.{ShortOutput, LongComponent, BadProfile, BadTable}
use Rattle.refusals.proofs.Refusals.{tells_same, refuses_not}
use Rattle.codes.specs.Codes.{activation, deactivation, interrogation}
use Rattle.profile.specs.Access.{access_read}
use Rattle.profile.specs.Profile.{profile_good}
use Rattle.profile.specs.declared.profile.Profile.{Profile}
use Rattle.profile.proofs.Profiles.{good_profile}
use Rattle.profile.proofs.Records.{access_good}
use Rattle.requests.specs.Spelt.{Known, activation_is, deactivation_is, interrogation_is}
use Rattle.requests.specs.declared.request.Request.{Request}
use Rattle.lists.specs.Entries.{instances_most}
use Rattle.instances.specs.Run.{instances_of, packed, run_good}
use Rattle.instances.proofs.Runs.{packed_all}
use Rattle.instances.proofs.Goods.{GoodList, good_short, run_good_lem, good_run}
use Rattle.rules.specs.Judge.{changed, applied}
use Rattle.rules.proofs.Judges.{kind_known, judge_activation}
use Rattle.rules.proofs.Changes.{changed_good, applied_changes}
use Rattle.answers.specs.Answer.{answer_no, answer_whose, Answered, answered_by}
use Rattle.answers.specs.declared.answer.Answer.{Answer}
use Rattle.answers.specs.declared.answer.Whose.TheVariants.{Own}
use Rattle.answers.proofs.Fits.{answer_most}
use Rattle.exchange.specs.Table.{last_most, table_of, table_good}
use Rattle.exchange.specs.Question.{asks, question}
use Rattle.exchange.specs.Step.{Step, last_after, handled, step}
use Rattle.exchange.specs.Arrive.{Done, refused, answered, done}
use Rattle.exchange.specs.declared.table.Table.{Table}
use Rattle.exchange.proofs.Questions.{RequestAsked, AtOnce, silence, reject, question_asks}
use Rattle.exchange.proofs.Tables.{table_good_lem, good_table}
use Rattle.exchange.proofs.Steps.{after_stays, after_moves, verdict, handled_ind, step_asks, step_ind}
use Rattle.exchange.proofs.Arrivals.{step_fits}

-- the answers that move the last handled identifier: a result, and an error
pub data Moves (n : ℕ) : Type 0 where
  result : n ≡ 0xA2 → Moves n
  error : n ≡ 0xA3 → Moves n

at_once_stays : (a : Answer) → AtOnce a → Moves (answer_no a) → ⊥
at_once_stays a (silence e) (result h) = omega (arith, ap answer_no e)
at_once_stays a (silence e) (error h) = omega (arith, ap answer_no e)
at_once_stays a (reject w q e) (result h) = omega (arith, ap answer_no e)
at_once_stays a (reject w q e) (error h) = omega (arith, ap answer_no e)

-- an operation that changes instances
pub changing : {operation : ℕ} → Known operation → (operation ≡ interrogation → ⊥) → (operation ≡ activation) ⊎ (operation ≡ deactivation)
changing (activation_is e) other = inl e
changing (deactivation_is e) other = inr e
changing (interrogation_is e) other = absurd (other e)

last_most_lem :
    (p : Profile) (identifier : ℤ) (last : ℕ) → mag identifier < 32768 → last ≤ last_most → last_after p identifier last ≤ last_most
unfolding last_after
last_most_lem p (pos n) last range most = pick_ind (λ k. k ≤ last_most) (eqb p.counted 1) (λ _. omega arith) (λ _. most)
last_most_lem p (negsuc n) last range most = most

-- ---- where the profile and the table break no rule

module _ (p : Profile) (t : Table) (profile : profile_good p ≡ true) (table : table_good instances_most p t ≡ true) where
  pub run_held : GoodList p instances_most (instances_of t.run)
  run_held = run_good_lem p instances_most t.run (table_good_lem instances_most p t table).1

  module _ (identifier : ℤ) (operation : ℕ) (r : Request) (is : RequestAsked p t.last identifier operation r) where
    module _ (passes : verdict p t identifier operation r ≡ none) (other : operation ≡ interrogation → ⊥) where
      -- what the instances become breaks no rule
      changed_held : GoodList p instances_most (changed p operation r (instances_of t.run))
      changed_held =
          let held = instances_of t.run in
          changed_good instances_most p operation r held (good_profile p profile) is.procedure passes
          (λ e. is.to e (kind_known r.to.address.number (judge_activation instances_most p r held (rw e at passes)).kind))
          run_held

      applied_is : applied p operation r t.run ≡ packed (changed p operation r (instances_of t.run))
      applied_is = applied_changes p operation r t.run (changing is.known other)

      -- and their record holds them all
      pub applied_holds : instances_of (applied p operation r t.run) ≡ changed p operation r (instances_of t.run)
      applied_holds =
          let next = changed p operation r (instances_of t.run) in
          ap instances_of applied_is ∙ packed_all next (good_short p next changed_held)

      applied_good : run_good instances_most p (applied p operation r t.run) ≡ true
      applied_good = rw applied_is (good_run p (changed p operation r (instances_of t.run)) changed_held)

    handled_good : table_good instances_most p (handled p t identifier operation r).next ≡ true
    handled_good =
        let so = table_good_lem instances_most p t table in
        let last = last_after p identifier t.last in
        let low = last_most_lem p identifier t.last is.range so.0 in
        let same = good_table instances_most p (table_of last t.run) low so.1 in
        handled_ind p t identifier operation r (λ x. table_good instances_most p x.next ≡ true)
        (λ _ _. same)
        (λ _ _. same)
        (λ passes other.
        good_table instances_most p (table_of last (applied p operation r t.run)) low (applied_good passes other))

  step_good : (s : List ℕ) → table_good instances_most p (step p t s).next ≡ true
  step_good s =
      step_ind p t s (λ x. table_good instances_most p x.next ≡ true) (λ _ _. table) (λ identifier operation r e.
      handled_good identifier operation r (question_asks p t.last s identifier operation r e))

-- ---- a step

-- a request that is handled is answered by a result or an error with its own identifier
pub record Answers (identifier : ℤ) (a : Answer) : Type 0 where
  pub moves : Moves (answer_no a)
  pub whose : answer_whose a ≡ Own identifier

module _ (p : Profile) (t : Table) (identifier : ℤ) (operation : ℕ) (r : Request) where
  handled_answers : Answers identifier (handled p t identifier operation r).answer
  handled_answers =
      handled_ind p t identifier operation r (λ x. Answers identifier x.answer)
      (λ _ _. record { moves = error refl; whose = refl })
      (λ _ _. record { moves = result refl; whose = refl })
      (λ _ _. record { moves = result refl; whose = refl })

  handled_last : (handled p t identifier operation r).next.last ≡ last_after p identifier t.last
  handled_last =
      handled_ind p t identifier operation r (λ x. x.next.last ≡ last_after p identifier t.last)
      (λ _ _. refl) (λ _ _. refl) (λ _ _. refl)

  -- only a result alters a registration
  handled_run : (answer_no (handled p t identifier operation r).answer ≡ 0xA2 → ⊥) → (handled p t identifier operation r).next.run ≡ t.run
  handled_run =
      handled_ind p t identifier operation r (λ x. (answer_no x.answer ≡ 0xA2 → ⊥) → x.next.run ≡ t.run)
      (λ _ _ _. refl) (λ _ _ _. refl) (λ _ _ not. absurd (not refl))

module _ (p : Profile) (t : Table) (s : List ℕ) where
  -- silence and rejects change nothing
  step_same : (Moves (answer_no (step p t s).answer) → ⊥) → (step p t s).next ≡ t
  step_same =
      step_ind p t s (λ x. (Moves (answer_no x.answer) → ⊥) → x.next ≡ t) (λ _ _ _. refl)
      (λ identifier operation r _ not. absurd (not (handled_answers p t identifier operation r).moves))

  step_run : (answer_no (step p t s).answer ≡ 0xA2 → ⊥) → (step p t s).next.run ≡ t.run
  step_run =
      step_ind p t s (λ x. (answer_no x.answer ≡ 0xA2 → ⊥) → x.next.run ≡ t.run) (λ _ _ _. refl)
      (λ identifier operation r _. handled_run p t identifier operation r)

  -- on an end that is not counted nothing is handled last
  step_last : (p.counted ≡ 1 → ⊥) → (step p t s).next.last ≡ t.last
  step_last not =
      step_ind p t s (λ x. x.next.last ≡ t.last) (λ _ _. refl)
      (λ identifier operation r _. handled_last p t identifier operation r ∙ after_stays p identifier t.last not)

  -- a request
  pub record Requested : Type 0 where
    pub identifier : ℤ
    pub operation : ℕ
    pub request : Request
    pub is : question p t.last s ≡ asks identifier operation request

  step_requested : Moves (answer_no (step p t s).answer) → Requested
  step_requested =
      step_ind p t s (λ x. Moves (answer_no x.answer) → Requested)
      (λ a said moves. absurd (at_once_stays a said.once moves))
      (λ identifier operation r e _. record { identifier = identifier; operation = operation; request = r; is = e })

-- ---- what arrives

module _ (access : List ℕ) (t : Table) (s : List ℕ) (size : ℕ) where
  abbrev profile : Profile
  profile = (access_read access).profile

  abbrev next : Table
  next = (done access t s size).table

  -- what holds of every refusal, and of the step where the profile and the table break no rule, holds of what is done
  done_ind :
      (P : Done → Type 0) → ((refusal : Refusal) → P (refused t refusal)) →
      ((access_read access).ok ≡ true → table_good instances_most profile t ≡ true → P (answered (step profile t s))) →
      P (done access t s size)
  unfolding done
  done_ind P refuse answer =
      pick_ind P (ltb size output_least) (λ _. refuse ShortOutput) (λ _.
      pick_ind P (ltb component_most (length s)) (λ _. refuse LongComponent) (λ _.
      pick_ind P (not (access_read access).ok) (λ _. refuse BadProfile) (λ ok.
      pick_ind P (not (table_good instances_most profile t)) (λ _. refuse BadTable) (λ good.
      answer (not-false _ ok) (not-false _ good)))))

  -- every reply fits the least output there may be
  pub reply_fits : length (done access t s size).octets ≤ output_least
  reply_fits =
      done_ind (λ d. length d.octets ≤ output_least) (λ _. omega arith) (λ ok good.
      let fits = step_fits profile t (access_good access ok) good s in
      answer_most (step profile t s).answer (step profile t s).entries fits.answer fits.good fits.few)

  -- "A local refusal hands the table or picture back unchanged, writes nothing"
  pub refusal_nothing : (n : ℕ) → (done access t s size).told ≡ refuses n → (next ≡ t) × ((done access t s size).octets ≡ [])
  refusal_nothing n =
      done_ind (λ d. d.told ≡ refuses n → (d.table ≡ t) × (d.octets ≡ []))
      (λ _ _. (refl, refl))
      (λ _ _ h. absurd (refuses_not _ _ (sym h)))

  -- a component that is not refused, with what is told of its answer
  pub record Heeded (x : Answered) : Type 0 where
    pub rules : profile_good profile ≡ true
    pub table : table_good instances_most profile t ≡ true
    pub is : done access t s size ≡ answered (step profile t s)
    pub tells : answered_by (step profile t s).answer ≡ x

  module _ (x : Answered) (told : (done access t s size).told ≡ tells x) where
    done_step :
        (profile_good profile ≡ true) × (table_good instances_most profile t ≡ true) × (done access t s size ≡ answered (step profile t s))
    done_step =
        done_ind
        (λ d. d.told ≡ tells x → (profile_good profile ≡ true) × (table_good instances_most profile t ≡ true) ×
        (d ≡ answered (step profile t s)))
        (λ _ h. absurd (refuses_not _ _ h))
        (λ ok good _. (access_good access ok, good, refl))
        told

    pub heeded : Heeded x
    heeded =
        let so = done_step in
        record {
          rules = so.0;
          table = so.1;
          is = so.2;
          tells = tells_same _ x (sym (ap (λ (d : Done). d.told) so.2) ∙ told);
        }

    number : answer_no (step profile t s).answer ≡ x.number
    number = ap (λ (a : Answered). a.number) heeded.tells

    step_next : next ≡ (step profile t s).next
    step_next = ap (λ (d : Done). d.table) heeded.is

    -- the next table breaks no rule
    pub next_good : table_good instances_most profile next ≡ true
    next_good = rw step_next (step_good profile t heeded.rules heeded.table s)

    -- rejects and silence change nothing
    pub reject_nothing : (Moves x.number → ⊥) → next ≡ t
    reject_nothing not = step_next ∙ step_same profile t s (λ moves. not (rw number at moves))

    -- a refused request alters no registration: no answer but a result does
    pub error_nothing : (x.number ≡ 0xA2 → ⊥) → next.run ≡ t.run
    error_nothing not = ap (λ (u : Table). u.run) step_next ∙ step_run profile t s (λ e. not (sym number ∙ e))

    -- a result and an error answer a request ..
    pub moves_asks : Moves x.number → Requested profile t s
    moves_asks moves = step_requested profile t s (rw (sym number) at moves)

    -- .. and "Only a result or an error on a counted end moves the last handled identifier"
    pub last_stays : (profile.counted ≡ 1 → ⊥) ⊎ (Moves x.number → ⊥) → next.last ≡ t.last
    last_stays =
        ⊎_elim (λ not. ap (λ (u : Table). u.last) step_next ∙ step_last profile t s not)
        (λ not. ap (λ (u : Table). u.last) (reject_nothing not))

    module _
        (identifier : ℤ) (operation : ℕ) (r : Request)
        (asked : question profile t.last s ≡ asks identifier operation r)
      where
        -- the request is answered by a result or an error, its own
        pub asks_moves : Moves x.number × (x.whose ≡ Own identifier)
        asks_moves =
            let a = handled_answers profile t identifier operation r in
            let same : answered_by (handled profile t identifier operation r).answer ≡ x =
            ap (λ (y : Step). answered_by y.answer) (sym (step_asks profile t s identifier operation r asked)) ∙ heeded.tells in
            (rw (ap (λ (y : Answered). y.number) same) at a.moves, sym (ap (λ (y : Answered). y.whose) same) ∙ a.whose)

        -- to the request's own, which is above the one before
        pub last_moves : profile.counted ≡ 1 → (identifier ≡ pos next.last) × (t.last < next.last)
        last_moves counted =
            let above = (question_asks profile t.last s identifier operation r asked).above counted in
            let last : next.last ≡ mag identifier =
            ap (λ (u : Table). u.last) step_next
            ∙ ap (λ (y : Step). y.next.last) (step_asks profile t s identifier operation r asked)
            ∙ handled_last profile t identifier operation r
            ∙ ap (λ (z : ℤ). last_after profile z t.last) above.number
            ∙ after_moves profile (mag identifier) t.last counted in
            (above.number ∙ ap pos (sym last), omega (arith, last, above.more))

  -- an interrogation alters no registration, whatever is told
  pub interrogation_nothing :
      (identifier : ℤ) (r : Request) → question profile t.last s ≡ asks identifier interrogation r → next.run ≡ t.run
  interrogation_nothing identifier r asked =
      done_ind (λ d. d.table.run ≡ t.run) (λ _. refl) (λ _ _.
      rw (step_asks profile t s identifier interrogation r asked)
      (handled_ind profile t identifier interrogation r (λ x. x.next.run ≡ t.run)
      (λ _ _. refl) (λ _ _. refl) (λ _ other. absurd (other refl))))
