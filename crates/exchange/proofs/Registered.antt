-- What a request does to the registrations, at the octets and for every procedure, number and service (document 01, "Replies, in the
-- order checked"): an activation is all or nothing; a deactivation gives error 46 exactly if no error comes first and there is nothing
-- to remove; an interrogation lists exactly what is active, or gives the first error. Assumes nothing.
use Prim.Native.Nat.{ℕ}
use mathlib.Core.Path.{◌≡◌, refl, sym, ap, ◌∙◌}
use mathlib.Core.List.{List, [], ◌∷◌, map}
use mathlib.Core.Option.{Option, none, some}
use native.Mathlib.Omega.{arith}
use lib.IntN.{ℤ, pos}
use lib.ListN.{length}
use Rattle.laws.specs.Pick.{pick}
use Rattle.laws.proofs.Eaches.{Up, up_those}
use Rattle.refusals.specs.Refusal.{tells}
use Rattle.codes.specs.Codes.{activation, deactivation, interrogation}
use Rattle.numbers.specs.declared.address.Address.{Address}
use Rattle.profile.specs.Access.{access_read}
use Rattle.profile.specs.declared.profile.Profile.{Profile}
use Rattle.requests.specs.declared.request.Request.{Request}
use Rattle.lists.specs.Entries.{instances_most}
use Rattle.instances.specs.Instance.{key_of, chosen}
use Rattle.instances.specs.Run.{instances_of, listed, entry_for, forwarded_to}
use Rattle.instances.specs.declared.instance.Instance.{Instance}
use Rattle.instances.specs.declared.instance.Selection.{Selection}
use Rattle.instances.proofs.Finds.{names, has_place, find_cleared, find_put}
use Rattle.rules.specs.Selection.{selection_of}
use Rattle.rules.specs.Judge.{first_error, every_tests, changed}
use Rattle.rules.proofs.Judges.{judge_interrogation, judge_errors, none_fails, fails_none}
use Rattle.rules.proofs.Changes.{changed_activation, changed_deactivation}
use Rattle.answers.specs.Answer.{answer_no, answer_octets, Answered}
use Rattle.answers.specs.Reply.{reply_no, reply}
use Rattle.answers.specs.declared.answer.Answer.TheVariants as answer
use Rattle.answers.specs.declared.reply.Reply.TheVariants.{Failed}
use Rattle.answers.proofs.Answers.{error_back, result_back}
use Rattle.exchange.specs.Question.{asks, question}
use Rattle.exchange.specs.Step.{Step, handled}
use Rattle.exchange.specs.Arrive.{Done, answered, done}
use Rattle.exchange.specs.declared.table.Table.{Table}
use Rattle.exchange.proofs.Questions.{question_asks}
use Rattle.exchange.proofs.Steps.{verdict, handled_fails, handled_lists, handled_ind, step_asks}
use Rattle.exchange.proofs.Nexts.{heeded, error_nothing, run_held, applied_holds}

none_there : {A : Type 0} (l : List A) → length l ≡ 0 → l ≡ []
none_there [] h = refl
none_there (x ∷ l) h = absurd (omega arith)

module _
    (access : List ℕ) (t : Table) (s : List ℕ) (size : ℕ) (x : Answered) (told : (done access t s size).told ≡ tells x)
    (identifier : ℤ) (r : Request)
  where
    abbrev p : Profile
    p = (access_read access).profile

    -- the instances before and afterwards, and those that the request selects
    abbrev before : List Instance
    before = instances_of t.run

    abbrev after : List Instance
    after = instances_of (done access t s size).table.run

    abbrev sel : Selection
    sel = selection_of p r

    abbrev Asks : ℕ → Type 0
    Asks operation = question p t.last s ≡ asks identifier operation r

    is_handled : (operation : ℕ) → Asks operation → done access t s size ≡ answered (handled p t identifier operation r)
    is_handled operation asked = (heeded access t s size x told).is ∙ ap answered (step_asks p t s identifier operation r asked)

    is_number : (operation : ℕ) → Asks operation → answer_no (handled p t identifier operation r).answer ≡ x.number
    is_number operation asked =
        ap (λ (y : Step). answer_no y.answer) (sym (step_asks p t s identifier operation r asked))
        ∙ ap (λ (y : Answered). y.number) (heeded access t s size x told).tells

    is_octets :
        (operation : ℕ) → Asks operation → (y : Step) → handled p t identifier operation r ≡ y →
        (done access t s size).octets ≡ answer_octets y.answer y.entries
    is_octets operation asked y is = ap (λ (d : Done). d.octets) (is_handled operation asked ∙ ap answered is)

    -- ---- an activation and a deactivation

    -- with a result every place that the request names has what the request says, and every other what it had; with any other answer
    -- every place has what it had
    pub record AllOrNothing (now : ℕ → ℕ → Option Address) : Type 0 where
      pub all :
          x.number ≡ 0xA2 → (q n service : ℕ) →
          forwarded_to q n service after ≡ pick (names sel q n service) (now n service) (forwarded_to q n service before)
      pub nothing :
          (x.number ≡ 0xA2 → ⊥) → (q n service : ℕ) → forwarded_to q n service after ≡ forwarded_to q n service before

    changed_all :
        (operation : ℕ) (now : ℕ → ℕ → Option Address) → Asks operation → (operation ≡ interrogation → ⊥) →
        ((q n service : ℕ) →
        forwarded_to q n service (changed p operation r before)
        ≡ pick (names sel q n service) (now n service) (forwarded_to q n service before)) →
        AllOrNothing now
    changed_all operation now asked other is = record {
      all = λ number q n service.
          let so = heeded access t s size x told in
          rw (is_handled operation asked)
          (handled_ind p t identifier operation r
          (λ y.
          answer_no y.answer ≡ 0xA2 →
          forwarded_to q n service (instances_of y.next.run)
          ≡ pick (names sel q n service) (now n service) (forwarded_to q n service before))
          (λ _ _ h. absurd (omega arith))
          (λ _ e _. absurd (other e))
          (λ passes not _.
          rw (applied_holds p t so.rules so.table identifier operation r
          (question_asks p t.last s identifier operation r asked) passes not)
          (is q n service))
          (is_number operation asked ∙ number));
      nothing = λ not q n service. rw (error_nothing access t s size x told not);
    }

    -- "every selected number and service (code 0: all subscribed) gets the address, replacing an older one, all together"
    pub activation_all :
        Asks activation → AllOrNothing (λ n service. pick (has_place p n service) (some r.to.address) none)
    activation_all asked =
        changed_all activation _ asked (λ e. omega arith)
        (λ q n service. rw (changed_activation p r before) (find_put q n service sel r.to.address p before))

    -- "removes every active selected instance"
    pub deactivation_all : Asks deactivation → AllOrNothing (λ n service. none)
    deactivation_all asked =
        changed_all deactivation _ asked (λ e. omega arith)
        (λ q n service. rw (changed_deactivation p r before) (find_cleared q n service sel before))

    -- "error 46 exactly if there's none": the octets are that error's exactly where no test that comes first gives its error and no
    -- selected instance is active
    pub record NoneActive : Type 0 where
      pub fails :
          first_error (every_tests p r) ≡ none → listed sel before ≡ [] →
          (done access t s size).octets ≡ answer_octets (answer.Error identifier 46) []
      pub only :
          (done access t s size).octets ≡ answer_octets (answer.Error identifier 46) [] →
          (first_error (every_tests p r) ≡ none) × (listed sel before ≡ [])

    -- a result has other octets than an error, and each error its own
    fails_only :
        Asks deactivation → (done access t s size).octets ≡ answer_octets (answer.Error identifier 46) [] →
        verdict p t identifier deactivation r ≡ some 46
    fails_only asked failed =
        let range = (question_asks p t.last s identifier deactivation r asked).range in
        handled_ind p t identifier deactivation r
        (λ y.
        reply identifier deactivation (answer_octets y.answer y.entries) ≡ Failed (pos 46) →
        verdict p t identifier deactivation r ≡ some 46)
        (λ error h back.
        let fits = judge_errors instances_most p deactivation r before error h in
        let same : Failed (pos error) ≡ Failed (pos 46) = sym (error_back identifier deactivation range error [] fits) ∙ back in
        h ∙ cc)
        (λ _ e _. absurd (omega arith))
        (λ _ other back. absurd (omega (arith, ap reply_no (sym (result_back identifier deactivation range [] other) ∙ back))))
        (ap (reply identifier deactivation) (sym (is_octets deactivation asked _ refl) ∙ failed)
        ∙ error_back identifier deactivation range 46 [] (omega arith))

    pub none_active : Asks deactivation → NoneActive
    none_active asked = record {
      fails = λ every nothing.
          is_octets deactivation asked _
          (handled_fails p t identifier deactivation r 46 (none_fails instances_most p r before every (ap length nothing)));
      only = λ failed.
          let both = fails_none instances_most p r before (fails_only asked failed) in
          (both.0, none_there (listed sel before) both.1);
    }

    -- ---- an interrogation

    -- "every active selected instance, by profile number, then service code. Each carries the profile's own number."; or the error of
    -- the first test that gives one
    pub record Lists : Type 0 where
      pub octets :
          first_error (every_tests p r) ≡ none →
          (done access t s size).octets ≡ answer_octets (answer.Listing identifier) (map (entry_for p.numbers) (listed sel before))
      pub fails :
          (error : ℕ) → first_error (every_tests p r) ≡ some error →
          (done access t s size).octets ≡ answer_octets (answer.Error identifier error) []
      -- each once
      pub ascends : Up key_of 0 (listed sel before)

    pub interrogation_lists : Asks interrogation → Lists
    interrogation_lists asked =
        let so = heeded access t s size x told in
        let judged = judge_interrogation instances_most p interrogation r before (λ e. omega arith) (λ e. omega arith) in
        record {
          octets = λ every.
              is_octets interrogation asked _ (handled_lists p t identifier interrogation r (judged ∙ every) refl);
          fails = λ error first.
              is_octets interrogation asked _ (handled_fails p t identifier interrogation r error (judged ∙ first));
          ascends = up_those key_of (chosen sel) 0 before (run_held p t so.rules so.table).ascends;
        }
