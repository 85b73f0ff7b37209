-- The exchange keeps the laws that demand 3 asks of it (crates/demand). Assumes nothing.
use Prim.Native.Nat.{ℕ, ◌≤◌, ◌<◌}
use mathlib.Core.Path.{◌≡◌, refl, sym, ap, ◌∙◌, subst}
use mathlib.Core.Bool.{true}
use mathlib.Core.List.{List, [], map}
use mathlib.Core.Option.{Option, none, some}
use native.Mathlib.Omega.{arith}
use lib.IntN.{pos}
use lib.ListN.{length}
use lib.Dec.{ltb, leb, eqb}
use borrow.Author.Tests.{leb-true, leb-false, ne_eqb, eq-eqb, ltb-true, ltb-false, eqb-true, eqb-false}
use Rattle.laws.specs.Those.{those}
use Rattle.laws.specs.Mark.{doubt, mark_no}
use Rattle.laws.proofs.Picks.{by_bool}
use Rattle.refusals.specs.Refusal.{tells, output_least, component_most}
use Rattle.codes.specs.Codes.{interrogation}
use Rattle.profile.specs.Access.{access_read}
use Rattle.profile.specs.declared.profile.Profile.{Profile}
use Rattle.profile.proofs.Records.{access_good}
use Rattle.requests.specs.Heard.{local}
use Rattle.requests.specs.Sent.{tidy_request}
use Rattle.requests.specs.declared.request.Request.{Request}
use Rattle.requests.proofs.Goods.{good_request, readable}
use Rattle.requests.proofs.Goods as goods
use Rattle.requests.proofs.Sizes.{request_most}
use Rattle.requests.proofs.Trips.{ReadsBack, request_back}
use Rattle.lists.specs.Entries.{instances_most, tidy_entries}
use Rattle.lists.specs.declared.entry.Entry.{Entry}
use Rattle.instances.specs.Instance.{every_number, chosen}
use Rattle.instances.specs.Run.{instances_of, packed, listed, entry_for, is_of}
use Rattle.instances.specs.declared.instance.Instance.{Instance}
use Rattle.instances.proofs.Choices.{chosen_every}
use Rattle.instances.proofs.Goods.{GoodList}
use Rattle.rules.specs.Selection.{selection_of}
use Rattle.rules.specs.Judge.{judge, changed}
use Rattle.rules.proofs.Selections.{selection_procedure, selection_number, selection_service, number_ignored, number_all}
use Rattle.rules.proofs.Judges.{judge_interrogation}
use Rattle.answers.specs.Answer.{answer_octets, answered_by}
use Rattle.answers.specs.declared.answer.Answer.TheVariants as answer
use Rattle.answers.specs.declared.answer.Problem.{Problem}
use Rattle.answers.specs.declared.answer.Whose.TheVariants.{Own}
use Rattle.exchange.specs.Question.{question}
use Rattle.exchange.specs.Question as q
use Rattle.exchange.specs.Step.{Step, stays, handled, step}
use Rattle.exchange.specs.Table.{table_good}
use Rattle.exchange.specs.Arrive.{Done, answered, done}
use Rattle.exchange.specs.declared.table.Table.{Table}
use Rattle.exchange.proofs.Questions.{question_asks}
use Rattle.exchange.proofs.Askings as askings
use Rattle.exchange.proofs.Askings.{asking_new}
use Rattle.exchange.proofs.Steps.{after_moves, verdict, fails, lists, changes, handled_ind, step_says, step_asks}
use Rattle.exchange.proofs.Arrivals.{done_short, done_answers}
use Rattle.exchange.proofs.Nexts.{reply_fits, next_good, run_held, applied_holds}
use Rattle.end.specs.declared.end.End.{End}
use Rattle.demand.specs.Rules as rules
use Rattle.demand.specs.Rules.{says_error, Served, ExchangeLaws, answering}
use Rattle.promise.specs.AnswerBack.{SaysBack}
use Rattle.promise.specs.Demand.{Asking, goes_down, sent_down, WholeAllowed}
use Rattle.promise.proofs.AnswerBack.{request_answered}
use Rattle.promise.proofs.DemandLists as L
use Rattle.promise.proofs.DemandLists.{held_of}
use Rattle.rules.proofs.Tidied.{judge_tidied, whole_passes}
use Rattle.promise.proofs.DemandChanges as C
use Rattle.promise.proofs.DemandReads.{read_on, read_back}
use Rattle.promise.proofs.DemandParts.{applied_to, said_octets, said_by, Fit, Proper, octets_asked, topic, exchange, clash, asks_is, changes_is}
use Rattle.promise.proofs.DemandParts as P

module _ (access : List ℕ) (ok : (access_read access).ok ≡ true) (counted : (access_read access).profile.counted ≡ 1) where
  abbrev p : Profile
  p = (access_read access).profile

  module _ (t : Table) (n : ℕ) (a : Asking) (good : table_good instances_most p t ≡ true) (fit : Fit n a) where
    abbrev op : ℕ
    op = a.operation

    abbrev r : Request
    r = a.request

    -- the request as it is read
    abbrev read : Request
    read = tidy_request op r

    abbrev s : List ℕ
    s = octets_asked n a

    abbrev is : List Instance
    is = instances_of t.run

    held : GoodList p instances_most is
    held = run_held p t (access_good access ok) good

    back : ReadsBack (pos n) op r s
    back = request_back (pos n) op r (omega (arith, fit.high)) fit.goes

    -- ---- a repeated identifier is rejected, a new one is handled

    asked_new : t.last < n → question p t.last s ≡ q.asks (pos n) op read
    asked_new new =
        asking_new p t.last s n op back.at (length s) read (length s) back.hears new
        (readable op r fit.goes).known back.asks

    step_new : t.last < n → step p t s ≡ handled p t (pos n) op read
    step_new new = step_asks p t s (pos n) op read (asked_new new)

    step_old : n ≤ t.last → (problem : Problem) × (step p t s ≡ stays t (answer.Reject (Own (pos n)) problem))
    step_old old = go (askings.asking p t.last s (pos n) (local (pos op)) back.at (length s) back.hears)
      where
        go :
            askings.Asking (pos n) (local (pos op)) (question p t.last s) →
            (problem : Problem) × (step p t s ≡ stays t (answer.Reject (Own (pos n)) problem))
        go (askings.rejected problem e) = (problem, step_says p t s (answer.Reject (Own (pos n)) problem) e)
        go (askings.judged x known e) =
            absurd (omega (arith, old, ((question_asks p t.last s (pos n) _ x e).above counted).more))

    -- what holds of a reject and of the three ways to handle a request holds of what is done
    forms :
        (R : Step → Type 0) → ((problem : Problem) → R (stays t (answer.Reject (Own (pos n)) problem))) →
        ((error : ℕ) → R (fails p t (pos n) op read error)) → (op ≡ interrogation → R (lists p t (pos n) op read)) →
        R (changes p t (pos n) op read) → R (step p t s)
    forms R reject fail list change =
        by_bool (R (step p t s)) (ltb t.last n)
        (λ e.
        subst R (sym (step_new (ltb-true t.last n e)))
        (handled_ind p t (pos n) op read R (λ error _. fail error) (λ _ asks. list asks) (λ _ _. change)))
        (λ e. let z = step_old (ltb-false t.last n e) in subst R (sym z.1) (reject z.0))

    -- ---- it stays good, and what is said can be read

    short : length s ≤ component_most
    short = omega (arith, request_most (pos n) op r (omega (arith, fit.high)) fit.goes)

    answers : (size : ℕ) → output_least ≤ size → done access t s size ≡ answered (step p t s)
    answers size room = done_answers access t s size room short ok good

    told : (done access t s output_least).told ≡ tells (answered_by (step p t s).answer)
    told = ap (λ (d : Done). d.told) (answers output_least (omega arith))

    serve_good : table_good instances_most p (step p t s).next ≡ true
    serve_good =
        subst (λ (u : Table). table_good instances_most p u ≡ true) (ap (λ (d : Done). d.table) (answers output_least (omega arith)))
        (next_good access t s output_least (answered_by (step p t s).answer) told)

    -- an end that waits for the answer
    abbrev waits : End
    waits = record { used = n; outstanding = 1; operation = op; before = mark_no doubt; request = r; marks = []; picture = packed [] }

    abbrev Backs : Step → Type 0
    Backs y = SaysBack (pos n) op (answer_octets y.answer y.entries) y.answer y.entries

    said : Backs (step p t s)
    said =
        subst (λ (o : List ℕ). SaysBack (pos n) op o (step p t s).answer (step p t s).entries)
        (ap (λ (d : Done). d.octets) (answers output_least (omega arith)))
        (request_answered access t output_least ok good (omega arith) waits fit.high fit.goes).back

    said_short : length (answer_octets (step p t s).answer (step p t s).entries) ≤ component_most
    said_short =
        omega (arith, reply_fits access t s output_least, ap (λ (d : Done). length d.octets) (answers output_least (omega arith)))

    serve_proper : Proper n a (said_by (step p t s).answer (step p t s).entries)
    serve_proper =
        forms (λ y. Backs y → length (answer_octets y.answer y.entries) ≤ component_most → Proper n a (said_by y.answer y.entries))
        (λ _ h k. record { short = k; back = h })
        (λ _ h k. record { short = k; back = h })
        (λ _ h k. record { short = k; back = h })
        (λ h k. record { short = k; back = h })
        said said_short

    -- ---- an interrogation of the end is whole

    module _ (asks : op ≡ interrogation) where
      whole_is : (r.service ≡ 0) × (r.served.all ≡ 1)
      whole_is = go (good_request op r fit.goes).asked
        where
          go : goods.Asked op r → (r.service ≡ 0) × (r.served.all ≡ 1)
          go (goods.activates e) = absurd (omega (arith, e, asks))
          go (goods.deactivates e) = absurd (omega (arith, e, asks))
          go (goods.interrogates e service every) = (service, every)

      read_all : read.served.all ≡ 1
      read_all = rw (eq-eqb r.served.all 1 whole_is.1)

      all_numbers_lem : (selection_of p read).number ≡ every_number
      all_numbers_lem =
          by_bool ((selection_of p read).number ≡ every_number) (eqb p.msn 0)
          (λ e. selection_number p read ∙ number_ignored p read.served (eqb-true p.msn 0 e))
          (λ e. selection_number p read ∙ number_all p read.served (eqb-false p.msn 0 e) read_all)

      listed_all : listed (selection_of p read) is ≡ those (is_of r.procedure) is
      listed_all =
          L.those_same (chosen (selection_of p read)) (is_of (selection_of p read).procedure)
          (chosen_every (selection_of p read) all_numbers_lem (selection_service p read ∙ whole_is.0)) is
          ∙ ap (λ k. those (is_of k) is) (selection_procedure p read)

      -- where the profile allows it, it passes
      allowed : WholeAllowed p r.procedure → verdict p t (pos n) op read ≡ none
      allowed w =
          judge_interrogation instances_most p op read is (λ e. omega (arith, e, asks)) (λ e. omega (arith, e, asks))
          ∙ whole_passes p read w.used w.subscribed w.whole read_all

    -- ---- what is done with a new request

    abbrev ServedBy : Step → Type 0
    ServedBy y = Served (topic access) (exchange access) t n a y.next (said_by y.answer y.entries)

    failed_served : (error : ℕ) → verdict p t (pos n) op read ≡ some error → ServedBy (fails p t (pos n) op read error)
    failed_served error j = record {
      moves = after_moves p n t.last counted;
      others = λ o h. refl;
      on_failed = λ y h o. refl;
      on_done = λ h. absurd (clash {x = says_error error} {y = rules.says_done} (λ z. cc) h);
      on_listed = λ l h. absurd (clash {x = says_error error} {y = rules.says_list l} (λ z. cc) h);
      on_allowed = λ o h w.
          let z = asks_is a o h in
          absurd (clash {x = none} {y = some error} (λ z. cc) (sym (allowed z.0 (subst (WholeAllowed p) (sym z.1) w)) ∙ j));
    }

    listed_served : op ≡ interrogation → ServedBy (lists p t (pos n) op read)
    listed_served asks =
        let es : List Entry = map (entry_for p.numbers) (listed (selection_of p read) is) in
        let same : es ≡ map (entry_for p.numbers) (those (is_of r.procedure) is) = ap (map (entry_for p.numbers)) (listed_all asks) in
        record {
          moves = after_moves p n t.last counted;
          others = λ o h. refl;
          on_failed = λ x h. absurd (clash {x = rules.says_list es} {y = says_error x} (λ z. cc) h);
          on_done = λ h. absurd (clash {x = rules.says_list es} {y = rules.says_done} (λ z. cc) h);
          on_listed = λ l h o k.
              let z : r.procedure ≡ o = (asks_is a o k).1 in
              let y : es ≡ l = cc in
              subst (λ v. read_on p o (tidy_entries v) ≡ some (held_of o is)) y
              (subst (λ v. read_on p o (tidy_entries v) ≡ some (held_of o is)) (sym same)
              (subst (λ v. read_on p v (tidy_entries (map (entry_for p.numbers) (those (is_of r.procedure) is))) ≡ some (held_of v is)) z
              (read_back access ok r.procedure is held)));
          on_allowed = λ o h w. (es, refl);
        }

    changed_served :
        t.last < n → verdict p t (pos n) op read ≡ none → (op ≡ interrogation → ⊥) → ServedBy (changes p t (pos n) op read)
    unfolding applied_to
    changed_served new passes other =
        let now : List Instance = instances_of (changes p t (pos n) op read).next.run in
        let holds : now ≡ changed p op read is =
        applied_holds p t (access_good access ok) good (pos n) op read
        (question_asks p t.last s (pos n) op read (asked_new new)) passes other in
        let judged : judge instances_most p op r is ≡ none = sym (judge_tidied p op r fit.goes fit.sizes instances_most is) ∙ passes in
        let applies : applied_to p a (held_of r.procedure is) ≡ some (held_of r.procedure (changed p op r is)) =
        rw (C.judge_held p r instances_most op is, judged, C.changed_held p r op 0 is held.ascends) in
        record {
          moves = after_moves p n t.last counted;
          others = λ o h.
              ap (held_of o) holds
              ∙ C.changed_others p read op o is (λ z. h (P.about_changes a (ne_eqb op interrogation other) ∙ ap rules.changes (sym z)));
          on_failed = λ x h. absurd (clash {x = rules.says_done} {y = says_error x} (λ z. cc) h);
          on_done = λ h o k T y.
              let z : r.procedure ≡ o = (changes_is a o k).1 in
              let v : T ≡ held_of r.procedure (changed p op r is) =
              some_same (sym (subst (λ w. applied_to p a (held_of w is) ≡ some T) (sym z) y) ∙ applies) in
              v
              ∙ (sym (C.changed_tidied p op r fit.goes fit.sizes 0 is held.ascends)
              ∙ (ap (held_of r.procedure) (sym holds) ∙ ap (λ w. held_of w now) z));
          on_listed = λ l h. absurd (clash {x = rules.says_done} {y = rules.says_list l} (λ z. cc) h);
          on_allowed = λ o h w. absurd (other (asks_is a o h).0);
        }
      where
        some_same : {x y : List Instance} → some x ≡ some y → x ≡ y
        some_same h = cc

    served : t.last < n → ServedBy (step p t s)
    served new =
        subst ServedBy (sym (step_new new))
        (handled_ind p t (pos n) op read ServedBy failed_served (λ _ asks. listed_served asks)
        (λ passes other. changed_served new passes other))

    -- ---- its octets

    pub handles :
        (size : ℕ) →
        sent_down (done access t s size)
        ≡ answering (said_octets n) (leb output_least size) t ((step p t s).next, said_by (step p t s).answer (step p t s).entries)
    handles size =
        by_bool _ (leb output_least size)
        (λ e.
        rw (e, answers size (leb-true output_least size e))
        (ap (λ (o : Option (List ℕ)). ((step p t s).next, o))
        (forms
        (λ y. goes_down (answer_octets y.answer y.entries) (tells (answered_by y.answer)) ≡ some
        (said_octets n (said_by y.answer y.entries)))
        (λ _. refl) (λ _. refl) (λ _. refl) refl)))
        (λ e. rw (e, done_short access t s size (leb-false output_least size e)))

  pub exchange_laws : ExchangeLaws (topic access) (exchange access)
  exchange_laws = record {
    repeats = λ t n a good fit old.
        let z = step_old t n a good fit old in
        (z.0, ap (λ (y : Step). (y.next, said_by y.answer y.entries)) z.1);
    serves = served;
    serve_good = serve_good;
    serve_proper = serve_proper;
    else_good = λ t o. absurd o;
    else_last = λ t o. absurd o;
    else_held = λ t o. absurd o;
  }
