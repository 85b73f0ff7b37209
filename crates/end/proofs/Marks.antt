-- Whom the end knows: what gives doubt, what restores a mark, and where a mark that says known comes from (document 01, "The customer
-- end"). Assumes nothing.
use Prim.Native.Nat.{ℕ, ◌<◌, ◌≤◌}
use mathlib.Core.Path.{◌≡◌, refl, sym, ap, ◌∙◌}
use mathlib.Core.Bool.{Bool, true}
use mathlib.Core.List.{List, [], ◌∷◌}
use mathlib.Core.Option.{none}
use mathlib.Core.Logic.{◌⊎◌, inl, inr, ⊎_elim}
use native.Mathlib.Omega.{arith}
use lib.IntN.{ℤ, pos}
use lib.ListN.{length}
use lib.Seq.{get_or-set_same, get_or-set_other}
use lib.Dec.{ltb, eqb}
use borrow.Author.Tests.{eq-eqb, ne_eqb, eqb-true, eqb-false, ltb-true, ltb-false, leb-true}
use Rattle.laws.specs.Tests.{all}
use Rattle.laws.specs.Got.{got}
use Rattle.laws.specs.Mark.{known, doubt, mark_no}
use Rattle.laws.proofs.Picks.{pick_ind, pick_then, by_bool}
use Rattle.laws.proofs.Tests.{all_at}
use Rattle.refusals.specs.Refusal.{refusal_no, refuses, tells, component_most}
use Rattle.refusals.proofs.Refusals.{refuses_not}
use Rattle.codes.specs.Codes.{interrogation}
use Rattle.profile.specs.Access.{access_read}
use Rattle.profile.specs.Profile.{flag}
use Rattle.profile.specs.declared.profile.Profile.{Profile}
use Rattle.codes.proofs.Tables.{procedure_code_lem}
use Rattle.requests.specs.Sent.{sendable}
use Rattle.requests.specs.declared.request.Request.{Request}
use Rattle.requests.proofs.Goods.{good_request}
use Rattle.lists.specs.Entries.{instances_most, entries_from}
use Rattle.lists.specs.declared.entry.Entry.{Entry}
use Rattle.answers.specs.Reply.{reply}
use Rattle.answers.specs.declared.reply.Reply.{Reply}
use Rattle.answers.specs.declared.reply.Reply.TheVariants.{Dropped, Rejected, Failed, Done, Listed, Wrong}
use Rattle.instances.specs.Run.{instances_of, packed}
use Rattle.instances.specs.declared.run.Run.{Run}
use Rattle.rules.specs.Judge.{applied}
use Rattle.end.specs.End.{mark_at, marked, closed, marks_good, waiting_good, end_rules, end_good}
use Rattle.end.specs.Sending.{marks_sent, sent, sends}
use Rattle.end.specs.Listed.{instances_listed, list_good, replaced}
use Rattle.end.specs.Taking.{doubted, applied_by, learned, learned_by, took_by, took, Moves, moved, takes, gives_up}
use Rattle.end.specs.declared.end.End.{End}
use Rattle.end.proofs.Ends.{mark_past, marked_past}
use Rattle.end.proofs.Movings.{takes_all, gives_all, gave_doubt}
use Rattle.end.proofs.Steps.{ours, reply_to, verdict, Doubts, rejects, fails, unread, bad, shapeless, took_ind, takes_ind, gives_ind, sends_ind}

-- ---- marks

module _ (procedure mark : ℕ) (marks : List ℕ) where
  -- the mark that was put
  pub mark_put : procedure < length marks → mark_at procedure (marked procedure mark marks) ≡ mark
  unfolding mark_at marked
  mark_put h = get_or-set_same marks procedure mark (mark_no doubt) h

  -- every other mark stays
  pub mark_other : (q : ℕ) → (q ≡ procedure → ⊥) → mark_at q (marked procedure mark marks) ≡ mark_at q marks
  unfolding mark_at marked
  mark_other q other = get_or-set_other marks procedure q mark (mark_no doubt) other

-- doubt can be put anywhere
pub doubt_put : (procedure : ℕ) (marks : List ℕ) → mark_at procedure (marked procedure (mark_no doubt) marks) ≡ mark_no doubt
doubt_put procedure marks =
    by_bool (mark_at procedure (marked procedure (mark_no doubt) marks) ≡ mark_no doubt) (ltb procedure (length marks))
    (λ h. mark_put procedure (mark_no doubt) marks (ltb-true procedure (length marks) h))
    (λ h.
    let past = ltb-false procedure (length marks) h in
    ap (mark_at procedure) (marked_past procedure (mark_no doubt) marks past) ∙ mark_past procedure marks past)

-- closing a request puts the mark of its procedure
pub closed_marks : (mark : ℕ) (picture : Run) (e : End) → (closed mark picture e).marks ≡ marked e.request.procedure mark e.marks
unfolding closed
closed_marks mark picture e = refl

-- and leaves the picture that it is given
pub closed_picture : (mark : ℕ) (picture : Run) (e : End) → (closed mark picture e).picture ≡ picture
unfolding closed
closed_picture mark picture e = refl

-- ---- an outstanding request is one that may be sent

-- what an end that breaks no rule keeps to
pub record GoodRules (e : End) : Type 0 where
  pub used : e.used ≤ 32767
  pub flags : marks_good e.marks ≡ true
  pub fits : e.outstanding ≡ 1 → (e.before ≤ 1) × (sendable e.operation e.request ≡ true)

waiting_fits : (e : End) → waiting_good e ≡ true → e.outstanding ≡ 1 → (e.before ≤ 1) × (sendable e.operation e.request ≡ true)
unfolding waiting_good
waiting_fits e h waits =
    let tests : List Bool = ltb 0 e.used ∷ flag e.before ∷ sendable e.operation e.request ∷ [] in
    let each = all_at tests in
    let good : all tests ≡ true = (pick_then (all tests) true (rw waits at h)).0 in
    (leb-true e.before 1 (each 1 good), each 2 good)

-- an end that breaks no rule keeps to them
pub good_rules : (most : ℕ) (p : Profile) (e : End) → end_good most p e ≡ true → GoodRules e
unfolding end_good
good_rules most p e good =
    let each = all_at (end_rules e) in
    let rules = (pick_then (all (end_rules e)) _ good).0 in
    record {
      used = leb-true e.used 32767 (each 0 rules);
      flags = each 2 rules;
      fits = waiting_fits e (each 3 rules);
    }

-- the procedure of a request that may be sent is one of the three
pub sent_three : (operation : ℕ) (r : Request) → sendable operation r ≡ true → r.procedure < 3
sent_three operation r fit = ltb-true r.procedure 3 (sym (procedure_code_lem r.procedure) ∙ (good_request operation r fit).procedure)

-- ---- a reply for the outstanding request

module _ (p : Profile) (e : End) (s : List ℕ) (waits : e.outstanding ≡ 1) where
  -- a reply for the outstanding request does what its kind says
  pub took_said : (r : Reply) → reply_to e s ≡ r → took p e s ≡ took_by p e s r
  unfolding took
  took_said r is = rw (eq-eqb e.outstanding 1 waits) (ap (took_by p e s) is)

  -- what gives doubt puts the procedure in doubt, and does nothing else
  pub took_doubt : Doubts p e s → took p e s ≡ doubted e
  unfolding learned
  took_doubt (rejects is) = took_said Rejected is
  took_doubt (fails is error fail) = took_said Done is ∙ ap (applied_by p e) fail
  took_doubt (unread at end is not) = took_said (Listed at end) is ∙ ap (learned_by p e) not
  took_doubt (bad at end is es next read poor) =
      took_said (Listed at end) is ∙ (ap (learned_by p e) read ∙ rw poor)
  took_doubt (shapeless is) = took_said Wrong is

module _
    (access : List ℕ) (e : End) (ok : (access_read access).ok ≡ true) (good : end_good instances_most (ours access) e ≡ true)
    (waits : e.outstanding ≡ 1)
  where
    doubted_mark : mark_at e.request.procedure (doubted e).marks ≡ mark_no doubt
    doubted_mark =
        ap (mark_at e.request.procedure) (closed_marks (mark_no doubt) e.picture e) ∙ doubt_put e.request.procedure e.marks

    -- giving up leaves the procedure of the outstanding request in doubt
    pub gave_up_doubt : mark_at e.request.procedure (gives_up access e).end.marks ≡ mark_no doubt
    gave_up_doubt =
        ap (λ (m : Moves). mark_at e.request.procedure m.end.marks) (gives_all access e ok good ∙ ap moved (gave_doubt e waits))
        ∙ doubted_mark

    module _ (s : List ℕ) (fair : length s ≤ component_most) where
      -- whatever reply gives doubt leaves the procedure of the outstanding request in doubt, and the picture as it was
      pub reply_doubt :
          Doubts (ours access) e s →
          (mark_at e.request.procedure (takes access e s).end.marks ≡ mark_no doubt) × ((takes access e s).end.picture ≡ e.picture)
      reply_doubt why =
          let is : takes access e s ≡ moved (doubted e) =
          takes_all access e s fair ok good ∙ ap moved (took_doubt (ours access) e s waits why) in (
            ap (λ (m : Moves). mark_at e.request.procedure m.end.marks) is ∙ doubted_mark,
            ap (λ (m : Moves). m.end.picture) is ∙ closed_picture (mark_no doubt) e.picture e,
          )

      -- a reject leaves the procedure of the outstanding request in doubt
      pub reject_doubt :
          reply (pos e.used) e.operation s ≡ Rejected →
          mark_at e.request.procedure (takes access e s).end.marks ≡ mark_no doubt
      reject_doubt is = (reply_doubt (rejects is)).0

      -- so does a reply of the wrong shape
      pub wrong_doubt :
          reply (pos e.used) e.operation s ≡ Wrong →
          mark_at e.request.procedure (takes access e s).end.marks ≡ mark_no doubt
      wrong_doubt is = (reply_doubt (shapeless is)).0

      -- an error restores the mark from before sending, and leaves the picture as it was
      pub error_restores :
          length e.marks ≡ 3 → (value : ℤ) → reply (pos e.used) e.operation s ≡ Failed value →
          (mark_at e.request.procedure (takes access e s).end.marks ≡ e.before) × ((takes access e s).end.picture ≡ e.picture)
      error_restores long value failed =
          let is : takes access e s ≡ moved (closed e.before e.picture e) =
          takes_all access e s fair ok good ∙ ap moved (took_said (ours access) e s waits (Failed value) failed) in
          let three = sent_three e.operation e.request ((good_rules instances_most (ours access) e good).fits waits).1 in (
            ap (λ (m : Moves). mark_at e.request.procedure m.end.marks) is
                ∙ (ap (mark_at e.request.procedure) (closed_marks e.before e.picture e)
                ∙ mark_put e.request.procedure e.before e.marks (omega (arith, long, three))),
            ap (λ (m : Moves). m.end.picture) is ∙ closed_picture e.before e.picture e,
          )

-- ---- where a mark that says known comes from

-- why the procedure q is known after a component has arrived, m being what it has done
pub data Why (p : Profile) (e : End) (s : List ℕ) (q : ℕ) (m : Moves) : Type 0 where
  -- it was known before, and the component was refused
  refused : mark_at q e.marks ≡ mark_no known → (number : ℕ) → m.told ≡ refuses number → m.end ≡ e → Why p e s q m
  -- it was known before, and nothing was outstanding
  idle : mark_at q e.marks ≡ mark_no known → (e.outstanding ≡ 1 → ⊥) → m.end ≡ e → Why p e s q m
  -- it was known before, and the component was dropped
  dropped : mark_at q e.marks ≡ mark_no known → reply_to e s ≡ Dropped → m.end ≡ e → Why p e s q m
  -- it was known before, and the outstanding request is of another procedure
  other : mark_at q e.marks ≡ mark_no known → (q ≡ e.request.procedure → ⊥) → Why p e s q m
  -- it was known when the outstanding request was sent, which an error answers: the picture is as it was
  restored :
      q ≡ e.request.procedure → e.outstanding ≡ 1 → e.before ≡ mark_no known → (value : ℤ) → reply_to e s ≡ Failed value →
      m.end.picture ≡ e.picture → Why p e s q m
  -- it was known when the outstanding request was sent, which a result answers and which the rules apply to the picture
  applies :
      q ≡ e.request.procedure → e.outstanding ≡ 1 → e.before ≡ mark_no known → reply_to e s ≡ Done → verdict p e ≡ none →
      m.end.picture ≡ applied p e.operation e.request e.picture → Why p e s q m
  -- a good list of its instances answers the outstanding request, and they are the picture's
  learns :
      q ≡ e.request.procedure → e.outstanding ≡ 1 → (at end : ℕ) (es : List Entry) (next : ℕ) → reply_to e s ≡ Listed at end →
      entries_from instances_most s at end ≡ got es next →
      list_good instances_most p e.request.procedure (instances_listed p es) ≡ true →
      m.end.picture ≡ packed (replaced e.request.procedure (instances_listed p es) (instances_of e.picture)) →
      Why p e s q m

-- a mark that says known after one was put says so for the mark that was put, or for another procedure's
known_put :
    (procedure mark q : ℕ) (marks : List ℕ) → mark_at q (marked procedure mark marks) ≡ mark_no known →
    ((q ≡ procedure) × (mark ≡ mark_no known)) ⊎ ((q ≡ procedure → ⊥) × (mark_at q marks ≡ mark_no known))
known_put procedure mark q marks says =
    by_bool _ (eqb q procedure)
    (λ h.
    let same = eqb-true q procedure h in
    inl (same, own same))
    (λ h.
    let not = eqb-false q procedure h in
    inr (not, sym (mark_other procedure mark marks q not) ∙ says))
  where
    own : q ≡ procedure → mark ≡ mark_no known
    own same =
        by_bool (mark ≡ mark_no known) (ltb procedure (length marks))
        (λ h.
        sym (mark_put procedure mark marks (ltb-true procedure (length marks) h))
        ∙ (ap (λ k. mark_at k (marked procedure mark marks)) (sym same) ∙ says))
        (λ h.
        let past = ltb-false procedure (length marks) h in
        let none : mark_at q (marked procedure mark marks) ≡ mark_no doubt =
        ap (mark_at q) (marked_past procedure mark marks past) ∙ (ap (λ k. mark_at k marks) same ∙ mark_past procedure marks past) in
        absurd (omega (arith, none, says)))

module _ (access : List ℕ) (e : End) (s : List ℕ) (q : ℕ) where
  abbrev Known : Moves → Type 0
  Known m = mark_at q m.end.marks ≡ mark_no known → Why (ours access) e s q m

  -- after a request is closed: by the mark that its procedure gets, or as before
  by_closed :
      (mark : ℕ) (picture : Run) → ((q ≡ e.request.procedure) → mark ≡ mark_no known → Why (ours access) e s q
      (moved (closed mark picture e))) →
      Known (moved (closed mark picture e))
  by_closed mark picture own says =
      ⊎_elim
      (λ same. own same.0 same.1)
      (λ not. other not.1 not.0)
      (known_put e.request.procedure mark q e.marks (sym (ap (mark_at q) (closed_marks mark picture e)) ∙ says))

  -- a procedure that is known after a component has arrived is so for one of these reasons
  pub known_from : mark_at q (takes access e s).end.marks ≡ mark_no known → Why (ours access) e s q (takes access e s)
  known_from =
      let p = ours access in
      takes_ind access e s Known (λ refusal says. refused says (refusal_no refusal) refl refl) (λ _ _ _.
      took_ind p e s (λ n. Known (moved n))
      (λ why says. ⊎_elim (λ free. idle says free refl) (λ drop. dropped says drop refl) why)
      (λ _ _. by_closed (mark_no doubt) e.picture (λ _ never. absurd (omega (arith, never))))
      (λ waits value is.
      by_closed e.before e.picture (λ own before.
      restored own waits before value is (closed_picture e.before e.picture e)))
      (λ waits is passes.
      let next : Run = applied p e.operation e.request e.picture in
      by_closed e.before next (λ own before. applies own waits before is passes (closed_picture e.before next e)))
      (λ waits at end es next is read good.
      let new : Run = packed (replaced e.request.procedure (instances_listed p es) (instances_of e.picture)) in
      by_closed (mark_no known) new (λ own _. learns own waits at end es next is read good (closed_picture (mark_no known) new e))))

-- sending makes no procedure known that was in doubt
pub sends_known :
    (access : List ℕ) (operation : ℕ) (r : Request) (e : End) (size q : ℕ) →
    mark_at q (sends access operation r e size).end.marks ≡ mark_no known → mark_at q e.marks ≡ mark_no known
unfolding sent marks_sent
sends_known access operation r e size q =
    sends_ind access e operation r size (λ d. mark_at q d.end.marks ≡ mark_no known → mark_at q e.marks ≡ mark_no known) (λ _ says. says)
    (λ _ _ _ _.
    pick_ind (λ l. mark_at q l ≡ mark_no known → mark_at q e.marks ≡ mark_no known) (eqb operation interrogation)
    {x = e.marks}
    {y = marked r.procedure (mark_no doubt) e.marks}
    (λ _ says. says)
    (λ _ says.
    ⊎_elim (λ own. absurd (omega (arith, own.1))) (λ not. not.1) (known_put r.procedure (mark_no doubt) q e.marks says)))

-- nor does giving up
pub gives_known :
    (access : List ℕ) (e : End) (q : ℕ) →
    mark_at q (gives_up access e).end.marks ≡ mark_no known → mark_at q e.marks ≡ mark_no known
gives_known access e q =
    gives_ind access e (λ m. mark_at q m.end.marks ≡ mark_no known → mark_at q e.marks ≡ mark_no known) (λ _ says. says) (λ _ says. says)
    (λ _ _ _ says.
    let put = sym (ap (mark_at q) (closed_marks (mark_no doubt) e.picture e)) ∙ says in
    ⊎_elim (λ own. absurd (omega (arith, own.1))) (λ not. not.1) (known_put e.request.procedure (mark_no doubt) q e.marks put))

-- an activation or a deactivation that is sent leaves its procedure in doubt
pub sends_doubt :
    (access : List ℕ) (operation : ℕ) (r : Request) (e : End) (size : ℕ) → (operation ≡ interrogation → ⊥) →
    (sends access operation r e size).told ≡ tells tt →
    mark_at r.procedure (sends access operation r e size).end.marks ≡ mark_no doubt
unfolding sent marks_sent
sends_doubt access operation r e size changes =
    sends_ind access e operation r size (λ d. d.told ≡ tells tt → mark_at r.procedure d.end.marks ≡ mark_no doubt)
    (λ _ h. absurd (refuses_not _ _ h))
    (λ _ _ _ _ _. rw (ne_eqb operation interrogation changes) (doubt_put r.procedure e.marks))
