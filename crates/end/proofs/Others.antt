-- A step of the end touches the mark and the instances of one procedure: that of the outstanding request, or of the request that is sent
-- (document 01, "The customer end"). Assumes nothing.
use Prim.Native.Nat.{ℕ}
use mathlib.Core.Path.{◌≡◌, refl, sym, ap, ◌∙◌}
use mathlib.Core.Bool.{true, false}
use mathlib.Core.List.{List, [], ◌∷◌, map}
use mathlib.Core.Option.{none}
use lib.Dec.{eqb}
use borrow.Author.Tests.{ne_eqb, eqb-true}
use Rattle.laws.specs.Those.{those}
use Rattle.laws.specs.Mark.{known, doubt, mark_no}
use Rattle.laws.proofs.Picks.{pick_ind, by_bool}
use Rattle.laws.proofs.Tests.{both_hold}
use Rattle.laws.proofs.Thoses.{those_sub}
use Rattle.laws.proofs.Eaches.{Each, each_so}
use Rattle.codes.specs.Codes.{interrogation}
use Rattle.numbers.specs.declared.address.Address.{Address}
use Rattle.profile.specs.Access.{access_read}
use Rattle.profile.specs.declared.profile.Profile.{Profile}
use Rattle.profile.proofs.Profiles.{good_profile}
use Rattle.profile.proofs.Records.{access_good}
use Rattle.requests.specs.declared.request.Request.{Request}
use Rattle.requests.proofs.Goods.{good_request, good_to}
use Rattle.lists.specs.Entries.{instances_most}
use Rattle.instances.specs.Instance.{chosen, spared}
use Rattle.instances.specs.Places.{places_of}
use Rattle.instances.specs.Run.{instances_of, packed, is_of, deactivated, instance_at, each_good, instances_good}
use Rattle.instances.specs.declared.instance.Instance.{Instance}
use Rattle.instances.specs.declared.instance.Selection.{Selection}
use Rattle.instances.specs.declared.places.Place.{Place}
use Rattle.instances.specs.declared.run.Run.{Run}
use Rattle.instances.proofs.Merged.{gone_merged}
use Rattle.instances.proofs.Runs.{packed_all}
use Rattle.instances.proofs.Choices.{concerns_is, chosen_is, kept_test}
use Rattle.instances.proofs.Fits.{goods_of}
use Rattle.instances.proofs.Goods.{GoodList, good_list, list_good_lem, good_short, run_good_lem}
use Rattle.rules.specs.Judge.{changed, applied}
use Rattle.rules.specs.Selection.{selection_of}
use Rattle.rules.proofs.Selections.{selection_procedure}
use Rattle.rules.proofs.Changes.{changed_ind, changed_good, applied_ind}
use Rattle.end.specs.End.{mark_at, marked, closed, end_good}
use Rattle.end.specs.Sending.{marks_sent, sent, sends}
use Rattle.end.specs.Listed.{instances_listed, list_good, every_of, replaced}
use Rattle.end.specs.Taking.{takes, gives_up}
use Rattle.end.specs.declared.end.End.{End}
use Rattle.end.proofs.Ends.{picture_good}
use Rattle.end.proofs.Pictures.{replaced_good}
use Rattle.end.proofs.Steps.{ours, verdict, took_ind, takes_ind, gives_ind, sends_ind}
use Rattle.end.proofs.Marks.{mark_other, closed_marks, closed_picture, good_rules, sent_three}

-- ---- instances of another procedure

-- a selection spares them
pub spares_other :
    (sel : Selection) (q : ℕ) → (q ≡ sel.procedure → ⊥) → (x : Instance) → is_of q x ≡ true → spared sel x ≡ true
spares_other sel q other x h =
    by_bool (spared sel x ≡ true) (chosen sel x)
    (λ k. absurd (other (sym (eqb-true x.procedure q h) ∙ concerns_is sel x.procedure (chosen_is sel x k).0)))
    (λ k. kept_test (chosen sel x) k)

cleared_other :
    (sel : Selection) (q : ℕ) (is : List Instance) → (q ≡ sel.procedure → ⊥) →
    those (is_of q) (deactivated sel is) ≡ those (is_of q) is
cleared_other sel q is other = those_sub (is_of q) (spared sel) (spares_other sel q other) is

pub made_other :
    (procedure q : ℕ) (address : Address) (ws : List Place) → (q ≡ procedure → ⊥) →
    Each (λ x. is_of q x ≡ false) (map (instance_at procedure address) ws)
made_other procedure q address [] other = tt
made_other procedure q address (w ∷ ws) other = (ne_eqb procedure q (λ h. other (sym h)), made_other procedure q address ws other)

-- a change leaves them as they were
changed_others :
    (p : Profile) (operation : ℕ) (r : Request) (is : List Instance) (q : ℕ) → (q ≡ r.procedure → ⊥) →
    those (is_of q) (changed p operation r is) ≡ those (is_of q) is
changed_others p operation r is q other =
    let sel = selection_of p r in
    let not : q ≡ sel.procedure → ⊥ = λ h. other (h ∙ selection_procedure p r) in
    let rest = cleared_other sel q is not in
    changed_ind p r is (λ l. those (is_of q) l ≡ those (is_of q) is) operation
    (λ _.
    let made = made_other sel.procedure q r.to.address (places_of p sel) not in
    gone_merged (is_of q) (map (instance_at sel.procedure r.to.address) (places_of p sel)) (deactivated sel is) made ∙ rest)
    (λ _. rest)
    refl

-- and so does a list
replaced_others :
    (procedure : ℕ) (new is : List Instance) (q : ℕ) → (q ≡ procedure → ⊥) → Each (λ x. is_of procedure x ≡ true) new →
    those (is_of q) (replaced procedure new is) ≡ those (is_of q) is
replaced_others procedure new is q other own =
    gone_merged (is_of q) new (deactivated (every_of procedure) is)
    (each_so (λ x. is_of procedure x ≡ true) (λ x. is_of q x ≡ false)
    (λ x h. ne_eqb x.procedure q (λ k. other (sym k ∙ eqb-true x.procedure procedure h))) new own)
    ∙ cleared_other (every_of procedure) q is other

-- ---- what a good picture becomes

module _
    (access : List ℕ) (e : End) (ok : (access_read access).ok ≡ true) (good : end_good instances_most (ours access) e ≡ true)
    (waits : e.outstanding ≡ 1)
  where
    abbrev p : Profile
    p = ours access

    abbrev held : List Instance
    held = instances_of e.picture

    held_good : GoodList p instances_most held
    held_good = run_good_lem p instances_most e.picture (picture_good instances_most p e good)

    -- by a result, where the request passes
    pub changed_held : verdict p e ≡ none → GoodList p instances_most (changed p e.operation e.request held)
    changed_held passes =
        let fit = ((good_rules instances_most p e good).fits waits).1 in
        let sent = good_request e.operation e.request fit in
        changed_good instances_most p e.operation e.request held (good_profile p (access_good access ok))
        (sent_three e.operation e.request fit) passes (λ h. (good_to e.request.to (sent.to h)).address) held_good

    -- by a good list
    pub replaced_held :
        (new : List Instance) → list_good instances_most p e.request.procedure new ≡ true →
        GoodList p instances_most (replaced e.request.procedure new held)
    replaced_held new list =
        good_list p instances_most (replaced e.request.procedure new held)
        (replaced_good instances_most p e.request.procedure new held (access_good access ok) list
        (list_good_lem p instances_most held held_good))

    module _ (q : ℕ) (other : q ≡ e.request.procedure → ⊥) where
      applied_others :
          verdict p e ≡ none →
          those (is_of q) (instances_of (applied p e.operation e.request e.picture)) ≡ those (is_of q) held
      applied_others passes =
          let next = changed p e.operation e.request held in
          applied_ind p e.operation e.request e.picture (λ u. those (is_of q) (instances_of u) ≡ those (is_of q) held)
          (ap (those (is_of q)) (packed_all next (good_short p next (changed_held passes)))
          ∙ changed_others p e.operation e.request held q other)
          refl

      learned_others :
          (new : List Instance) → list_good instances_most p e.request.procedure new ≡ true →
          those (is_of q) (instances_of (packed (replaced e.request.procedure new held))) ≡ those (is_of q) held
      unfolding list_good
      learned_others new list =
          let next = replaced e.request.procedure new held in
          let own = (both_hold (each_good (is_of e.request.procedure) new) (instances_good instances_most p new) list).0 in
          ap (those (is_of q)) (packed_all next (good_short p next (replaced_held new list)))
          ∙ replaced_others e.request.procedure new held q other (goods_of (is_of e.request.procedure) new own)

-- ---- what arrives

module _ (access : List ℕ) (e : End) (s : List ℕ) (q : ℕ) (other : q ≡ e.request.procedure → ⊥) where
  closed_others : (mark : ℕ) (picture : Run) → mark_at q (closed mark picture e).marks ≡ mark_at q e.marks
  closed_others mark picture =
      ap (mark_at q) (closed_marks mark picture e) ∙ mark_other e.request.procedure mark e.marks q other

  -- whatever arrives leaves the mark of every procedure but the outstanding request's as it was
  pub takes_marks : mark_at q (takes access e s).end.marks ≡ mark_at q e.marks
  takes_marks =
      takes_ind access e s (λ m. mark_at q m.end.marks ≡ mark_at q e.marks) (λ _. refl) (λ _ _ _.
      took_ind (ours access) e s (λ n. mark_at q n.marks ≡ mark_at q e.marks)
      (λ _. refl)
      (λ _ _. closed_others (mark_no doubt) e.picture)
      (λ _ _ _. closed_others e.before e.picture)
      (λ _ _ _. closed_others e.before (applied (ours access) e.operation e.request e.picture))
      (λ _ _ _ es _ _ _ _. closed_others (mark_no known)
      (packed (replaced e.request.procedure (instances_listed (ours access) es) (instances_of e.picture)))))

  -- and their instances in the picture
  pub takes_others :
      those (is_of q) (instances_of (takes access e s).end.picture) ≡ those (is_of q) (instances_of e.picture)
  takes_others =
      takes_ind access e s (λ m. those (is_of q) (instances_of m.end.picture) ≡ those (is_of q) (instances_of e.picture))
      (λ _. refl) (λ _ ok good.
      took_ind (ours access) e s (λ n. those (is_of q) (instances_of n.picture) ≡ those (is_of q) (instances_of e.picture))
      (λ _. refl)
      (λ _ _. same (closed_picture (mark_no doubt) e.picture e))
      (λ _ _ _. same (closed_picture e.before e.picture e))
      (λ waits _ passes.
      ap of_q (closed_picture e.before (applied (ours access) e.operation e.request e.picture) e)
      ∙ applied_others access e ok good waits q other passes)
      (λ waits _ _ es _ _ _ list.
      let new = instances_listed (ours access) es in
      ap of_q (closed_picture (mark_no known) (packed (replaced e.request.procedure new (instances_of e.picture))) e)
      ∙ learned_others access e ok good waits q other new list))
    where
      of_q : Run → List Instance
      of_q u = those (is_of q) (instances_of u)

      same : {u : Run} → u ≡ e.picture → those (is_of q) (instances_of u) ≡ those (is_of q) (instances_of e.picture)
      same h = ap of_q h

-- ---- giving up

-- giving up leaves every instance as it was
pub gives_picture : (access : List ℕ) (e : End) → (gives_up access e).end.picture ≡ e.picture
gives_picture access e =
    gives_ind access e (λ m. m.end.picture ≡ e.picture) (λ _. refl) (λ _. refl) (λ _ _ _. closed_picture (mark_no doubt) e.picture e)

-- and the mark of every procedure but the outstanding request's
pub gives_marks :
    (access : List ℕ) (e : End) (q : ℕ) → (q ≡ e.request.procedure → ⊥) →
    mark_at q (gives_up access e).end.marks ≡ mark_at q e.marks
gives_marks access e q other =
    gives_ind access e (λ m. mark_at q m.end.marks ≡ mark_at q e.marks) (λ _. refl) (λ _. refl) (λ _ _ _.
    ap (mark_at q) (closed_marks (mark_no doubt) e.picture e) ∙ mark_other e.request.procedure (mark_no doubt) e.marks q other)

-- ---- sending

module _ (access : List ℕ) (operation : ℕ) (r : Request) (e : End) (size : ℕ) where
  -- sending leaves every instance as it was
  pub sends_picture : (sends access operation r e size).end.picture ≡ e.picture
  unfolding sent
  sends_picture = sends_ind access e operation r size (λ d. d.end.picture ≡ e.picture) (λ _. refl) (λ _ _ _ _. refl)

  -- and the mark of every procedure but the request's
  pub sends_marks : (q : ℕ) → (q ≡ r.procedure → ⊥) → mark_at q (sends access operation r e size).end.marks ≡ mark_at q e.marks
  unfolding sent marks_sent
  sends_marks q other =
      sends_ind access e operation r size (λ d. mark_at q d.end.marks ≡ mark_at q e.marks) (λ _. refl) (λ _ _ _ _.
      pick_ind (λ l. mark_at q l ≡ mark_at q e.marks) (eqb operation interrogation)
      {x = e.marks}
      {y = marked r.procedure (mark_no doubt) e.marks}
      (λ _. refl)
      (λ _. mark_other r.procedure (mark_no doubt) e.marks q other))
