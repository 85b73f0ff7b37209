-- What a reply of the exchange does to the end that waits for it, as demand 3 asks it (crates/demand). Assumes nothing.
use Prim.Native.Nat.{ℕ}
use mathlib.Core.Path.{◌≡◌, refl, sym, ap, ◌∙◌, subst}
use mathlib.Core.Bool.{true}
use mathlib.Core.List.{List, [], map}
use mathlib.Core.Option.{none, some}
use mathlib.Core.Logic.{◌⊎◌, ⊎_elim}
use native.Mathlib.Omega.{arith}
use lib.IntN.{ℤ, pos}
use lib.ListN.{length}
use borrow.Author.Tests.{ne_eqb}
use Rattle.laws.specs.Got.{Got, got, wrong}
use Rattle.laws.specs.Mark.{known, mark_no}
use Rattle.laws.proofs.Eaches.{Up}
use Rattle.octets.specs.Part.{Part, part_at}
use Rattle.values.specs.Ident.{ident_at}
use Rattle.skip.specs.Depth.{inside_depth, component_depth}
use Rattle.codes.specs.Codes.{activation, deactivation, interrogation}
use Rattle.profile.specs.Access.{access_read}
use Rattle.profile.specs.declared.profile.Profile.{Profile}
use Rattle.lists.specs.Entries.{instances_most, tidy_entries, entries_from}
use Rattle.lists.specs.declared.entry.Entry.{Entry}
use Rattle.instances.specs.Instance.{key_of}
use Rattle.instances.specs.Run.{instances_of, packed}
use Rattle.forms.proofs.Fits.{tidy_instance}
use Rattle.instances.specs.declared.instance.Instance.{Instance}
use Rattle.instances.specs.declared.run.Run.{Run}
use Rattle.instances.proofs.Runs.{packed_all}
use Rattle.instances.proofs.Goods.{good_short, run_good_lem}
use Rattle.rules.specs.Judge.{applied, changed}
use Rattle.rules.proofs.Changes.{applied_changes}
use Rattle.answers.specs.Reply.{reply}
use Rattle.answers.specs.declared.reply.Reply.{Reply}
use Rattle.answers.specs.declared.reply.Reply.TheVariants.{Dropped, Rejected, Failed, Done, Listed, Wrong}
use Rattle.answers.proofs.Dropped.{no_element, no_identifier, other_identifier}
use Rattle.end.specs.End.{mark_at, end_good}
use Rattle.end.specs.Listed.{instances_listed, list_good, replaced}
use Rattle.end.specs.Taking.{takes}
use Rattle.end.specs.declared.end.End.{End}
use Rattle.end.proofs.Ends.{picture_good}
use Rattle.end.proofs.Steps.{verdict}
use Rattle.end.proofs.Marks as marks
use Rattle.end.proofs.Marks.{known_from}
use Rattle.end.proofs.Others.{changed_held, replaced_held, takes_others}
use Rattle.end.proofs.Goods.{reached_good}
use Rattle.end.proofs.Closings.{reply_closes}
use Rattle.demand.specs.Rules as rules
use Rattle.demand.specs.Rules.{says_list, says_error, says_reject, garbled, idle, awaiting, Why}
use Rattle.promise.specs.AnswerBack.{SaysBack}
use Rattle.promise.specs.Demand.{Asking}
use Rattle.promise.proofs.DemandLists.{held_of}
use Rattle.promise.proofs.DemandChanges as C
use Rattle.promise.proofs.DemandReads as R
use Rattle.promise.proofs.DemandReads.{read_on}
use Rattle.promise.proofs.DemandParts as P
use Rattle.promise.proofs.DemandParts.{asking, about_of, applied_to, Said, answer_of, entries_said, said_octets, Proper, mark_of, waiting_of, Sound}
use Rattle.promise.proofs.DemandParts.{topic, customer, mark_known, known_mark, about_one, waits_idle, waits_busy}

-- ---- a component is a reply for one identifier at most

pub one_identifier :
    (a b : ℤ) (o q : ℕ) (s : List ℕ) → (a ≡ b → ⊥) → (reply a o s ≡ Dropped → ⊥) → reply b q s ≡ Dropped
one_identifier a b o q s other own = in_part (part_at component_depth s 0 (length s)) refl
  where
    in_value :
        (component : Part) (next : ℕ) → part_at component_depth s 0 (length s) ≡ got component next → (g : Got ℤ) →
        ident_at inside_depth s component.start component.stop ≡ g → reply b q s ≡ Dropped
    in_value component next is wrong h = absurd (own (no_identifier a o s component next is h))
    in_value component next is (got value place) h =
        other_identifier b q s component next is value place h
        (λ same. own (other_identifier a o s component next is value place h (λ e. other (sym e ∙ same))))

    in_part : (g : Got Part) → part_at component_depth s 0 (length s) ≡ g → reply b q s ≡ Dropped
    in_part wrong is = absurd (own (no_element a o s is))
    in_part (got component next) is =
        in_value component next is (ident_at inside_depth s component.start component.stop) refl

-- ---- what a reply says

abbrev kind : Reply → ℕ
kind Dropped = 0
kind Rejected = 1
kind (Failed value) = 2
kind Done = 3
kind (Listed at end) = 4
kind Wrong = 5

module _ (n o : ℕ) (s : List ℕ) where
  abbrev Back : Said → Type 0
  Back b = SaysBack (pos n) o s (answer_of n b) (entries_said b)

  pub not_dropped : (b : Said) → Back b → reply (pos n) o s ≡ Dropped → ⊥
  not_dropped rules.says_done h d = omega (arith, ap kind (sym h.2 ∙ d))
  not_dropped (says_list es) h d = omega (arith, ap kind (sym h.2.is ∙ d))
  not_dropped (says_error value) h d = omega (arith, ap kind (sym h.1 ∙ d))
  not_dropped (says_reject problem) h d = omega (arith, ap kind (sym h.1 ∙ d))
  not_dropped garbled h d = h

  is_failed : (b : Said) → Back b → (value : ℤ) → reply (pos n) o s ≡ Failed value → (x : ℕ) × (b ≡ says_error x)
  is_failed (says_error x) h value d = (x, refl)
  is_failed rules.says_done h value d = absurd (omega (arith, ap kind (sym h.2 ∙ d)))
  is_failed (says_list es) h value d = absurd (omega (arith, ap kind (sym h.2.is ∙ d)))
  is_failed (says_reject problem) h value d = absurd (omega (arith, ap kind (sym h.1 ∙ d)))
  is_failed garbled h value d = absurd h

  is_done : (b : Said) → Back b → reply (pos n) o s ≡ Done → (b ≡ rules.says_done) × ((o ≡ activation) ⊎ (o ≡ deactivation))
  is_done rules.says_done h d = (refl, h.1)
  is_done (says_error x) h d = absurd (omega (arith, ap kind (sym h.1 ∙ d)))
  is_done (says_list es) h d = absurd (omega (arith, ap kind (sym h.2.is ∙ d)))
  is_done (says_reject problem) h d = absurd (omega (arith, ap kind (sym h.1 ∙ d)))
  is_done garbled h d = absurd h

  -- a list, read as the end reads it
  record Lists (b : Said) (es : List Entry) : Type 0 where
    entries : List Entry
    is : b ≡ says_list entries
    read : es ≡ tidy_entries entries
    asks : o ≡ interrogation

  abbrev start_of : Reply → ℕ
  start_of (Listed at end) = at
  start_of Dropped = 0
  start_of Rejected = 0
  start_of (Failed value) = 0
  start_of Done = 0
  start_of Wrong = 0

  abbrev stop_of : Reply → ℕ
  stop_of (Listed at end) = end
  stop_of Dropped = 0
  stop_of Rejected = 0
  stop_of (Failed value) = 0
  stop_of Done = 0
  stop_of Wrong = 0

  abbrev found_in : Got (List Entry) → List Entry
  found_in (got es next) = es
  found_in wrong = []

  is_listed :
      (b : Said) → Back b → (at end : ℕ) (es : List Entry) (next : ℕ) → reply (pos n) o s ≡ Listed at end →
      entries_from instances_most s at end ≡ got es next → Lists b es
  is_listed (says_list l) h at end es next d read =
      let same = sym h.2.is ∙ d in
      let from : entries_from instances_most s at end ≡ got (tidy_entries l) h.2.end =
      ap (λ k. entries_from instances_most s k end) (sym (ap start_of same))
      ∙ (ap (entries_from instances_most s h.2.at) (sym (ap stop_of same)) ∙ h.2.entries) in
      record { entries = l; is = refl; read = ap found_in (sym read ∙ from); asks = h.1 }
  is_listed rules.says_done h at end es next d read = absurd (omega (arith, ap kind (sym h.2 ∙ d)))
  is_listed (says_error x) h at end es next d read = absurd (omega (arith, ap kind (sym h.1 ∙ d)))
  is_listed (says_reject problem) h at end es next d read = absurd (omega (arith, ap kind (sym h.1 ∙ d)))
  is_listed garbled h at end es next d read = absurd h

-- ---- a reply to the outstanding request

module _ (access : List ℕ) (ok : (access_read access).ok ≡ true) where
  abbrev p : Profile
  p = (access_read access).profile

  module _ (e : End) (sound : Sound access e) where
    good : end_good instances_most p e ≡ true
    good = reached_good access ok e sound.way

    module _ (waits : e.outstanding ≡ 1) (b : Said) (fit : Proper e.used (asking e.operation e.request) b) where
      abbrev s : List ℕ
      s = said_octets e.used b

      abbrev now : End
      now = (takes access e s).end

      abbrev asked : Asking
      asked = asking e.operation e.request

      abbrev held : List Instance
      held = instances_of e.picture

      abbrev WhyOf : ℕ → Type 0
      WhyOf o = Why (topic access) (customer access) e e.used b now o

      before_known : e.before ≡ mark_no known → waiting_of e ≡ awaiting e.used asked known
      before_known h = waits_busy e waits ∙ ap (awaiting e.used asked) (known_mark e.before h)

      same_pic : (o : ℕ) → now.picture ≡ e.picture → held_of o (instances_of now.picture) ≡ held_of o held
      same_pic o h = ap (λ (u : Run). held_of o (instances_of u)) h

      other_pic : (o : ℕ) → (o ≡ e.request.procedure → ⊥) → held_of o (instances_of now.picture) ≡ held_of o held
      unfolding held_of
      other_pic o not = ap (map tidy_instance) (takes_others access e s o not)

      ups : Up key_of 0 held
      ups = (run_good_lem p instances_most e.picture (picture_good instances_most p e good)).ascends

      -- a result: the request is applied to what is held
      applied_pic :
          (e.operation ≡ activation) ⊎ (e.operation ≡ deactivation) → verdict p e ≡ none →
          now.picture ≡ applied p e.operation e.request e.picture →
          applied_to p asked (held_of e.request.procedure held) ≡ some (held_of e.request.procedure (instances_of now.picture))
      unfolding applied_to
      applied_pic changes passes is =
          let next = changed p e.operation e.request held in
          let whole : instances_of now.picture ≡ next =
          ap instances_of (is ∙ applied_changes p e.operation e.request e.picture changes)
          ∙ packed_all next (good_short p next (changed_held access e ok good waits passes)) in
          rw (
            C.judge_held p e.request instances_most e.operation held,
            passes,
            C.changed_held p e.request e.operation 0 held ups,
            whole,
          )

      -- a list: it is what is held
      learned_pic :
          (es : List Entry) → list_good instances_most p e.request.procedure (instances_listed p es) ≡ true →
          now.picture ≡ packed (replaced e.request.procedure (instances_listed p es) held) →
          read_on p e.request.procedure es ≡ some (held_of e.request.procedure (instances_of now.picture))
      unfolding read_on
      learned_pic es list is =
          let new = instances_listed p es in
          let next = replaced e.request.procedure new held in
          let whole : instances_of now.picture ≡ next =
          ap instances_of is ∙ packed_all next (good_short p next (replaced_held access e ok good waits new list)) in
          rw (list, whole, R.replaced_held p e.request.procedure new held list ups)

      why_of : (o : ℕ) → marks.Why p e s o (takes access e s) → WhyOf o
      why_of o (marks.refused k number told same) = rules.was_known (known_mark _ k) (same_pic o (ap (λ (x : End). x.picture) same))
      why_of o (marks.idle k free same) = rules.was_known (known_mark _ k) (same_pic o (ap (λ (x : End). x.picture) same))
      why_of o (marks.dropped k drop same) = rules.was_known (known_mark _ k) (same_pic o (ap (λ (x : End). x.picture) same))
      why_of o (marks.other k not) = rules.was_known (known_mark _ k) (other_pic o not)
      why_of o (marks.restored own _ before value is pic) =
          let x = is_failed e.used e.operation s b fit.back value is in
          rules.by_error asked x.0 (before_known before)
          (subst (λ q. (about_of asked ≡ rules.changes q) ⊎ (about_of asked ≡ rules.asks_for q)) (sym own) (about_one asked)) x.1
          (same_pic o pic)
      why_of o (marks.applies own _ before is passes pic) =
          let x = is_done e.used e.operation s b fit.back is in
          let not : e.operation ≡ interrogation → ⊥ = λ z. ⊎_elim (λ y. omega (arith, y, z)) (λ y. omega (arith, y, z)) x.1 in
          subst WhyOf (sym own)
          (rules.by_result asked (before_known before) (P.about_changes asked (ne_eqb e.operation interrogation not)) x.0
          (applied_pic x.1 passes pic))
      why_of o (marks.learns own _ at end es next is read list pic) =
          let x = is_listed e.used e.operation s b fit.back at end es next is read in
          subst WhyOf (sym own)
          (rules.by_list asked (mark_of e.before) x.entries (waits_busy e waits) (P.about_asks asked x.asks) x.is
          (ap (read_on p e.request.procedure) (sym x.read) ∙ learned_pic es list pic))

      pub core_why : (o : ℕ) → mark_of (mark_at o now.marks) ≡ known → WhyOf o
      core_why o k = why_of o (known_from access e s o (mark_known _ k))

      pub core_closes : waiting_of now ≡ idle
      core_closes =
          let shut = reply_closes access e ok good waits s fit.short (not_dropped e.used e.operation s b fit.back) in
          waits_idle now (λ h. omega (arith, h, shut))
