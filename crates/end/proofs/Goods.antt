-- Every end that is reached from a fresh one breaks no rule: the end's own functions never hand back a record that the next of them
-- refuses (document 01, "The customer end", "Local refusals"). Assumes nothing.
use Prim.Native.Nat.{ℕ, zero, suc, ◌<◌, ◌≤◌}
use mathlib.Core.Path.{◌≡◌, refl, ◌∙◌}
use mathlib.Core.Bool.{true}
use mathlib.Core.List.{List, [], ◌∷◌}
use mathlib.Core.Option.{none}
use native.Mathlib.Omega.{arith}
use lib.ListN.{length, get_or, set, length-set}
use lib.Dec.{eqb}
use borrow.Author.Tests.{le-leb, leb-true, lt-ltb}
use Rattle.laws.specs.Mark.{known, doubt, mark_no}
use Rattle.laws.proofs.Picks.{pick_ind}
use Rattle.laws.proofs.Tests.{all_at}
use Rattle.codes.specs.Codes.{interrogation}
use Rattle.profile.specs.Access.{access_read}
use Rattle.profile.specs.Profile.{flag}
use Rattle.profile.specs.declared.profile.Profile.{Profile}
use Rattle.requests.specs.declared.request.Request.{Request}
use Rattle.lists.specs.Entries.{instances_most}
use Rattle.instances.specs.Run.{instances_of, packed, run_good}
use Rattle.instances.specs.declared.run.Run.{Run}
use Rattle.instances.proofs.Goods.{good_run, empty_good}
use Rattle.rules.specs.Judge.{changed, applied}
use Rattle.rules.proofs.Changes.{applied_ind}
use Rattle.end.specs.End.{mark_at, marked, fresh_end, closed, used_most, marks_good, waiting_good, end_good}
use Rattle.end.specs.Sending.{marks_sent, sent, sends}
use Rattle.end.specs.Listed.{instances_listed, replaced}
use Rattle.end.specs.Taking.{takes, gives_up}
use Rattle.end.specs.declared.end.End.{End}
use Rattle.end.proofs.Ends.{picture_good, rules_pass}
use Rattle.end.proofs.Steps.{ours, verdict, took_ind, takes_ind, gives_ind, sends_ind}
use Rattle.end.proofs.Marks.{GoodRules, good_rules, sent_three}
use Rattle.end.proofs.Others.{changed_held, replaced_held}

-- ---- marks

-- each of the three marks of a good end is one of the two
pub marks_two : (marks : List ℕ) → marks_good marks ≡ true → (k : ℕ) → k < 3 → mark_at k marks ≤ 1
unfolding marks_good mark_at
marks_two marks h zero low =
    leb-true (get_or marks 0 0) 1 (all_at (flag (get_or marks 0 0) ∷ flag (get_or marks 1 0) ∷ flag (get_or marks 2 0) ∷ []) 0 h)
marks_two marks h (suc zero) low = leb-true (get_or marks 1 0) 1 (all_at (flag (get_or marks 0 0) ∷ flag (get_or marks 1 0) ∷ flag (get_or marks 2 0) ∷ []) 1 h)
marks_two marks h (suc (suc zero)) low = leb-true (get_or marks 2 0) 1 (all_at (flag (get_or marks 0 0) ∷ flag (get_or marks 1 0) ∷ flag (get_or marks 2 0) ∷ []) 2 h)
marks_two marks h (suc (suc (suc k))) low = absurd (omega arith)

set_low : (l : List ℕ) (i k a : ℕ) → a ≤ 1 → get_or l k 0 ≤ 1 → get_or (set l i a) k 0 ≤ 1
set_low [] i k a h low = low
set_low (x ∷ l) zero zero a h low = h
set_low (x ∷ l) zero (suc k) a h low = low
set_low (x ∷ l) (suc i) zero a h low = low
set_low (x ∷ l) (suc i) (suc k) a h low = set_low l i k a h low

-- marks stay good where a good one is put
pub marked_good : (procedure mark : ℕ) (marks : List ℕ) → mark ≤ 1 → marks_good marks ≡ true → marks_good (marked procedure mark marks) ≡ true
unfolding marks_good marked mark_at
marked_good procedure mark marks h good =
    let low : (k : ℕ) → k < 3 → get_or (set marks procedure mark) k 0 ≤ 1 =
    λ k three. set_low marks procedure k mark h (marks_two marks good k three) in
    rw (
      le-leb (get_or (set marks procedure mark) 0 0) 1 (low 0 (omega arith)),
      le-leb (get_or (set marks procedure mark) 1 0) 1 (low 1 (omega arith)),
      le-leb (get_or (set marks procedure mark) 2 0) 1 (low 2 (omega arith)),
    )

-- ---- ends

-- the rules of an end, one by one, are all that is asked of it
end_good_lem :
    (p : Profile) (e : End) → e.used ≤ used_most → e.outstanding ≤ 1 → marks_good e.marks ≡ true → waiting_good e ≡ true →
    run_good instances_most p e.picture ≡ true → end_good instances_most p e ≡ true
end_good_lem p e used flag marks waits picture =
    rules_pass instances_most p e (rw (le-leb e.used used_most used, le-leb e.outstanding 1 flag, marks, waits)) ∙ picture

module _
    (access : List ℕ) (ok : (access_read access).ok ≡ true) (e : End) (good : end_good instances_most (ours access) e ≡ true)
  where
    abbrev p : Profile
    p = ours access

    rules : GoodRules e
    rules = good_rules instances_most p e good

    -- every way to close a request hands back a good end, if the mark is one and the picture is good
    closed_good :
        (mark : ℕ) (picture : Run) → mark ≤ 1 → run_good instances_most p picture ≡ true →
        end_good instances_most p (closed mark picture e) ≡ true
    unfolding closed waiting_good
    closed_good mark picture low run =
        end_good_lem p (closed mark picture e) rules.used (omega arith)
        (marked_good e.request.procedure mark e.marks low rules.flags)
        refl run

    held : run_good instances_most p e.picture ≡ true
    held = picture_good instances_most p e good

    applied_run : e.outstanding ≡ 1 → verdict p e ≡ none → run_good instances_most p (applied p e.operation e.request e.picture) ≡ true
    applied_run waits passes =
        let next = changed p e.operation e.request (instances_of e.picture) in
        applied_ind p e.operation e.request e.picture (λ u. run_good instances_most p u ≡ true)
        (good_run p next (changed_held access e ok good waits passes))
        held

    -- whatever arrives, the end that is handed back breaks no rule
    pub takes_good : (s : List ℕ) → end_good instances_most p (takes access e s).end ≡ true
    takes_good s =
        takes_ind access e s (λ m. end_good instances_most p m.end ≡ true) (λ _. good) (λ _ _ _.
        took_ind p e s (λ n. end_good instances_most p n ≡ true)
        (λ _. good)
        (λ _ _. closed_good (mark_no doubt) e.picture (omega arith) held)
        (λ waits _ _. closed_good e.before e.picture (rules.fits waits).0 held)
        (λ waits _ passes.
        closed_good e.before (applied p e.operation e.request e.picture) (rules.fits waits).0 (applied_run waits passes))
        (λ waits _ _ es _ _ _ list.
        let next = replaced e.request.procedure (instances_listed p es) (instances_of e.picture) in
        closed_good (mark_no known) (packed next) (omega arith)
        (good_run p next (replaced_held access e ok good waits (instances_listed p es) list))))

    -- nor does the one that gave up
    pub gives_good : end_good instances_most p (gives_up access e).end ≡ true
    gives_good =
        gives_ind access e (λ m. end_good instances_most p m.end ≡ true) (λ _. good) (λ _. good) (λ _ _ _.
        closed_good (mark_no doubt) e.picture (omega arith) held)

    -- nor the one that has sent
    pub sends_good : (operation : ℕ) (r : Request) (size : ℕ) → end_good instances_most p (sends access operation r e size).end ≡ true
    unfolding sent marks_sent waiting_good
    sends_good operation r size =
        sends_ind access e operation r size (λ d. end_good instances_most p d.end ≡ true) (λ _. good) (λ _ _ more fit.
        let low = marks_two e.marks rules.flags r.procedure (sent_three operation r fit) in
        end_good_lem p (sent operation r e) (omega (arith, rules.used, more)) (omega arith)
        (pick_ind (λ l. marks_good l ≡ true) (eqb operation interrogation)
        {x = e.marks}
        {y = marked r.procedure (mark_no doubt) e.marks}
        (λ _. rules.flags)
        (λ _. marked_good r.procedure (mark_no doubt) e.marks (omega arith) rules.flags))
        (rw (lt-ltb 0 (suc e.used) (omega arith), le-leb (mark_at r.procedure e.marks) 1 low, fit))
        held)

-- ---- every end that is reached

-- a fresh end is good by every profile
pub fresh_good : (p : Profile) → end_good instances_most p fresh_end ≡ true
unfolding end_good marks_good waiting_good
fresh_good p = rw (empty_good p)

-- the ends that are reached from a fresh one with an access record, whatever is sent, arrives and is given up
pub data Reached (access : List ℕ) : End → Type 0 where
  -- a fresh end
  begins : Reached access fresh_end
  -- it sends a request, or refuses to: an activation, a deactivation or an interrogation, every other operation being refused
  sending : (e : End) → Reached access e → (operation : ℕ) (r : Request) (size : ℕ) → Reached access (sends access operation r e size).end
  -- a component arrives
  taking : (e : End) → Reached access e → (s : List ℕ) → Reached access (takes access e s).end
  -- it gives up
  giving : (e : End) → Reached access e → Reached access (gives_up access e).end

-- every end that is reached breaks no rule
pub reached_good :
    (access : List ℕ) → (access_read access).ok ≡ true → (e : End) → Reached access e → end_good instances_most (ours access) e ≡ true
reached_good access ok _ begins = fresh_good (ours access)
reached_good access ok _ (sending e way operation r size) = sends_good access ok e (reached_good access ok e way) operation r size
reached_good access ok _ (taking e way s) = takes_good access ok e (reached_good access ok e way) s
reached_good access ok _ (giving e way) = gives_good access ok e (reached_good access ok e way)

-- ---- its marks

closed_three : (mark : ℕ) (picture : Run) (e : End) → length e.marks ≡ 3 → length (closed mark picture e).marks ≡ 3
unfolding closed marked
closed_three mark picture e long = length-set e.marks e.request.procedure mark ∙ long

sent_long : (operation : ℕ) (r : Request) (e : End) → length e.marks ≡ 3 → length (sent operation r e).marks ≡ 3
unfolding sent marks_sent marked
sent_long operation r e long =
    pick_ind (λ l. length l ≡ 3) (eqb operation interrogation) {x = e.marks} {y = set e.marks r.procedure (mark_no doubt)}
    (λ _. long)
    (λ _. length-set e.marks r.procedure (mark_no doubt) ∙ long)

-- every end that is reached has a mark for each of the three procedures
pub reached_marks : (access : List ℕ) (e : End) → Reached access e → length e.marks ≡ 3
reached_marks access _ begins = refl
reached_marks access _ (sending e way operation r size) =
    let long = reached_marks access e way in
    sends_ind access e operation r size (λ d. length d.end.marks ≡ 3) (λ _. long) (λ _ _ _ _. sent_long operation r e long)
reached_marks access _ (taking e way s) =
    let long = reached_marks access e way in
    let p = ours access in
    takes_ind access e s (λ m. length m.end.marks ≡ 3) (λ _. long) (λ _ _ _.
    took_ind p e s (λ n. length n.marks ≡ 3)
    (λ _. long)
    (λ _ _. closed_three (mark_no doubt) e.picture e long)
    (λ _ _ _. closed_three e.before e.picture e long)
    (λ _ _ _. closed_three e.before (applied p e.operation e.request e.picture) e long)
    (λ _ _ _ es _ _ _ _.
    closed_three (mark_no known) (packed (replaced e.request.procedure (instances_listed p es) (instances_of e.picture))) e long))
reached_marks access _ (giving e way) =
    let long = reached_marks access e way in
    gives_ind access e (λ m. length m.end.marks ≡ 3) (λ _. long) (λ _. long) (λ _ _ _. closed_three (mark_no doubt) e.picture e long)
