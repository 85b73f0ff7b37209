-- What a request that passes makes of the instances, and of their record. Assumes nothing.
use Prim.Native.Nat.{ℕ, ◌≤◌, ◌<◌}
use mathlib.Core.Path.{◌≡◌, refl, sym, ap, subst, ◌∙◌}
use mathlib.Core.Bool.{true}
use mathlib.Core.List.{List, [], ◌∷◌, map}
use mathlib.Core.Option.{none}
use mathlib.Core.Logic.{◌⊎◌, ⊎_elim}
use native.Mathlib.Omega.{arith}
use lib.ListN.{get_or}
use lib.Dec.{eqb}
use borrow.Author.Tests.{eq-eqb, ne_eqb, eqb-true}
use Rattle.laws.specs.Tests.{any}
use Rattle.laws.proofs.Picks.{pick_ind}
use Rattle.codes.specs.Codes.{activation, deactivation}
use Rattle.numbers.specs.Address.{address_good}
use Rattle.profile.specs.declared.profile.Profile.{Profile}
use Rattle.profile.proofs.Profiles.{GoodProfile}
use Rattle.requests.specs.declared.request.Request.{Request}
use Rattle.instances.specs.Run.{instances_of, packed, count_of, deactivated, activated, renewed, renews}
use Rattle.instances.specs.declared.instance.Instance.{Instance}
use Rattle.instances.specs.declared.instance.Selection.{Selection}
use Rattle.instances.specs.declared.run.Run.{Run}
use Rattle.instances.proofs.Goods.{GoodList, cleared_good, activated_good}
use Rattle.rules.specs.Selection.{selection_of}
use Rattle.rules.specs.Judge.{afterwards, judge}
use Rattle.rules.specs.Judge.{changed, applied, only_renews}
use Rattle.rules.proofs.Selections.{selection_procedure}
use Rattle.instances.proofs.Renewed.{activated_renewed}
use Rattle.rules.proofs.Judges.{subscribed_flag, judge_subscribed, judge_activation, renews_only}

-- ---- what the instances become

module _ (p : Profile) (r : Request) (is : List Instance) where
  pub changed_activation : changed p activation r is ≡ activated p (selection_of p r) r.to.address is
  unfolding changed
  changed_activation = refl

  pub changed_deactivation : changed p deactivation r is ≡ deactivated (selection_of p r) is
  unfolding changed
  changed_deactivation = refl

  pub changed_other :
      (operation : ℕ) → (operation ≡ activation → ⊥) → (operation ≡ deactivation → ⊥) →
      changed p operation r is ≡ is
  unfolding changed
  changed_other operation activates deactivates = rw (ne_eqb _ _ activates, ne_eqb _ _ deactivates)

  -- what holds after an activation, after a deactivation and of the instances as they were holds of what they become
  pub changed_ind :
      (P : List Instance → Type 0) (operation : ℕ) →
      (operation ≡ activation → P (activated p (selection_of p r) r.to.address is)) →
      (operation ≡ deactivation → P (deactivated (selection_of p r) is)) →
      P is →
      P (changed p operation r is)
  unfolding changed
  changed_ind P operation puts clears stays =
      pick_ind P (eqb operation activation) (λ e. puts (eqb-true operation activation e)) (λ _.
      pick_ind P (eqb operation deactivation) (λ e. clears (eqb-true operation deactivation e)) (λ _. stays))

-- the limit, of the procedure of the selection
afterwards_few :
    (p : Profile) (r : Request) (is : List Instance) (most : ℕ) → afterwards p r is ≤ most →
    count_of (selection_of p r).procedure (activated p (selection_of p r) r.to.address is) ≤ most
unfolding afterwards
afterwards_few p r is most h =
    let ends : List Instance = activated p (selection_of p r) r.to.address is in
    subst (λ (q : ℕ). count_of q ends ≤ most) (sym (selection_procedure p r)) h

-- good instances stay good where the request passes
pub changed_good :
    (most : ℕ) (p : Profile) (operation : ℕ) (r : Request) (is : List Instance) → GoodProfile p → r.procedure < 3 →
    judge most p operation r is ≡ none → (operation ≡ activation → address_good r.to.address ≡ true) →
    GoodList p most is → GoodList p most (changed p operation r is)
changed_good most p operation r is profile three passes address good =
    let sel = selection_of p r in
    let flag = subscribed_flag p r.procedure (judge_subscribed most p operation r is passes).subscribed in
    let subscribes : get_or p.subscribed r.procedure 0 ≡ 1 = omega (arith, profile.flags r.procedure three, flag) in
    changed_ind p r is (GoodList p most) operation
    (λ e.
    let told = judge_activation most p r is (rw e at passes) in
    activated_good p profile sel r.to.address (rw (selection_procedure p r) three) (rw (selection_procedure p r) subscribes)
    (address e) most is good (afterwards_few p r is most told.room))
    (λ _. cleared_good p sel most is good)
    good

-- ---- and their record

module _ (p : Profile) (operation : ℕ) (r : Request) (run : Run) where
  pub applied_changes :
      (operation ≡ activation) ⊎ (operation ≡ deactivation) →
      applied p operation r run ≡ packed (changed p operation r (instances_of run))
  unfolding applied
  applied_changes h =
      ⊎_elim
      (λ e. rw (eq-eqb operation activation e))
      (λ e. rw (ne_eqb operation activation (λ other. omega (arith, e, other)), eq-eqb operation deactivation e))
      h

  pub applied_other :
      (operation ≡ activation → ⊥) → (operation ≡ deactivation → ⊥) → applied p operation r run ≡ run
  unfolding applied
  applied_other activates deactivates = rw (ne_eqb _ _ activates, ne_eqb _ _ deactivates)

  -- what holds of the record of the changed instances and of the record as it was holds of what it becomes
  pub applied_ind :
      (P : Run → Type 0) → P (packed (changed p operation r (instances_of run))) → P run → P (applied p operation r run)
  unfolding applied
  applied_ind P changes stays =
      pick_ind P (any (eqb operation activation ∷ eqb operation deactivation ∷ [])) (λ _. changes) (λ _. stays)

  -- as the code makes it, by a selection that is the request's
  module _ (next : Run) (sel : Selection) (same : sel ≡ selection_of p r) where
    pub put_applied :
        operation ≡ activation → next ≡ packed (activated p sel r.to.address (instances_of run)) →
        next ≡ applied p operation r run
    unfolding applied changed
    put_applied activates e =
        e
        ∙ ap (λ (x : Selection). packed (activated p x r.to.address (instances_of run))) same
        ∙ rw (eq-eqb operation activation activates)

    -- where it only renews good instances, each of them where it stands
    pub renew_applied :
        GoodProfile p → (most : ℕ) → GoodList p most (instances_of run) → only_renews p operation r (instances_of run) ≡ true →
        next ≡ packed (map (renewed sel r.to.address) (instances_of run)) → next ≡ applied p operation r run
    renew_applied profile most good h e =
        let only = renews_only p operation r (instances_of run) h in
        let as_many : renews p sel (instances_of run) ≡ true = rw same only.1 in
        put_applied only.0
        (e ∙ ap packed (sym (activated_renewed p profile sel r.to.address most (instances_of run) good as_many)))

    pub clear_applied :
        (operation ≡ activation → ⊥) → operation ≡ deactivation → next ≡ packed (deactivated sel (instances_of run)) →
        next ≡ applied p operation r run
    unfolding applied changed
    clear_applied activates deactivates e =
        e
        ∙ ap (λ (x : Selection). packed (deactivated x (instances_of run))) same
        ∙ rw (ne_eqb operation activation activates, eq-eqb operation deactivation deactivates)
