-- A change of a list of instances, and its verdict, by what is held of its procedure; and a request as it is read changes what is held
-- alike. Assumes nothing.
use Prim.Native.Nat.{ℕ, ◌+◌}
use mathlib.Core.Path.{◌≡◌, refl, sym, ap, ◌∙◌, subst}
use mathlib.Core.Bool.{true}
use mathlib.Core.List.{List, map}
use mathlib.Core.Option.{Option, none, some}
use lib.ListN.{length}
use lib.Dec.{eqb}
use borrow.Author.Tests.{eqb-true, eqb-false}
use Rattle.laws.specs.Those.{those}
use Rattle.laws.proofs.Picks.{by_bool}
use Rattle.laws.proofs.Eaches.{Up, up_those}
use Rattle.codes.specs.Codes.{activation, deactivation}
use Rattle.numbers.specs.Address.{tidy_address}
use Rattle.numbers.specs.declared.address.Address.{Address}
use Rattle.profile.specs.declared.profile.Profile.{Profile}
use Rattle.requests.specs.Sent.{sendable, tidy_request}
use Rattle.requests.specs.declared.request.Request.{Request}
use Rattle.instances.specs.Instance.{key_of, spared}
use Rattle.instances.specs.Places.{places_of}
use Rattle.instances.specs.Run.{deactivated, activated, merged, count_of, instance_at}
use Rattle.instances.specs.declared.instance.Instance.{Instance}
use Rattle.instances.specs.declared.instance.Selection.{Selection}
use Rattle.rules.specs.Selection.{selection_of}
use Rattle.rules.specs.Judge.{first_error, every_tests, afterwards, judge, changed}
use Rattle.rules.proofs.Selections.{selection_procedure}
use Rattle.rules.proofs.Judges.{count_afterwards, judge_fails, judge_rest}
use Rattle.rules.proofs.Changes.{changed_activation, changed_deactivation, changed_other, changed_ind}
use Rattle.forms.proofs.Fits.{tidy_instance}
use Rattle.end.proofs.Others.{spares_other, made_other}
use Rattle.promise.proofs.DemandLists as L
use Rattle.promise.proofs.DemandLists.{held_of}
use Rattle.rules.proofs.Tidied.{Sized, selection_tidied}

-- by the operation
by_operation :
    (P : ℕ → Type 0) (operation : ℕ) → P activation → P deactivation →
    ((operation ≡ activation → ⊥) → (operation ≡ deactivation → ⊥) → P operation) → P operation
by_operation P operation puts clears other =
    by_bool (P operation) (eqb operation activation) (λ e. subst P (sym (eqb-true operation activation e)) puts) (λ e.
    by_bool (P operation) (eqb operation deactivation) (λ d. subst P (sym (eqb-true operation deactivation d)) clears) (λ d.
    other (eqb-false operation activation e) (eqb-false operation deactivation d)))

-- ---- what a selection puts and clears

module _ (p : Profile) (sel : Selection) where
  abbrev q : ℕ
  q = sel.procedure

  abbrev made : Address → List Instance
  made a = map (instance_at q a) (places_of p sel)

  activated_held :
      (a : Address) (b : ℕ) (is : List Instance) → Up key_of b is →
      held_of q (activated p sel a is) ≡ merged (map tidy_instance (made a)) (those (spared sel) (held_of q is))
  activated_held a b is u =
      L.held_merged q b (made a) (deactivated sel is) (L.made_of q a (places_of p sel)) (up_those key_of (spared sel) b is u)
      ∙ ap (merged (map tidy_instance (made a))) (L.held_spared q sel is)

  put_twice :
      (a : Address) (b : ℕ) (is : List Instance) → Up key_of b is → held_of q (activated p sel a (held_of q is)) ≡ held_of q
      (activated p sel a is)
  put_twice a b is u =
      activated_held a b (held_of q is) (L.held_up q b is u)
      ∙ (ap (λ m. merged (map tidy_instance (made a)) (those (spared sel) m)) (L.held_twice q is) ∙ sym (activated_held a b is u))

  put_tidied :
      (a : Address) (b : ℕ) (is : List Instance) → Up key_of b is → held_of q (activated p sel (tidy_address a) is) ≡ held_of q
      (activated p sel a is)
  put_tidied a b is u =
      activated_held (tidy_address a) b is u
      ∙ (ap (λ m. merged m (those (spared sel) (held_of q is))) (L.made_tidy q a (places_of p sel)) ∙ sym (activated_held a b is u))

  clear_twice : (is : List Instance) → held_of q (deactivated sel (held_of q is)) ≡ held_of q (deactivated sel is)
  clear_twice is =
      L.held_spared q sel (held_of q is) ∙ (ap (those (spared sel)) (L.held_twice q is) ∙ sym (L.held_spared q sel is))

  -- how many are left
  left_count : (is : List Instance) → count_of q (deactivated sel (held_of q is)) ≡ count_of q (deactivated sel is)
  left_count is = sym (L.held_count q (deactivated sel (held_of q is))) ∙ (ap length (clear_twice is) ∙ L.held_count q (deactivated sel is))

-- ---- a request

module _ (p : Profile) (r : Request) where
  abbrev sel : Selection
  sel = selection_of p r

  own : sel.procedure ≡ r.procedure
  own = selection_procedure p r

  -- only what is held of its procedure matters to a change
  pub changed_held :
      (operation b : ℕ) (is : List Instance) → Up key_of b is →
      held_of r.procedure (changed p operation r (held_of r.procedure is)) ≡ held_of r.procedure (changed p operation r is)
  changed_held operation b is u =
      subst (λ q. held_of q (changed p operation r (held_of q is)) ≡ held_of q (changed p operation r is)) own
      (let q = sel.procedure in
      by_operation (λ o. held_of q (changed p o r (held_of q is)) ≡ held_of q (changed p o r is)) operation
      (rw (changed_activation p r is, changed_activation p r (held_of q is)) (put_twice p sel r.to.address b is u))
      (rw (changed_deactivation p r is, changed_deactivation p r (held_of q is)) (clear_twice p sel is))
      (λ e d. rw (changed_other p r is operation e d, changed_other p r (held_of q is) operation e d) (L.held_twice q is)))

  -- and other procedures stay
  pub changed_others :
      (operation o : ℕ) (is : List Instance) → (o ≡ r.procedure → ⊥) → held_of o (changed p operation r is) ≡ held_of o is
  changed_others operation o is other =
      let not : o ≡ sel.procedure → ⊥ = λ e. other (e ∙ own) in
      let kept = L.held_kept o (spared sel) (spares_other sel o not) is in
      changed_ind p r is (λ l. held_of o l ≡ held_of o is) operation
      (λ _.
      L.held_past o (made p sel r.to.address) (deactivated sel is)
      (made_other sel.procedure o r.to.address (places_of p sel) not)
      ∙ kept)
      (λ _. kept)
      refl

  -- nor does anything else matter to its verdict
  after_held : (is : List Instance) → afterwards p r (held_of sel.procedure is) ≡ afterwards p r is
  after_held is =
      let q = sel.procedure in
      let count : List Instance → ℕ = λ l. length (places_of p sel) + count_of q (deactivated sel l) in
      sym (count_afterwards p r (held_of q is) sel refl (count (held_of q is)) refl)
      ∙ (ap (λ k. length (places_of p sel) + k) (left_count p sel is) ∙ count_afterwards p r is sel refl (count is) refl)

  pub judge_held :
      (most operation : ℕ) (is : List Instance) →
      judge most p operation r (held_of r.procedure is) ≡ judge most p operation r is
  judge_held most operation is =
      subst (λ q. judge most p operation r (held_of q is) ≡ judge most p operation r is) own (go (first_error (every_tests p r)) refl)
    where
      go :
          (v : Option ℕ) → first_error (every_tests p r) ≡ v →
          judge most p operation r (held_of sel.procedure is) ≡ judge most p operation r is
      go (some e) h =
          judge_fails most p operation r (held_of sel.procedure is) e h ∙ sym (judge_fails most p operation r is e h)
      go none h =
          judge_rest most p operation r (held_of sel.procedure is) h
          ∙ (rw (after_held is, L.held_chosen sel is) refl ∙ sym (judge_rest most p operation r is h))

-- a request as it is read changes what is held alike
module _ (p : Profile) (operation : ℕ) (r : Request) (goes : sendable operation r ≡ true) (sizes : Sized r) where
  put_alike :
      operation ≡ activation → (b : ℕ) (is : List Instance) → Up key_of b is →
      held_of r.procedure (changed p activation (tidy_request activation r) is) ≡ held_of r.procedure (changed p activation r is)
  put_alike e b is u =
      let same : selection_of p (tidy_request activation r) ≡ selection_of p r =
      ap (λ o. selection_of p (tidy_request o r)) (sym e) ∙ selection_tidied p operation r goes sizes in
      rw (changed_activation p r is, changed_activation p (tidy_request activation r) is, same)
      (subst
      (λ q. held_of q (activated p (selection_of p r) (tidy_address r.to.address) is) ≡ held_of q
      (activated p (selection_of p r) r.to.address is))
      (selection_procedure p r)
      (put_tidied p (selection_of p r) r.to.address b is u))

  pub changed_tidied :
      (b : ℕ) (is : List Instance) → Up key_of b is →
      held_of r.procedure (changed p operation (tidy_request operation r) is) ≡ held_of r.procedure (changed p operation r is)
  changed_tidied b is u =
      let P : ℕ → Type 0 = λ o. held_of r.procedure (changed p o (tidy_request o r) is) ≡ held_of r.procedure (changed p o r is) in
      by_bool (P operation) (eqb operation activation)
      (λ e. let a = eqb-true operation activation e in subst P (sym a) (put_alike a b is u))
      (λ e.
      let a = eqb-false operation activation e in
      by_bool (P operation) (eqb operation deactivation)
      (λ d.
      let c = eqb-true operation deactivation d in
      let same : selection_of p (tidy_request deactivation r) ≡ selection_of p r =
      ap (λ o. selection_of p (tidy_request o r)) (sym c) ∙ selection_tidied p operation r goes sizes in
      subst P (sym c) (rw (changed_deactivation p r is, changed_deactivation p (tidy_request deactivation r) is, same)))
      (λ d.
      let c = eqb-false operation deactivation d in
      rw (changed_other p r is operation a c, changed_other p (tidy_request operation r) is operation a c)))
