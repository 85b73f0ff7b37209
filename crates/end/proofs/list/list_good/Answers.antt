use borrow.Author.Rules.{rules}
use borrow.Author.Tests.{eqb-true, eqb-false}
use mathlib.Core.Path.{◌≡◌, refl, sym, ◌∙◌}
use native.Mathlib.Omega.{arith}
use lib.ListN.{length, length-take}
use Rattle.profile.specs.Profile.{services_most}
use Rattle.instances.specs.Instance.{procedures}
use Rattle.instances.proofs.Choices.{among_place, place_among}
use Rattle.end.specs.inner.Listed.{address_held}
use Rattle.end.proofs.Judged.{few_held, within, good_at, judged_unfair, judged_low, judged_on, judged_all}
use Rattle.end.proofs.list.list_good.Goals as goal

pub loop-x-init : goal.loop-x-init
loop-x-init c =
    let p = c.args.p in
    let six : length p.services ≡ services_most = search (rules, c.well_formed) in
    (omega (arith, six, c.stored-services.ensures, length-take p.servicecount p.services), refl)

pub returns-then-x-procedure : goal.returns-then-x-procedure
returns-then-x-procedure c =
    let a = c.args in
    let l = c.loop-x in
    let is = c.held-x-items.ensures in
    let few = few_held a.run.now _ is c.requires.0 in
    rw (← is)
    (sym (judged_unfair a.p a.procedure _ l.x-index l.below few l.invariant.1 c.loop-x-test.true (λ own fits. omega (arith, own, c.if-x-procedure.true))))

pub returns-then-not-subscribed : goal.returns-then-not-subscribed
returns-then-not-subscribed c =
    let a = c.args in
    let l = c.loop-x in
    let is = c.held-x-items.ensures in
    let few = few_held a.run.now _ is c.requires.0 in
    rw (← is)
    (sym (judged_unfair a.p a.procedure _ l.x-index l.below few l.invariant.1 c.loop-x-test.true
    (λ own fits. eqb-false _ _ (sym c.is_subscribed-subscribed.ensures ∙ c.if-not-subscribed.true) (rw own at fits.subscribes))))

pub returns-then-key-below : goal.returns-then-key-below
returns-then-key-below c =
    let a = c.args in
    let l = c.loop-x in
    let is = c.held-x-items.ensures in
    let few = few_held a.run.now _ is c.requires.0 in
    rw (← is)
    (sym (judged_low a.p a.procedure _ l.x-index l.below few l.invariant.1 c.loop-x-test.true (omega (arith, (rw c.key.ensures at c.key_of-key.ensures), c.if-key-below.true))))

pub returns-then-p-x : goal.returns-then-p-x
returns-then-p-x c =
    let a = c.args in
    let l = c.loop-x in
    let is = c.held-x-items.ensures in
    let few = few_held a.run.now _ is c.requires.0 in
    rw (← is)
    (sym (judged_unfair a.p a.procedure _ l.x-index l.below few l.invariant.1 c.loop-x-test.true (λ own fits. omega (arith, fits.number, c.if-p-x.true))))

pub returns-then-services-service_slot : goal.returns-then-services-service_slot
returns-then-services-service_slot c =
    let a = c.args in
    let l = c.loop-x in
    let is = c.held-x-items.ensures in
    let few = few_held a.run.now _ is c.requires.0 in
    rw (← is)
    (sym (judged_unfair a.p a.procedure _ l.x-index l.below few l.invariant.1 c.loop-x-test.true
    (λ own fits. omega (arith, among_place _ _ fits.service, c.service_slot.ensures, c.if-services-service_slot.true, l.invariant.0))))

pub loop-x-preserved : goal.loop-x-preserved
loop-x-preserved c =
    let a = c.args in
    let l = c.loop-x in
    let is = c.held-x-items.ensures in
    let few = few_held a.run.now _ is c.requires.0 in
    let three : length a.p.subscribed ≡ procedures = search (rules, c.well_formed) in
    let own = c.if-x-procedure.false in
    let subscribes = eqb-true _ _ (sym c.is_subscribed-subscribed.ensures ∙ c.if-not-subscribed.false) in
    let key = (rw c.key.ensures at c.key_of-key.ensures) in (
      l.invariant.0,
      rw (← key) at
          (judged_on a.p a.procedure _ l.x-index l.below few l.invariant.1 c.loop-x-test.true (omega (arith, key, c.if-key-below.false)) own record {
            procedure = omega (arith, own, three, within a.p.subscribed a.procedure subscribes);
            subscribes = rw own subscribes;
            number = c.if-p-x.false;
            service = place_among _ _ (omega (arith, c.service_slot.ensures, c.if-services-service_slot.false, l.invariant.0));
            address = good_at address_held _ l.x-index (rw is c.requires.1) c.loop-x-test.true;
          }),
    )

pub returns : goal.returns
returns c =
    let a = c.args in
    let l = c.loop-x in
    let is = c.held-x-items.ensures in
    let few = few_held a.run.now _ is c.requires.0 in
    rw (← is) (sym (judged_all a.p a.procedure _ l.x-index l.below few l.invariant.1 c.loop-x-test.false))
