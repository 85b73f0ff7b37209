use borrow.Author.Rules.{rules}
use Prim.Native.Nat.{◌<◌}
use mathlib.Core.Path.{◌≡◌, refl, sym, ap, ◌∙◌}
use mathlib.Core.Bool.{true, false≢true}
use native.Mathlib.Omega.{arith}
use lib.ListN.{length, get_or}
use borrow.Author.Tests.{lt-leb}
use Rattle.laws.proofs.Parts.{unmapped}
use Rattle.lists.specs.Entries.{instances_most}
use Rattle.instances.specs.Instance.{key_of, instance_good}
use Rattle.instances.specs.Run.{few_of_each}
use Rattle.instances.proofs.Runs.{outside, next_of, none_of, stored_is}
use Rattle.instances.proofs.Orders.{sound_on, sound_low, sound_bad, sound_none, not_good, not_few, is_good, too_long}
use Rattle.instances.proofs.Fits.{fits_made, fits_place, not_fits}
use Rattle.instances.proofs.Blocks.{blocks_first, blocks_over, blocks_last, blocks_same, blocks_on, blocks_next}
use Rattle.instances.proofs.run.Run.good.Goals as goal
use Rattle.instances.proofs.run.Run.good.Goals.{else-beyond-procedure, then-beyond-procedure+else-procedure-ge-PROCEDURES+else-subscribed-procedure-ne1+else-from-i}

pub returns-then-self-gt-ROOM : goal.returns-then-self-gt-ROOM
returns-then-self-gt-ROOM c = let a = c.args in sym (too_long a.p a.self instances_most (lt-leb _ _ c.if-self-gt-ROOM.true))

pub loop-i-init : goal.loop-i-init
loop-i-init c = (omega arith, refl, blocks_first _ _)

pub returns-then-rank-below : goal.returns-then-rank-below
returns-then-rank-below c =
    let l = c.loop-i in
    let a = c.args in
    let held = c.instances-held.ensures.held in
    let on = next_of c.instances-held.result.now l.i outside (omega arith) in
    let low = sound_low (instance_good a.p) _ _ _ on l.below (omega (arith, rw c.key-key.ensures at c.key_of-rank.ensures, c.if-rank-below.true)) in
    sym (not_good a.p a.self instances_most c.if-self-gt-ROOM.false (rw held at (l.invariant.1 ∙ low)))

pub returns-then-procedure-ge-PROCEDURES : goal.returns-then-procedure-ge-PROCEDURES
returns-then-procedure-ge-PROCEDURES c =
    let l = c.loop-i in
    let a = c.args in
    let held = c.instances-held.ensures.held in
    let on = next_of c.instances-held.result.now l.i outside (omega arith) in
    let bad = sound_bad (instance_good a.p) _ _ _ on l.below (not_fits _ _ _ _ (λ f. omega (arith, f.procedure, c.if-procedure-ge-PROCEDURES.true))) in
    sym (not_good a.p a.self instances_most c.if-self-gt-ROOM.false (rw held at (l.invariant.1 ∙ bad)))

pub returns-then-subscribed-procedure-ne1 : goal.returns-then-subscribed-procedure-ne1
returns-then-subscribed-procedure-ne1 c =
    let l = c.loop-i in
    let a = c.args in
    let held = c.instances-held.ensures.held in
    let on = next_of c.instances-held.result.now l.i outside (omega arith) in
    let bad = sound_bad (instance_good a.p) _ _ _ on l.below (not_fits _ _ _ _ (λ f. c.if-subscribed-procedure-ne1.true f.subscribes)) in
    sym (not_good a.p a.self instances_most c.if-self-gt-ROOM.false (rw held at (l.invariant.1 ∙ bad)))

pub returns-then-from-i : goal.returns-then-from-i
returns-then-from-i c =
    let l = c.loop-i in
    let a = c.args in
    let held = c.instances-held.ensures.held in
    sym (not_few a.p a.self instances_most c.if-self-gt-ROOM.false (rw held at (blocks_over _ _ _ _ _ _ _ l.invariant.2 c.if-from-i.true)))

pub returns-then-not-place_good : goal.returns-then-not-place_good
returns-then-not-place_good c =
    let l = c.loop-i in
    let a = c.args in
    let held = c.instances-held.ensures.held in
    let on = next_of c.instances-held.result.now l.i outside (omega arith) in
    let same = stored_is _ a.p.servicecount _ a.p.services c.stored.ensures (search (unmapped, rules)) in
    let fails = sym c.if-not-place_good.true ∙ rw (same, c.key-key.ensures) at c.place_good.ensures in
    let bad = sound_bad (instance_good a.p) _ _ _ on l.below (not_fits _ _ _ _ (λ f. false≢true (fails ∙ fits_place _ _ _ _ f))) in
    sym (not_good a.p a.self instances_most c.if-self-gt-ROOM.false (rw held at (l.invariant.1 ∙ bad)))

pub returns-then-not-address_good : goal.returns-then-not-address_good
returns-then-not-address_good c =
    let l = c.loop-i in
    let a = c.args in
    let held = c.instances-held.ensures.held in
    let on = next_of c.instances-held.result.now l.i outside (omega arith) in
    let fails = sym c.if-not-address_good.true ∙ c.address_good.ensures in
    let bad = sound_bad (instance_good a.p) _ _ _ on l.below (not_fits _ _ _ _ (λ f. false≢true (fails ∙ f.address))) in
    sym (not_good a.p a.self instances_most c.if-self-gt-ROOM.false (rw held at (l.invariant.1 ∙ bad)))

pub loop-i-preserved : goal.loop-i-preserved
loop-i-preserved c =
    let l = c.loop-i in
    let a = c.args in
    let held = c.instances-held.ensures.held in
    let on = next_of c.instances-held.result.now l.i outside (omega arith) in
    let key = rw c.key-key.ensures at c.key_of-rank.ensures in
    let x = get_or c.instances-held.result.now l.i outside in
    let above : l.below < key_of x = omega (arith, key, c.if-rank-below.false) in
    let same = stored_is _ a.p.servicecount _ a.p.services c.stored.ensures (search (unmapped, rules)) in
    let place = sym (rw (same, c.key-key.ensures) at c.place_good.ensures) ∙ c.if-not-place_good.false in
    let address = sym c.address_good.ensures ∙ c.if-not-address_good.false in
    let so = l.invariant.2 in
    elim c.if-beyond-procedure.branch [
      | then-beyond-procedure+else-procedure-ge-PROCEDURES+else-subscribed-procedure-ne1+else-from-i v ↦ let good : instance_good a.p x ≡ true = fits_made _ _ _ _ v.if-procedure-ge-PROCEDURES.false v.if-subscribed-procedure-ne1.false place address in
          rw (v.beyond-is, v.from-is) (
            omega arith,
            l.invariant.1 ∙ rw (← key) at (sound_on (instance_good a.p) _ _ _ on l.below above good),
            rw (← key) at (blocks_next _ _ _ _ _ _ _ so _ _ on above v.if-beyond-procedure.true v.if-procedure-ge-PROCEDURES.false v.if-subscribed-procedure-ne1.false v.if-from-i.false),
          )
      | else-beyond-procedure v ↦ let same = blocks_same _ _ _ _ _ _ _ so _ _ on above (search rules, search rules) (λ k. omega (arith, k, v.if-beyond-procedure.false)) in
          let good : instance_good a.p x ≡ true = fits_made _ _ _ _ (omega (arith, same, so.three)) (so.subscribes _ same) place address in
          rw (v.beyond-is, v.from-is) (
            omega arith,
            l.invariant.1 ∙ rw (← key) at (sound_on (instance_good a.p) _ _ _ on l.below above good),
            rw (← key) at (blocks_on _ _ _ _ _ _ _ so _ _ on above same),
          )
    ]

pub returns : goal.returns
returns c =
    let l = c.loop-i in
    let a = c.args in
    let held = c.instances-held.ensures.held in
    let none = none_of c.instances-held.result.now l.i (omega arith) in
    let sounds = l.invariant.1 ∙ sound_none (instance_good a.p) l.below _ none in
    let end : l.i ≡ length c.instances-held.result.now = omega arith in
    let last = rw end at (blocks_last _ _ _ _ _ _ _ l.invariant.2 none) in
    let counts = ap (few_of_each instances_most) (sym held) in
    sym (is_good a.p a.self instances_most c.if-self-gt-ROOM.false (rw held at sounds) ∙ counts ∙ last)
