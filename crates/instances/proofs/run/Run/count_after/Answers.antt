use borrow.Author.Rules.{rules}
use mathlib.Core.Path.{◌≡◌, refl, sym, ap, ◌∙◌}
use mathlib.Core.List.{[]}
use native.Mathlib.Omega.{arith}
use lib.ListN.{length}
use Rattle.laws.proofs.Thoses.{those_take, those_skip, those_none}
use Rattle.instances.specs.Instance.{chosen, spared}
use Rattle.instances.specs.Run.{instances_of, listed, is_of, count_of}
use Rattle.instances.proofs.Choices.{concerns_is, concerns_not, chosen_other}
use Rattle.instances.proofs.Counts.{after_one, after_chosen, after_other}
use Rattle.instances.proofs.Runs.{next_of, none_of, outside}
use Rattle.instances.proofs.run.Run.count_after.Goals as goal
use Rattle.instances.proofs.run.Run.count_after.Goals.{else-is_concerned, then-is_concerned+else-is_chosen, then-is_concerned+then-is_chosen}

pub loop-x-preserved : goal.loop-x-preserved
loop-x-preserved c =
    let l = c.loop-x in
    let a = c.args in
    let q = a.sel.procedure in
    let on = next_of c.instances-x-items.result.now l.x-index outside (omega arith) in
    let test = sym c.is_concerned.ensures in
    elim c.if-is_concerned.branch [
      | then-is_concerned+then-is_chosen v ↦ (
        omega arith,
        omega arith,
        omega (arith, v.found-is, l.invariant.2, ap length (those_take (chosen a.sel) _ _ _ on (sym v.is_chosen.ensures ∙ v.if-is_chosen.true))),
        omega (arith, v.others-is, l.invariant.3, after_chosen a.sel _ _ _ on q (sym v.is_chosen.ensures ∙ v.if-is_chosen.true)),
      )
      | then-is_concerned+else-is_chosen v ↦ (
        omega arith,
        omega arith,
        omega (arith, v.found-is, l.invariant.2, ap length (those_skip (chosen a.sel) _ _ _ on (sym v.is_chosen.ensures ∙ v.if-is_chosen.false))),
        omega (
          arith,
          v.others-is,
          l.invariant.3,
          after_one a.sel _ _ _ on q (concerns_is a.sel _ (test ∙ v.if-is_concerned.true))
              (sym v.is_chosen.ensures ∙ v.if-is_chosen.false),
        ),
      )
      | else-is_concerned v ↦ (
        omega arith,
        omega arith,
        omega (arith, v.found-is, l.invariant.2, ap length (those_skip (chosen a.sel) _ _ _ on (chosen_other a.sel _ (test ∙ v.if-is_concerned.false)))),
        omega (arith, v.others-is, l.invariant.3, after_other a.sel _ _ _ on q (concerns_not a.sel _ (test ∙ v.if-is_concerned.false))),
      )
    ]

pub overflow_add-result : goal.overflow_add-result
overflow_add-result c = omega (arith, c.places_count-places.ensures.1)

pub returns : goal.returns
returns c =
    let l = c.loop-x in
    let a = c.args in
    let held = c.instances-x-items.ensures.held in
    let gone = none_of c.instances-x-items.result.now l.x-index (omega arith) in
    let found : l.found ≡ length (listed a.sel (instances_of a.self)) =
    rw (← held) (omega (arith, l.invariant.2, ap length (those_none (chosen a.sel) _ gone))) in
    let spares = those_none (spared a.sel) _ gone in
    let none = ap (count_of a.sel.procedure) spares ∙ ap length (those_none (is_of a.sel.procedure) [] refl) in
    record {
      count = rw (← c.places_count-places.ensures.0, ← held) (omega (arith, l.invariant.3, none));
      renews = rw (← c.places_count-places.ensures.0, ← found) (search rules);
    }
