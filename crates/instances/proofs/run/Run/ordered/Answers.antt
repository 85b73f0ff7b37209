use Prim.Native.Nat.{◌≤◌}
use mathlib.Core.Bool.{true}
use mathlib.Core.Logic.{◌↔◌}
use mathlib.Core.Path.{◌≡◌, refl, ◌∙◌}
use Rattle.std.specs.List.{All}
use native.Mathlib.Omega.{arith}
use borrow.Author.Rules.{rules}
use Rattle.std.proofs.iter.runs.Made.{chains}
use Rattle.laws.proofs.Picks.{pick_last}
use Rattle.instances.proofs.Runs.{next_of, none_of, outside}
use Rattle.instances.proofs.Orders.{ascends_on, ascends_low, ascends_none}
use Rattle.instances.proofs.Tallies.{tally_first, tally_most, tally_one, tally_none, tallied}
use Rattle.instances.proofs.run.Run.ordered.Goals as goal
use Rattle.instances.proofs.run.Run.ordered.Goals.{then-procedure-lt-PROCEDURES, else-procedure-lt-PROCEDURES}

pub loop-x-init : goal.loop-x-init
loop-x-init c = (refl, tally_first _)

pub returns-then-key-under : goal.returns-then-key-under
returns-then-key-under c =
    let l = c.loop-x in
    let on = next_of c.instances-x-items.result.now l.x-index outside (omega arith) in
    let low = ascends_low l.under _ _ _ on (omega (arith, rw c.key.ensures at c.key_of-key.ensures, c.if-key-under.true)) in
    rw (← c.instances-x-items.ensures.held, l.invariant.0 ∙ low)

pub loop-x-preserved : goal.loop-x-preserved
loop-x-preserved c =
    let l = c.loop-x in
    let on = next_of c.instances-x-items.result.now l.x-index outside (omega arith) in
    let key = rw c.key.ensures at c.key_of-key.ensures in
    let ascends = l.invariant.0 ∙ rw (← key) at (ascends_on l.under _ _ _ on (omega (arith, key, c.if-key-under.false))) in
    elim c.if-procedure-lt-PROCEDURES.branch [
      | then-procedure-lt-PROCEDURES v ↦ rw (v.counts-is, v.under-is) (ascends, tally_one _ _ _ _ _ on l.invariant.1 v.if-procedure-lt-PROCEDURES.true)
      | else-procedure-lt-PROCEDURES v ↦ rw (v.counts-is, v.under-is) (ascends, tally_none _ _ _ _ _ on l.invariant.1 (λ h. omega (arith, v.if-procedure-lt-PROCEDURES.false)))
    ]

pub overflow_add-counts : goal.overflow_add-counts
overflow_add-counts c =
    let l = c.loop-x in
    let on = next_of c.instances-x-items.result.now l.x-index outside (omega arith) in
    let few = c.instances-x-items.ensures.few in
    let most = tally_most _ _ _ _ _ on l.invariant.1 _ c.if-procedure-lt-PROCEDURES.true in
    omega (arith, few, most)

pub returns : goal.returns
returns c =
    let l = c.loop-x in
    let none = none_of c.instances-x-items.result.now l.x-index (omega arith) in
    let each : (c.all.result ≡ true) ↔ All (λ n. n ≤ c.args.most) l.counts = search (rules, chains) in
    let few = tallied _ _ _ c.args.most none l.invariant.1 c.all.result each in
    rw (← c.instances-x-items.ensures.held, l.invariant.0 ∙ ascends_none l.under _ none, pick_last _) few
