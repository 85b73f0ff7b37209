use borrow.Author.Rules.{rules}
use mathlib.Core.Path.{◌≡◌, refl, sym, ◌∙◌}
use native.Mathlib.Omega.{arith}
use Rattle.laws.proofs.Parts.{unmapped}
use Rattle.instances.specs.Places.{run_most}
use Rattle.instances.proofs.Renewals.{renews_one, spares_one, blanks_one, renew_answer}
use Rattle.instances.proofs.run.Run.renew.Goals as goal
use Rattle.instances.proofs.run.Run.renew.Goals.{else-i-n, then-i-n+else-is_chosen, then-i-n+then-is_chosen}

pub loop-i-init : goal.loop-i-init
loop-i-init c = (c.stored-n.ensures, search (unmapped, rules), c.blank_instance-none.ensures, refl)

pub loop-i-preserved : goal.loop-i-preserved
loop-i-preserved c =
    let l = c.loop-i in
    let so = l.invariant.3 in (
      l.invariant.0,
      l.invariant.1,
      l.invariant.2,
      elim c.if-i-n.branch [
        | then-i-n+then-is_chosen v ↦ rw v.next-is (renews_one _ _ _ _ _ _ so v.if-i-n.true (sym v.is_chosen.ensures ∙ v.if-is_chosen.true))
        | then-i-n+else-is_chosen v ↦ rw v.next-is (spares_one _ _ _ _ _ _ so v.if-i-n.true (sym v.is_chosen.ensures ∙ v.if-is_chosen.false))
        | else-i-n v ↦ rw (v.next-is, l.invariant.2) (blanks_one _ _ _ _ _ _ so v.if-i-n.false)
      ],
    )

pub returns : goal.returns
returns c =
    let l = c.loop-i in
    let a = c.args in
    let end : l.i ≡ run_most = omega arith in
    renew_answer a.sel a.address a.self _ l.next.run l.invariant.0 l.invariant.1 (rw end at l.invariant.3)
