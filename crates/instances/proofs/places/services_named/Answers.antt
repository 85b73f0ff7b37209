use borrow.Author.Rules.{rules}
use Prim.Native.Nat.{ℕ}
use mathlib.Core.Path.{sym, ◌∙◌}
use mathlib.Core.List.{append-nil}
use native.Mathlib.Omega.{arith}
use lib.ListN.{take, length-append}
use lib.Seq.{append_snoc}
use Rattle.laws.proofs.Thoses.{those_take, those_skip, those_none}
use Rattle.instances.specs.Instance.{every_service, named}
use Rattle.instances.proofs.Runs.{next_of, none_of, stored_is}
use Rattle.instances.proofs.places.services_named.Goals as goal
use Rattle.instances.proofs.places.services_named.Goals.{else-is_named, then-is_named}

pub loop-code-preserved : goal.loop-code-preserved
loop-code-preserved c =
    let l = c.loop-code in
    let a = c.args in
    let f = named every_service a.service in
    let on = next_of (take c.stored.result a.services.now) l.code-index 0 (omega arith) in
    let test = sym c.is_named.ensures in
    elim c.if-is_named.branch [
      | then-is_named v ↦ let takes = those_take f _ _ _ on (test ∙ v.if-is_named.true) in
          rw (v.named-is, v.push.ensures) (omega (arith, length-append {A = ℕ}), rw append_snoc (rw takes at l.invariant.1))
      | else-is_named v ↦ let skips = those_skip f _ _ _ on (test ∙ v.if-is_named.false) in
          rw v.named-is (omega arith, rw skips at l.invariant.1)
    ]

pub returns : goal.returns
returns c =
    let l = c.loop-code in
    let a = c.args in
    let none = those_none (named every_service a.service) _ (none_of (take c.stored.result a.services.now) l.code-index (omega arith)) in
    let same = stored_is _ a.count _ a.services.now c.stored.ensures (search rules) in
    rw (← same) (sym (append-nil _) ∙ rw none at l.invariant.1)
