use mathlib.Core.Path.{sym, ◌∙◌}
use mathlib.Core.List.{append-nil}
use native.Mathlib.Omega.{arith}
use Rattle.instances.proofs.Placings.{number_named, number_other, number_none, place_none}
use Rattle.instances.proofs.places.places_named.Goals as goal
use Rattle.instances.proofs.places.places_named.Goals.{else-is_named, then-is_named+else-loop-service-test}

pub loop-service-init : goal.loop-service-init
loop-service-init c =
    let l = c.loop-a in
    let a = c.args in
    let test = sym c.is_named.ensures ∙ c.if-is_named.true in
    (omega arith, rw (number_named a.asked a.services.now a.numbers l.a (omega arith) test) at l.invariant.1)

pub loop-a-preserved : goal.loop-a-preserved
loop-a-preserved c =
    let l = c.loop-a in
    let a = c.args in
    let test = sym c.is_named.ensures in
    elim c.if-is_named.branch [
      | then-is_named+else-loop-service-test v ↦ let so = v.loop-service in
          let none = place_none a.services.now l.a so.service-index (omega arith) in
          rw v.places-is (omega arith, rw none at so.invariant.1)
      | else-is_named v ↦ let skips = number_other a.asked a.services.now a.numbers l.a (omega arith) (test ∙ v.if-is_named.false) in
          rw v.places-is (omega arith, rw skips at l.invariant.1)
    ]

pub returns : goal.returns
returns c =
    let l = c.loop-a in
    let a = c.args in
    let none = number_none a.asked a.services.now a.numbers l.a (omega arith) in
    sym (append-nil _) ∙ rw none at l.invariant.1
