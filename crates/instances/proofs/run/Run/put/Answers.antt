use mathlib.Core.Path.{◌≡◌, sym, ◌∙◌}
use mathlib.Core.Logic.{inl, inr}
use native.Mathlib.Omega.{arith}
use borrow.Author.Tests.{ltb-true, ltb-false}
use Rattle.instances.specs.Places.{run_most}
use Rattle.laws.proofs.Filled.{filled_next, filled_done, filled_full}
use Rattle.instances.specs.Places.{place_for}
use Rattle.instances.proofs.Runs.{next_of, none_of, outside}
use Rattle.instances.proofs.Puts.{put_skip, put_kept, put_made, put_rest, put_last, put_none, put_answer}
use Rattle.instances.proofs.run.Run.put.Goals as goal
use Rattle.instances.proofs.run.Run.put.Goals.{else-is_before, then-is_before, else-loop-k-test, then-loop-k-test+else-i-held+else-m-places-2}

pub loop-k-preserved-then-is_chosen : goal.loop-k-preserved-then-is_chosen
loop-k-preserved-then-is_chosen c =
    let l = c.loop-k in
    let a = c.args in
    let on = next_of c.instances-held.result.now l.i outside (omega arith) in
    let replaced = sym c.is_chosen.ensures ∙ c.if-is_chosen.true in
    (omega arith, omega arith, omega arith, rw (put_skip a.sel a.address _ _ _ _ on replaced) at l.invariant.3)

pub loop-k-preserved-then-m-places : goal.loop-k-preserved-then-m-places
loop-k-preserved-then-m-places c =
    let l = c.loop-k in
    let a = c.args in
    let on = next_of c.instances-held.result.now l.i outside (omega arith) in
    let more = next_of c.as_slice-places.result.now l.m (place_for 0 0) (omega arith) in
    let stays = sym c.is_chosen.ensures ∙ c.if-is_chosen.false in
    let test = sym c.is_before.ensures in
    elim c.if-is_before.branch [
      | then-is_before v ↦ let keeps = put_kept a.sel a.address _ _ _ _ on stays _ _ more (ltb-true _ _ (test ∙ v.if-is_before.true)) in
          rw (v.next-is, v.m-is, v.i-is)
          (omega arith, omega arith, omega arith, filled_next _ _ _ _ _ _ _ (omega arith) (rw keeps at l.invariant.3))
      | else-is_before v ↦ let makes = put_made a.sel a.address _ _ _ _ on stays _ _ more (ltb-false _ _ (test ∙ v.if-is_before.false)) in
          rw (v.next-is, v.m-is, v.i-is)
          (omega arith, omega arith, omega arith, filled_next _ _ _ _ _ _ _ (omega arith) (rw makes at l.invariant.3))
    ]

pub loop-k-preserved-else-m-places : goal.loop-k-preserved-else-m-places
loop-k-preserved-else-m-places c =
    let l = c.loop-k in
    let a = c.args in
    let on = next_of c.instances-held.result.now l.i outside (omega arith) in
    let empty = none_of c.as_slice-places.result.now l.m (omega arith) in
    let stays = sym c.is_chosen.ensures ∙ c.if-is_chosen.false in
    let rest = put_rest a.sel a.address _ _ _ _ on stays empty in
    (omega arith, omega arith, omega arith, filled_next _ _ _ _ _ _ _ (omega arith) (rw rest at l.invariant.3))

pub loop-k-preserved : goal.loop-k-preserved
loop-k-preserved c =
    let l = c.loop-k in
    let a = c.args in
    let none = none_of c.instances-held.result.now l.i (omega arith) in
    let more = next_of c.as_slice-places.result.now l.m (place_for 0 0) (omega arith) in
    let last = put_last a.sel a.address _ _ none _ _ more in
    (omega arith, omega arith, omega arith, filled_next _ _ _ _ _ _ _ (omega arith) (rw last at l.invariant.3))

pub returns : goal.returns
returns c =
    let l = c.loop-k in
    let a = c.args in
    let places = c.as_slice-places.ensures ∙ c.places_of-made.ensures in
    elim c.loop-k-test.branch [
      | else-loop-k-test v ↦ let end : l.k ≡ run_most = omega arith in
          put_answer a.p a.sel a.address a.self _ _ l.k l.next.run places c.instances-held.ensures.held
          (inr (rw end (filled_full _ _ _ _ _ (rw end at l.invariant.3))))
      | then-loop-k-test+else-i-held+else-m-places-2 v ↦ let none = none_of c.instances-held.result.now l.i (omega arith) in
          let empty = none_of c.as_slice-places.result.now l.m (omega arith) in
          put_answer a.p a.sel a.address a.self _ _ l.k l.next.run places c.instances-held.ensures.held
          (inl (filled_done _ _ _ _ _ (rw (put_none a.sel a.address _ _ none empty) at l.invariant.3)))
    ]
