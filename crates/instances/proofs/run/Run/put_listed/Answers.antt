use native.Mathlib.Omega.{arith}
use mathlib.Core.Path.{refl, sym, ◌∙◌}
use lib.ListN.{take}
use mir.Facts.{to_z-of_z}
use borrow.Author.Rules.{rules}
use Rattle.lists.proofs.Heads.{head_after, list_none, list_all}
use Rattle.lists.specs.Entries.{instances_most}
use Rattle.instances.proofs.Runs.{next_of, none_of, outside}
use Rattle.instances.proofs.Listings.{entries_for, entries_none, entries_take, entries_skip}
use Rattle.instances.proofs.Picked.{picked_none, picked_skip, picked_full, picked_take, picked_done, picked_size, picked_few}
use Rattle.instances.proofs.Picked.{entries_counted, listing_first, listing_room, listing_next, listing_all}
use Rattle.instances.proofs.run.Run.put_listed.Goals as goal
use Rattle.instances.proofs.run.Run.put_listed.Goals.{else-is_chosen, then-is_chosen+else-len-lt-INSTANCESMOST, then-is_chosen+then-len-lt-INSTANCESMOST}

pub loop-i-init : goal.loop-i-init
loop-i-init c = rw c.none-places.ensures (picked_none _ _)

pub loop-i-preserved : goal.loop-i-preserved
loop-i-preserved c =
    let l = c.loop-i in
    let a = c.args in
    let on = next_of c.instances-held.result.now l.i outside (omega arith) in
    let test = sym c.is_chosen.ensures in
    elim c.if-is_chosen.branch [
      | then-is_chosen+then-len-lt-INSTANCESMOST v ↦ let takes = entries_take a.p.numbers a.sel _ _ _ on (test ∙ v.if-is_chosen.true) in
          rw (v.places-is, v.size-is, v.push.ensures)
          (picked_take _ _ l.invariant _ _ _ (omega (arith, v.len.ensures, v.if-len-lt-INSTANCESMOST.true)) takes refl (rw v.served_number-served.ensures at v.listed_size-size.ensures.0) v.listed_size-size.ensures.1)
      | then-is_chosen+else-len-lt-INSTANCESMOST v ↦ rw (v.places-is, v.size-is) (picked_full _ _ l.invariant _ (omega (arith, v.len.ensures, v.if-len-lt-INSTANCESMOST.false)))
      | else-is_chosen v ↦ let skips = entries_skip a.p.numbers a.sel _ _ _ on (test ∙ v.if-is_chosen.false) in
          rw (v.places-is, v.size-is) (picked_skip _ _ l.invariant _ skips)
    ]

pub returns-then-at-eq0 : goal.returns-then-at-eq0
returns-then-at-eq0 c =
    let l = c.loop-i in
    let a = c.args in
    let none = entries_none a.p.numbers a.sel _ (none_of c.instances-held.result.now l.i (omega arith)) in
    let es = take instances_most (entries_for a.p.numbers a.sel c.instances-held.result.now) in
    let head = rw (to_z-of_z c.ranges.identifier) at c.put_list_head-at.ensures in
    rw (← c.instances-held.ensures.held, entries_counted es)
    (list_none a.identifier es (picked_size _ _ l.invariant none) (picked_few _ _ l.invariant) head c.if-at-eq0.true)

pub loop-place-init : goal.loop-place-init
loop-place-init c =
    let l = c.loop-i in
    let a = c.args in
    let none = entries_none a.p.numbers a.sel _ (none_of c.instances-held.result.now l.i (omega arith)) in
    let es = take instances_most (entries_for a.p.numbers a.sel c.instances-held.result.now) in
    let head = rw (to_z-of_z c.ranges.identifier) at c.put_list_head-at.ensures in
    let fits = head_after a.identifier es (picked_size _ _ l.invariant none) (picked_few _ _ l.invariant) head c.if-at-eq0.false in
    (refl, rw c.as_slice-place-items.ensures (listing_first _ _ _ fits l.invariant.sum))

pub write_listed-at-requires : goal.write_listed-at-requires
write_listed-at-requires c =
    rw c.served_number-served-in-loop-place.ensures (listing_room _ _ _ c.loop-place.invariant.1 c.loop-place-test.true)

pub loop-place-preserved : goal.loop-place-preserved
loop-place-preserved c =
    let one = rw c.served_number-served-in-loop-place.ensures at c.write_listed-at.ensures in
    (search rules, listing_next _ _ _ c.loop-place.invariant.1 c.loop-place-test.true one)

pub returns : goal.returns
returns c =
    let l = c.loop-i in
    let a = c.args in
    let none = entries_none a.p.numbers a.sel _ (none_of c.instances-held.result.now l.i (omega arith)) in
    let es = take instances_most (entries_for a.p.numbers a.sel c.instances-held.result.now) in
    let head = rw (to_z-of_z c.ranges.identifier) at c.put_list_head-at.ensures in
    let all = rw c.as_slice-place-items.ensures at (listing_all _ _ _ c.loop-place.invariant.1 (omega arith)) in
    rw (← c.instances-held.ensures.held, entries_counted es)
    (list_all a.identifier es (picked_size _ _ l.invariant none) (picked_few _ _ l.invariant) head c.if-at-eq0.false (rw (picked_done _ _ l.invariant none) at all))
