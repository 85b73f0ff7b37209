use Rattle.std.proofs.Common.{◌≡◌, ◌-◌, [], length, take, drop, length-drop, refl, sym, ap, ◌∙◌, arith, rules, tests}
use lib.Seq.{take_all}
use Rattle.std.proofs.lemmas.Iterator.{YieldsList-from_slice}
use Rattle.std.proofs.lemmas.Iterator.Search.{position_from_yields_List}
use native.Mathlib.Numerals.{add-one}
use lib.Seq.{drop-cons}
use lib.ListN.{drop_of_length-le}
use Rattle.instances.proofs.Runs.{outside}
use Rattle.instances.specs.Run.{instances_of, packed}
use Rattle.instances.proofs.Keys.{Small}
use Rattle.end.proofs.Packings.{packed_packed, packed_more, added_twice}
use Rattle.end.proofs.Searches.{found_at}
use Rattle.end.proofs.Replaced.{adding_next, adding_done, each_take, owned_small, each_own, later, place, among_others}
use Rattle.end.proofs.picture.replaced_by.Goals as goal

pub loop-x-init : goal.loop-x-init
loop-x-init c = record { held = rw c.add_others.ensures (packed_packed _); comes = refl }

pub loop-x-preserved : goal.loop-x-preserved
loop-x-preserved c =
    let l = c.loop-x in
    let new = c.held-new.result.now in
    adding_next _ _ _ l.invariant _ _ _ (rw (← add-one l.x-index) at (drop-cons new l.x-index outside c.loop-x-test.true)) c.add.ensures

pub returns : goal.returns
returns c =
    let a = c.args in
    let old = c.held-old.result.now in
    let new = c.held-new.result.now in
    -- the octets of the two runs, as the proof of each parameter has them
    let of_old = c.well_formed.0.1.1.1.0 in
    let of_new = c.well_formed.1.1.0.1.1.1.0 in
    let small = each_take Small a.picture.count a.picture.run (owned_small a.picture.run of_old.0 of_old.1.1) in
    let own = each_own a.procedure (instances_of a.list) c.requires (each_take Small a.list.count a.list.run (owned_small a.list.run of_new.0 of_new.1.1)) in
    let at : c.unwrap_or-at.result ≡ place a.procedure old =
    c.unwrap_or-at.ensures ∙ found_at (later a.procedure) old c.position.result
    (position_from_yields_List (later a.procedure) _ _ _ c.position.ensures.ran (YieldsList-from_slice old cc) (λ x b q k. search (rules, tests))) in
    let first = rw c.fresh_run-next.ensures at c.add_others.ensures ∙ packed_more [] _ in
    let second = adding_done _ _ _ c.loop-x.invariant (drop_of_length-le new c.loop-x-test.false) in
    let n = c.unwrap_or-at.result in
    let rest : take (length old - n) (drop n old) ≡ drop n old = take_all (length old - n) (drop n old) (omega (arith, length-drop n old)) in
    let parts = added_twice _ _ _ _ _ _ first second (rw rest at c.add_others-2.ensures) in
    rw (← c.held-new.ensures, ← c.held-old.ensures)
    (rw at at parts ∙ ap packed (sym (among_others a.procedure new (rw (← c.held-new.ensures) at own) old (rw (← c.held-old.ensures) at small))))
