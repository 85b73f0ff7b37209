use Rattle.std.proofs.Common.{◌≡◌, ◌-◌, length, take, drop, get_or, ◌∙◌, rules, tests}
use Rattle.std.proofs.lemmas.Iterator.{YieldsList-from_slice}
use Rattle.std.proofs.lemmas.Iterator.Search.{position_from_yields_List}
use Rattle.instances.proofs.Runs.{outside}
use Rattle.end.proofs.Searches.{found_at}
use Rattle.end.proofs.Sorted.{not_below, place_for, settled}
use Rattle.end.proofs.list.settle.Goals as goal

pub returns : goal.returns
returns c =
    let s = c.args.instances.now in
    let x = get_or s 0 outside in
    let others = take (length s - 1) (drop 1 s) in
    let ends : c.unwrap_or-lower.result ≡ place_for x others =
    c.unwrap_or-lower.ensures ∙ found_at (not_below x) others c.position.result
    (position_from_yields_List (not_below x) _ _ _ c.position.ensures.ran (YieldsList-from_slice others cc) (λ y b q k. search (rules, tests, rw c.key.ensures at c.key_of-key.ensures))) in
    settled s outside _ _ c.requires ends c.rotate_left.ensures.after
