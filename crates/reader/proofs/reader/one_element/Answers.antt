use Rattle.std.proofs.Common.{Some, sym, ◌∙◌}
use Rattle.reader.proofs.Fills.{fills, then_some_pick}
use Rattle.reader.proofs.reader.one_element.Goals as goal

pub returns : goal.returns
returns c =
    let start = c.new-reader.ensures in
    let on = c.next.ensures in
    let head = c.in_ok-head.head in
    let left = c.left.result in
    let first = rw (start.0, start.1) at (sym on.found ∙ c.in_ok-head.was) in
    let rest = rw (on.same, on.moved, start.0, start.1, first) at c.left.ensures in
    fills c.args.depth c.args.s.now (Some head) c.then_some.result left (sym first) rest
    (c.then_some.ensures ∙ then_some_pick left head)
