use Rattle.std.proofs.Common.{rules, nat_eq, length, ◌≤◌}
use native.Mathlib.Omega.{arith}
use borrow.Author.Tests.{tests}
use lib.ListN.{drop_of_length-le}
use Rattle.std.proofs.lemmas.Grind.{common_steps}
use Rattle.std.proofs.lemmas.Iterator.{YieldsList-from_slice}
use Rattle.std.proofs.lemmas.Iterator.Search.{position_from_yields_List}
use Rattle.testtext.proofs.Lines.{found_there, found_rest}
use Rattle.testtext.proofs.line.find.Goals as goal

pub returns-in-Some : goal.returns-in-Some
returns-in-Some c =
    let placed =
    position_from_yields_List (λ x. nat_eq x c.args.wanted) _ _ c.position.result c.position.ensures.ran
    (YieldsList-from_slice _ c.iter.ensures.rest) (λ x b q k. search (rules, tests))
    in
    record {
      is = rw (c.unwrap_or.ensures, placed) (found_rest _ _ _ _ c.in-Some.ensures.lookup.0.2);
      from = omega arith;
      within = grind (arith, common_steps);
    }

pub returns-in-None : goal.returns-in-None
returns-in-None c =
    let past : length c.args.s.now ≤ c.args.at = omega (arith, c.in-None.ensures.lookup.0) in
    record { is = rw (found_there, drop_of_length-le _ past) (omega arith); from = omega arith; within = omega arith }
