use borrow.Author.Rules.{rules}
use borrow.Author.Tests.{lt-ltb, le-ltb, ltb-false}
use mathlib.Core.Path.{◌≡◌, sym}
use native.Mathlib.Omega.{arith}
use lib.ListN.{length}
use Rattle.profile.specs.Profile.{numbers_most}
use Rattle.instances.specs.Run.{served_number}
use Rattle.instances.proofs.run.served_number.Goals as goal

pub returns-in-Some : goal.returns-in-Some
unfolding served_number
returns-in-Some c =
    let long : length c.args.numbers.now ≡ numbers_most = search rules in
    let own = c.in-Some.ensures.lookup.3 in
    rw (lt-ltb c.args.number numbers_most (omega (arith, own.0))) (own.1 _)

pub returns-in-None : goal.returns-in-None
unfolding served_number
returns-in-None c =
    let long : length c.args.numbers.now ≡ numbers_most = search rules in
    let past = ltb-false c.args.number (length c.args.numbers.now) (sym c.in-None.ensures.lookup.0) in
    rw (le-ltb c.args.number numbers_most (omega (arith, long, past))) c.blank_number.ensures
