use borrow.Author.Rules.{rules}
use native.Mathlib.Omega.{arith}
use mathlib.Core.Path.{◌≡◌}
use lib.ListN.{length, length-take}
use Rattle.laws.proofs.Parts.{unmapped}
use Rattle.profile.specs.Profile.{numbers_most, served_numbers}
use Rattle.profile.proofs.Profiles.{place_most}
use Rattle.end.proofs.list.instance_for.Goals as goal

-- a place is at most the number of served numbers, which are at most 4
pub overflow_cast-result : goal.overflow_cast-result
overflow_cast-result c =
    let a = c.args in
    let long : length a.p.numbers ≡ numbers_most = search (unmapped, rules) in
    let few = place_most a.p a.x.served (served_numbers a.p) in
    omega (arith, few, long, length-take a.p.numbercount a.p.numbers, c.number_place.ensures)

pub returns : goal.returns
returns c = rw c.number_place.ensures
