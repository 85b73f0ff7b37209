use mathlib.Core.Path.{◌≡◌}
use lib.ListN.{length}
use Rattle.laws.proofs.Parts.{unmapped}
use Rattle.profile.specs.Profile.{numbers_most}
use Rattle.instances.proofs.Placings.{places_are}
use borrow.Author.Rules.{rules}
use Rattle.instances.proofs.places.places_of.Goals as goal

pub returns : goal.returns
returns c =
    let a = c.args in
    let numbers = c.stored-numbers in
    let many : length a.p.numbers ≡ numbers_most = search (unmapped, rules) in
    rw (c.places_named.ensures, c.as_slice.ensures, c.services_named-named.ensures) (places_are a.p a.sel numbers.result (rw many numbers.ensures))
