use Prim.Native.Nat.{ℕ, ◌≤◌}
use mathlib.Core.Path.{◌≡◌}
use native.Mathlib.Nat.{mul-le-mul}
use native.Mathlib.Omega.{arith}
use lib.ListN.{length, length-take}
use Rattle.laws.proofs.Parts.{unmapped}
use Rattle.profile.specs.Profile.{numbers_most, services_most}
use Rattle.instances.proofs.Placings.{places_counted}
use borrow.Author.Rules.{rules}
use Rattle.instances.proofs.places.places_count.Goals as goal

pub returns : goal.returns
returns c =
    let a = c.args in
    let numbers = c.numbers_named.ensures in
    let few : c.len-many.result ≤ services_most = omega (arith, c.len-many.ensures, c.services_named.result.fits, length-take {A = ℕ}) in
    let many : length a.p.numbers ≡ numbers_most = search (unmapped, rules) in
    (rw (numbers.0, c.len-many.ensures, c.services_named.ensures) (rw many at (places_counted a.p a.sel)), mul-le-mul numbers.1 few)
