use Rattle.values.proofs.Idents.{fewest_two, length_ident, ident_octets_lem}
use Rattle.values.specs.Ident.{ident_fewest}
use lib.ListN.{length}
use mir.Facts.{to_z-of_z}
use mathlib.Core.Path.{ap}
use native.Mathlib.Omega.{arith}
use Rattle.values.proofs.ident.ident_size.Goals as goal

pub overflow_add-result : goal.overflow_add-result
overflow_add-result c = let z = c.args.value in
    let range = c.ranges.value.sfits in
    let count = rw (to_z-of_z c.ranges.value) at c.ident_fewest.ensures in
    omega (arith, count, fewest_two z range)

pub returns : goal.returns
returns c = let z = c.args.value in
    let range = c.ranges.value.sfits in
    let count = rw (to_z-of_z c.ranges.value) at c.ident_fewest.ensures in
    omega (arith, count, ap length (ident_octets_lem z range), length_ident (ident_fewest z) z)
