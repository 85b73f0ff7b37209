use Rattle.values.proofs.Idents.{fewest_begins}
use Rattle.values.specs.Ident.{ident_holds, half}
use Rattle.laws.proofs.Fewest.{fewest_step, fewest_none}
use borrow.Author.Tests.{lt-ltb, le-ltb}
use lib.Signed.{mag}
use mir.Facts.{to_z-of_z}
use native.Mathlib.Omega.{arith}
use Rattle.values.proofs.ident.ident_fewest.Goals as goal

pub returns-then-m-lt128 : goal.returns-then-m-lt128
unfolding ident_holds half
returns-then-m-lt128 c = let z = c.args.value in
    let m = rw (to_z-of_z c.ranges.value) at c.unsigned-m.ensures in
    rw (fewest_begins z, fewest_step (ident_holds z) 0 1, lt-ltb (mag z) 128 (omega arith))

pub returns-else-m-lt128 : goal.returns-else-m-lt128
unfolding ident_holds half
returns-else-m-lt128 c = let z = c.args.value in
    let m = rw (to_z-of_z c.ranges.value) at c.unsigned-m.ensures in
    rw (fewest_begins z, fewest_step (ident_holds z) 0 1, le-ltb (mag z) 128 (omega arith), fewest_none (ident_holds z) 2)
