use native.Mathlib.Omega.{arith}
use Rattle.values.specs.Ident.{half}
use Rattle.values.proofs.Signs.{twos_low, twos_high}
use Rattle.values.proofs.ident.magnitude.Goals as goal

pub returns-then-u-all : goal.returns-then-u-all
unfolding half
returns-then-u-all c = let a = c.args in
    rw (twos_low a.w a.u (omega (arith, c.numbers_of-all.ensures.0)))

pub returns-else-u-all : goal.returns-else-u-all
unfolding half
returns-else-u-all c = let a = c.args in
    let all = c.numbers_of-all.ensures.0 in
    rw (twos_high a.w a.u (omega (arith, all)) c.requires.1) (omega (arith, all))
