use Prim.Native.Nat.{◌-◌, ◌^◌}
use native.Mathlib.Omega.{arith}
use lib.IntN.{negsuc}
use mir.Syntax.{w16}
use mir.Val.{SFits}
use mir.Facts.{to_z-of_z, to_z_pos}
use Rattle.values.specs.Ident.{half}
use Rattle.values.proofs.Signs.{minus, twos_low, twos_high}
use Rattle.values.proofs.ident.signed.Goals as goal

pub returns-then-u-all : goal.returns-then-u-all
unfolding half
returns-then-u-all c = let a = c.args in
    rw (twos_low a.w a.u (omega (arith, c.numbers_of-all.ensures.0))) (to_z_pos w16 (omega arith))

pub returns-else-u-all : goal.returns-else-u-all
unfolding half
returns-else-u-all c = let a = c.args in
    let all = c.numbers_of-all.ensures.0 in
    let small : SFits w16 (negsuc (256 ^ a.w - 1 - a.u)) = record { sfits = omega (arith, all) } in
    rw (
      all,
      to_z_pos w16 {n = 256 ^ a.w - 1 - a.u} (omega (arith, all)),
      minus (256 ^ a.w - 1 - a.u),
      twos_high a.w a.u (omega (arith, all)) c.requires.1,
    )
    (to_z-of_z small)
