use native.Mathlib.Omega.{arith}
use mir.Facts.{to_z-of_z}
use Rattle.values.specs.Ident.{half}
use Rattle.values.proofs.Signs.{bits_negative, bits_positive}
use Rattle.values.proofs.ident.pattern.Goals as goal

pub overflow_sub-result : goal.overflow_sub-result
unfolding half
overflow_sub-result c = omega (arith, c.numbers_of-all.ensures.0, c.requires.1)

pub overflow_sub-result-then-value-lt0 : goal.overflow_sub-result-then-value-lt0
unfolding half
overflow_sub-result-then-value-lt0 c = omega (arith, c.numbers_of-all.ensures.0, c.requires.1, rw (to_z-of_z c.ranges.value) at c.unsigned-m.ensures)

pub returns-then-value-lt0 : goal.returns-then-value-lt0
unfolding half
returns-then-value-lt0 c = let same = to_z-of_z c.ranges.value in
    let m = rw same at c.unsigned-m.ensures in
    rw (
      bits_negative c.args.w c.args.value (rw same at c.if-value-lt0.true)
          (omega (arith, c.requires.1)),
      m,
      c.numbers_of-all.ensures.0,
    )

pub returns-else-value-lt0 : goal.returns-else-value-lt0
returns-else-value-lt0 c = let same = to_z-of_z c.ranges.value in
    let m = rw same at c.unsigned-m.ensures in
    rw (bits_positive c.args.w c.args.value (rw same at c.if-value-lt0.false), m)
