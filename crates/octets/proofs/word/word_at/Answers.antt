use Prim.Native.Nat.{◌+◌}
use native.Mathlib.Omega.{arith}
use Rattle.octets.proofs.Words.{word_none, word_more, word_fits}
use Rattle.octets.proofs.word.word_at.Goals as goal

pub loop-i-init : goal.loop-i-init
loop-i-init c = word_none _ _

pub overflow_mul-n : goal.overflow_mul-n
overflow_mul-n c = omega (arith, c.loop-i.invariant.small, word_fits c.loop-i.i (omega arith))

pub overflow_add-n-in-loop-i : goal.overflow_add-n-in-loop-i
overflow_add-n-in-loop-i c =
    omega (
      arith,
      c.type_inv.s (c.args.at + c.loop-i.i),
      c.loop-i.invariant.small,
      word_fits c.loop-i.i (omega arith),
    )

pub loop-i-preserved : goal.loop-i-preserved
loop-i-preserved c =
    word_more _ _ _ _ c.loop-i.invariant (omega (arith, c.type_inv.s (c.args.at + c.loop-i.i)))
