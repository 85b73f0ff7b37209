use mathlib.Core.Path.{sym}
use native.Mathlib.Omega.{arith}
use Rattle.octets.proofs.Lengths.{span_fits, span_past}
use Rattle.octets.proofs.head.span_of.Goals as goal

pub returns-then-n-end : goal.returns-then-n-end
returns-then-n-end c = sym (span_fits _ _ _ (omega arith))

pub returns-else-n-end : goal.returns-else-n-end
returns-else-n-end c = sym (span_past _ _ _ (omega arith))
