use mathlib.Core.Path.{sym}
use native.Mathlib.Omega.{arith}
use Rattle.octets.proofs.Lengths.{span_past}
use Rattle.octets.proofs.head.length_by.Goals as goal

pub returns-then-end-at : goal.returns-then-end-at
returns-then-end-at c = sym (span_past _ _ _ (omega arith))
