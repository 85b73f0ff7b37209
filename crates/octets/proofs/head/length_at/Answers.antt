use mathlib.Core.Path.{sym, ◌∙◌}
use native.Mathlib.Omega.{arith}
use Rattle.laws.proofs.Cases.{cases}
use Rattle.octets.specs.Head.{length_at}
use Rattle.octets.proofs.Lengths.{length_past, length_by}
use Rattle.octets.proofs.head.length_at.Goals as goal

pub returns-then-end-at : goal.returns-then-end-at
returns-then-end-at c = sym (length_past _ _ _ c.if-end-at.true)

pub returns-in-0-to-127 : goal.returns-in-0-to-127
unfolding length_at
returns-in-0-to-127 c = search (cases, c.span_of.ensures)

pub returns-in-129 : goal.returns-in-129
returns-in-129 c = c.length_by.ensures ∙ sym (length_by 0 _ _ _ (omega arith) c.in-129.is)

pub returns-in-130 : goal.returns-in-130
returns-in-130 c = c.length_by-in-130.ensures ∙ sym (length_by 1 _ _ _ (omega arith) c.in-130.is)

pub returns-in_default : goal.returns-in_default
unfolding length_at
returns-in_default c = search cases
