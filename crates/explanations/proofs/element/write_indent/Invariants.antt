use Rattle.explanations.specs.Elements.{indent}
use Rattle.texts.proofs.Pens.{Going}
use Rattle.explanations.proofs.element.write_indent.Given as goal

abbrev pub invariant-loop : goal.invariant-loop
invariant-loop l = Going l.initial.out l.at (indent l.depth) l.out l.p (indent l.counter)
