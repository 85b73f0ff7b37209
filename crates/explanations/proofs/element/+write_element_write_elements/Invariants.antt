use Prim.Native.Nat.{◌+◌, ◌-◌, ◌*◌}
use Rattle.explanations.specs.Elements.{lines_in}
use Rattle.texts.proofs.Pens.{Going}
use Rattle.explanations.proofs.element.+write_element_write_elements.Given as goal

-- the depth left falls: twice the depth, and one more for contents, which ask their elements at the same depth
abbrev pub decreases-write_element : goal.decreases-write_element
decreases-write_element l = l.depth * 2

abbrev pub decreases-write_elements : goal.decreases-write_elements
decreases-write_elements l = l.depth * 2 + 1

abbrev pub invariant-write_elements-loop-here : goal.invariant-write_elements-loop-here
invariant-write_elements-loop-here l =
    Going l.initial.out l.p (lines_in l.depth l.s l.at l.end) l.out l.place (lines_in l.depth l.s l.here l.end)

abbrev pub decreases-write_elements-loop-here : goal.decreases-write_elements-loop-here
decreases-write_elements-loop-here l = l.end - l.here
