use Rattle.std.proofs.Common.{◌-◌, ◌≡◌, ◌+◌, ◌*◌}
use Rattle.skip.specs.inner.Skip.{skip_contents}
use Rattle.skip.proofs.skip.+skip_contents_skip_element.Given as goal

-- the depth left falls: twice the depth, and one more for contents, which ask their elements at the same depth
abbrev pub decreases-skip_contents : goal.decreases-skip_contents
decreases-skip_contents l = l.depth * 2 + 1

abbrev pub decreases-skip_element : goal.decreases-skip_element
decreases-skip_element l = l.depth * 2

-- what is left decides
abbrev pub invariant-skip_contents-loop-here : goal.invariant-skip_contents-loop-here
invariant-skip_contents-loop-here l =
    skip_contents l.depth l.s l.at l.end ≡ skip_contents l.depth l.s l.here l.end

abbrev pub decreases-skip_contents-loop-here : goal.decreases-skip_contents-loop-here
decreases-skip_contents-loop-here l = l.end - l.here
