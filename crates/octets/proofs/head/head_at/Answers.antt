use Rattle.octets.specs.Head.{head_at}
use Rattle.laws.proofs.Cases.{cases}
use Rattle.octets.proofs.head.head_at.Goals as goal
use Rattle.octets.proofs.head.head_at.Goals.{then-depth-eq0-via-then-depth-eq0, then-depth-eq0-via-else-depth-eq0+then-s-end, then-depth-eq0-via-else-depth-eq0+else-s-end+then-end-at}

pub returns-then-depth-eq0 : goal.returns-then-depth-eq0
unfolding head_at
returns-then-depth-eq0 c =
    elim c.then-depth-eq0.branch [
      | then-depth-eq0-via-then-depth-eq0 w ↦ search cases
      | then-depth-eq0-via-else-depth-eq0+then-s-end w ↦ search cases
      | then-depth-eq0-via-else-depth-eq0+else-s-end+then-end-at w ↦ search cases
    ]

pub returns-then-tag-eq31 : goal.returns-then-tag-eq31
unfolding head_at
returns-then-tag-eq31 c = search cases

pub returns-in_err-start : goal.returns-in_err-start
unfolding head_at
returns-in_err-start c = search (cases, c.from_residual.ensures, ← c.length_at.ensures, c.in_err-start.was)

pub returns : goal.returns
unfolding head_at
returns c = search (cases, ← c.length_at.ensures, c.in_ok-start.was)
