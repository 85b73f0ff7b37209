use mathlib.Core.Path.{sym, ap, ◌∙◌}
use Rattle.laws.proofs.Cases.{cases}
use Rattle.octets.specs.Found.{found}
use Rattle.groups.specs.Groups.{groups_at}
use Rattle.groups.proofs.GroupTurns.{told_try, groups_at_empty, groups_at_first, groups_at_open, groups_at_zero, groups_at_large, groups_at_ends}
use Rattle.groups.proofs.groups.groups_at.Goals as goal
use Rattle.groups.proofs.groups.groups_at.Goals.{then-s-end-via-then-s-end, then-s-end-via-else-s-end+then-end-at}

pub returns-then-s-end : goal.returns-then-s-end
unfolding groups_at
returns-then-s-end c =
    elim c.then-s-end.branch [
      | then-s-end-via-then-s-end w ↦ search cases
      | then-s-end-via-else-s-end+then-end-at w ↦ ap found (sym (groups_at_empty _ _ _ w.if-s-end.false w.if-end-at.true))
    ]

pub returns-then-first-lt128 : goal.returns-then-first-lt128
returns-then-first-lt128 c = ap found (sym (groups_at_first _ _ _ c.if-s-end.false c.if-end-at.false c.if-first-lt128.true))

pub returns-in_err-last : goal.returns-in_err-last
returns-in_err-last c =
    c.from_residual.ensures
    ∙ ap found (sym (groups_at_open _ _ _ c.if-s-end.false c.if-end-at.false c.if-first-lt128.false c.in_err-last.ensures))

pub returns-then-top-eq0 : goal.returns-then-top-eq0
returns-then-top-eq0 c =
    ap found
    (sym (groups_at_zero _ _ _ c.if-s-end.false _ c.if-end-at.false c.if-first-lt128.false c.in_ok-last.ensures c.if-top-eq0.true))

pub returns-then-k-gt-GROUPSMOST : goal.returns-then-k-gt-GROUPSMOST
returns-then-k-gt-GROUPSMOST c =
    ap found
    (sym
    (groups_at_large _ _ _ c.if-s-end.false _ c.if-end-at.false c.if-first-lt128.false c.in_ok-last.ensures c.if-top-eq0.false
    c.if-k-gt-GROUPSMOST.true))

pub returns : goal.returns
returns c =
    rw (
      groups_at_ends _ _ _ c.if-s-end.false _ c.if-end-at.false c.if-first-lt128.false c.in_ok-last.ensures c.if-top-eq0.false,
      ← c.groups_value.ensures,
      c.ok-value.ensures.value,
      told_try c.try_from.result c.groups_value.result c.try_from.ensures,
    )
