use Rattle.laws.proofs.Picks.{pick_last}
use Rattle.numbers.specs.Number.{most}
use Rattle.profile.proofs.Places.{counted}
use Rattle.profile.specs.Profile.{same_number}
use Rattle.std.proofs.Common.{rules, ◌≡◌, length, ◌∙◌, eq-eqb, arith}
use Prim.Native.Nat.{min}
use Rattle.profile.proofs.profile.same_number.Goals as goal

pub returns-then-a-b-3 : goal.returns-then-a-b-3
unfolding same_number
returns-then-a-b-3 c =
    let a = c.args.a in
    let b = c.args.b in
    let same = c.if-a-b-3.true in
    let long : length a.digits ≡ most = search (rules, c.well_formed.0.1) in
    let other : length b.digits ≡ most = search (rules, c.well_formed.1.0.1) in
    let most_count : c.min-count.result ≡ min a.count most = omega arith in
    c.same_digits.ensures
    ∙ rw (
      eq-eqb a.form b.form same.0,
      eq-eqb a.kind b.kind same.1,
      eq-eqb a.count b.count same.2,
      pick_last,
      ← same.2,
      most_count,
      counted a.count most a.digits long,
      counted a.count most b.digits other,
    )
