use Rattle.rules.proofs.Selections.{number_ignored, number_all, number_one}
use Rattle.profile.specs.Profile.{numbers_most, served_numbers}
use Rattle.profile.proofs.Profiles.{place_most}
use Rattle.laws.proofs.Parts.{unmapped}
use borrow.Author.Rules.{rules}
use native.Mathlib.Omega.{arith}
use lib.ListN.{length, length-take}
use mathlib.Core.Path.{◌≡◌, sym, ◌∙◌}
use Rattle.rules.proofs.selection.number_asked.Goals as goal

pub returns-then-p-eq0 : goal.returns-then-p-eq0
returns-then-p-eq0 c = let s = c.args in sym (number_ignored s.p s.r.served c.if-p-eq0.true)

pub returns-then-r-eq1 : goal.returns-then-r-eq1
returns-then-r-eq1 c =
    let s = c.args in
    sym (number_all s.p s.r.served c.if-p-eq0.false c.if-r-eq1.true)

pub overflow_cast-result : goal.overflow_cast-result
overflow_cast-result c =
    let s = c.args in
    let long : length s.p.numbers ≡ numbers_most = search (unmapped, rules) in
    let few = place_most s.p s.r.served.number (served_numbers s.p) in
    omega (arith, few, long, length-take s.p.numbercount s.p.numbers, c.number_place.ensures)

pub returns : goal.returns
returns c =
    let s = c.args in
    c.number_place.ensures ∙ sym (number_one s.p s.r.served c.if-p-eq0.false c.if-r-eq1.false)
