use Rattle.laws.proofs.Parts.{unmapped}
use Rattle.numbers.specs.declared.number.Number.{Number}
use Rattle.profile.proofs.Places.{number_found}
use Rattle.profile.specs.Profile.{numbers_most, same}
use Rattle.std.proofs.Common.{rules, arith, length, take, ◌≡◌, ◌∙◌}
use Rattle.std.proofs.lemmas.Iterator.{YieldsList-from_slice}
use Rattle.std.proofs.lemmas.Iterator.Search.{position_from_yields_List}
use Prim.Native.Nat.{min}
use Rattle.profile.proofs.profile.number_place.Goals as goal

pub returns : goal.returns
returns c =
    let p = c.args.p in
    let n = c.args.n in
    let long : length p.numbers ≡ numbers_most = search (unmapped, rules) in
    let count : c.min-count.result ≡ min p.numbercount numbers_most = omega arith in
    let found = position_from_yields_List (λ (x : Number). same p x n) _ _ c.position.result c.position.ensures.ran (YieldsList-from_slice (take c.min-count.result p.numbers) cc) (λ x b q k. search rules) in
    c.unwrap_or.ensures ∙ rw count (number_found p n p.numbercount numbers_most p.numbers c.position.result long (rw count at found))
