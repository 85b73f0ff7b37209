use Rattle.profile.proofs.Profiles.{same_by_ends}
use Rattle.std.proofs.Common.{rules, tests, reverse, ◌≡◌, length, sym, ◌∙◌}
use Rattle.std.proofs.lemmas.Iterator.{YieldsList-from_zip, same_from_all}
use Rattle.std.proofs.lemmas.Iterator.Adapters.{YieldsList-from_rev_slice}
use Rattle.std.proofs.lemmas.List.{length-reverse}
use Rattle.profile.proofs.profile.same_digits.Goals as goal

pub returns : goal.returns
returns c =
    let a = c.args.a.now in
    let b = c.args.b.now in
    let long : length (reverse a) ≡ length (reverse b) = length-reverse a ∙ c.requires ∙ sym (length-reverse b) in
    same_by_ends a b c.all.result
    (same_from_all c.all.new.self _ _ (reverse a) (reverse b) c.all.ensures.ran (YieldsList-from_zip (YieldsList-from_rev_slice a cc) (YieldsList-from_rev_slice b cc)) long
    (λ x q k. search (rules, tests)) (λ x q k. search (rules, tests)))
