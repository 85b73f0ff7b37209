use Rattle.codes.proofs.Searches.{all_tested}
use Rattle.profile.proofs.Profiles.{three_flags}
use Rattle.profile.specs.Profile.{flag}
use Rattle.std.proofs.Common.{rules, tests, length, ◌≡◌, ◌∙◌}
use Rattle.std.proofs.lemmas.Iterator.{YieldsList-from_slice}
use Rattle.std.proofs.lemmas.Iterator.Search.{all_from_yields_List}
use Rattle.profile.proofs.profile.subscriptions_good.Goals as goal

pub returns : goal.returns
returns c =
    let flags = c.args.p.subscribed in
    let long : length flags ≡ 3 = search rules in
    all_from_yields_List flag _ _ _ c.all.ensures.ran (YieldsList-from_slice flags cc) (λ x b q k. search (rules, tests))
    ∙ all_tested flag flags ∙ three_flags c.args.p long
