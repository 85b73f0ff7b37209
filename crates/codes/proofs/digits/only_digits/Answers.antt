use Rattle.codes.proofs.Characters.{digit_is}
use Rattle.codes.proofs.Searches.{all_tested}
use Rattle.codes.specs.Digits.{digit, all_digits}
use Rattle.std.proofs.Common.{rules, ◌∙◌}
use Rattle.std.proofs.lemmas.Iterator.{YieldsList-from_slice}
use Rattle.std.proofs.lemmas.Iterator.Search.{all_from_yields_List}
use Rattle.codes.proofs.digits.only_digits.Goals as goal

pub returns : goal.returns
unfolding all_digits
returns c =
    let s = c.args.s.now in
    all_from_yields_List digit _ _ _ c.all.ensures.ran (YieldsList-from_slice s cc) (λ x b q k. search (rules, digit_is)) ∙ all_tested digit s
