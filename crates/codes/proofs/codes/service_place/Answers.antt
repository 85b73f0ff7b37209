use Rattle.codes.proofs.Tables.{place_found}
use Rattle.codes.specs.Codes.{services}
use Rattle.std.proofs.Common.{rules, tests, eqb, ◌∙◌}
use Rattle.std.proofs.lemmas.Iterator.{YieldsList-from_slice}
use Rattle.std.proofs.lemmas.Iterator.Search.{position_from_yields_List}
use Rattle.codes.proofs.codes.service_place.Goals as goal

pub returns : goal.returns
returns c =
    c.unwrap_or.ensures ∙ place_found c.args.code services c.position.result
    (position_from_yields_List (λ x. eqb x c.args.code) _ _ _ c.position.ensures.ran (YieldsList-from_slice services cc) (λ x b q k. search (rules, tests)))
