use Rattle.codes.proofs.Searches.{every_tested}
use Rattle.laws.proofs.Cases.{cases}
use Rattle.laws.proofs.Parts.{unmapped}
use Rattle.laws.proofs.Walks.{every_none}
use Rattle.laws.specs.Places.{every_to}
use Rattle.profile.proofs.Profiles.{prefix_fits, prefixes_fair}
use Rattle.profile.specs.Profile.{prefixes_most, prefix_good, prefixes_good, no_prefix}
use Rattle.std.proofs.Common.{rules, arith, length, take, ◌≡◌, ◌∙◌, sym, ap}
use Rattle.std.proofs.lemmas.Iterator.{YieldsList-from_slice}
use Rattle.std.proofs.lemmas.Iterator.Search.{all_from_yields_List}
use Rattle.profile.proofs.profile.prefixes_good.Goals as goal

pub returns-then-count-eq0 : goal.returns-then-count-eq0
returns-then-count-eq0 c =
    let p = c.args.p in
    let e : p.prefixcount ≡ 0 = omega (arith, c.if-count-eq0.true) in
    sym (prefixes_fair p (omega arith) ∙ ap (every_to (prefix_fits p.prefixes)) e ∙ every_none (prefix_fits p.prefixes))

pub returns-then-count-gt-PREFIXES : goal.returns-then-count-gt-PREFIXES
unfolding prefixes_good
returns-then-count-gt-PREFIXES c = search cases

pub returns : goal.returns
returns c =
    let p = c.args.p in
    let long : length p.prefixes ≡ prefixes_most = search (unmapped, rules) in
    let count : c.from-count.result ≡ p.prefixcount = c.from-count.ensures in
    all_from_yields_List prefix_good _ _ _ c.all.ensures.ran (YieldsList-from_slice (take c.from-count.result p.prefixes) cc) (λ x b q k. search rules)
    ∙ rw count
    (sym (prefixes_fair p (omega arith) ∙ every_tested prefix_good no_prefix p.prefixes p.prefixcount (omega arith)))
