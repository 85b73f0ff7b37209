use Rattle.codes.proofs.Characters.{digits_chunked}
use Rattle.codes.specs.Digits.{all_digits}
use Rattle.std.proofs.Common.{rules, length, ◌/◌, sym, ◌∙◌}
use Rattle.std.proofs.lemmas.Iterator.{YieldsList-from_slice}
use Rattle.std.proofs.lemmas.Iterator.Search.{all_from_yields_List}
use Rattle.codes.proofs.digits.all_digits.Goals as goal

pub returns-then-all : goal.returns-then-all
returns-then-all c =
    let s = c.args.s.now in
    let fours = all_from_yields_List all_digits _ _ c.all.result c.all.ensures.ran (YieldsList-from_slice c.as_chunks.result.0.now cc) (λ x b q k. search rules) in
    rw (digits_chunked 4 (length s / 4) s, ← c.as_chunks.ensures.front, ← c.as_chunks.ensures.back, sym fours ∙ c.if-all.true) c.only_digits.ensures

pub returns-else-all : goal.returns-else-all
returns-else-all c =
    let s = c.args.s.now in
    let fours = all_from_yields_List all_digits _ _ c.all.result c.all.ensures.ran (YieldsList-from_slice c.as_chunks.result.0.now cc) (λ x b q k. search rules) in
    rw (digits_chunked 4 (length s / 4) s, ← c.as_chunks.ensures.front, sym fours ∙ c.if-all.false) c.if-all.false
