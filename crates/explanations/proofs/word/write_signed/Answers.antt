use mathlib.Core.Path.{◌∙◌}
use Rattle.texts.proofs.Pens.{pen_then}
use Rattle.explanations.proofs.Words.{signed_negative, signed_positive}
use Rattle.explanations.proofs.word.write_signed.Goals as goal

pub returns-then-v-lt0 : goal.returns-then-v-lt0
returns-then-v-lt0 c =
    rw (signed_negative _ c.ranges.v (c.from-size.ensures ∙ c.unsigned_abs.ensures.value) c.if-v-lt0.true)
    (pen_then c.write_text-p.ensures c.write_decimal.ensures)

pub returns : goal.returns
returns c =
    rw (signed_positive _ c.ranges.v (c.from-size.ensures ∙ c.unsigned_abs.ensures.value) c.if-v-lt0.false)
    c.write_decimal-2.ensures
