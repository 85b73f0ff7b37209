use Rattle.texts.proofs.word.+write_decimal.Given as goal

-- the number falls
abbrev pub decreases-write_decimal : goal.decreases-write_decimal
decreases-write_decimal l = l.n
