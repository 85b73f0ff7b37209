-- "Each procedure is known or in doubt" (document 01, "The customer end"): the mark, and the number by which a record has it. A record that
-- is thrown at the end may have another number there.
use Rattle.std.specs.Prelude.{ℕ}

pub data Mark : Type 0 where
  known doubt : Mark

abbrev pub mark_no : Mark → ℕ
mark_no known = 1
mark_no doubt = 0
