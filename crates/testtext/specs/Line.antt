-- The words of a line, separated by single spaces.
use Rattle.std.specs.Prelude.{ℕ, ◌+◌, ◌*◌, ◌-◌, ◌%◌, ◌≤◌, ◌≡◌, List, [], ◌∷◌, length, get_or, eqb}
use Rattle.laws.specs.Pick.{pick}
use Rattle.laws.specs.Fewest.{fewest_from}
use Rattle.testtext.specs.Hex.{hex_digit}

-- the first place from `at` on that holds `wanted`, or the end
unfoldable pub found_from : List ℕ → ℕ → ℕ → ℕ
found_from s wanted at = fewest_from (λ i. eqb (get_or s i 0) wanted) (length s - at) at

-- what `find` promises, with the bounds that its callers go by
pub record Find (s : List ℕ) (at wanted r : ℕ) : Type 0 where
  pub is : r ≡ found_from s wanted at
  pub from : at ≤ r
  pub within : r ≤ length s + (at - length s)

-- the number of a word that had the number n before the character c; a space begins a new word
unfoldable pub next_number : ℕ → ℕ → ℕ
next_number n c = pick (eqb c 32) 0 ((n * 10 + hex_digit c) % 4294967296)

-- the number of the last word, of a line that had the number n before the characters s
unfoldable pub number_after : ℕ → List ℕ → ℕ
number_after n [] = n
number_after n (c ∷ s) = number_after (next_number n c) s

-- what `last_number` promises
abbrev pub LastNumber : List ℕ → ℕ → Type 0
LastNumber s r = r ≡ number_after 0 s
