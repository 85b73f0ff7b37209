-- The octets that the words of a line are, two digits in hexadecimal each, with a space before.
use Rattle.std.specs.Prelude.{ℕ, zero, suc, ◌+◌, ◌*◌, ◌-◌, ◌/◌, ◌≤◌, List, [], ◌∷◌, ◌++◌, length, get_or, leb}
use Rattle.laws.specs.Pick.{pick}
use Rattle.laws.specs.Over.{Wrote}
use Rattle.testtext.specs.Hex.{hex_digit}

-- the octet of the word whose space stands at i
unfoldable pub word_octet : List ℕ → ℕ → ℕ
word_octet s i = hex_digit (get_or s (i + 1) 0) * 16 + hex_digit (get_or s (i + 2) 0)

-- the octets of n words from `at` on
unfoldable pub octets_of : List ℕ → ℕ → ℕ → List ℕ
octets_of s at zero = []
octets_of s at (suc n) = octets_of s at n ++ (word_octet s (at + 3 * n) ∷ [])

-- how many words there are from `at` on, but no more than `most`
unfoldable pub words_from : List ℕ → ℕ → ℕ → ℕ
words_from s at most = pick (leb most ((length s - at) / 3)) most ((length s - at) / 3)

-- what `octets_from` promises, with the bound that its callers go by
pub record OctetsFrom (s : List ℕ) (at : ℕ) (xs : List ℕ) (r : ℕ) (ys : List ℕ) : Type 0 where
  pub wrote : Wrote xs 0 (octets_of s at (words_from s at (length xs))) r ys
  pub within : r ≤ length xs
