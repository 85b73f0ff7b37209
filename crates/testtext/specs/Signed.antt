-- Numbers with a sign.
use Rattle.std.specs.Prelude.{ℕ, ◌+◌, ◌-◌, ◌%◌, ◌≡◌, List, ℤ, pos, negsuc, length, get_or, ltb, eqb}
use Rattle.laws.specs.Pick.{pick}
use Rattle.testtext.specs.Line.{found_from, number_after}

-- the number n with a minus before it
unfoldable pub negated : ℕ → ℤ
negated n = pick (eqb n 0) (pos 0) (negsuc ((n - 1) % 32768))

-- the number n of a line whose first space stands at `at`: with a minus where one (45) follows that space, 0 where nothing does
unfoldable pub signed_by : List ℕ → ℕ → ℕ → ℤ
signed_by s at n =
    pick (ltb (length s - at) 2) (pos 0)
    (pick (eqb (get_or s (at + 1) 0) 45) (negated n) (pos (n % 32768)))

-- what `last_identifier` promises
abbrev pub LastIdentifier : List ℕ → ℤ → Type 0
LastIdentifier s r = r ≡ signed_by s (found_from s 32 0) (number_after 0 s)

-- a number without its sign
unfoldable pub unsigned : ℤ → ℕ
unsigned (pos n) = n
unsigned (negsuc n) = n + 1

-- what `without_sign` promises
abbrev pub WithoutSign : ℤ → ℕ → Type 0
WithoutSign v r = r ≡ unsigned v
