-- The words that a listing and an explanation share: "procedure, number index, service, u or p with type (p1), digits, subaddress in
-- lowercase hex or -" (document 01, "Samples").
use Rattle.std.specs.Prelude.{ℕ, zero, suc, ◌+◌, ◌/◌, ◌%◌, ◌≡◌, List, [], ◌∷◌, ◌++◌, take, ltb, eqb}
use Rattle.laws.specs.Pick.{pick}
use Rattle.numbers.specs.Number.{unknown}

-- a number in decimal digits, none of them a needless zero: at most k
unfoldable pub decimal_in : ℕ → ℕ → List ℕ
decimal_in zero n = []
decimal_in (suc k) n = pick (ltb n 10) ((48 + n) ∷ []) (decimal_in k (n / 10) ++ ((48 + n % 10) ∷ []))

-- ten digits hold every number of 32 bits
unfoldable pub decimal : ℕ → List ℕ
decimal n = decimal_in 10 n

-- "cfu", "cfb" and "cfnr"
unfoldable pub procedure_name : ℕ → List ℕ
procedure_name procedure =
    pick (eqb procedure 0) (99 ∷ 102 ∷ 117 ∷ [])
    (pick (eqb procedure 1) (99 ∷ 102 ∷ 98 ∷ []) (99 ∷ 102 ∷ 110 ∷ 114 ∷ []))

-- "u or p with type (p1)"
unfoldable pub kind_text : ℕ → ℕ → List ℕ
kind_text form kind = pick (eqb form unknown) (117 ∷ []) (112 ∷ decimal kind)

-- "in lowercase hex": the digit for n % 16, and two digits for an octet
unfoldable pub hex_of : ℕ → ℕ
hex_of n = pick (ltb (n % 16) 10) (48 + n % 16) (87 + n % 16)

-- what `hex_of` promises
abbrev pub HexOf : ℕ → ℕ → Type 0
HexOf n r = r ≡ hex_of n

unfoldable pub hex_text : List ℕ → List ℕ
hex_text [] = []
hex_text (o ∷ os) = hex_of (o / 16) ∷ hex_of o ∷ hex_text os

-- "subaddress in lowercase hex or -"
unfoldable pub sub_text : ℕ → List ℕ → List ℕ
sub_text count sub = pick (eqb count 0) (45 ∷ []) (hex_text (take count sub))

-- a word and the character after it
abbrev pub ended_by : List ℕ → ℕ → List ℕ
ended_by word mark = word ++ (mark ∷ [])
