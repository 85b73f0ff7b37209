-- Octets in hexadecimal, with upper-case letters.
use Rattle.std.specs.Prelude.{ℕ, ◌+◌, ◌*◌, ◌-◌, ◌%◌, ◌≡◌, ltb, leb}
use Rattle.laws.specs.Pick.{pick}

-- what a digit stands for, 0 to 9 (the characters 48 to 57) or A to F (65 to 70); 0 for any other character
unfoldable pub hex_digit : ℕ → ℕ
hex_digit c =
    pick (ltb c 48) 0
    (pick (leb c 57) (c - 48)
    (pick (ltb c 65) 0
    (pick (leb c 70) (c - 65 + 10) 0)))

-- the digit for n % 16
unfoldable pub hex_character : ℕ → ℕ
hex_character n = pick (ltb (n % 16) 10) (48 + n % 16) (65 + (n % 16 - 10))

-- what `octet_of` promises
abbrev pub OctetOf : ℕ → ℕ → ℕ → Type 0
OctetOf high low r = r ≡ hex_digit high * 16 + hex_digit low

-- what `hex_character` promises
abbrev pub HexCharacter : ℕ → ℕ → Type 0
HexCharacter n r = r ≡ hex_character n
