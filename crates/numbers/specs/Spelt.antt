-- How a number and an address may be spelt that is read, and which record each gives (document 01, "Numbers"). Lengths may be
-- needlessly long: `Spells`. What is written is `number_octets` and `address_octets`.
use Rattle.std.specs.Prelude.{ℕ, ◌≡◌, true, List, [], ◌∷◌, ◌++◌, ◌⊎◌, length}
use Rattle.codes.specs.Digits.{type_good}
use Rattle.octets.specs.Spelt.{Spells}
use Rattle.values.specs.Enumerated.{enumerated_tag}
use Rattle.numbers.specs.Number.{unknown, public, other, fair, digits_good, number_of, other_tag}
use Rattle.numbers.specs.Address.{sub_of, user_sub, blank_sub, forwarded_of}
use Rattle.numbers.specs.declared.number.Number.{Number}
use Rattle.numbers.specs.declared.address.Sub.{Sub}
use Rattle.numbers.specs.declared.address.Forwarded.{Forwarded}

-- ---- numbers

-- "unknown form is tag 80 with digits"
pub record UnknownSpelt (n : Number) (ws : List ℕ) : Type 0 where
  pub digits : List ℕ
  pub good : digits_good digits ≡ true
  pub spells : Spells 0x80 digits ws
  pub is : n ≡ number_of unknown 0 digits

-- "public form is tag A1 holding an enumerated type (0, 1, 2, 3, 4 or 6) and a numeric string, tag 12"
pub record PublicSpelt (n : Number) (ws : List ℕ) : Type 0 where
  pub kind : ℕ
  pub digits : List ℕ
  pub type : List ℕ
  pub string : List ℕ
  pub kinds : type_good kind ≡ true
  pub good : digits_good digits ≡ true
  pub first : Spells enumerated_tag (kind ∷ []) type
  pub second : Spells 0x12 digits string
  pub spells : Spells 0xA1 (type ++ string) ws
  pub is : n ≡ number_of public kind digits

-- "Tags 82, 83, 84, A5, 88 are other kinds: whole, contents not read."
pub record OtherSpelt (n : Number) (ws : List ℕ) : Type 0 where
  pub tag : ℕ
  pub contents : List ℕ
  pub kinds : other_tag tag ≡ true
  pub spells : Spells tag contents ws
  pub is : n ≡ number_of other 0 []

-- ws are a number, and n is its record
abbrev pub NumberSpelt : Number → List ℕ → Type 0
NumberSpelt n ws = UnknownSpelt n ws ⊎ (PublicSpelt n ws ⊎ OtherSpelt n ws)

-- ---- addresses

-- "perhaps a subaddress": none
pub record NoneSpelt (sub : Sub) (ws : List ℕ) : Type 0 where
  pub none : ws ≡ []
  pub is : sub ≡ blank_sub

-- "an octet string (tag 04) of 1 to 20"
pub record StringSpelt (sub : Sub) (ws : List ℕ) : Type 0 where
  pub octets : List ℕ
  pub good : fair (length octets) ≡ true
  pub spells : Spells 0x04 octets ws
  pub is : sub ≡ sub_of octets

-- "or a user-specified one (tag 30, contents not read)"
pub record UserSpelt (sub : Sub) (ws : List ℕ) : Type 0 where
  pub contents : List ℕ
  pub spells : Spells 0x30 contents ws
  pub is : sub ≡ user_sub

-- ws are what follows the number in an address, and sub is its record
abbrev pub SubSpelt : Sub → List ℕ → Type 0
SubSpelt sub ws = NoneSpelt sub ws ⊎ (StringSpelt sub ws ⊎ UserSpelt sub ws)

-- "An address is a sequence of a number and perhaps a subaddress": ws are one, and `to` is its record
pub record AddressSpelt (to : Forwarded) (ws : List ℕ) : Type 0 where
  pub number : Number
  pub sub : Sub
  pub first : List ℕ
  pub second : List ℕ
  pub numbers : NumberSpelt number first
  pub subs : SubSpelt sub second
  pub spells : Spells 0x30 (first ++ second) ws
  pub is : to ≡ forwarded_of number sub
