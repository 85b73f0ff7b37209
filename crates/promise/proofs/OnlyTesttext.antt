-- Each promise of the crate text admits one answer, and one lent output afterwards. Assumes nothing.
use Prim.Native.Nat.{ℕ}
use mathlib.Core.Path.{◌≡◌}
use mathlib.Core.Bool.{Bool}
use mathlib.Core.List.{List}
use lib.IntN.{ℤ}
use Rattle.laws.proofs.Picks.{both}
use Rattle.testtext.specs.Hex.{OctetOf, HexCharacter}
use Rattle.testtext.specs.Line.{Find, LastNumber}
use Rattle.testtext.specs.Outside.{AllOutside}
use Rattle.testtext.specs.Signed.{LastIdentifier, WithoutSign}
use Rattle.testtext.specs.Words.{OctetsFrom}

pub only_octet_of : (high low : ℕ) {a b : ℕ} → OctetOf high low a → OctetOf high low b → a ≡ b
only_octet_of high low = both

pub only_hex_character : (n : ℕ) {a b : ℕ} → HexCharacter n a → HexCharacter n b → a ≡ b
only_hex_character n = both

pub only_testtext_find : (s : List ℕ) (at wanted : ℕ) {a b : ℕ} → Find s at wanted a → Find s at wanted b → a ≡ b
only_testtext_find s at wanted p q = both p.is q.is

pub only_last_number : (s : List ℕ) {a b : ℕ} → LastNumber s a → LastNumber s b → a ≡ b
only_last_number s = both

pub only_all_outside :
    (s : List ℕ) (from to octet : ℕ) {a b : Bool} → AllOutside s from to octet a → AllOutside s from to octet b → a ≡ b
only_all_outside s from to octet = both

pub only_last_identifier : (s : List ℕ) {a b : ℤ} → LastIdentifier s a → LastIdentifier s b → a ≡ b
only_last_identifier s = both

pub only_without_sign : (v : ℤ) {a b : ℕ} → WithoutSign v a → WithoutSign v b → a ≡ b
only_without_sign v = both

pub only_octets_from :
    (s : List ℕ) (at : ℕ) (xs : List ℕ) {p q : ℕ} {ys zs : List ℕ} → OctetsFrom s at xs p ys → OctetsFrom s at xs q zs →
    (p ≡ q) × (ys ≡ zs)
only_octets_from s at xs a b = (both a.wrote.moved b.wrote.moved, both a.wrote.holds b.wrote.holds)
