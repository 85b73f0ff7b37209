-- What the writers of a text promise, which stop where the output ends.
use Rattle.std.specs.Prelude.{ℕ, min, ◌+◌, ◌-◌, ◌≡◌, List, length}
use Rattle.laws.specs.Over.{over}
use Rattle.texts.specs.Word.{decimal, procedure_name, kind_text, hex_text, sub_text, ended_by}

-- ys is xs with as much of ws at `at` as there is room for, and `next` is the place after that
pub record Penned (xs : List ℕ) (at : ℕ) (ws : List ℕ) (next : ℕ) (ys : List ℕ) : Type 0 where
  pub moved : next ≡ at + min (length ws) (length xs - at)
  pub holds : ys ≡ over xs at ws

-- what `write_text` promises
abbrev pub WritesText : List ℕ → ℕ → List ℕ → ℕ → List ℕ → Type 0
WritesText xs at ws next ys = Penned xs at ws next ys

-- what `write_decimal` promises
abbrev pub WritesDecimal : List ℕ → ℕ → ℕ → ℕ → List ℕ → Type 0
WritesDecimal xs at n next ys = Penned xs at (decimal n) next ys

-- what `write_procedure` promises, with the blank after the name
abbrev pub WritesProcedure : List ℕ → ℕ → ℕ → ℕ → List ℕ → Type 0
WritesProcedure xs at procedure next ys = Penned xs at (ended_by (procedure_name procedure) 32) next ys

-- what `write_kind` promises, with the blank after the kind
abbrev pub WritesKind : List ℕ → ℕ → ℕ → ℕ → ℕ → List ℕ → Type 0
WritesKind xs at form kind next ys = Penned xs at (ended_by (kind_text form kind) 32) next ys

-- what `write_hex` promises
abbrev pub WritesHex : List ℕ → ℕ → List ℕ → ℕ → List ℕ → Type 0
WritesHex xs at octets next ys = Penned xs at (hex_text octets) next ys

-- what `write_sub` promises of a subaddress of all these octets
abbrev pub WritesSub : List ℕ → ℕ → List ℕ → ℕ → List ℕ → Type 0
WritesSub xs at octets next ys = Penned xs at (sub_text (length octets) octets) next ys
