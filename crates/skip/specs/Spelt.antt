-- How elements may be spelt that are skipped: one after the other, and one within the other to a depth (document 01, "Reading a
-- component").
use Rattle.std.specs.Prelude.{ℕ, zero, suc, ◌/◌, ◌%◌, ◌≡◌, List, [], ◌++◌}
use Rattle.octets.specs.Spelt.{Spells}

-- octets that stand one after the other, each such as P says
pub data Run (P : List ℕ → Type 0) : List ℕ → Type 0 where
  none : Run P []
  more : {ws vs : List ℕ} → P ws → Run P vs → Run P (ws ++ vs)

-- an element; if it is constructed, its contents are such as `inside` says, and "A primitive one's contents aren't read"
pub record SkipSpelt (inside : List ℕ → Type 0) (ws : List ℕ) : Type 0 where
  pub tag : ℕ
  pub contents : List ℕ
  pub low : tag % 32 ≡ 31 → ⊥
  pub spells : Spells tag contents ws
  pub holds : tag / 32 % 2 ≡ 1 → inside contents

-- an element that goes at most `depth` elements deep, itself counted
abbrev pub Skippable : ℕ → List ℕ → Type 0
Skippable zero ws = ⊥
Skippable (suc depth) ws = SkipSpelt (Run (Skippable depth)) ws
