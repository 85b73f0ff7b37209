-- How an element may be spelt that is read: "81 or 82 and one or two octets, also for small values" (document 01, "Reading a
-- component"), so its length may have more octets than it needs. One that is written never has: `element`.
use Rattle.std.specs.Prelude.{ℕ, ◌≤◌, ◌≡◌, true, List, ◌++◌, length}
use Rattle.octets.specs.Element.{length_most, length_holds, head_with}

-- an element whose length has k octets after its first
abbrev pub element_with : ℕ → ℕ → List ℕ → List ℕ
element_with k tag contents = head_with k tag (length contents) ++ contents

-- ws are an element with this tag and these contents, its length perhaps needlessly long
pub record Spells (tag : ℕ) (contents ws : List ℕ) : Type 0 where
  pub k : ℕ
  pub few : k ≤ length_most
  pub holds : length_holds (length contents) k ≡ true
  pub is : ws ≡ element_with k tag contents

-- vs are the shortest: ws are no shorter, and where they are as short they are the same octets
pub record Shortest (vs ws : List ℕ) : Type 0 where
  pub least : length vs ≤ length ws
  pub only : length ws ≡ length vs → ws ≡ vs
