-- Tests put together: all of several, any of several, and several in their order, of which the first that holds decides.
use Rattle.std.specs.Prelude.{Bool, true, false, List, [], ◌∷◌}
use Rattle.laws.specs.Pick.{pick}

abbrev pub all : List Bool → Bool
all [] = true
all (b ∷ bs) = pick b (all bs) false

abbrev pub any : List Bool → Bool
any [] = false
any (b ∷ bs) = pick b true (any bs)

-- a test, and the number that it stands for where it holds
pub record Test (A : Type 0) : Type 0 where
  pub holds : Bool
  pub number : A

abbrev pub test : {A : Type 0} → Bool → A → Test A
test holds number = record { holds = holds; number = number }

-- "Lowest number first", "in the order checked": the first test that holds decides; where none does it is `otherwise`
abbrev pub first : {A B : Type 0} → List (Test A) → (A → B) → B → B
first [] decides otherwise = otherwise
first (t ∷ ts) decides otherwise = pick t.holds (decides t.number) (first ts decides otherwise)
