-- Those of a list that pass a test, in order.
use Rattle.std.specs.Prelude.{Bool, List, [], ◌∷◌}
use Rattle.laws.specs.Pick.{pick}

unfoldable pub those : {A : Type 0} → (A → Bool) → List A → List A
those f [] = []
those f (x ∷ xs) = pick (f x) (x ∷ those f xs) (those f xs)
