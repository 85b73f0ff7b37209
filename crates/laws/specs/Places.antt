-- Tests over the places of an array, and arrays by their places.
use Rattle.std.specs.Prelude.{ℕ, zero, suc, ◌+◌, Bool, true, false, List, [], ◌∷◌, ◌++◌}
use Rattle.laws.specs.Pick.{pick}

-- whether every place below n passes the test
unfoldable pub every_to : (ℕ → Bool) → ℕ → Bool
every_to f zero = true
every_to f (suc n) = pick (every_to f n) (f n) false

-- how many places below n pass the test
unfoldable pub count_to : (ℕ → Bool) → ℕ → ℕ
count_to f zero = 0
count_to f (suc n) = count_to f n + pick (f n) 1 0

-- n things, the first that of place `from`
unfoldable pub each_from : {A : Type 0} → (ℕ → A) → ℕ → ℕ → List A
each_from f zero from = []
each_from f (suc n) from = f from ∷ each_from f n (suc from)

-- each thing of an array changed by its place, the first having the place `from`
unfoldable pub changed_from : {A : Type 0} → (ℕ → A → A) → ℕ → List A → List A
changed_from f from [] = []
changed_from f from (x ∷ xs) = f from x ∷ changed_from f (suc from) xs

-- what each place gives, one after the other
unfoldable pub gathered : {A : Type 0} → (ℕ → List A) → ℕ → List A
gathered f zero = []
gathered f (suc n) = gathered f n ++ f n

-- the places below n that pass the test, ascending
abbrev pub places_where : (ℕ → Bool) → ℕ → List ℕ
places_where f = gathered (λ j. pick (f j) (j ∷ []) [])
