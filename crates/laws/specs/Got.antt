-- What a reader finds: a thing and the place after it, or nothing of the kind. Readers of parts are put together by `and_then`.
use Rattle.std.specs.Prelude.{ℕ, Bool}
use Rattle.laws.specs.Pick.{pick}

pub data Got (A : Type 0) : Type 0 where
  got : A → ℕ → Got A
  wrong : Got A

-- what is found, and then what `next` makes of it at the place after it
abbrev pub and_then : {A B : Type 0} → Got A → (A → ℕ → Got B) → Got B
and_then (got a place) next = next a place
and_then wrong next = wrong

-- what is found; `otherwise` where it is nothing of the kind
abbrev pub or_else : {A : Type 0} → A → Got A → A
or_else otherwise (got a place) = a
or_else otherwise wrong = otherwise

-- what is found, where the test passes
abbrev pub only_if : {A : Type 0} → Bool → Got A → Got A
only_if passed g = pick passed g wrong
