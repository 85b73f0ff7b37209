-- What the private function beside `skip_element` promises.
use Rattle.std.specs.Prelude.{ℕ, ◌-◌, Bool, List}
use Rattle.skip.specs.Skip.{fills, skip_element}

-- whether the octets from `at` up to `end` are such elements; as many as there are octets bound their number
unfoldable pub skip_contents : ℕ → List ℕ → ℕ → ℕ → Bool
skip_contents depth s at end = fills (λ a. skip_element depth s a end) (end - at) at end
