-- Digits that begin with a special prefix (document 01, "Replies, in the order checked").
use Rattle.std.specs.Prelude.{ℕ, Bool, true, false, List, [], ◌∷◌, take, eqb}
use Rattle.laws.specs.Tests.{all, any}
use Rattle.profile.specs.declared.profile.Prefix.{Prefix}

-- "digits begin with a special prefix"
unfoldable pub begins : List ℕ → List ℕ → Bool
begins [] cs = true
begins (d ∷ ds) [] = false
begins (d ∷ ds) (c ∷ cs) = all (eqb d c ∷ begins ds cs ∷ [])

unfoldable pub begins_any : List Prefix → List ℕ → Bool
begins_any [] cs = false
begins_any (f ∷ fs) cs = any (begins (take f.count f.digits) cs ∷ begins_any fs cs ∷ [])
