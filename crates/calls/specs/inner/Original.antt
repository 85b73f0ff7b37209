-- What the private functions of an original number need.
use Rattle.std.specs.Prelude.{ℕ, ◌≡◌, true, List}
use Rattle.numbers.specs.declared.number.Number.{Number}
use Rattle.profile.specs.Access.{access_read}
use Rattle.calls.specs.Call.{call_from, call_good}
use Rattle.calls.specs.Divert.{served_of}

-- a call goes on: neither its profile nor its record breaks a rule, and this is the number that it came for
pub record GoesOn (access s : List ℕ) (served : Number) : Type 0 where
  pub ok : (access_read access).ok ≡ true
  pub good : call_good (access_read access).profile s ≡ true
  pub redirecting : served ≡ served_of (access_read access).profile (call_from s)
