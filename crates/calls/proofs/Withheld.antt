-- "With resulting option 0 or 1, two good tables that differ only in the digits and subaddress of the applying instance give the
-- same notice, counter and reason" (document 01, "Calls"). Assumes nothing.
use Prim.Native.Nat.{ℕ, ◌<◌}
use mathlib.Core.Path.{◌≡◌, refl, sym, ◌∙◌}
use mathlib.Core.Bool.{Bool, true, false, not}
use mathlib.Core.List.{List, []}
use mathlib.Core.Option.{some}
use native.Mathlib.Omega.{arith}
use lib.Dec.{ltb}
use borrow.Author.Tests.{ne_eqb}
use Rattle.laws.specs.Pick.{pick}
use Rattle.numbers.specs.Number.{number_of}
use Rattle.numbers.specs.declared.address.Address.{Address}
use Rattle.profile.specs.Access.{access_read}
use Rattle.profile.specs.declared.profile.Profile.{Profile}
use Rattle.lists.specs.Entries.{instances_most}
use Rattle.instances.specs.Run.{instances_of}
use Rattle.instances.specs.declared.instance.Instance.{Instance}
use Rattle.exchange.specs.Table.{table_good}
use Rattle.exchange.specs.declared.table.Table.{Table}
use Rattle.calls.specs.Onward.{option_after}
use Rattle.calls.specs.declared.call.Call.{Call}
use Rattle.calls.specs.Call.{call_from, call_good}
use Rattle.calls.specs.Divert.{applying, noticed, onward, Comes, goes, by_instance, comes}

-- what comes of two calls is told alike: the reason and the notice, the counter, and the number of the notice
pub record SameButDigits (x y : Comes) : Type 0 where
  pub told : x.told ≡ y.told
  pub counter : x.call.counter ≡ y.call.counter
  pub noticed : x.call.noticed ≡ y.call.noticed

-- the same test of both
alike_both : (b : Bool) (x y z : Comes) → SameButDigits x y → SameButDigits (pick b z x) (pick b z y)
alike_both true x y z so = record { told = refl; counter = refl; noticed = refl }
alike_both false x y z so = so

-- a notice without number
noticed_none : (option : ℕ) (called : Address) → option < 2 → noticed option called ≡ number_of 0 0 []
unfolding noticed
noticed_none option called low = rw (ne_eqb option 2 (λ e. omega (arith, e)))

module _ (p : Profile) (c : Call) (low : option_after p c < 2) where
  goes_alike : (a b : Address) → SameButDigits (goes p c a) (goes p c b)
  unfolding onward
  goes_alike a b = record {
    told = refl;
    counter = refl;
    noticed = noticed_none (option_after p c) a low ∙ sym (noticed_none (option_after p c) b low);
  }

  -- whatever the two addresses are
  pub instances_alike :
      (is js : List Instance) (a b : Address) → applying p is c ≡ some a → applying p js c ≡ some b →
      SameButDigits (by_instance p c (applying p is c)) (by_instance p c (applying p js c))
  instances_alike is js a b first second = rw (first, second) (alike_both (not (ltb c.counter p.limit)) _ _ _ (goes_alike a b))

-- the same of a call as it comes, for two tables that break no rule
pub digits_withheld :
    (access s : List ℕ) (t u : Table) (a b : Address) →
    option_after (access_read access).profile (call_from s) < 2 →
    table_good instances_most (access_read access).profile t ≡ true →
    table_good instances_most (access_read access).profile u ≡ true →
    applying (access_read access).profile (instances_of t.run) (call_from s) ≡ some a →
    applying (access_read access).profile (instances_of u.run) (call_from s) ≡ some b →
    SameButDigits (comes access t s) (comes access u s)
unfolding comes
digits_withheld access s t u a b low one two first second =
    let p : Profile = (access_read access).profile in
    rw (one, two)
    (alike_both (not (access_read access).ok) _ _ _
    (alike_both (not (call_good p s)) _ _ _
    (instances_alike p (call_from s) low (instances_of t.run) (instances_of u.run) a b first second)))
