-- Which instance applies to a call, as it is looked for. Assumes nothing.
use Rattle.std.specs.Prelude.{Option as Found, None, Some}
use Prim.Native.Nat.{ℕ}
use mathlib.Core.Path.{◌≡◌, refl, sym, ap, ◌∙◌}
use mathlib.Core.List.{List}
use mathlib.Core.Option.{Option, none, some}
use borrow.Author.Tests.{eq-eqb, ne_eqb}
use Rattle.numbers.specs.declared.address.Address.{Address}
use Rattle.profile.specs.declared.profile.Profile.{Profile}
use Rattle.instances.specs.Run.{forwarded_to, found_by}
use Rattle.instances.specs.declared.instance.Instance.{Instance}
use Rattle.calls.specs.declared.call.Call.{Call}
use Rattle.calls.specs.Divert.{procedure_of, applying}

-- ---- what a find tells: no address, or one

tells_none : (o : Option Address) → found_by o ≡ None → o ≡ none
tells_none none h = refl
tells_none (some address) h = absurd (cc)

tells_some : (o : Option Address) (address : Address) → found_by o ≡ Some address → o ≡ some address
tells_some none address h = absurd (cc)
tells_some (some other) address h = let same : other ≡ address = cc in ap (λ (x : Address). some x) same

-- ---- the instance that applies

module _ (p : Profile) (is : List Instance) (c : Call) where
  -- none where the access is not in use
  pub applying_unused : p.inuse ≡ 0 → applying p is c ≡ none
  unfolding applying
  applying_unused h = rw (eq-eqb p.inuse 0 h)

  -- else the one of the event's procedure, the number and the service
  pub applying_used :
      (p.inuse ≡ 0 → ⊥) → applying p is c ≡ forwarded_to (procedure_of c.event) c.number c.service is
  unfolding applying
  applying_used used = rw (ne_eqb p.inuse 0 used)

  -- the same as the code looks for it
  module _
      (used : p.inuse ≡ 0 → ⊥) (procedure : ℕ) (found : Found Address) (event : procedure ≡ procedure_of c.event)
      (is_found : found ≡ found_by (forwarded_to procedure c.number c.service is))
    where
      found_here : found ≡ found_by (applying p is c)
      found_here = is_found ∙ rw (event, applying_used used)

      pub found_none : found ≡ None → applying p is c ≡ none
      found_none h = tells_none (applying p is c) (sym found_here ∙ h)

      pub found_some : (address : Address) → found ≡ Some address → applying p is c ≡ some address
      found_some address h = tells_some (applying p is c) address (sym found_here ∙ h)
