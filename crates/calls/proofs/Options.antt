-- The option that a diverted call carries on: "the profile's on the first, afterwards the smaller of received and profile's" (document 01,
-- "Calls"). Only `options_most` and the proof of `options_for` look into the profile for it. Assumes nothing.
use Prim.Native.Nat.{ℕ, ◌≤◌}
use mathlib.Core.Path.{◌≡◌}
use mathlib.Core.Bool.{true}
use native.Mathlib.Omega.{arith}
use lib.Dec.{ltb, eqb}
use borrow.Author.Tests.{ne_eqb, ltb-true, ltb-false}
use Rattle.laws.proofs.Picks.{pick_ind}
use Rattle.profile.specs.Profile.{profile_good}
use Rattle.profile.specs.declared.profile.Profile.{Profile}
use Rattle.profile.proofs.Diversions.{option_most}
use Rattle.calls.specs.Onward.{options_of, options_for, option_after}
use Rattle.calls.specs.declared.call.Call.{Call}

-- "notification option 0 to 2", for each number and service of a profile that breaks no rule
pub options_most : (p : Profile) (number service : ℕ) → profile_good p ≡ true → (options_of p number service).option ≤ 2
unfolding options_of
options_most p number service h = option_most p h

module _ (p : Profile) (c : Call) where
  abbrev own : ℕ
  own = (options_for p c).option

  -- what goes on is never above the profile's
  pub option_least : option_after p c ≤ (options_for p c).option
  unfolding option_after
  option_least =
      let P : ℕ → Type 0 = λ k. k ≤ own in
      pick_ind P (eqb c.counter 0) (λ _. omega arith)
      (λ _. pick_ind P (ltb c.option own)
      (λ below. omega (arith, ltb-true c.option own below))
      (λ _. omega arith))

  -- nor above the one received, on a later diversion
  pub option_received : (c.counter ≡ 0 → ⊥) → option_after p c ≤ c.option
  unfolding option_after
  option_received later =
      rw (ne_eqb c.counter 0 later)
      (pick_ind (λ k. k ≤ c.option) (ltb c.option own)
      (λ _. omega arith)
      (λ above. omega (arith, ltb-false c.option own above)))
