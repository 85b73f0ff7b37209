-- How far a call is diverted: its counter and the diversion limit (document 01, "Calls"). Assumes nothing.
use Prim.Native.Nat.{ℕ, ◌≤◌, ◌<◌}
use mathlib.Core.Path.{◌≡◌, ap}
use mathlib.Core.Bool.{not}
use mathlib.Core.List.{List}
use mathlib.Core.Option.{Option, none, some}
use native.Mathlib.Omega.{arith}
use lib.Dec.{ltb}
use borrow.Author.Tests.{ltb-true, not-false}
use Rattle.laws.proofs.Picks.{pick_ind}
use Rattle.refusals.specs.Refusal.{refuses, tells, refusal_in}
use Rattle.numbers.specs.declared.address.Address.{Address}
use Rattle.profile.specs.Access.{access_read}
use Rattle.profile.specs.declared.profile.Profile.{Profile}
use Rattle.lists.specs.Entries.{instances_most}
use Rattle.instances.specs.Run.{instances_of}
use Rattle.exchange.specs.Table.{table_good}
use Rattle.exchange.specs.declared.table.Table.{Table}
use Rattle.calls.specs.declared.call.Call.{Call}
use Rattle.calls.specs.Call.{call_from, call_good}
use Rattle.calls.specs.Divert.{passes, applying, onward, Comes, by_instance, by_call, comes}

-- ---- the counter: "one more", and "An instance and counter not below the limit: refusal 6"

instance_counter :
    (p : Profile) (c : Call) (o : Option Address) → (by_instance p c o).call.counter ≤ p.limit
unfolding onward
instance_counter p c none = omega arith
instance_counter p c (some called) =
    pick_ind (λ (x : Comes). x.call.counter ≤ p.limit) (not (ltb c.counter p.limit))
    (λ _. omega arith)
    (λ below. omega (arith, ltb-true c.counter p.limit (not-false _ below)))

-- the counter that goes on never passes the profile's limit
pub counter_most :
    (access : List ℕ) (t : Table) (s : List ℕ) → (comes access t s).call.counter ≤ (access_read access).profile.limit
unfolding comes
counter_most access t s =
    let p : Profile = (access_read access).profile in
    let P : Comes → Type 0 = λ x. x.call.counter ≤ p.limit in
    pick_ind P (not (access_read access).ok) (λ _. omega arith) (λ _.
    pick_ind P (not (table_good instances_most p t)) (λ _. omega arith) (λ _.
    pick_ind P (not (call_good p s)) (λ _. omega arith) (λ _.
    instance_counter p (call_from s) (applying p (instances_of t.run) (call_from s)))))

-- ---- "No instance, or the access not in use: not diverted, whatever the counter"

pub none_passes :
    (p : Profile) (t : Table) (c : Call) → applying p (instances_of t.run) c ≡ none → (by_call p t c).told ≡ tells passes
none_passes p t c h = rw h

-- such a call is never refused 6
pub none_unrefused :
    (access : List ℕ) (t : Table) (s : List ℕ) →
    applying (access_read access).profile (instances_of t.run) (call_from s) ≡ none →
    (comes access t s).told ≡ refuses 6 →
    ⊥
unfolding comes
none_unrefused access t s h e =
    let p : Profile = (access_read access).profile in
    let P : Comes → Type 0 = λ x. refusal_in x.told < 6 in
    let low : refusal_in (comes access t s).told < 6 =
    pick_ind P (not (access_read access).ok) (λ _. omega arith) (λ _.
    pick_ind P (not (table_good instances_most p t)) (λ _. omega arith) (λ _.
    pick_ind P (not (call_good p s)) (λ _. omega arith) (λ _.
    rw (none_passes p t (call_from s) h) (omega arith)))) in
    omega (arith, low, ap refusal_in e)
