-- Each promise of the crate exchange admits one answer, and one lent output afterwards. Assumes nothing.
use Prim.Native.Nat.{ℕ}
use mathlib.Core.Path.{◌≡◌, ap, ◌∙◌}
use mathlib.Core.Bool.{Bool}
use mathlib.Core.List.{List}
use Rattle.std.specs.Prelude.{Result}
use Rattle.laws.proofs.Picks.{both}
use Rattle.profile.specs.declared.profile.Profile.{Profile}
use Rattle.refusals.specs.declared.refusal.Refusal.{Refusal}
use Rattle.exchange.specs.Table.{FreshTable, TableGood}
use Rattle.exchange.specs.Arrive.{Arrives}
use Rattle.exchange.specs.declared.table.Table.{Table}
use Rattle.exchange.specs.declared.arrive.Answered.{Answered}
use Rattle.exchange.specs.declared.arrive.Arrived.{Arrived}
use Rattle.exchange.proofs.Arrivings.{arriving_same}

pub only_fresh_table : {a b : Table} → FreshTable a → FreshTable b → a ≡ b
only_fresh_table = both

pub only_exchange_good : (p : Profile) (t : Table) {a b : Bool} → TableGood p t a → TableGood p t b → a ≡ b
only_exchange_good p t = both

abbrev arrived_of : Table → Result Answered Refusal → Arrived
arrived_of table outcome = record { table = table; outcome = outcome }

-- an answer is its parts
arrived_same : (r q : Arrived) → r.table ≡ q.table → r.outcome ≡ q.outcome → r ≡ q
arrived_same r q table outcome =
    ap (λ (t : Table). arrived_of t r.outcome) table ∙ ap (arrived_of q.table) outcome

pub only_arrive :
    (access : List ℕ) (t : Table) (s xs : List ℕ) {r q : Arrived} {ys zs : List ℕ} → Arrives access t s xs r ys →
    Arrives access t s xs q zs →
    (r ≡ q) × (ys ≡ zs)
only_arrive access t s xs {r} {q} a b = (
  arrived_same r q
      (both a.table b.table)
      (arriving_same r.outcome q.outcome (both a.told b.told) (both a.count b.count)),
  both a.lent b.lent,
)
