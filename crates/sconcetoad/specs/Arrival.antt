-- What an arriving component turns a table into, as C is told.
use Rattle.std.specs.Prelude.{ℕ, ◌≡◌, List, length}
use Rattle.laws.specs.Over.{over}
use Rattle.refusals.specs.Refusal.{refusal_in}
use Rattle.exchange.specs.Arrive.{done}
use Rattle.exchange.specs.declared.table.Table.{Table}
use Rattle.sconcetoad.specs.declared.arrival.Arrival.{Arrival}

-- what `sconcetoad_arrive` promises: the refusal, how many octets the reply has, the next table, and every octet of the output
pub record ArrivedBy (access : List ℕ) (t : Table) (s xs : List ℕ) (r : Arrival) (ys : List ℕ) : Type 0 where
  pub refusal : r.refusal ≡ refusal_in (done access t s (length xs)).told
  pub count : r.count ≡ length (done access t s (length xs)).octets
  pub table : r.table ≡ (done access t s (length xs)).table
  pub lent : ys ≡ over xs 0 (done access t s (length xs)).octets
