-- What it means that a table breaks no rule. Assumes nothing.
use Prim.Native.Nat.{ℕ, ◌<◌, ◌≤◌}
use mathlib.Core.Path.{◌≡◌, ◌∙◌}
use mathlib.Core.Bool.{true, false}
use native.Mathlib.Omega.{arith}
use lib.Dec.{leb}
use borrow.Author.Tests.{le-leb, lt-leb, leb-true}
use Rattle.laws.proofs.Picks.{pick_last}
use Rattle.laws.proofs.Tests.{both_hold}
use Rattle.profile.specs.declared.profile.Profile.{Profile}
use Rattle.lists.specs.Entries.{instances_most}
use Rattle.instances.specs.Run.{run_good}
use Rattle.instances.proofs.Goods.{empty_good}
use Rattle.exchange.specs.Table.{last_most, fresh_table, table_good}
use Rattle.exchange.specs.declared.table.Table.{Table}

module _ (most : ℕ) (p : Profile) (t : Table) where
  -- a last handled identifier above the most
  pub table_over : last_most < t.last → table_good most p t ≡ false
  unfolding table_good
  table_over lt = rw (lt-leb t.last last_most lt)

  -- where it is not, the instances decide
  pub table_run : t.last ≤ last_most → table_good most p t ≡ run_good most p t.run
  unfolding table_good
  table_run le = rw (le-leb t.last last_most le) (pick_last (run_good most p t.run))

  -- a table that breaks no rule
  pub table_good_lem : table_good most p t ≡ true → (t.last ≤ last_most) × (run_good most p t.run ≡ true)
  unfolding table_good
  table_good_lem good =
      let both = both_hold (leb t.last last_most) (run_good most p t.run) good in
      (leb-true t.last last_most both.0, both.1)

  -- and one that is made
  pub good_table : t.last ≤ last_most → run_good most p t.run ≡ true → table_good most p t ≡ true
  good_table le good = table_run le ∙ good

-- the fresh table breaks no rule of any profile
pub fresh_good : (p : Profile) → table_good instances_most p fresh_table ≡ true
fresh_good p = good_table instances_most p fresh_table (omega arith) (empty_good p)
