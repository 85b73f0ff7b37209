-- How many instances of a procedure a grid gives: as many as its row has. Assumes nothing.
use Prim.Native.Nat.{◌+◌, ◌<◌, ◌≤◌, suc, zero, ℕ}
use mathlib.Core.List.{List, [], ◌++◌, ◌∷◌}
use mathlib.Core.Logic.{⊎_elim}
use mathlib.Core.Path.{◌∙◌, ◌≡◌, ap, refl, sym}
use native.Mathlib.Nat.{eq-or-lt_of_le}
use native.Mathlib.Omega.{arith}
use lib.ListN.{length}
use borrow.Author.Tests.{eq-eqb, ne_eqb}
use Rattle.laws.specs.Pick.{pick}
use Rattle.laws.specs.Places.{count_to, gathered}
use Rattle.laws.proofs.Picks.{pick_ind}
use Rattle.laws.proofs.Thoses.{those_none}
use Rattle.laws.proofs.Walks.{count_more, count_none, gathered_ind, gathered_more, gathered_none}
use Rattle.instances.specs.Run.{count_of, is_of}
use Rattle.instances.specs.declared.instance.Instance.{Instance}
use Rattle.instances.proofs.Counts.{count_cons}
use Rattle.grid.specs.Grid.{Grid, grid_procedures, row_at}
use Rattle.grid.specs.Row.{Row, active, places}
use Rattle.grid.specs.Holds.{holds, place_instances, row_instances}
use Rattle.grid.proofs.RowInstances.{row_of, rows_all, rows_to}

count_empty : (q : ℕ) → count_of q [] ≡ 0
count_empty q = ap length (those_none (is_of q) [] refl)

count_single : (q : ℕ) (x : Instance) → count_of q (x ∷ []) ≡ pick (is_of q x) 1 0
count_single q x = omega (arith, count_cons q x [], count_empty q)

count_both : (q : ℕ) (xs ys : List Instance) → count_of q (xs ++ ys) ≡ count_of q xs + count_of q ys
count_both q [] ys = omega (arith, count_empty q)
count_both q (x ∷ xs) ys = omega (arith, count_both q xs ys, count_cons q x xs, count_cons q x (xs ++ ys))

-- ---- a row

own_place : (k : ℕ) (row : Row) (j : ℕ) → count_of k (place_instances k row j) ≡ pick (active row j) 1 0
own_place k row j =
    pick_ind (λ is. count_of k is ≡ pick (active row j) 1 0) (active row j)
    (λ e. count_single k _ ∙ rw (e, eq-eqb k k refl))
    (λ e. count_empty k ∙ rw e)

own_row : (k : ℕ) (row : Row) (n : ℕ) → count_of k (gathered (place_instances k row) n) ≡ count_to (active row) n
own_row k row zero = rw (gathered_none (place_instances k row), count_none (active row)) (count_empty k)
own_row k row (suc n) =
    rw (
      gathered_more (place_instances k row) n,
      count_both k (gathered (place_instances k row) n) (place_instances k row n),
      own_row k row n,
      own_place k row n,
      count_more (active row) n,
    )

none_both : (q : ℕ) (xs ys : List Instance) → count_of q xs ≡ 0 → count_of q ys ≡ 0 → count_of q (xs ++ ys) ≡ 0
none_both q xs ys a b = omega (arith, count_both q xs ys, a, b)

other_row : (q k : ℕ) (row : Row) → (k ≡ q → ⊥) → count_of q (row_instances k row) ≡ 0
other_row q k row other =
    gathered_ind (λ is. count_of q is ≡ 0) (count_empty q) (none_both q) (place_instances k row) places (λ j _.
    pick_ind (λ is. count_of q is ≡ 0) (active row j) (λ _. count_single q _ ∙ rw (ne_eqb k q other)) (λ _. count_empty q))

-- ---- a grid

module _ (grid : Grid) (q : ℕ) where
  later_rows : (n : ℕ) → n ≤ q → count_of q (rows_to grid n) ≡ 0
  later_rows n le =
      gathered_ind (λ is. count_of q is ≡ 0) (count_empty q) (none_both q) (row_of grid) n (λ k lt.
      other_row q k (row_at grid k) (λ e. omega (arith, le, lt, e)))

  earlier_rows : (n : ℕ) → q < n → count_of q (rows_to grid n) ≡ count_to (active (row_at grid q)) places
  earlier_rows zero lt = absurd (omega arith)
  earlier_rows (suc n) lt =
      let parts = ap (count_of q) (gathered_more (row_of grid) n) ∙ count_both q (rows_to grid n) (row_of grid n) in
      ⊎_elim
      (λ (last : q ≡ n).
      let own = ap (λ (k : ℕ). count_of q (row_of grid k)) (sym last) ∙ own_row q (row_at grid q) places in
      omega (arith, parts, later_rows n (omega (arith, last)), own))
      (λ (less : q < n).
      omega (arith, parts, earlier_rows n less, other_row q n (row_at grid n) (λ e. omega (arith, less, e))))
      (eq-or-lt_of_le (omega arith))

  pub procedure_count : q < grid_procedures → count_of q (holds grid) ≡ count_to (active (row_at grid q)) places
  procedure_count lt = rw (rows_all grid) (earlier_rows grid_procedures lt)

  -- there are no other procedures
  pub procedure_none : grid_procedures ≤ q → count_of q (holds grid) ≡ 0
  procedure_none le = rw (rows_all grid) (later_rows grid_procedures le)
