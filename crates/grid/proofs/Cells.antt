-- A cell of a row and what it says of its place: whether an instance is active there, what the row holds, and what a change makes of it.
-- Assumes nothing.
use Prim.Native.Nat.{ℕ}
use mathlib.Core.Bool.{Bool, false, false≢true, not, true}
use mathlib.Core.List.{List, [], ◌∷◌}
use mathlib.Core.Option.{none, some}
use mathlib.Core.Path.{◌≡◌, ap, refl, sym}
use lib.Dec.{eqb}
use borrow.Author.Tests.{eq-eqb, eqb-false, ne_eqb}
use Rattle.laws.specs.Pick.{pick}
use Rattle.laws.proofs.Picks.{not_passed, pick_ind}
use Rattle.numbers.specs.Address.{tidy_address}
use Rattle.numbers.specs.declared.address.Address.{Address}
use Rattle.profile.specs.declared.profile.Profile.{Profile}
use Rattle.lists.specs.declared.entry.Entry.{Entry}
use Rattle.grid.specs.Row.{Cell, Held, Places, Row, active, cell_at, cell_good, cell_of, code_of_place, entry_of_place, grid_selected, held, held_at}
use Rattle.grid.specs.Row.{no_cell}

not_off : (b : Bool) → not b ≡ false → b ≡ true
not_off true h = refl
not_off false h = absurd (false≢true (sym h))

-- a place is active where its cell has a service, and selected where it has a code
pub is_active : (row : Row) (j : ℕ) → ((cell_at row j).service ≡ 0 → ⊥) → active row j ≡ true
unfolding active
is_active row j h = rw (ne_eqb (cell_at row j).service 0 h)

pub not_active : (row : Row) (j : ℕ) → (cell_at row j).service ≡ 0 → active row j ≡ false
unfolding active
not_active row j h = rw (eq-eqb (cell_at row j).service 0 h)

pub is_selected : (w : Places) (j : ℕ) → (code_of_place w j ≡ 0 → ⊥) → grid_selected w j ≡ true
unfolding grid_selected
is_selected w j h = rw (ne_eqb (code_of_place w j) 0 h)

pub not_selected : (w : Places) (j : ℕ) → code_of_place w j ≡ 0 → grid_selected w j ≡ false
unfolding grid_selected
not_selected w j h = rw (eq-eqb (code_of_place w j) 0 h)

-- the places that are active or selected, and those that are both
abbrev pub with_at : Places → Row → ℕ → Bool
with_at w row j = pick (active row j) true (grid_selected w j)

abbrev pub both_at : Places → Row → ℕ → Bool
both_at w row j = pick (grid_selected w j) (active row j) false

-- what putting and clearing make of a cell
abbrev pub put_at : Places → Address → ℕ → Cell → Cell
put_at w address j x = pick (grid_selected w j) (cell_of (code_of_place w j) address) x

abbrev pub clear_at : Places → ℕ → Cell → Cell
clear_at w j x = pick (grid_selected w j) no_cell x

-- whether the cell of a place breaks no rule
abbrev pub good_at : Profile → ℕ → Row → ℕ → Bool
good_at p procedure row j = cell_good p procedure j (cell_at row j)

-- an empty cell breaks none
pub good_none : (p : Profile) (procedure : ℕ) (row : Row) (j : ℕ) → active row j ≡ false → good_at p procedure row j ≡ true
unfolding active cell_good
good_none p procedure row j empty = rw (not_off (eqb (cell_at row j).service 0) empty)

-- the entries of a place
abbrev pub entries_at : Profile → ℕ → Places → Row → ℕ → List Entry
entries_at p procedure w row j = pick (grid_selected w j) (pick (active row j) (entry_of_place p procedure row j ∷ []) []) []

module _ (row : Row) (j : ℕ) where
  -- there is one where one is active, with its address
  pub instance_ok : (held_at row j).ok ≡ active row j
  unfolding held_at
  instance_ok = pick_ind (λ (r : Held). r.ok ≡ active row j) (active row j) (λ e. rw e) (λ e. rw e)

  pub instance_address : active row j ≡ true → (held_at row j).address ≡ (cell_at row j).address
  unfolding held_at
  instance_address h = rw h

  -- the service of an instance that is active is no 0
  pub active_some : active row j ≡ true → (cell_at row j).service ≡ 0 → ⊥
  unfolding active
  active_some h = eqb-false (cell_at row j).service 0 (not_passed (eqb (cell_at row j).service 0) h)

  -- the row holds its address, and nothing where none is active
  pub held_some : active row j ≡ true → held row j ≡ some (tidy_address (cell_at row j).address)
  unfolding held
  held_some h = rw h

  pub held_none : active row j ≡ false → held row j ≡ none
  unfolding held
  held_none h = rw h

  -- both go by the cell alone
  module _ (other : Row) (same : cell_at row j ≡ cell_at other j) where
    pub active_same : active row j ≡ active other j
    unfolding active
    active_same = ap (λ (x : Cell). not (eqb x.service 0)) same

    pub held_same : held row j ≡ held other j
    unfolding held active
    held_same =
        ap (λ (x : Cell). pick (not (eqb x.service 0)) (some (tidy_address x.address)) none) same
