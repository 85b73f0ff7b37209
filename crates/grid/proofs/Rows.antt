-- What a row holds after it was changed, that it still breaks no rule, and its entries: all that others need of a row.
-- Assumes nothing.
use Prim.Native.Nat.{◌<◌, ◌≤◌, ℕ}
use mathlib.Core.Bool.{Bool, false, not, true}
use mathlib.Core.List.{List, [], ◌∷◌}
use mathlib.Core.Logic.{◌⊎◌, inl, inr, ⊎_elim}
use mathlib.Core.Option.{Option, none, some}
use mathlib.Core.Path.{◌∙◌, ◌≡◌, ap, refl, sym}
use native.Mathlib.Omega.{arith}
use lib.Dec.{eqb, leb, ltb}
use lib.ListN.{get_or-eq_default, get_or, length, take}
use lib.Seq.{take_all}
use borrow.Author.Tests.{eq-eqb, eqb-false, eqb-true, le-leb, leb-true, lt-leb, lt-ltb, ltb-false, ltb-true, ne_eqb}
use Rattle.laws.specs.Pick.{pick}
use Rattle.laws.specs.Places.{count_to, every_to}
use Rattle.laws.specs.Tests.{all}
use Rattle.laws.proofs.Chosen.{nothing_counted}
use Rattle.laws.proofs.Picks.{not_passed, pick_else, pick_ind, pick_last}
use Rattle.laws.proofs.Tests.{all_at}
use Rattle.laws.proofs.Walks.{changed_at, changed_past, count_fewer, count_same, every_all, every_at, gathered_few, gathered_ind, length_changed}
use Rattle.numbers.specs.Address.{address_good, tidy_address}
use Rattle.numbers.specs.Number.{number_good}
use Rattle.numbers.specs.declared.address.Address.{Address}
use Rattle.profile.specs.declared.profile.Profile.{Profile}
use Rattle.lists.specs.Entries.{all_good}
use Rattle.lists.specs.declared.entry.Entry.{Entry}
use Rattle.lists.proofs.Goods.{all_both, all_none, all_one, entry_good_lem}
use Rattle.grid.specs.Row.{Cell, Places, Row, active, active_of, cell_at, cell_good, cell_of, clear_in, code_of_place, count_with, entry_of_place}
use Rattle.grid.specs.Row.{grid_entries, grid_selected, held, no_cell, number_of_place, outside, places, put_in, row_good, service_of_place}
use Rattle.grid.proofs.Cells.{both_at, clear_at, entries_at, good_none, good_at, put_at, with_at}

-- ---- a cell that may be changed

abbrev used : Cell → Bool
used x = not (eqb x.service 0)

abbrev held_in : Cell → Option Address
held_in x = pick (used x) (some (tidy_address x.address)) none

module _ (code : ℕ) (address : Address) (x : Cell) where
  used_put :
      (b : Bool) → (b ≡ true → code ≡ 0 → ⊥) → used (pick b (cell_of code address) x) ≡ pick b true (used x)
  used_put true h = rw (ne_eqb code 0 (h refl))
  used_put false h = refl

  held_in_put :
      (b : Bool) → (b ≡ true → code ≡ 0 → ⊥) →
      held_in (pick b (cell_of code address) x) ≡ pick b (some (tidy_address address)) (held_in x)
  held_in_put true h = rw (ne_eqb code 0 (h refl))
  held_in_put false h = refl

used_clear : (x : Cell) (b : Bool) → used (pick b no_cell x) ≡ pick b false (used x)
used_clear x true = refl
used_clear x false = refl

held_in_clear : (x : Cell) (b : Bool) → held_in (pick b no_cell x) ≡ pick b none (held_in x)
held_in_clear x true = refl
held_in_clear x false = refl

-- the code of a place that is selected is no 0
pub selected_code : (w : Places) (j : ℕ) → grid_selected w j ≡ true → code_of_place w j ≡ 0 → ⊥
unfolding grid_selected
selected_code w j h = eqb-false (code_of_place w j) 0 (not_passed (eqb (code_of_place w j) 0) h)

pick_or : (a b : Bool) → pick a true b ≡ pick b true a
pick_or true true = refl
pick_or true false = refl
pick_or false true = refl
pick_or false false = refl

-- ---- how many there are

module _ (w : Places) (row : Row) where
  -- with one at every selected place, and of the selected ones
  pub with_count : count_with w row ≡ count_to (with_at w row) places
  unfolding count_with
  with_count = refl

  pub active_count : active_of w row ≡ count_to (both_at w row) places
  unfolding active_of
  active_count = refl

-- ---- a row that is put

module _ (w : Places) (address : Address) (row : Row) where
  pub cells_put : length (put_in w address row).cells ≡ length row.cells
  unfolding put_in
  cells_put = length_changed (put_at w address) 0 row.cells

  pub cell_put : (j : ℕ) → j < length row.cells → cell_at (put_in w address row) j ≡ put_at w address j (cell_at row j)
  unfolding put_in
  cell_put j h = changed_at (put_at w address) outside row.cells j h

  pub active_put :
      (j : ℕ) → j < length row.cells → active (put_in w address row) j ≡ pick (grid_selected w j) true (active row j)
  unfolding active
  active_put j h =
      ap used (cell_put j h) ∙ used_put (code_of_place w j) address (cell_at row j) (grid_selected w j) (selected_code w j)

  pub held_put :
      (j : ℕ) → j < length row.cells →
      held (put_in w address row) j ≡ pick (grid_selected w j) (some (tidy_address address)) (held row j)
  unfolding held active
  held_put j h =
      ap held_in (cell_put j h) ∙ held_in_put (code_of_place w j) address (cell_at row j) (grid_selected w j) (selected_code w j)

  pub count_put :
      length row.cells ≡ places → count_to (active (put_in w address row)) places ≡ count_with w row
  unfolding count_with
  count_put long =
      count_same (active (put_in w address row)) (with_at w row) places (λ j h.
      active_put j (omega arith) ∙ pick_or (grid_selected w j) (active row j))

-- ---- a row that is cleared

pub pick_same : {A : Type 0} (b : Bool) (x : A) → x ≡ pick b x x
pick_same true x = refl
pick_same false x = refl

here_or_past : (j n : ℕ) → (j < n) ⊎ (n ≤ j)
here_or_past j n =
    pick_ind (λ (_ : Bool). (j < n) ⊎ (n ≤ j)) (ltb j n) {x = true} {y = true}
    (λ e. inl (ltb-true j n e))
    (λ e. inr (ltb-false j n e))

module _ (w : Places) (row : Row) where
  pub cells_clear : length (clear_in w row).cells ≡ length row.cells
  unfolding clear_in
  cells_clear = length_changed (clear_at w) 0 row.cells

  -- the cell of a place is cleared where that is selected; past the array there is nothing to clear
  pub cell_clear :
      (j : ℕ) →
      (cell_at (clear_in w row) j ≡ clear_at w j (cell_at row j)) ⊎
      ((cell_at (clear_in w row) j ≡ outside) × (cell_at row j ≡ outside))
  unfolding clear_in
  cell_clear j =
      ⊎_elim
      (λ here. inl (changed_at (clear_at w) outside row.cells j here))
      (λ past. inr (changed_past (clear_at w) outside row.cells j past, get_or-eq_default row.cells outside past))
      (here_or_past j (length row.cells))

  pub active_clear : (j : ℕ) → active (clear_in w row) j ≡ pick (grid_selected w j) false (active row j)
  unfolding active
  active_clear j =
      ⊎_elim
      (λ e. ap used e ∙ used_clear (cell_at row j) (grid_selected w j))
      (λ e. rw (e.0, e.1) (pick_same (grid_selected w j) false))
      (cell_clear j)

  pub held_clear : (j : ℕ) → held (clear_in w row) j ≡ pick (grid_selected w j) none (held row j)
  unfolding held active
  held_clear j =
      ⊎_elim
      (λ e. ap held_in e ∙ held_in_clear (cell_at row j) (grid_selected w j))
      (λ e. rw (e.0, e.1) (pick_same (grid_selected w j) none))
      (cell_clear j)

-- ---- rows that break no rule

-- an instance of a subscribed procedure and service, for a number of the profile, with a good address
pub cell_good_lem :
    (p : Profile) (procedure j code : ℕ) (address : Address) → get_or p.subscribed procedure 0 ≡ 1 →
    number_of_place j < p.numbercount →
    service_of_place j < p.servicecount →
    code ≡ get_or p.services (service_of_place j) 0 →
    address_good address ≡ true →
    cell_good p procedure j (cell_of code address) ≡ true
unfolding cell_good
cell_good_lem p procedure j code address subscribed number slot service good =
    pick_ind (λ t. t ≡ true) (eqb code 0) (λ _. refl) (λ _.
    rw (eq-eqb _ _ subscribed, lt-ltb _ _ number, lt-ltb _ _ slot, eq-eqb _ _ service, good))

module _ (limit : ℕ) (p : Profile) (procedure : ℕ) where
  pub good_cells : (row : Row) → row_good limit p procedure row ≡ true → (j : ℕ) → j < places → cell_good p procedure j (cell_at row j) ≡ true
  unfolding row_good
  good_cells row good j h =
      every_at (good_at p procedure row) places j h
      (all_at (every_to (good_at p procedure row) places ∷ leb (count_to (active row) places) limit ∷ []) 0 good)

  pub good_few : (row : Row) → row_good limit p procedure row ≡ true → count_to (active row) places ≤ limit
  unfolding row_good
  good_few row good =
      leb-true (count_to (active row) places) limit
      (all_at (every_to (good_at p procedure row) places ∷ leb (count_to (active row) places) limit ∷ []) 1 good)

  pub good_row :
      (row : Row) → ((j : ℕ) → j < places → cell_good p procedure j (cell_at row j) ≡ true) → count_to (active row) places ≤ limit →
      row_good limit p procedure row ≡ true
  unfolding row_good
  good_row row cells few =
      rw (every_all (good_at p procedure row) places cells, le-leb (count_to (active row) places) limit few)

  -- by how many instances there are: a row without one breaks no rule
  pub row_none : (row : Row) → count_to (active row) places ≡ 0 → row_good limit p procedure row ≡ true
  row_none row empty =
      good_row row (λ j h. good_none p procedure row j (nothing_counted (active row) places empty j h)) (omega (arith, empty))

  pub row_many : (row : Row) → limit < count_to (active row) places → row_good limit p procedure row ≡ false
  unfolding row_good
  row_many row many =
      rw (lt-leb (count_to (active row) places) limit many)
      (pick_ind (λ t. t ≡ false) (every_to (good_at p procedure row) places) (λ _. refl) (λ _. refl))

  pub row_few :
      (row : Row) → count_to (active row) places ≤ limit → row_good limit p procedure row ≡ every_to (good_at p procedure row) places
  unfolding row_good
  row_few row few =
      rw (le-leb (count_to (active row) places) limit few) (pick_last (every_to (good_at p procedure row) places))

  pub good_put :
      (w : Places) (address : Address) (row : Row) → row_good limit p procedure row ≡ true → length row.cells ≡ places →
      ((j : ℕ) → j < places → grid_selected w j ≡ true → cell_good p procedure j (cell_of (code_of_place w j) address) ≡ true) →
      count_with w row ≤ limit →
      row_good limit p procedure (put_in w address row) ≡ true
  good_put w address row good long right few =
      good_row (put_in w address row)
      (λ j h.
      rw (cell_put w address row j (omega arith))
      (pick_ind (λ x. cell_good p procedure j x ≡ true) (grid_selected w j) (right j h) (λ _. good_cells row good j h)))
      (omega (arith, count_put w address row long))

  pub good_clear : (w : Places) (row : Row) → row_good limit p procedure row ≡ true → row_good limit p procedure (clear_in w row) ≡ true
  unfolding cell_good
  good_clear w row good =
      good_row (clear_in w row)
      (λ j h.
      ⊎_elim
      (λ e. rw e (pick_ind (λ x. cell_good p procedure j x ≡ true) (grid_selected w j) (λ _. refl) (λ _. good_cells row good j h)))
      (λ e. rw e.0)
      (cell_clear w row j))
      (omega (
        arith,
        good_few row good,
        count_fewer (active (clear_in w row)) (active row) places (λ j h e.
            (pick_else (grid_selected w j) (active row j) (sym (active_clear w row j) ∙ e)).1),
      ))

-- ---- the entries of a row

at_most_one : (a b : Bool) (e : Entry) → length (pick a (pick b (e ∷ []) []) []) ≤ pick b 1 0
at_most_one true true e = omega arith
at_most_one true false e = omega arith
at_most_one false b e = omega arith

module _ (p : Profile) (procedure : ℕ) (w : Places) (row : Row) where
  -- no more than there are instances
  pub entries_few : length (grid_entries p procedure w row) ≤ count_to (active row) places
  unfolding grid_entries
  entries_few =
      gathered_few (entries_at p procedure w row) (active row) places (λ j h.
      at_most_one (grid_selected w j) (active row j) (entry_of_place p procedure row j))

  -- so a row that breaks no rule has room for all of them in a list
  pub entries_all :
      (limit : ℕ) → row_good limit p procedure row ≡ true →
      take limit (grid_entries p procedure w row) ≡ grid_entries p procedure w row
  entries_all limit good =
      take_all limit (grid_entries p procedure w row) (omega (arith, entries_few, good_few limit p procedure row good))

-- what the rules say of an instance in the cell of a place
pub record Ruled (p : Profile) (procedure j : ℕ) (x : Cell) : Type 0 where
  pub subscribed : get_or p.subscribed procedure 0 ≡ 1
  pub number : number_of_place j < p.numbercount
  pub slot : service_of_place j < p.servicecount
  pub service : x.service ≡ get_or p.services (service_of_place j) 0
  pub address : address_good x.address ≡ true

cell_rules :
    (p : Profile) (procedure j : ℕ) (x : Cell) → cell_good p procedure j x ≡ true → used x ≡ true → Ruled p procedure j x
unfolding cell_good
cell_rules p procedure j x good there =
    let code : ℕ = get_or p.services (service_of_place j) 0 in
    let number : Bool = ltb (number_of_place j) p.numbercount in
    let slot : Bool = ltb (service_of_place j) p.servicecount in
    let service : Bool = eqb x.service code in
    let tests : List Bool =
    eqb (get_or p.subscribed procedure 0) 1 ∷ number ∷ slot ∷ service ∷ address_good x.address ∷ [] in
    let h : all tests ≡ true =
    rw (not_passed (eqb x.service 0) there, pick_last (all tests)) at good in
    record {
      subscribed = eqb-true (get_or p.subscribed procedure 0) 1 (all_at tests 0 h);
      number = ltb-true (number_of_place j) p.numbercount (all_at tests 1 h);
      slot = ltb-true (service_of_place j) p.servicecount (all_at tests 2 h);
      service = eqb-true x.service code (all_at tests 3 h);
      address = all_at tests 4 h;
    }

pub active_rules :
    (limit : ℕ) (p : Profile) (procedure : ℕ) (row : Row) → row_good limit p procedure row ≡ true → (j : ℕ) → j < places →
    active row j ≡ true →
    Ruled p procedure j (cell_at row j)
unfolding active
active_rules limit p procedure row good j h there =
    cell_rules p procedure j (cell_at row j) (good_cells limit p procedure row good j h) there

-- the entries of a row that breaks no rule read back, where the profile's numbers do
pub entries_good :
    (limit : ℕ) (p : Profile) (procedure : ℕ) (w : Places) (row : Row) → row_good limit p procedure row ≡ true →
    ((k : ℕ) → k < p.numbercount → number_good (get_or p.numbers k (record { form = 0; kind = 0; count = 0; digits = [] })) ≡ true) →
    all_good (grid_entries p procedure w row) ≡ true
unfolding grid_entries entry_of_place
entries_good limit p procedure w row good numbers =
    gathered_ind (λ es. all_good es ≡ true) all_none all_both (entries_at p procedure w row) places (λ j h.
    pick_ind (λ es. all_good es ≡ true) (grid_selected w j)
    (λ _.
    pick_ind (λ es. all_good es ≡ true) (active row j)
    (λ there.
    let rules = active_rules limit p procedure row good j h there in
    all_one (entry_of_place p procedure row j)
    (entry_good_lem (entry_of_place p procedure row j) (numbers (number_of_place j) rules.number) rules.address))
    (λ _. all_none))
    (λ _. all_none))
