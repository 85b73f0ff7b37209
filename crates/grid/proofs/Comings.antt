-- What comes of a call over a table in the first layout: which instance applies, test by test, and the refusals, lowest first.
-- Assumes nothing.
use Prim.Native.Nat.{◌<◌, ◌≤◌, ℕ}
use mathlib.Core.Bool.{false, true}
use mathlib.Core.List.{List, []}
use mathlib.Core.Option.{none, some}
use mathlib.Core.Path.{◌≡◌}
use borrow.Author.Tests.{eq-eqb, le-leb, lt-leb, ne_eqb}
use Rattle.refusals.specs.declared.refusal.Refusal.TheVariants.{BadCall, BadProfile, BadTable}
use Rattle.profile.specs.Access.{access_read}
use Rattle.profile.specs.declared.profile.Profile.{Profile}
use Rattle.lists.specs.Entries.{instances_most}
use Rattle.calls.specs.Call.{call_from, call_good}
use Rattle.calls.specs.Divert.{call_refused, procedure_of}
use Rattle.calls.specs.Original.{goes_on, handed_on}
use Rattle.calls.specs.declared.call.Call.{Call}
use Rattle.grid.specs.Calls.{grid_applying, grid_by_call, grid_comes, grid_original, grid_place_of_call, grid_slot_of}
use Rattle.grid.specs.Grid.{Grid, row_at}
use Rattle.grid.specs.Row.{Row, active, cell_at}
use Rattle.grid.specs.Table.{GridTable, grid_table_good}

-- ---- which instance applies

module _ (p : Profile) (grid : Grid) (c : Call) where
  abbrev row : Row
  row = row_at grid (procedure_of c.event)

  -- none where the access is not in use
  pub applying_unused : p.inuse ≡ 0 → grid_applying p grid c ≡ none
  unfolding grid_applying
  applying_unused h = rw (eq-eqb p.inuse 0 h)

  module _ (used : p.inuse ≡ 0 → ⊥) where
    -- none where the service is not subscribed
    pub applying_service : p.servicecount ≤ grid_slot_of p c → grid_applying p grid c ≡ none
    unfolding grid_applying
    applying_service h = rw (ne_eqb p.inuse 0 used, le-leb p.servicecount (grid_slot_of p c) h)

    module _ (slot : grid_slot_of p c < p.servicecount) where
      -- what the place holds
      pub applying_none : active row (grid_place_of_call p c) ≡ false → grid_applying p grid c ≡ none
      unfolding grid_applying
      applying_none h = rw (ne_eqb p.inuse 0 used, lt-leb p.servicecount (grid_slot_of p c) slot, h)

      pub applying_some :
          active row (grid_place_of_call p c) ≡ true → grid_applying p grid c ≡ some (cell_at row (grid_place_of_call p c)).address
      unfolding grid_applying
      applying_some h = rw (ne_eqb p.inuse 0 used, lt-leb p.servicecount (grid_slot_of p c) slot, h)

-- ---- the refusals, lowest first

module _ (access : List ℕ) (t : GridTable) (s : List ℕ) where
  pub comes_profile : (access_read access).ok ≡ false → grid_comes access t s ≡ call_refused BadProfile
  unfolding grid_comes
  comes_profile bad = rw bad

  module _ (ok : (access_read access).ok ≡ true) where
    pub comes_table :
        grid_table_good instances_most (access_read access).profile t ≡ false → grid_comes access t s ≡ call_refused BadTable
    unfolding grid_comes
    comes_table bad = rw (ok, bad)

    module _ (table : grid_table_good instances_most (access_read access).profile t ≡ true) where
      pub comes_call : call_good (access_read access).profile s ≡ false → grid_comes access t s ≡ call_refused BadCall
      unfolding grid_comes
      comes_call bad = rw (ok, table, bad)

      pub comes_by :
          call_good (access_read access).profile s ≡ true →
          grid_comes access t s ≡ grid_by_call (access_read access).profile t (call_from s)
      unfolding grid_comes
      comes_by good = rw (ok, table, good)

-- ---- the original number handed on

module _ (access : List ℕ) (t : GridTable) (s : List ℕ) where
  pub original_none : goes_on (grid_comes access t s).told ≡ false → grid_original access t s ≡ []
  unfolding grid_original
  original_none h = rw h

  pub original_goes :
      goes_on (grid_comes access t s).told ≡ true → grid_original access t s ≡ handed_on access s (access_read access).profile (call_from s)
  unfolding grid_original
  original_goes h = rw h
