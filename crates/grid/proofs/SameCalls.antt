-- A call comes to the same over a grid and a run that hold the same, and the same original number is handed on (document 02, R-10).
-- Assumes nothing.
use Prim.Native.Nat.{◌<◌, ℕ}
use mathlib.Core.Bool.{false, true}
use mathlib.Core.List.{List}
use mathlib.Core.Logic.{⊎_elim}
use mathlib.Core.Path.{◌∙◌, ◌≡◌, ap, sym}
use native.Mathlib.Omega.{arith}
use lib.Dec.{eqb, ltb}
use borrow.Author.Tests.{eqb-false, eqb-true, lt-ltb, ltb-false, ltb-true}
use Rattle.laws.proofs.Picks.{by_bool}
use Rattle.profile.specs.Access.{access_read}
use Rattle.profile.specs.declared.profile.Profile.{Profile}
use Rattle.lists.specs.Entries.{instances_most}
use Rattle.instances.proofs.Finds.{has_place}
use Rattle.exchange.specs.declared.table.Table.{Table}
use Rattle.calls.specs.Call.{call_from, call_good}
use Rattle.calls.specs.Divert.{Comes, applying, by_instance, comes, procedure_of}
use Rattle.calls.specs.Original.{goes_on, original_in}
use Rattle.calls.specs.declared.call.Call.{Call}
use Rattle.calls.proofs.Comings as run
use Rattle.calls.proofs.HandedOns as handed
use Rattle.calls.proofs.Instances.{applying_used}
use Rattle.calls.proofs.Instances as instances
use Rattle.calls.proofs.Records.{good_call}
use Rattle.calls.proofs.Reasons.{procedure_below}
use Rattle.grid.specs.Calls.{grid_applying, grid_comes, grid_original, grid_place_of_call, grid_slot_of}
use Rattle.grid.specs.Equal.{BothBreak, HoldSame, SameTable}
use Rattle.grid.specs.Grid.{Grid, grid_good, row_at}
use Rattle.grid.specs.Holds.{holds}
use Rattle.grid.specs.Row.{Row, active}
use Rattle.grid.specs.Table.{GridTable}
use Rattle.grid.proofs.Comings.{applying_none, applying_service, applying_some, applying_unused, comes_by, comes_call, comes_profile}
use Rattle.grid.proofs.Comings.{comes_table, original_goes, original_none}
use Rattle.grid.proofs.FoundCells.{found_in, found_holds}
use Rattle.grid.proofs.ProfilePlaces.{WholeProfile, access_whole, has_place_lem, place_has}
use Rattle.grid.proofs.Tables.{good_grid}

-- ---- the instance that applies

module _ (p : Profile) (whole : WholeProfile p) (grid : Grid) (good : grid_good instances_most p grid ≡ true) (c : Call)
    (number : c.number < p.numbercount) where
  abbrev q : ℕ
  q = procedure_of c.event

  abbrev row : Row
  row = row_at grid q

  -- the one in the cell of the call's number and service
  cell_applies : (p.inuse ≡ 0 → ⊥) → grid_applying p grid c ≡ found_in p grid q c.number c.service
  cell_applies used =
      rw (lt-ltb q 3 (procedure_below c.event))
      (by_bool _ (ltb (grid_slot_of p c) p.servicecount)
      (λ (e : ltb (grid_slot_of p c) p.servicecount ≡ true).
      let slot = ltb-true (grid_slot_of p c) p.servicecount e in
      rw (place_has p whole c.number c.service number slot)
      (by_bool _ (active row (grid_place_of_call p c))
      (λ (there : active row (grid_place_of_call p c) ≡ true). applying_some p grid c used slot there ∙ rw there)
      (λ (empty : active row (grid_place_of_call p c) ≡ false). applying_none p grid c used slot empty ∙ rw empty)))
      (λ (e : ltb (grid_slot_of p c) p.servicecount ≡ false).
      let past = ltb-false (grid_slot_of p c) p.servicecount e in
      let nowhere : has_place p c.number c.service ≡ false =
      by_bool (has_place p c.number c.service ≡ false) (has_place p c.number c.service)
      (λ h. absurd (omega (arith, past, (has_place_lem p whole c.number c.service h).slot)))
      (λ h. h) in
      rw nowhere (applying_service p grid c used past)))

  applies_same : grid_applying p grid c ≡ applying p (holds grid) c
  applies_same =
      by_bool (grid_applying p grid c ≡ applying p (holds grid) c) (eqb p.inuse 0)
      (λ e.
      let unused = eqb-true p.inuse 0 e in
      applying_unused p grid c unused ∙ sym (instances.applying_unused p (holds grid) c unused))
      (λ e.
      let used = eqb-false p.inuse 0 e in
      cell_applies used
      ∙ sym (found_holds q c.number c.service instances_most p whole grid good)
      ∙ sym (applying_used p (holds grid) c used))

-- ---- the call

module _ (access : List ℕ) (g : GridTable) (t : Table) (s : List ℕ) (so : SameTable (access_read access).profile g t) where
  abbrev p : Profile
  p = (access_read access).profile

  held_comes : (access_read access).ok ≡ true → HoldSame p g t → grid_comes access g s ≡ comes access t s
  held_comes ok same =
      by_bool (grid_comes access g s ≡ comes access t s) (call_good p s)
      (λ good.
      comes_by access g s ok same.grid_good_lem good
      ∙ ap (by_instance p (call_from s))
      (applies_same p (access_whole access ok) g.grid (good_grid instances_most p g same.grid_good_lem) (call_from s)
      (good_call p s good).number
      ∙ ap (λ is. applying p is (call_from s)) same.held)
      ∙ sym (run.comes_by access t s ok same.run_good_lem good))
      (λ bad. comes_call access g s ok same.grid_good_lem bad ∙ sym (run.comes_call access t s ok same.run_good_lem bad))

  -- diverted alike, not diverted, or refused alike
  pub comes_same : grid_comes access g s ≡ comes access t s
  comes_same =
      by_bool (grid_comes access g s ≡ comes access t s) (access_read access).ok
      (λ ok.
      ⊎_elim (held_comes ok)
      (λ (broken : BothBreak p g t).
      comes_table access g s ok broken.grid_bad ∙ sym (run.comes_table access t s ok broken.run_bad))
      so)
      (λ bad. comes_profile access g s bad ∙ sym (run.comes_profile access t s bad))

  -- with the same original number
  pub original_same : grid_original access g s ≡ original_in access t s
  original_same =
      let same : goes_on (grid_comes access g s).told ≡ goes_on (comes access t s).told = ap (λ (x : Comes). goes_on x.told) comes_same in
      by_bool (grid_original access g s ≡ original_in access t s) (goes_on (comes access t s).told)
      (λ goes. original_goes access g s (same ∙ goes) ∙ sym (handed.original_on access t s goes))
      (λ stays. original_none access g s (same ∙ stays) ∙ sym (run.original_none access t s stays))
