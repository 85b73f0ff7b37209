-- What a request that is judged does to the registrations of a grid, place by place (document 01, "Replies, in the order checked"):
-- an activation is all or nothing, a deactivation fails exactly if there is nothing to remove, an interrogation lists exactly what is
-- active. Assumes nothing.
use Prim.Native.Nat.{◌<◌, ℕ}
use mathlib.Core.Bool.{Bool, false, true}
use mathlib.Core.List.{map}
use mathlib.Core.Option.{Option, none, some}
use mathlib.Core.Path.{◌∙◌, ◌≡◌, ap, refl, sym}
use native.Mathlib.Omega.{arith}
use lib.Dec.{eqb}
use lib.IntN.{ℤ}
use lib.ListN.{get_or, length}
use borrow.Author.Tests.{eqb-true, ne_eqb}
use Rattle.laws.specs.Pick.{pick}
use Rattle.laws.specs.Places.{places_where}
use Rattle.laws.proofs.Chosen.{places_same}
use Rattle.codes.specs.Codes.{activation, deactivation, interrogation}
use Rattle.numbers.specs.Address.{tidy_address}
use Rattle.numbers.specs.declared.address.Address.{Address}
use Rattle.requests.specs.declared.request.Request.{Request}
use Rattle.profile.specs.Profile.{profile_good, services_most}
use Rattle.profile.specs.declared.profile.Profile.{Profile}
use Rattle.profile.proofs.Profiles.{good_profile}
use Rattle.lists.specs.Entries.{instances_most}
use Rattle.answers.specs.Answer.{answer_no, answer_values}
use Rattle.answers.specs.declared.answer.Answer.{Answer}
use Rattle.answers.specs.declared.answer.Answer.TheVariants.{Error, Listing, Result}
use Rattle.rules.specs.Judge.{every_tests, first_error}
use Rattle.grid.specs.Grid.{Grid, GridShaped, grid_procedures, row_at}
use Rattle.grid.specs.Judge.{grid_applied, grid_judge}
use Rattle.grid.specs.Row.{Row, active, entry_of_place, grid_selected, held, places}
use Rattle.grid.specs.Selection.{cell_places, grid_concerns, grid_selects}
use Rattle.grid.specs.Step.{GridStep, grid_asks, grid_result, grid_verdict}
use Rattle.grid.specs.Table.{GridTable, grid_with_row}
use Rattle.grid.proofs.Cells.{both_at}
use Rattle.grid.proofs.HandledRequests.{grid_changed}
use Rattle.grid.proofs.Judges.{applied_activation, applied_deactivation, fails_none, none_fails}
use Rattle.grid.proofs.Listings.{active_none, entries_places, none_active}
use Rattle.grid.proofs.Rows.{held_clear, held_put}
use Rattle.grid.proofs.Selections.{selected_selects}
use Rattle.grid.proofs.Shapes.{row_set}
use Rattle.grid.proofs.Tables.{moved_grid}

pick_each :
    (j : ℕ) (b : Bool) (x y : Row) {u v : Option Address} → (b ≡ true → held x j ≡ u) → (b ≡ false → held y j ≡ v) →
    held (pick b x y) j ≡ pick b u v
pick_each j true x y f g = f refl
pick_each j false x y f g = g refl

module _ (p : Profile) (t : GridTable) (identifier : ℤ) (r : Request) where
  abbrev row : Row
  row = row_at t.grid r.procedure

  -- every place that the request selects holds `now`, and every other place what it held
  pub Everywhere : Option Address → Grid → Type 0
  Everywhere now grid =
      (k j : ℕ) → k < grid_procedures → j < places →
      held (row_at grid k) j
      ≡ pick (grid_concerns r k) (pick (grid_selects p r j) now (held (row_at t.grid k) j)) (held (row_at t.grid k) j)

  -- a result, and all is done; or an error, and nothing is
  pub data GridAllOrNothing (now : Option Address) (x : GridStep) : Type 0 where
    all : x.answer ≡ Result identifier → Everywhere now x.next.grid → GridAllOrNothing now x
    nothing : (e : ℕ) → x.answer ≡ Error identifier e → x.next.grid ≡ t.grid → GridAllOrNothing now x

  -- the answer tells the verdict
  verdict_46 :
      (v : Option ℕ) → (grid_verdict p t identifier deactivation r v).answer ≡ Error identifier 46 → v ≡ some 46
  unfolding grid_result
  verdict_46 none h = absurd (omega (arith, ap answer_no h))
  verdict_46 (some e) h = ap some (ap (λ (a : Answer). get_or (answer_values a) 0 0) h)

  module _ (profile : profile_good p ≡ true) (long : length p.services ≡ services_most) (so : GridShaped t.grid)
      (known : r.procedure < grid_procedures) where
    everywhere :
        (now : Option Address) (next : Row) →
        ((j : ℕ) → j < places → held next j ≡ pick (grid_selected (cell_places p r) j) now (held row j)) →
        Everywhere now (grid_with_row r.procedure next t).grid
    unfolding Everywhere
    everywhere now next is k j hk hj =
        rw (row_set t.grid.rows r.procedure k next _ (omega (arith, so.rows)))
        (pick_each j (eqb k r.procedure) next (row_at t.grid k)
        (λ e.
        rw (eqb-true k r.procedure e, ← selected_selects p r (good_profile p profile).rises long j hj) (is j hj))
        (λ _. refl))

    verdict_all :
        (operation : ℕ) (now : Option Address) → (operation ≡ interrogation → ⊥) →
        ((j : ℕ) → j < places → held (grid_applied operation r (cell_places p r) row) j ≡ pick (grid_selected (cell_places p r) j) now
        (held row j)) →
        (v : Option ℕ) → GridAllOrNothing now (grid_verdict p t identifier operation r v)
    unfolding grid_result
    verdict_all operation now asks is none =
        rw (ne_eqb _ _ asks)
        (all refl
        (rw (moved_grid p identifier (grid_changed p t identifier operation r))
        (everywhere now (grid_applied operation r (cell_places p r) row) is)))
    verdict_all operation now asks is (some e) = nothing e refl (moved_grid p identifier t)

    -- "every selected number and service .. gets the address, replacing an older one, all together"
    pub activation_all : GridAllOrNothing (some (tidy_address r.to.address)) (grid_asks p t identifier activation r)
    unfolding grid_asks
    activation_all =
        verdict_all activation (some (tidy_address r.to.address)) (λ e. omega arith)
        (λ j h.
        rw (applied_activation r (cell_places p r) row)
        (held_put (cell_places p r) r.to.address row j (omega (arith, so.cells r.procedure known))))
        (grid_judge instances_most p activation r (cell_places p r) row)

    -- "removes every active selected instance"
    pub deactivation_all : GridAllOrNothing none (grid_asks p t identifier deactivation r)
    unfolding grid_asks
    deactivation_all =
        verdict_all deactivation none (λ e. omega arith)
        (λ j h. rw (applied_deactivation r (cell_places p r) row) (held_clear (cell_places p r) row j))
        (grid_judge instances_most p deactivation r (cell_places p r) row)

    -- "error 46 exactly if there's none": no selected instance was active
    abbrev pub CellsSilent : Type 0
    CellsSilent = (j : ℕ) → j < places → grid_selects p r j ≡ true → active row j ≡ false

    marked : (j : ℕ) → j < places → grid_selected (cell_places p r) j ≡ grid_selects p r j
    marked = selected_selects p r (good_profile p profile).rises long

    module _ (every : first_error (every_tests p r) ≡ none) where
      pub none_46 : CellsSilent → (grid_asks p t identifier deactivation r).answer ≡ Error identifier 46
      unfolding grid_asks
      none_46 silent =
          rw (none_fails instances_most p r (cell_places p r) row every
          (active_none (cell_places p r) row (λ j h chosen. silent j h (sym (marked j h) ∙ chosen))))

      pub only_46 : (grid_asks p t identifier deactivation r).answer ≡ Error identifier 46 → CellsSilent
      unfolding grid_asks
      only_46 failed j h chosen =
          none_active (cell_places p r) row
          (fails_none instances_most p r (cell_places p r) row every
          (verdict_46 (grid_judge instances_most p deactivation r (cell_places p r) row) failed))
          j h (marked j h ∙ chosen)

    -- "every active selected instance, by profile number, then service code. Each carries the profile's own number."
    pub record Lists (x : GridStep) : Type 0 where
      pub answer : x.answer ≡ Listing identifier
      pub entries :
          x.entries
          ≡ map (entry_of_place p r.procedure row) (places_where (λ j. pick (grid_selects p r j) (active row j) false) places)

    pub interrogation_lists :
        grid_judge instances_most p interrogation r (cell_places p r) row ≡ none → Lists (grid_asks p t identifier interrogation r)
    unfolding grid_asks grid_result
    interrogation_lists passes =
        rw passes (record {
          answer = refl;
          entries =
              entries_places (cell_places p r) row p r.procedure
              ∙ ap (map (entry_of_place p r.procedure row))
              (places_same (both_at (cell_places p r) row) (λ j. pick (grid_selects p r j) (active row j) false) places (λ j h.
              ap (λ b. pick b (active row j) false) (marked j h)));
        })
