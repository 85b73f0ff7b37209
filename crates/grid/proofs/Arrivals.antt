-- What arrives at a table in the first layout: its refusals, lowest first, and its step, whose reply fits the least output.
-- Assumes nothing.
use Prim.Native.Nat.{◌<◌, ◌≤◌, ℕ}
use mathlib.Core.Bool.{false, true}
use mathlib.Core.List.{List}
use mathlib.Core.Option.{Option, none, some}
use mathlib.Core.Path.{◌≡◌, refl}
use native.Mathlib.Omega.{arith}
use lib.Dec.{eqb}
use lib.IntN.{ℤ}
use lib.ListN.{length}
use lib.Signed.{mag}
use borrow.Author.Tests.{le-ltb, lt-ltb}
use Rattle.laws.proofs.Picks.{pick_ind}
use Rattle.refusals.specs.declared.refusal.Refusal.TheVariants.{BadProfile, BadTable, LongComponent, ShortOutput}
use Rattle.codes.specs.Codes.{interrogation}
use Rattle.requests.specs.declared.request.Request.{Request}
use Rattle.profile.specs.Access.{access_read}
use Rattle.profile.specs.Profile.{profile_good}
use Rattle.profile.specs.declared.profile.Profile.{Profile}
use Rattle.profile.proofs.Profiles.{good_profile}
use Rattle.lists.specs.Entries.{all_good, instances_most}
use Rattle.lists.proofs.Goods.{all_none}
use Rattle.answers.proofs.Fits.{EntriesFit}
use Rattle.refusals.specs.Refusal.{output_least, component_most}
use Rattle.grid.specs.Arrive.{grid_answered, grid_done, grid_refused}
use Rattle.grid.specs.Grid.{row_at}
use Rattle.grid.specs.Judge.{grid_judge}
use Rattle.grid.specs.Selection.{cell_places}
use Rattle.grid.specs.Step.{GridStep, grid_asks, grid_result, grid_step, grid_verdict}
use Rattle.grid.specs.Table.{GridTable, grid_table_good}
use Rattle.grid.proofs.Grids.{grid_row}
use Rattle.grid.proofs.Judges.{judge_errors}
use Rattle.grid.proofs.Questions.{step_ind}
use Rattle.grid.proofs.Rows.{entries_few, entries_good, good_few}
use Rattle.grid.proofs.Tables.{good_grid}

-- ---- the refusals, lowest first

module _ (access : List ℕ) (t : GridTable) (s : List ℕ) (size : ℕ) where
  pub done_short : size < output_least → grid_done access t s size ≡ grid_refused t ShortOutput
  unfolding grid_done
  done_short short = rw (lt-ltb size output_least short)

  module _ (room : output_least ≤ size) where
    pub done_long : component_most < length s → grid_done access t s size ≡ grid_refused t LongComponent
    unfolding grid_done
    done_long long = rw (le-ltb size output_least room, lt-ltb component_most (length s) long)

    module _ (fair : length s ≤ component_most) where
      pub done_profile : (access_read access).ok ≡ false → grid_done access t s size ≡ grid_refused t BadProfile
      unfolding grid_done
      done_profile bad = rw (le-ltb size output_least room, le-ltb component_most (length s) fair, bad)

      module _ (ok : (access_read access).ok ≡ true) where
        pub done_table :
            grid_table_good instances_most (access_read access).profile t ≡ false → grid_done access t s size ≡ grid_refused t BadTable
        unfolding grid_done
        done_table bad = rw (le-ltb size output_least room, le-ltb component_most (length s) fair, ok, bad)

        pub done_answers :
            grid_table_good instances_most (access_read access).profile t ≡ true →
            grid_done access t s size ≡ grid_answered (grid_step (access_read access).profile t s)
        unfolding grid_done
        done_answers good = rw (le-ltb size output_least room, le-ltb component_most (length s) fair, ok, good)

-- ---- the reply fits

-- a step whose answer fits, with good entries, at most 8
pub record GridStepFits (x : GridStep) : Type 0 where
  pub answer : EntriesFit x.answer
  pub good : all_good x.entries ≡ true
  pub few : length x.entries ≤ instances_most

module _ (p : Profile) (t : GridTable) (profile : profile_good p ≡ true) (table : grid_table_good instances_most p t ≡ true) where
  module _ (identifier : ℤ) (operation : ℕ) (r : Request) (range : mag identifier < 32768) (code : r.procedure < 3) where
    result_fits : GridStepFits (grid_result p t identifier operation r)
    unfolding grid_result
    result_fits =
        let row = row_at t.grid r.procedure in
        let good = grid_row instances_most p t.grid r.procedure code (good_grid instances_most p t table) in
        pick_ind GridStepFits (eqb operation interrogation)
        (λ _. record {
          answer = range;
          good = entries_good instances_most p r.procedure (cell_places p r) row good (good_profile p profile).numbers;
          few =
              omega
              (arith, entries_few p r.procedure (cell_places p r) row, good_few instances_most p r.procedure row good);
        })
        (λ _. record { answer = range; good = all_none; few = omega arith })

    verdict_fits :
        (v : Option ℕ) → grid_judge instances_most p operation r (cell_places p r) (row_at t.grid r.procedure) ≡ v →
        GridStepFits (grid_verdict p t identifier operation r v)
    verdict_fits none h = result_fits
    verdict_fits (some e) h = record {
      answer = (range, judge_errors instances_most p operation r (cell_places p r) (row_at t.grid r.procedure) e h);
      good = all_none;
      few = omega arith;
    }

    handled_fits : GridStepFits (grid_asks p t identifier operation r)
    unfolding grid_asks
    handled_fits = verdict_fits (grid_judge instances_most p operation r (cell_places p r) (row_at t.grid r.procedure)) refl

  pub step_fits : (s : List ℕ) → GridStepFits (grid_step p t s)
  step_fits s =
      step_ind p t s GridStepFits
      (λ a said. record { answer = said.fits; good = all_none; few = omega arith })
      (λ identifier operation r asked. handled_fits identifier operation r asked.range asked.procedure)
