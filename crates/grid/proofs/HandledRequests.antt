-- What a request that is judged leaves of a table: where the table breaks no rule before, it breaks none afterwards (document 01,
-- "Replies, in the order checked"). Assumes nothing.
use Prim.Native.Nat.{◌<◌, ℕ}
use mathlib.Core.Bool.{false≢true, true}
use mathlib.Core.List.{List}
use mathlib.Core.Option.{Option, none, some}
use mathlib.Core.Path.{◌∙◌, ◌≡◌, refl, sym}
use native.Mathlib.Omega.{arith}
use lib.Dec.{eqb}
use lib.IntN.{ℤ}
use lib.ListN.{get_or, length}
use lib.Signed.{mag}
use borrow.Author.Tests.{eq-eqb, ne_eqb}
use Rattle.laws.proofs.Picks.{pick_ind}
use Rattle.codes.specs.Codes.{activation, interrogation}
use Rattle.numbers.specs.Address.{address_good}
use Rattle.numbers.proofs.Goods.{ToUnless}
use Rattle.requests.specs.declared.request.Request.{Request}
use Rattle.profile.specs.Profile.{profile_good, services_most}
use Rattle.profile.specs.declared.profile.Profile.{Profile}
use Rattle.profile.proofs.Profiles.{good_profile}
use Rattle.lists.specs.Entries.{instances_most}
use Rattle.lists.specs.declared.entry.Entry.{Entry}
use Rattle.answers.specs.declared.answer.Answer.TheVariants as answer
use Rattle.rules.proofs.Judges.{kind_known, subscribed_flag}
use Rattle.grid.specs.Grid.{GridShaped, grid_procedures, row_at}
use Rattle.grid.specs.Judge.{grid_applied, grid_judge}
use Rattle.grid.specs.Row.{Row, cell_good, cell_of, code_of_place, grid_entries, grid_selected, places, row_good}
use Rattle.grid.specs.Selection.{cell_places}
use Rattle.grid.specs.Step.{GridStep, grid_asks, grid_moved, grid_result, grid_says, grid_verdict}
use Rattle.grid.specs.Table.{GridTable, grid_table_good, grid_with_row}
use Rattle.grid.proofs.Cells.{not_selected}
use Rattle.grid.proofs.Judges.{applied_ind, judge_activation, judge_subscribed}
use Rattle.grid.proofs.Rows.{cell_good_lem, good_clear, good_put}
use Rattle.grid.proofs.Selections.{places_good, places_only}
use Rattle.grid.proofs.Shapes.{cells_applied, shaped_moved, shaped_row}
use Rattle.grid.proofs.Tables.{moved_good, row_replaced, table_row}

-- ---- the row of a request that passes

module _ (p : Profile) (r : Request) where
  -- an instance at a place that it selects breaks no rule
  pub place_good :
      profile_good p ≡ true → length p.services ≡ services_most → get_or p.subscribed r.procedure 0 ≡ 1 →
      address_good r.to.address ≡ true →
      (j : ℕ) → j < places → grid_selected (cell_places p r) j ≡ true →
      cell_good p r.procedure j (cell_of (code_of_place (cell_places p r) j) r.to.address) ≡ true
  place_good profile long flag address j h chosen =
      let marked : code_of_place (cell_places p r) j ≡ 0 → ⊥ = λ blank. false≢true (sym (not_selected (cell_places p r) j blank) ∙ chosen) in
      let at = places_good p r (good_profile p profile).rises long j h (places_only p r j h marked) in
      cell_good_lem p r.procedure j (code_of_place (cell_places p r) j) r.to.address flag at.number at.service at.code address

module _ (most : ℕ) (p : Profile) (operation : ℕ) (r : Request) (row : Row) where
  abbrev Judged : Option ℕ → Type 0
  Judged v = grid_judge most p operation r (cell_places p r) row ≡ v

  -- its procedure is subscribed
  pub subscribed :
      profile_good p ≡ true → r.procedure < grid_procedures → Judged none →
      get_or p.subscribed r.procedure 0 ≡ 1
  subscribed profile known passes =
      let flag = subscribed_flag p r.procedure (judge_subscribed most p operation r (cell_places p r) row passes).subscribed in
      omega (arith, (good_profile p profile).flags r.procedure known, flag)

  applied_good :
      profile_good p ≡ true → length p.services ≡ services_most → r.procedure < grid_procedures → Judged none →
      (operation ≡ activation → ToUnless r.to) →
      length row.cells ≡ places → row_good most p r.procedure row ≡ true →
      row_good most p r.procedure (grid_applied operation r (cell_places p r) row) ≡ true
  applied_good profile long known passes to cells good =
      applied_ind r (cell_places p r) row (λ x. row_good most p r.procedure x ≡ true) operation
      (λ e.
      let told = judge_activation most p r (cell_places p r) row (rw e at passes) in
      good_put most p r.procedure (cell_places p r) r.to.address row good cells
      (place_good p r profile long (subscribed profile known passes) (to e (kind_known r.to.address.number told.kind)))
      told.room)
      (λ _. good_clear most p r.procedure (cell_places p r) row good)
      good

-- ---- what is judged

module _ (p : Profile) (t : GridTable) (identifier : ℤ) (operation : ℕ) (r : Request) where
  abbrev pub row : Row
  row = row_at t.grid r.procedure

  -- the table with the registrations changed
  abbrev pub grid_changed : GridTable
  grid_changed = grid_with_row r.procedure (grid_applied operation r (cell_places p r) row) t

  -- the next table has other registrations only where the request passes
  pub verdict_next :
      (P : GridTable → Type 0) (v : Option ℕ) → P (grid_moved p identifier t) →
      (v ≡ none → P (grid_moved p identifier grid_changed)) →
      P (grid_verdict p t identifier operation r v).next
  unfolding grid_result
  verdict_next P none same other =
      pick_ind (λ (x : GridStep). P x.next) (eqb operation interrogation) (λ _. same) (λ _. other refl)
  verdict_next P (some e) same other = same

  -- over any limit of instances
  pub verdict_good :
      (most : ℕ) (v : Option ℕ) → grid_judge most p operation r (cell_places p r) row ≡ v → profile_good p ≡ true →
      length p.services ≡ services_most → GridShaped t.grid → grid_table_good most p t ≡ true → r.procedure < grid_procedures →
      mag identifier < 32768 →
      (operation ≡ activation → ToUnless r.to) →
      grid_table_good most p (grid_verdict p t identifier operation r v).next ≡ true
  verdict_good most v verdict profile long shaped good known small to =
      let right : row_good most p r.procedure row ≡ true = table_row most p t good r.procedure known in
      verdict_next (λ u. grid_table_good most p u ≡ true) v (moved_good most p t identifier (omega arith) good) (λ passes.
      moved_good most p grid_changed identifier (omega arith)
      (row_replaced most p t r.procedure (grid_applied operation r (cell_places p r) row) (omega (arith, shaped.rows)) good
      (applied_good most p operation r row profile long known (verdict ∙ passes) to (shaped.cells r.procedure known) right)))

  -- a table that breaks no rule breaks none after a request was handled
  pub handled_good :
      profile_good p ≡ true → length p.services ≡ services_most → GridShaped t.grid → grid_table_good instances_most p t ≡ true →
      r.procedure < grid_procedures → mag identifier < 32768 →
      (operation ≡ activation → ToUnless r.to) →
      grid_table_good instances_most p (grid_asks p t identifier operation r).next ≡ true
  unfolding grid_asks
  handled_good = verdict_good instances_most (grid_judge instances_most p operation r (cell_places p r) row) refl

  -- a list, a result without one, and an error
  abbrev pub lists : List Entry → GridStep
  lists es = record { next = grid_moved p identifier t; answer = answer.Listing identifier; entries = es }

  abbrev pub changes : GridStep
  changes = grid_says (grid_moved p identifier grid_changed) (answer.Result identifier)

  abbrev pub fails : ℕ → GridStep
  fails e = grid_says (grid_moved p identifier t) (answer.Error identifier e)

  verdict_ind :
      (P : GridStep → Type 0) (v : Option ℕ) → ((es : List Entry) → P (lists es)) → P changes → ((e : ℕ) → P (fails e)) →
      P (grid_verdict p t identifier operation r v)
  unfolding grid_result
  verdict_ind P none list change fail = pick_ind P (eqb operation interrogation) (λ _. list _) (λ _. change)
  verdict_ind P (some e) list change fail = fail e

  -- what holds of a list, of a result without one and of an error holds of what is handled
  pub handled_ind :
      (P : GridStep → Type 0) → ((es : List Entry) → P (lists es)) → P changes → ((e : ℕ) → P (fails e)) →
      P (grid_asks p t identifier operation r)
  unfolding grid_asks
  handled_ind P = verdict_ind P (grid_judge instances_most p operation r (cell_places p r) (row_at t.grid r.procedure))

  pub handled_shaped : r.procedure < grid_procedures → GridShaped t.grid → GridShaped (grid_asks p t identifier operation r).next.grid
  handled_shaped known so =
      let same : GridShaped (grid_moved p identifier t).grid = shaped_moved p identifier t so in
      handled_ind (λ x. GridShaped x.next.grid) (λ _. same)
      (shaped_moved p identifier grid_changed
      (shaped_row t r.procedure (grid_applied operation r (cell_places p r) row) known
      (cells_applied operation r (cell_places p r) row ∙ so.cells r.procedure known) so))
      (λ _. same)

  -- ---- which of the three it is

  abbrev pub judged : Option ℕ
  judged = grid_judge instances_most p operation r (cell_places p r) row

  pub asks_fails : (e : ℕ) → judged ≡ some e → grid_asks p t identifier operation r ≡ fails e
  unfolding grid_asks
  asks_fails e h = rw h

  pub asks_listed :
      judged ≡ none → operation ≡ interrogation →
      grid_asks p t identifier operation r ≡ lists (grid_entries p r.procedure (cell_places p r) row)
  unfolding grid_asks grid_result
  asks_listed passes asks = rw (passes, eq-eqb _ _ asks)

  pub asks_changed : judged ≡ none → (operation ≡ interrogation → ⊥) → grid_asks p t identifier operation r ≡ changes
  unfolding grid_asks grid_result
  asks_changed passes asks = rw (passes, ne_eqb _ _ asks)
