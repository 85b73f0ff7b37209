-- The next table, whatever component came: it breaks no rule, and it is another one only where document 01 says so ("Replies, in
-- the order checked", "Local refusals"). Assumes nothing.
use Prim.Native.Nat.{◌≤◌, ℕ}
use mathlib.Core.Bool.{not, true}
use mathlib.Core.List.{List, []}
use mathlib.Core.Path.{◌∙◌, ◌≡◌, ap, refl, sym}
use native.Mathlib.Omega.{arith}
use lib.Dec.{eqb, ltb}
use lib.ListN.{length}
use lib.Signed.{mag}
use borrow.Author.Tests.{not-false}
use Rattle.laws.specs.Pick.{pick}
use Rattle.laws.proofs.Picks.{pick_ind}
use Rattle.refusals.specs.Refusal.{Told, refuses, tells, output_least, component_most}
use Rattle.refusals.specs.declared.refusal.Refusal.{Refusal}
use Rattle.refusals.specs.declared.refusal.Refusal.TheVariants.{BadProfile, BadTable, LongComponent, ShortOutput}
use Rattle.refusals.proofs.Refusals.{refuses_not, tells_same}
use Rattle.profile.specs.Access.{access_read}
use Rattle.profile.specs.Profile.{profile_good, services_most}
use Rattle.profile.specs.declared.profile.Profile.{Profile}
use Rattle.profile.proofs.Records.{access_good, access_services}
use Rattle.lists.specs.Entries.{instances_most}
use Rattle.answers.specs.Answer.{Answered, answer_no, answer_whose}
use Rattle.answers.specs.declared.answer.Answer.{Answer}
use Rattle.answers.specs.declared.answer.Whose.{Whose}
use Rattle.answers.specs.declared.answer.Whose.TheVariants.{Null, Own}
use Rattle.answers.proofs.Fits.{answer_most}
use Rattle.exchange.proofs.Nexts.{Moves, error, result}
use Rattle.exchange.proofs.Questions.{AtOnce, reject, silence}
use Rattle.grid.specs.Grid.{GridShaped}
use Rattle.grid.specs.Arrive.{GridDone, grid_answered, grid_done, grid_refused}
use Rattle.grid.specs.Step.{GridStep, grid_step}
use Rattle.grid.specs.Table.{GridTable, grid_table_good}
use Rattle.grid.proofs.Arrivals.{step_fits}
use Rattle.grid.proofs.HandledRequests.{grid_changed, handled_good, handled_ind, handled_shaped}
use Rattle.grid.proofs.Questions.{step_ind}
use Rattle.grid.proofs.Tables.{moved_grid, moved_last}

-- silence and rejects are no such answers as move the last handled identifier
at_once_stays : (a : Answer) → AtOnce a → Moves (answer_no a) → ⊥
at_once_stays a (silence e) (result h) = omega (arith, ap answer_no e)
at_once_stays a (silence e) (error h) = omega (arith, ap answer_no e)
at_once_stays a (reject w q e) (result h) = omega (arith, ap answer_no e)
at_once_stays a (reject w q e) (error h) = omega (arith, ap answer_no e)

-- the identifier of the request that is answered, as the last one handled
abbrev pub own_last : Whose → ℕ
own_last Null = 0
own_last (Own identifier) = mag identifier

-- ---- a step

module _ (p : Profile) (t : GridTable) (s : List ℕ) where
  pub step_shaped : GridShaped t.grid → GridShaped (grid_step p t s).next.grid
  step_shaped so =
      step_ind p t s (λ x. GridShaped x.next.grid) (λ _ _. so) (λ identifier operation r asked.
      handled_shaped p t identifier operation r asked.procedure so)

  -- the next table breaks no rule
  pub step_good :
      profile_good p ≡ true → length p.services ≡ services_most → GridShaped t.grid → grid_table_good instances_most p t ≡ true →
      grid_table_good instances_most p (grid_step p t s).next ≡ true
  step_good profile long so good =
      step_ind p t s (λ x. grid_table_good instances_most p x.next ≡ true) (λ _ _. good) (λ identifier operation r asked.
      handled_good p t identifier operation r profile long so good asked.procedure asked.range asked.to)

  -- only a result and an error change anything: silence and rejects do not
  pub step_same :
      (answer_no (grid_step p t s).answer ≡ 0xA2 → ⊥) → (answer_no (grid_step p t s).answer ≡ 0xA3 → ⊥) → (grid_step p t s).next ≡ t
  step_same =
      let P : GridStep → Type 0 =
      λ x. (answer_no x.answer ≡ 0xA2 → ⊥) → (answer_no x.answer ≡ 0xA3 → ⊥) → x.next ≡ t in
      step_ind p t s P (λ _ _ _ _. refl) (λ identifier operation r _.
      handled_ind p t identifier operation r P
      (λ _ result _. absurd (result refl))
      (λ result _. absurd (result refl))
      (λ _ _ error. absurd (error refl)))

  -- only a result alters a registration
  pub step_grid : (answer_no (grid_step p t s).answer ≡ 0xA2 → ⊥) → (grid_step p t s).next.grid ≡ t.grid
  step_grid =
      let P : GridStep → Type 0 = λ x. (answer_no x.answer ≡ 0xA2 → ⊥) → x.next.grid ≡ t.grid in
      step_ind p t s P (λ _ _ _. refl) (λ identifier operation r _.
      handled_ind p t identifier operation r P
      (λ _ _. moved_grid p identifier t)
      (λ result. absurd (result refl))
      (λ _ _. moved_grid p identifier t))

  -- "Only a result or an error on a counted end moves the last handled identifier", to that request's
  pub step_last :
      Moves (answer_no (grid_step p t s).answer) →
      (grid_step p t s).next.last ≡ pick (eqb p.counted 1) (own_last (answer_whose (grid_step p t s).answer)) t.last
  step_last =
      let P : GridStep → Type 0 =
      λ x. Moves (answer_no x.answer) →
      x.next.last ≡ pick (eqb p.counted 1) (own_last (answer_whose x.answer)) t.last in
      step_ind p t s P (λ a said moves. absurd (at_once_stays a said.once moves)) (λ identifier operation r _.
      handled_ind p t identifier operation r P
      (λ _ _. moved_last p identifier t)
      (λ _. moved_last p identifier (grid_changed p t identifier operation r))
      (λ _ _. moved_last p identifier t))

-- ---- what arrives

-- the number of an answer that is told, and whose it is
number_told : (a b : Answered) → ◌≡◌ {A = Told Answered} (tells a) (tells b) → a.number ≡ b.number
number_told a b h = ap (λ (x : Answered). x.number) (tells_same a b h)

whose_told : (a b : Answered) → ◌≡◌ {A = Told Answered} (tells a) (tells b) → a.whose ≡ b.whose
whose_told a b h = ap (λ (x : Answered). x.whose) (tells_same a b h)

module _ (access : List ℕ) (t : GridTable) (s : List ℕ) (size : ℕ) where
  abbrev profile : Profile
  profile = (access_read access).profile

  -- what holds of every refusal, and of the step where the profile and the table break no rule, holds of what is done
  pub done_ind :
      (P : GridDone → Type 0) → ((refusal : Refusal) → P (grid_refused t refusal)) →
      ((access_read access).ok ≡ true → grid_table_good instances_most profile t ≡ true → P (grid_answered (grid_step profile t s))) →
      P (grid_done access t s size)
  unfolding grid_done
  done_ind P refuse answer =
      pick_ind P (ltb size output_least) (λ _. refuse ShortOutput) (λ _.
      pick_ind P (ltb component_most (length s)) (λ _. refuse LongComponent) (λ _.
      pick_ind P (not (access_read access).ok) (λ _. refuse BadProfile) (λ ok.
      pick_ind P (not (grid_table_good instances_most profile t)) (λ _. refuse BadTable) (λ good.
      answer (not-false _ ok) (not-false _ good)))))

  -- a table that breaks no rule breaks none afterwards
  pub done_good :
      GridShaped t.grid → grid_table_good instances_most profile t ≡ true → grid_table_good instances_most profile
      (grid_done access t s size).table ≡ true
  done_good so good =
      done_ind (λ d. grid_table_good instances_most profile d.table ≡ true) (λ _. good) (λ ok _.
      step_good profile t s (access_good access ok) (access_services access) so good)

  pub done_shaped : GridShaped t.grid → GridShaped (grid_done access t s size).table.grid
  done_shaped so = done_ind (λ d. GridShaped d.table.grid) (λ _. so) (λ _ _. step_shaped profile t s so)

  -- "A local refusal hands the table or picture back unchanged, writes nothing"
  pub refusal_nothing :
      (n : ℕ) → (grid_done access t s size).told ≡ refuses n → ((grid_done access t s size).table ≡ t) × ((grid_done access t s size).octets ≡ [])
  refusal_nothing n =
      done_ind (λ d. d.told ≡ refuses n → (d.table ≡ t) × (d.octets ≡ []))
      (λ _ _. (refl, refl))
      (λ _ _ h. absurd (refuses_not _ _ (sym h)))

  -- rejects and silence change nothing
  pub reject_nothing :
      (x : Answered) → (grid_done access t s size).told ≡ tells x → (x.number ≡ 0xA2 → ⊥) → (x.number ≡ 0xA3 → ⊥) →
      (grid_done access t s size).table ≡ t
  reject_nothing x =
      done_ind (λ d. d.told ≡ tells x → (x.number ≡ 0xA2 → ⊥) → (x.number ≡ 0xA3 → ⊥) → d.table ≡ t)
      (λ _ _ _ _. refl)
      (λ _ _ h result error. step_same profile t s (λ e. result (sym (number_told _ x h) ∙ e)) (λ e. error (sym (number_told _ x h) ∙ e)))

  -- a refused request alters no registration: no answer but a result does
  pub error_nothing :
      (x : Answered) → (grid_done access t s size).told ≡ tells x → (x.number ≡ 0xA2 → ⊥) →
      (grid_done access t s size).table.grid ≡ t.grid
  error_nothing x =
      done_ind (λ d. d.told ≡ tells x → (x.number ≡ 0xA2 → ⊥) → d.table.grid ≡ t.grid)
      (λ _ _ _. refl)
      (λ _ _ h result. step_grid profile t s (λ e. result (sym (number_told _ x h) ∙ e)))

  -- a result or an error moves the last handled identifier on a counted end, and no other answer does
  pub last_moves :
      (x : Answered) → (grid_done access t s size).told ≡ tells x → Moves x.number →
      (grid_done access t s size).table.last ≡ pick (eqb profile.counted 1) (own_last x.whose) t.last
  last_moves x =
      done_ind
      (λ d.
      d.told ≡ tells x → Moves x.number →
      d.table.last ≡ pick (eqb profile.counted 1) (own_last x.whose) t.last)
      (λ _ h. absurd (refuses_not _ _ h))
      (λ _ _ h moves.
      rw (whose_told _ x h) at (step_last profile t s (rw (sym (number_told _ x h)) at moves)))

  -- every reply fits the least output there may be
  pub reply_fits : length (grid_done access t s size).octets ≤ output_least
  reply_fits =
      done_ind (λ d. length d.octets ≤ output_least) (λ _. omega arith) (λ ok good.
      let fits = step_fits profile t (access_good access ok) good s in
      answer_most (grid_step profile t s).answer (grid_step profile t s).entries fits.answer fits.good fits.few)
