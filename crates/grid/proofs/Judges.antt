-- The verdict on a request over places and a row: what it tells where it passes or fails, and what the row becomes. Assumes nothing.
use Prim.Native.Nat.{◌+◌, ◌<◌, ◌≤◌, ℕ}
use mathlib.Core.Bool.{Bool, false, false≢true, not, true}
use mathlib.Core.List.{List, [], ◌++◌, ◌∷◌}
use mathlib.Core.Option.{Option, none, some}
use mathlib.Core.Path.{◌∙◌, ◌≡◌, refl, subst, sym}
use native.Mathlib.Omega.{arith}
use lib.Dec.{eqb, ltb}
use borrow.Author.Tests.{eq-eqb, eqb-false, eqb-true, ltb-true, ne_eqb}
use Rattle.laws.specs.Pick.{pick}
use Rattle.laws.specs.Tests.{Test, all, any}
use Rattle.laws.proofs.Picks.{pick_first, pick_ind, pick_map, pick_then}
use Rattle.codes.specs.Codes.{activation, deactivation}
use Rattle.numbers.specs.Number.{digits_of}
use Rattle.numbers.specs.declared.number.Number.{Number}
use Rattle.requests.specs.declared.request.Request.{Request}
use Rattle.profile.specs.Profile.{barred, same, served_numbers}
use Rattle.profile.specs.declared.profile.Profile.{Profile}
use Rattle.rules.specs.Judge.{every_tests, first_error, fits, is_subscribed, not_in_use, not_provided, other_kind, served_invalid, user_specified}
use Rattle.rules.specs.Prefix.{begins_any}
use Rattle.rules.proofs.Judges.{fits_few}
use Rattle.grid.specs.Judge.{grid_activation_tests, grid_applied, grid_deactivation_tests, grid_judge, grid_no_room, grid_selected_same, grid_tests_of}
use Rattle.grid.specs.Row.{Places, Row, active_of, clear_in, count_with, put_in}
use Rattle.grid.specs.Selection.{grid_number_chosen}

-- ---- tests one after the other

-- an error or none, and another that decides where there is none
abbrev else_error : Option ℕ → Option ℕ → Option ℕ
else_error none v = v
else_error (some e) v = some e

first_append : (xs ys : List (Test ℕ)) → first_error (xs ++ ys) ≡ else_error (first_error xs) (first_error ys)
first_append [] ys = refl
first_append (t ∷ ts) ys =
    rw (first_append ts ys)
    (sym (pick_map (λ v. else_error v (first_error ys)) t.holds (some t.number) (first_error ts)))

apart : (e : ℕ) → ◌≡◌ {A = Option ℕ} none (some e) → ⊥
apart e h = let z : ◌≡◌ {A = ℕ} 0 1 = cc in omega arith

passes_both : (b : Bool) (e : ℕ) (v : Option ℕ) → pick b (some e) v ≡ none → (b ≡ false) × (v ≡ none)
passes_both true e v h = absurd (apart e (sym h))
passes_both false e v h = (refl, h)

-- no test holds
abbrev pub NoneHolds : List (Test ℕ) → Type 0
NoneHolds [] = Unit {0}
NoneHolds (t ∷ ts) = (t.holds ≡ false) × NoneHolds ts

pub none_holds : (ts : List (Test ℕ)) → first_error ts ≡ none → NoneHolds ts
none_holds [] h = tt
none_holds (t ∷ ts) h =
    let b = passes_both t.holds t.number (first_error ts) h in (b.0, none_holds ts b.1)

-- each error fits an octet
abbrev octet_errors : List (Test ℕ) → Bool
octet_errors [] = true
octet_errors (t ∷ ts) = pick (ltb t.number 256) (octet_errors ts) false

abbrev OctetIf : Option ℕ → Type 0
OctetIf none = Unit {0}
OctetIf (some e) = e < 256

first_small : (ts : List (Test ℕ)) → octet_errors ts ≡ true → OctetIf (first_error ts)
first_small [] h = tt
first_small (t ∷ ts) h =
    let b = pick_then (ltb t.number 256) (octet_errors ts) h in
    pick_ind OctetIf t.holds (λ _. ltb-true t.number 256 b.0) (λ _. first_small ts b.1)

-- ---- a selected number that is the one forwarded to

module _ (p : Profile) (r : Request) (from : ℕ) where
  pub same_none : grid_selected_same p r from [] ≡ false
  unfolding grid_selected_same
  same_none = refl

  pub same_more :
      (n : Number) (ns : List Number) →
      grid_selected_same p r from (n ∷ ns)
      ≡ any
      (all (grid_number_chosen p r.served from ∷ same p n r.to.address.number ∷ [])
      ∷ grid_selected_same p r (1 + from) ns
      ∷ [])
  unfolding grid_selected_same
  same_more n ns = refl

-- ---- whether there is room

not_not : (b : Bool) → not b ≡ false → b ≡ true
not_not true h = refl
not_not false h = absurd (false≢true (sym h))

module _ (most : ℕ) (p : Profile) (w : Places) (row : Row) where
  pub room_is : grid_no_room most p w row ≡ not (fits most p (count_with w row))
  unfolding grid_no_room
  room_is = refl

  room_few : grid_no_room most p w row ≡ false → count_with w row ≤ most
  unfolding grid_no_room
  room_few h = fits_few most p (count_with w row) (not_not (fits most p (count_with w row)) h)

-- ---- the verdict, and what it tells

pub record GridPasses (p : Profile) (r : Request) : Type 0 where
  pub used : not_in_use p ≡ false
  pub subscribed : is_subscribed p r.procedure ≡ true
  pub served : served_invalid p r ≡ false

module _ (most : ℕ) (p : Profile) (operation : ℕ) (r : Request) (w : Places) (row : Row) where
  pub judge_is : grid_judge most p operation r w row ≡ first_error (every_tests p r ++ grid_tests_of most p operation r w row)
  unfolding grid_judge
  judge_is = refl

  both_tests : grid_judge most p operation r w row ≡ else_error (first_error (every_tests p r)) (first_error (grid_tests_of most p operation r w row))
  unfolding grid_judge
  both_tests = first_append (every_tests p r) (grid_tests_of most p operation r w row)

  -- an error of every request is the verdict
  pub judge_fails : (e : ℕ) → first_error (every_tests p r) ≡ some e → grid_judge most p operation r w row ≡ some e
  judge_fails e h = rw (both_tests, h)

  -- where there is none, the tests of the operation decide
  pub judge_rest :
      first_error (every_tests p r) ≡ none → grid_judge most p operation r w row ≡ first_error (grid_tests_of most p operation r w row)
  judge_rest h = rw (both_tests, h)

  -- an operation with no tests of its own
  pub judge_interrogation :
      (operation ≡ activation → ⊥) → (operation ≡ deactivation → ⊥) →
      grid_judge most p operation r w row ≡ first_error (every_tests p r)
  unfolding grid_judge
  judge_interrogation activates deactivates = rw (ne_eqb _ _ activates, ne_eqb _ _ deactivates)

  pub judge_subscribed : grid_judge most p operation r w row ≡ none → GridPasses p r
  unfolding grid_judge
  judge_subscribed h =
      let t = none_holds (every_tests p r ++ grid_tests_of most p operation r w row) h in
      record { used = t.0; subscribed = not_not (is_subscribed p r.procedure) t.1.0; served = t.1.1.0 }

  -- each error fits an octet
  pub judge_errors : (e : ℕ) → grid_judge most p operation r w row ≡ some e → e < 256
  unfolding grid_judge
  judge_errors e h =
      subst OctetIf h
      (first_small (every_tests p r ++ grid_tests_of most p operation r w row)
      (pick_ind (λ ts. octet_errors ts ≡ true) (eqb operation activation)
      (λ _. refl)
      (λ _. pick_ind (λ ts. octet_errors ts ≡ true) (eqb operation deactivation) (λ _. refl) (λ _. refl))))

module _ (most : ℕ) (p : Profile) (r : Request) (w : Places) (row : Row) where
  pub record GridActivates : Type 0 where
    pub provided : not_provided p r ≡ false
    pub user : user_specified r ≡ false
    pub kind : other_kind r.to.address.number ≡ false
    pub prefix : begins_any (barred p) (digits_of r.to.address.number) ≡ false
    pub own : grid_selected_same p r 0 (served_numbers p) ≡ false
    pub room : count_with w row ≤ most

  pub judge_activation : grid_judge most p activation r w row ≡ none → GridActivates
  unfolding grid_judge
  judge_activation h =
      let t = (none_holds (every_tests p r ++ grid_activation_tests most p r w row) h).1.1.1 in
      record {
        provided = t.0;
        user = t.1.0;
        kind = t.1.1.0;
        prefix = t.1.1.1.0;
        own = t.1.1.1.1.0;
        room = room_few most p w row t.1.1.1.1.1.0;
      }

  pub judge_deactivation : grid_judge most p deactivation r w row ≡ none → 0 < active_of w row
  unfolding grid_judge
  judge_deactivation h =
      let t = (none_holds (every_tests p r ++ grid_deactivation_tests w row) h).1.1.1 in
      let some : active_of w row ≡ 0 → ⊥ = eqb-false (active_of w row) 0 t.0 in
      omega arith

  -- "error 46 exactly if there's none"
  pub none_fails : first_error (every_tests p r) ≡ none → active_of w row ≡ 0 → grid_judge most p deactivation r w row ≡ some 46
  none_fails every nothing = rw (judge_rest most p deactivation r w row every, eq-eqb _ _ nothing)

  pub fails_none : first_error (every_tests p r) ≡ none → grid_judge most p deactivation r w row ≡ some 46 → active_of w row ≡ 0
  fails_none every h =
      let b : Bool = eqb (active_of w row) 0 in
      let e : pick {A = Option ℕ} b (some 46) none ≡ some 46 = sym (judge_rest most p deactivation r w row every) ∙ h in
      eqb-true (active_of w row) 0 (pick_first {A = Option ℕ} b (some 46) none (λ q. apart 46 (sym q ∙ e)))

-- ---- what the row becomes

module _ (r : Request) (w : Places) (row : Row) where
  pub applied_activation : grid_applied activation r w row ≡ put_in w r.to.address row
  unfolding grid_applied
  applied_activation = refl

  pub applied_deactivation : grid_applied deactivation r w row ≡ clear_in w row
  unfolding grid_applied
  applied_deactivation = refl

  pub applied_other :
      (operation : ℕ) → (operation ≡ activation → ⊥) → (operation ≡ deactivation → ⊥) →
      grid_applied operation r w row ≡ row
  unfolding grid_applied
  applied_other operation activates deactivates = rw (ne_eqb _ _ activates, ne_eqb _ _ deactivates)

  -- what holds of the row that is put, of the row that is cleared and of the row as it was holds of what the row becomes
  pub applied_ind :
      (P : Row → Type 0) (operation : ℕ) →
      (operation ≡ activation → P (put_in w r.to.address row)) →
      (operation ≡ deactivation → P (clear_in w row)) →
      P row →
      P (grid_applied operation r w row)
  unfolding grid_applied
  applied_ind P operation puts clears stays =
      pick_ind P (eqb operation activation) (λ e. puts (eqb-true operation activation e)) (λ _.
      pick_ind P (eqb operation deactivation) (λ e. clears (eqb-true operation deactivation e)) (λ _. stays))
