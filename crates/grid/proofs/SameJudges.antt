-- The verdict on a request is the same over a grid and over what it holds. Assumes nothing.
use Prim.Native.Nat.{◌+◌, ◌<◌, ℕ}
use mathlib.Core.Bool.{Bool, false, not, true}
use mathlib.Core.List.{List, [], ◌++◌, ◌∷◌}
use mathlib.Core.Option.{Option, none, some}
use mathlib.Core.Path.{◌∙◌, ◌≡◌, ap, refl, sym}
use native.Mathlib.Omega.{arith}
use lib.Dec.{eqb}
use lib.ListN.{get_or}
use borrow.Author.Tests.{eqb-true, not-false}
use Rattle.laws.specs.Tests.{Test, test}
use Rattle.laws.proofs.Picks.{by_bool}
use Rattle.codes.specs.Codes.{activation, deactivation}
use Rattle.numbers.specs.Address.{address_good}
use Rattle.numbers.specs.Number.{digits_of}
use Rattle.numbers.specs.declared.number.Number.{Number}
use Rattle.numbers.proofs.Goods.{ToUnless}
use Rattle.requests.specs.declared.request.Request.{Request}
use Rattle.profile.specs.Profile.{barred, served_numbers}
use Rattle.profile.specs.declared.profile.Profile.{Profile}
use Rattle.lists.specs.Entries.{instances_most}
use Rattle.instances.specs.declared.instance.Instance.{Instance}
use Rattle.rules.specs.Judge.{afterwards, deactivation_tests, every_tests, first_error, fits, is_subscribed, judge, not_provided, other_kind, selected_same}
use Rattle.rules.specs.Judge.{tests_of, user_specified}
use Rattle.rules.specs.Prefix.{begins_any}
use Rattle.rules.specs.Selection.{number_asked}
use Rattle.rules.proofs.Judges.{kind_known, subscribed_flag}
use Rattle.rules.proofs.Judges as rules
use Rattle.rules.proofs.SelectedSames as run
use Rattle.grid.specs.Grid.{GridShaped, grid_procedures, row_at}
use Rattle.grid.specs.Holds.{holds}
use Rattle.grid.specs.Judge.{grid_judge, grid_no_room, grid_selected_same, grid_tests_of}
use Rattle.grid.specs.Row.{Row}
use Rattle.grid.specs.Selection.{cell_places}
use Rattle.grid.specs.Table.{GridTable, grid_table_good}
use Rattle.grid.proofs.HeldListings.{listed_count}
use Rattle.grid.proofs.HeldRequests.{count_alike}
use Rattle.grid.proofs.Judges.{NoneHolds, judge_fails, judge_rest, none_holds, room_is, same_more, same_none}
use Rattle.grid.proofs.ProfilePlaces.{WholeProfile}
use Rattle.grid.proofs.ProfilePlaces as profile
use Rattle.grid.proofs.SameSelections.{number_same}

-- a last test matters only where none before it holds
last_test :
    (ts : List (Test ℕ)) (e : ℕ) (b c : Bool) → (NoneHolds ts → b ≡ c) →
    first_error (ts ++ (test b e ∷ [])) ≡ first_error (ts ++ (test c e ∷ []))
last_test [] e b c same = rw (same tt)
last_test (t ∷ ts) e b c same =
    by_bool (first_error (t ∷ ts ++ (test b e ∷ [])) ≡ first_error (t ∷ ts ++ (test c e ∷ []))) t.holds
    (λ h. rw h)
    (λ h. rw h (last_test ts e b c (λ quiet. same (h, quiet))))

module _ (p : Profile) (whole : WholeProfile p) (r : Request) where
  -- "forwarded-to number the same as a selected served number"
  own_same :
      (from : ℕ) (ns : List Number) →
      grid_selected_same p r from ns ≡ selected_same p (number_asked p r.served) r.to.address.number from ns
  own_same from [] = same_none p r from ∙ sym (run.selected_none p (number_asked p r.served) r.to.address.number from)
  own_same from (n ∷ ns) =
      rw (
        same_more p r from n ns,
        run.selected_more p (number_asked p r.served) r.to.address.number from n ns,
        number_same p whole r from,
        own_same (1 + from) ns,
      )

  -- a request that no test of every request stops is of a subscribed procedure
  every_subscribed :
      r.procedure < grid_procedures → first_error (every_tests p r) ≡ none → get_or p.subscribed r.procedure 0 ≡ 1
  every_subscribed known every =
      let flag = subscribed_flag p r.procedure (not-false (is_subscribed p r.procedure) (none_holds (every_tests p r) every).1.0) in
      omega (arith, (profile.rules p whole).flags r.procedure known, flag)

module _ (p : Profile) (whole : WholeProfile p) (g : GridTable) (shaped : GridShaped g.grid) (good : grid_table_good instances_most p g ≡ true)
    (operation : ℕ) (r : Request) (known : r.procedure < grid_procedures) (to : operation ≡ activation → ToUnless r.to) where
  abbrev row : Row
  row = row_at g.grid r.procedure

  abbrev held : List Instance
  held = holds g.grid

  -- the tests of an activation before that of room
  abbrev five : Bool → List (Test ℕ)
  five own =
      test (not_provided p r) 8
      ∷ test (user_specified r) 11
      ∷ test (other_kind r.to.address.number) 12
      ∷ test (begins_any (barred p) (digits_of r.to.address.number)) 14
      ∷ test own 15
      ∷ []

  module _ (every : first_error (every_tests p r) ≡ none) where
    -- where there is room in one there is in the other
    room_same :
        (own : Bool) → operation ≡ activation → NoneHolds (five own) →
        grid_no_room instances_most p (cell_places p r) row ≡ not (fits instances_most p (afterwards p r held))
    room_same own activates quiet =
        let address : address_good r.to.address ≡ true = to activates (kind_known r.to.address.number quiet.1.1.0) in
        room_is instances_most p (cell_places p r) row
        ∙ ap (λ (n : ℕ). not (fits instances_most p n))
        (count_alike p whole r g shaped known (every_subscribed p whole r known every) address good)

    tests_same :
        first_error (grid_tests_of instances_most p operation r (cell_places p r) row) ≡ first_error (tests_of instances_most p operation r held)
    tests_same =
        by_bool _ (eqb operation activation)
        (λ (e : eqb operation activation ≡ true).
        let own : Bool = selected_same p (number_asked p r.served) r.to.address.number 0 (served_numbers p) in
        rw (e, own_same p whole r 0 (served_numbers p))
        (last_test (five own) 11 (grid_no_room instances_most p (cell_places p r) row) (not (fits instances_most p (afterwards p r held)))
        (room_same own (eqb-true operation activation e))))
        (λ (e : eqb operation activation ≡ false).
        by_bool _ (eqb operation deactivation)
        (λ (f : eqb operation deactivation ≡ true).
        rw (e, f)
        (ap (λ (n : ℕ). first_error (deactivation_tests n)) (sym (listed_count instances_most p whole g good r known))))
        (λ (f : eqb operation deactivation ≡ false). rw (e, f)))

  judged_by :
      (v : Option ℕ) → first_error (every_tests p r) ≡ v →
      grid_judge instances_most p operation r (cell_places p r) row ≡ judge instances_most p operation r held
  judged_by none every =
      judge_rest instances_most p operation r (cell_places p r) row every
      ∙ tests_same every
      ∙ sym (rules.judge_rest instances_most p operation r held every)
  judged_by (some e) fails =
      judge_fails instances_most p operation r (cell_places p r) row e fails
      ∙ sym (rules.judge_fails instances_most p operation r held e fails)

  pub judge_same : grid_judge instances_most p operation r (cell_places p r) row ≡ judge instances_most p operation r held
  judge_same = judged_by (first_error (every_tests p r)) refl
