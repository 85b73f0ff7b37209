-- The rules of registration over the places that a request selects and the row of its procedure: the tests in their order, each with its
-- error, and what the row becomes (document 01, "Replies, in the order checked").
use Rattle.std.specs.Prelude.{◌+◌, ℕ, Bool, false, not, List, [], ◌++◌, ◌∷◌, eqb}
use Rattle.std.proofs.Math.Option.{Option}
use Rattle.laws.specs.Pick.{pick}
use Rattle.laws.specs.Tests.{Test, all, any, test}
use Rattle.codes.specs.Codes.{activation, deactivation}
use Rattle.numbers.specs.Number.{digits_of}
use Rattle.numbers.specs.declared.number.Number.{Number}
use Rattle.requests.specs.declared.request.Request.{Request}
use Rattle.profile.specs.Profile.{barred, same, served_numbers}
use Rattle.profile.specs.declared.profile.Profile.{Profile}
use Rattle.rules.specs.Judge.{every_tests, first_error, fits, not_provided, other_kind, user_specified}
use Rattle.rules.specs.Prefix.{begins_any}
use Rattle.grid.specs.Row.{Places, Row, active_of, clear_in, count_with, put_in}
use Rattle.grid.specs.Selection.{grid_number_chosen}

-- ---- the tests that look at places and rows

-- "forwarded-to number the same as a selected served number", the first of ns having the place `from`
unfoldable pub grid_selected_same : Profile → Request → ℕ → List Number → Bool
grid_selected_same p r from [] = false
grid_selected_same p r from (n ∷ ns) =
    any
    (all (grid_number_chosen p r.served from ∷ same p n r.to.address.number ∷ [])
    ∷ grid_selected_same p r (1 + from) ns
    ∷ [])

-- "more than 8 instances of the procedure afterwards"
unfoldable pub grid_no_room : ℕ → Profile → Places → Row → Bool
grid_no_room most p w row = not (fits most p (count_with w row))

-- ---- the verdict, where the request selects the places w

abbrev pub grid_activation_tests : ℕ → Profile → Request → Places → Row → List (Test ℕ)
grid_activation_tests most p r w row =
    test (not_provided p r) 8
    ∷ test (user_specified r) 11
    ∷ test (other_kind r.to.address.number) 12
    ∷ test (begins_any (barred p) (digits_of r.to.address.number)) 14
    ∷ test (grid_selected_same p r 0 (served_numbers p)) 15
    ∷ test (grid_no_room most p w row) 11
    ∷ []

-- "error 46 exactly if there's none (house)"
abbrev pub grid_deactivation_tests : Places → Row → List (Test ℕ)
grid_deactivation_tests w row = test (eqb (active_of w row) 0) 46 ∷ []

abbrev pub grid_tests_of : ℕ → Profile → ℕ → Request → Places → Row → List (Test ℕ)
grid_tests_of most p operation r w row =
    pick (eqb operation activation) (grid_activation_tests most p r w row)
    (pick (eqb operation deactivation) (grid_deactivation_tests w row) [])

-- the error that a request earns, or none
unfoldable pub grid_judge : ℕ → Profile → ℕ → Request → Places → Row → Option ℕ
grid_judge most p operation r w row = first_error (every_tests p r ++ grid_tests_of most p operation r w row)

-- what the row of the request's procedure becomes where it passes
unfoldable pub grid_applied : ℕ → Request → Places → Row → Row
grid_applied operation r w row =
    pick (eqb operation activation) (put_in w r.to.address row)
    (pick (eqb operation deactivation) (clear_in w row) row)
