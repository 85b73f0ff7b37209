-- The rules of registration: tests in their order, each with its error; the first that holds decides. One list for the exchange and
-- for the end's picture (document 01, "Replies, in the order checked").
use Rattle.std.specs.Prelude.{ℕ, ◌+◌, ◌≡◌, Bool, false, Result, Ok, Err, not, List, [], ◌∷◌, ◌++◌, map, length, get_or, ltb, leb, eqb}
use Rattle.std.proofs.Math.Option.{Option, none, some}
use Rattle.laws.specs.Pick.{pick}
use Rattle.laws.specs.Tests.{all, any, Test, test, first}
use Rattle.codes.specs.Codes.{place_of, activation, deactivation}
use Rattle.numbers.specs.Number.{public, other, digits_of}
use Rattle.numbers.specs.declared.number.Number.{Number}
use Rattle.profile.specs.Profile.{served_numbers, subscribed_services, barred, same, place_in}
use Rattle.rules.specs.Prefix.{begins_any}
use Rattle.profile.specs.declared.profile.Profile.{Profile}
use Rattle.requests.specs.declared.request.Request.{Request}
use Rattle.lists.specs.Entries.{instances_most}
use Rattle.instances.specs.Instance.{every_number, named}
use Rattle.instances.specs.Run.{instances_of, packed, listed, count_of, deactivated, activated, renewed, renews}
use Rattle.instances.specs.declared.instance.Instance.{Instance}
use Rattle.instances.specs.declared.run.Run.{Run}
use Rattle.rules.specs.Selection.{number_asked, selection_of}
use Rattle.rules.specs.Error.{error_no}
use Rattle.rules.specs.declared.error.RequestError.{RequestError}

-- the error of the first test that holds; none where none does, and the request passes
abbrev pub first_error : List (Test ℕ) → Option ℕ
first_error tests = first tests some none

-- a verdict: the request passes, or the number of the error that it earns
abbrev pub verdict_no : {A : Type 0} → Result A RequestError → Option ℕ
verdict_no (Ok passes) = none
verdict_no (Err error) = some (error_no error)

-- and whether it says that the request only renews instances
abbrev pub renews_by : Result Bool RequestError → Bool
renews_by (Ok renews) = renews
renews_by (Err error) = false

-- a request that earns an error renews nothing
abbrev pub passing : Option ℕ → Bool → Bool
passing none renews = renews
passing (some error) renews = false

-- ---- the tests of every request

-- "not in use"
abbrev pub not_in_use : Profile → Bool
not_in_use p = eqb p.inuse 0

-- "three subscribed flags (cfu, cfb, cfnr)"
unfoldable pub is_subscribed : Profile → ℕ → Bool
is_subscribed p procedure = not (eqb (get_or p.subscribed procedure 0) 0)

-- "procedure not subscribed"
abbrev pub not_subscribed : Profile → Request → Bool
not_subscribed p r = not (is_subscribed p r.procedure)

-- the "all numbers" option
unfoldable pub has_all_numbers : Profile → Bool
has_all_numbers p = not (eqb p.all 0)

-- a number of the profile
abbrev pub is_served : Profile → Number → Bool
is_served p n = ltb (place_in p n (served_numbers p)) p.numbercount

-- "With MSN an individual one must be in the profile; 'allNumbers' needs the option."
unfoldable pub served_invalid : Profile → Request → Bool
served_invalid p r =
    all
    (not (eqb p.msn 0)
    ∷ not (pick (eqb r.served.all 1) (has_all_numbers p) (is_served p r.served.number))
    ∷ [])

-- ---- the tests of an activation

-- a service of the profile
abbrev pub is_provided : Profile → ℕ → Bool
is_provided p service = ltb (place_of service (subscribed_services p)) p.servicecount

-- "service given but not subscribed"
unfoldable pub not_provided : Profile → Request → Bool
not_provided p r = all (not (eqb r.service 0) ∷ not (is_provided p r.service) ∷ [])

-- "user-specified subaddress"
abbrev pub user_specified : Request → Bool
user_specified r = eqb r.to.user 1

-- "public type 1", and the most digits of such a number
abbrev pub international : ℕ
international = 1

abbrev pub international_most : ℕ
international_most = 15

-- "other number kind, or public type 1 with more than 15 digits"
unfoldable pub other_kind : Number → Bool
other_kind n =
    any
    (eqb n.form other
    ∷ all (eqb n.form public ∷ eqb n.kind international ∷ ltb international_most n.count ∷ [])
    ∷ [])

-- "forwarded-to number the same as a selected served number": one of ns that was asked for, the first of them having the place `from`
unfoldable pub selected_same : Profile → ℕ → Number → ℕ → List Number → Bool
selected_same p asked to from [] = false
selected_same p asked to from (n ∷ ns) =
    any (all (named every_number asked from ∷ same p n to ∷ []) ∷ selected_same p asked to (1 + from) ns ∷ [])

-- whether a procedure may have so many instances, over the limit; a profile may come to have a say in it
unfoldable pub fits : ℕ → Profile → ℕ → Bool
fits most p count = leb count most

-- "instances of the procedure afterwards"
unfoldable pub afterwards : Profile → Request → List Instance → ℕ
afterwards p r is = count_of r.procedure (activated p (selection_of p r) r.to.address is)

-- ---- the verdict

abbrev pub every_tests : Profile → Request → List (Test ℕ)
every_tests p r = test (not_in_use p) 3 ∷ test (not_subscribed p r) 0 ∷ test (served_invalid p r) 6 ∷ []

-- of an activation that selects the number `asked`, or all, and leaves so many instances
abbrev pub activation_tests : ℕ → Profile → Request → ℕ → ℕ → List (Test ℕ)
activation_tests most p r asked count =
    test (not_provided p r) 8
    ∷ test (user_specified r) 11
    ∷ test (other_kind r.to.address.number) 12
    ∷ test (begins_any (barred p) (digits_of r.to.address.number)) 14
    ∷ test (selected_same p asked r.to.address.number 0 (served_numbers p)) 15
    ∷ test (not (fits most p count)) 11
    ∷ []

-- "error 46 exactly if there's none (house)", of so many active selected instances
abbrev pub deactivation_tests : ℕ → List (Test ℕ)
deactivation_tests count = test (eqb count 0) 46 ∷ []

abbrev pub tests_of : ℕ → Profile → ℕ → Request → List Instance → List (Test ℕ)
tests_of most p operation r is =
    pick (eqb operation activation) (activation_tests most p r (number_asked p r.served) (afterwards p r is))
    (pick (eqb operation deactivation) (deactivation_tests (length (listed (selection_of p r) is))) [])

-- the error that a request earns, or none
unfoldable pub judge : ℕ → Profile → ℕ → Request → List Instance → Option ℕ
judge most p operation r is = first_error (every_tests p r ++ tests_of most p operation r is)

-- what the instances become where the request passes
unfoldable pub changed : Profile → ℕ → Request → List Instance → List Instance
changed p operation r is =
    pick (eqb operation activation) (activated p (selection_of p r) r.to.address is)
    (pick (eqb operation deactivation) (deactivated (selection_of p r) is) is)

-- and their record: one that nothing changes stays octet for octet
unfoldable pub applied : Profile → ℕ → Request → Run → Run
applied p operation r run =
    pick (any (eqb operation activation ∷ eqb operation deactivation ∷ []))
    (packed (changed p operation r (instances_of run)))
    run

-- whether a request that passes only renews instances
unfoldable pub only_renews : Profile → ℕ → Request → List Instance → Bool
only_renews p operation r is = all (eqb operation activation ∷ renews p (selection_of p r) is ∷ [])

-- the verdict of an error or none, and whether the request renews where there is none
pub record JudgedBy (error : Option ℕ) (renews : Bool) (v : Result Bool RequestError) : Type 0 where
  pub verdict : verdict_no v ≡ error
  pub renewal : renews_by v ≡ passing error renews

-- what `judge_request` promises
abbrev pub JudgeRequest : Profile → ℕ → Request → Run → Result Bool RequestError → Type 0
JudgeRequest p operation r run v =
    JudgedBy (judge instances_most p operation r (instances_of run)) (only_renews p operation r (instances_of run)) v

-- what `apply_request` promises
abbrev pub ApplyRequest : Profile → ℕ → Request → Run → Run → Type 0
ApplyRequest p operation r run next = next ≡ applied p operation r run

-- what `renew_request` promises: where it only renews instances that break no rule, that is what they become (`renew_applied`)
abbrev pub RenewRequest : Profile → Request → Run → Run → Type 0
RenewRequest p r run next = next ≡ packed (map (renewed (selection_of p r) r.to.address) (instances_of run))
