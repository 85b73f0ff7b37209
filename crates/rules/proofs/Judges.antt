-- Laws of the verdict on a request, over plain values: what judging needs, and all that a caller needs of it. Assumes nothing.
use Rattle.std.specs.Prelude.{Result, Ok, Err}
use Prim.Native.Nat.{ℕ, ◌+◌, ◌≤◌, ◌<◌}
use mathlib.Core.Path.{◌≡◌, refl, sym, ap, subst, ◌∙◌}
use mathlib.Core.Bool.{Bool, true, false, not, false≢true}
use mathlib.Core.List.{List, [], ◌∷◌, ◌++◌}
use mathlib.Core.Option.{Option, none, some}
use native.Mathlib.Omega.{arith}
use lib.ListN.{length, get_or, get_or-eq_default}
use lib.Dec.{ltb, eqb}
use borrow.Author.Tests.{eq-eqb, ne_eqb, eqb-true, eqb-false, leb-true, ltb-true}
use Rattle.laws.specs.Pick.{pick}
use Rattle.laws.specs.Tests.{Test}
use Rattle.laws.proofs.Picks.{pick_ind, pick_then, pick_last, pick_map, pick_first, not_passed}
use Rattle.codes.specs.Codes.{activation, deactivation}
use Rattle.numbers.specs.Number.{other, digits_of}
use Rattle.numbers.specs.declared.number.Number.{Number}
use Rattle.profile.specs.Profile.{served_numbers, barred}
use Rattle.profile.specs.declared.profile.Profile.{Profile}
use Rattle.requests.specs.declared.request.Request.{Request}
use Rattle.instances.specs.Run.{listed, count_of, deactivated, activated, renews}
use Rattle.instances.specs.Places.{places_of}
use Rattle.instances.specs.declared.instance.Instance.{Instance}
use Rattle.instances.specs.declared.instance.Selection.{Selection}
use Rattle.instances.specs.declared.run.After.{After}
use Rattle.instances.proofs.Counts.{count_activated}
use Rattle.rules.specs.Prefix.{begins_any}
use Rattle.rules.specs.Selection.{number_asked, selection_of}
use Rattle.rules.specs.Judge.{first_error, verdict_no, not_in_use, is_subscribed, served_invalid, not_provided, user_specified, other_kind}
use Rattle.rules.specs.Judge.{selected_same, fits, afterwards, every_tests, activation_tests, deactivation_tests, tests_of, judge}
use Rattle.rules.specs.Judge.{renews_by, passing, only_renews, JudgedBy}
use Rattle.rules.specs.Error.{error_no}
use Rattle.rules.specs.declared.error.RequestError.{RequestError}
use Rattle.rules.specs.declared.error.RequestError.TheVariants.{NotSubscribed, NotAvailable, InvalidServedUserNr, BasicServiceNotProvided}
use Rattle.rules.specs.declared.error.RequestError.TheVariants.{ResourceUnavailable, InvalidDivertedToNr, SpecialServiceNr}
use Rattle.rules.specs.declared.error.RequestError.TheVariants.{DiversionToServedUserNr, NotActivated}
use Rattle.rules.proofs.Selections.{selection_procedure, selection_number}

-- ---- tests one after the other

-- an error or none, and another that decides where there is none
abbrev or_else : Option ℕ → Option ℕ → Option ℕ
or_else none v = v
or_else (some e) v = some e

first_append : (xs ys : List (Test ℕ)) → first_error (xs ++ ys) ≡ or_else (first_error xs) (first_error ys)
first_append [] ys = refl
first_append (t ∷ ts) ys =
    rw (first_append ts ys)
    (sym (pick_map (λ v. or_else v (first_error ys)) t.holds (some t.number) (first_error ts)))

apart : (e : ℕ) → ◌≡◌ {A = Option ℕ} none (some e) → ⊥
apart e h = let z : ◌≡◌ {A = ℕ} 0 1 = cc in omega arith

passes_both : (b : Bool) (e : ℕ) (v : Option ℕ) → pick b (some e) v ≡ none → (b ≡ false) × (v ≡ none)
passes_both true e v h = absurd (apart e (sym h))
passes_both false e v h = (refl, h)

-- no test holds
abbrev Passed : List (Test ℕ) → Type 0
Passed [] = Unit {0}
Passed (t ∷ ts) = (t.holds ≡ false) × Passed ts

passed : (ts : List (Test ℕ)) → first_error ts ≡ none → Passed ts
passed [] h = tt
passed (t ∷ ts) h =
    let b = passes_both t.holds t.number (first_error ts) h in (b.0, passed ts b.1)

-- each error is less than a limit
abbrev below : ℕ → List (Test ℕ) → Bool
below limit [] = true
below limit (t ∷ ts) = pick (ltb t.number limit) (below limit ts) false

abbrev BelowIf : ℕ → Option ℕ → Type 0
BelowIf limit none = Unit {0}
BelowIf limit (some e) = e < limit

first_below : (limit : ℕ) (ts : List (Test ℕ)) → below limit ts ≡ true → BelowIf limit (first_error ts)
first_below limit [] h = tt
first_below limit (t ∷ ts) h =
    let b = pick_then (ltb t.number limit) (below limit ts) h in
    pick_ind (BelowIf limit) t.holds (λ _. ltb-true t.number limit b.0) (λ _. first_below limit ts b.1)

-- ---- verdicts

-- the error of a number
error_of : ℕ → RequestError
error_of n =
    pick (eqb n 0) NotSubscribed
    (pick (eqb n 3) NotAvailable
    (pick (eqb n 6) InvalidServedUserNr
    (pick (eqb n 8) BasicServiceNotProvided
    (pick (eqb n 11) ResourceUnavailable
    (pick (eqb n 12) InvalidDivertedToNr
    (pick (eqb n 14) SpecialServiceNr (pick (eqb n 15) DiversionToServedUserNr NotActivated)))))))

error_back : (e : RequestError) → error_of (error_no e) ≡ e
unfolding error_of
error_back NotSubscribed = refl
error_back NotAvailable = refl
error_back InvalidServedUserNr = refl
error_back BasicServiceNotProvided = refl
error_back ResourceUnavailable = refl
error_back InvalidDivertedToNr = refl
error_back SpecialServiceNr = refl
error_back DiversionToServedUserNr = refl
error_back NotActivated = refl

-- the verdict of an error or none, and of whether it renews
abbrev verdict_by : Option ℕ → Bool → Result Bool RequestError
verdict_by none renews = Ok renews
verdict_by (some number) renews = Err (error_of number)

verdict_by_lem : (v : Result Bool RequestError) → verdict_by (verdict_no v) (renews_by v) ≡ v
verdict_by_lem (Ok renews) = refl
verdict_by_lem (Err error) = ap (λ (e : RequestError). Err e) (error_back error)

-- verdicts of the same error, which renew alike, are the same
pub verdict_same :
    {error : Option ℕ} {renews : Bool} (a b : Result Bool RequestError) → JudgedBy error renews a → JudgedBy error renews b → a ≡ b
verdict_same a b h k =
    sym (verdict_by_lem a)
    ∙ rw (h.verdict ∙ sym k.verdict, h.renewal ∙ sym k.renewal) (verdict_by_lem b)

-- the two cases
pub judged_fails : (error : RequestError) (renews : Bool) → JudgedBy (some (error_no error)) renews (Err error)
judged_fails error renews = record { verdict = refl; renewal = refl }

pub judged_passes : (renews : Bool) → JudgedBy none renews (Ok renews)
judged_passes renews = record { verdict = refl; renewal = refl }

-- what passes has no error, and tells whether it renews
pub passes_none :
    (error : Option ℕ) (renews : Bool) (v : Result Bool RequestError) → JudgedBy error renews v → (b : Bool) → v ≡ Ok b →
    (error ≡ none) × (b ≡ renews)
passes_none error renews v h b is =
    let free : error ≡ none = sym h.verdict ∙ ap verdict_no is in
    (free, ap renews_by (sym is) ∙ h.renewal ∙ ap (λ e. passing e renews) free)

-- ---- the tests, as the code makes them

not_not : (b : Bool) → not b ≡ false → b ≡ true
not_not true h = refl
not_not false h = absurd (false≢true (sym h))

module _ (p : Profile) (procedure : ℕ) where
  -- the flag of a procedure that the profile has
  pub subscribed_flag : is_subscribed p procedure ≡ true → get_or p.subscribed procedure 0 ≡ 0 → ⊥
  unfolding is_subscribed
  subscribed_flag h =
      let flag : ℕ = get_or p.subscribed procedure 0 in
      eqb-false flag 0 (not_passed (eqb flag 0) h)

  -- past the array there is no procedure
  pub subscribed_past : length p.subscribed ≤ procedure → false ≡ is_subscribed p procedure
  unfolding is_subscribed
  subscribed_past h = rw (get_or-eq_default p.subscribed 0 h)

-- a number that is not of another kind, as the test says
pub kind_known : (n : Number) → other_kind n ≡ false → n.form ≡ other → ⊥
unfolding other_kind
kind_known n h e = false≢true (sym h ∙ rw (eq-eqb _ _ e))

module _ (most : ℕ) (p : Profile) (count : ℕ) where
  -- as many as fit are within the limit
  pub fits_few : fits most p count ≡ true → count ≤ most
  unfolding fits
  fits_few h = leb-true count most h

module _ (p : Profile) (r : Request) (is : List Instance) (sel : Selection) (same : sel ≡ selection_of p r) where
  -- how many there are afterwards, as they are counted before
  pub count_afterwards :
      (count : ℕ) → count ≡ length (places_of p sel) + count_of sel.procedure (deactivated sel is) →
      count ≡ afterwards p r is
  unfolding afterwards
  count_afterwards count e =
      let mine = selection_of p r in
      e
      ∙ sym (count_activated p sel r.to.address is)
      ∙ ap (λ (x : Selection). count_of x.procedure (activated p x r.to.address is)) same
      ∙ ap (λ (q : ℕ). count_of q (activated p mine r.to.address is)) (selection_procedure p r)

-- ---- the verdict, and what it tells

pub record EveryPasses (p : Profile) (r : Request) : Type 0 where
  pub used : not_in_use p ≡ false
  pub subscribed : is_subscribed p r.procedure ≡ true
  pub served : served_invalid p r ≡ false

module _ (most : ℕ) (p : Profile) (operation : ℕ) (r : Request) (is : List Instance) where
  both_tests : judge most p operation r is ≡ or_else (first_error (every_tests p r)) (first_error (tests_of most p operation r is))
  unfolding judge
  both_tests = first_append (every_tests p r) (tests_of most p operation r is)

  -- an error of every request is the verdict
  pub judge_fails : (e : ℕ) → first_error (every_tests p r) ≡ some e → judge most p operation r is ≡ some e
  judge_fails e h = rw (both_tests, h)

  -- where there is none, the tests of the operation decide
  pub judge_rest :
      first_error (every_tests p r) ≡ none → judge most p operation r is ≡ first_error (tests_of most p operation r is)
  judge_rest h = rw (both_tests, h)

  -- an operation with no tests of its own
  pub judge_interrogation :
      (operation ≡ activation → ⊥) → (operation ≡ deactivation → ⊥) →
      judge most p operation r is ≡ first_error (every_tests p r)
  unfolding judge
  judge_interrogation activates deactivates = rw (ne_eqb _ _ activates, ne_eqb _ _ deactivates)

  pub judge_subscribed : judge most p operation r is ≡ none → EveryPasses p r
  unfolding judge
  judge_subscribed h =
      let t = passed (every_tests p r ++ tests_of most p operation r is) h in
      record { used = t.0; subscribed = not_not (is_subscribed p r.procedure) t.1.0; served = t.1.1.0 }

  -- each error fits an octet
  pub judge_errors : (e : ℕ) → judge most p operation r is ≡ some e → e < 256
  unfolding judge
  judge_errors e h =
      subst (BelowIf 256) h
      (first_below 256 (every_tests p r ++ tests_of most p operation r is)
      (pick_ind (λ ts. below 256 ts ≡ true) (eqb operation activation)
      (λ _. refl)
      (λ _. pick_ind (λ ts. below 256 ts ≡ true) (eqb operation deactivation) (λ _. refl) (λ _. refl))))

-- no other operation renews
pub renews_other :
    (p : Profile) (operation : ℕ) (r : Request) (is : List Instance) → (operation ≡ activation → ⊥) →
    only_renews p operation r is ≡ false
unfolding only_renews
renews_other p operation r is activates = rw (ne_eqb operation activation activates)

-- and what renews is an activation of as many instances as places
pub renews_only :
    (p : Profile) (operation : ℕ) (r : Request) (is : List Instance) → only_renews p operation r is ≡ true →
    (operation ≡ activation) × (renews p (selection_of p r) is ≡ true)
unfolding only_renews
renews_only p operation r is h =
    let both = pick_then (eqb operation activation) (pick (renews p (selection_of p r) is) true false) h in
    (eqb-true operation activation both.0, sym (pick_last (renews p (selection_of p r) is)) ∙ both.1)

-- the tests of an operation as the code makes them, by a selection that is the request's
module _
    (most : ℕ) (p : Profile) (operation : ℕ) (r : Request) (is : List Instance) (sel : Selection)
    (every : first_error (every_tests p r) ≡ none) (same : sel ≡ selection_of p r)
  where
    judge_put :
        (after : ℕ) → operation ≡ activation →
        after ≡ length (places_of p sel) + count_of sel.procedure (deactivated sel is) →
        first_error (activation_tests most p r sel.number after) ≡ judge most p operation r is
    judge_put after activates e =
        rw (
          judge_rest most p operation r is every,
          eq-eqb operation activation activates,
          ap (λ (x : Selection). x.number) same ∙ selection_number p r,
          count_afterwards p r is sel same after e,
        )

    -- and whether it renews
    pub judged_put :
        (after : After) → operation ≡ activation →
        after.count ≡ length (places_of p sel) + count_of sel.procedure (deactivated sel is) →
        after.renews ≡ renews p sel is →
        (v : Result Bool RequestError) → JudgedBy (first_error (activation_tests most p r sel.number after.count)) after.renews v →
        JudgedBy (judge most p operation r is) (only_renews p operation r is) v
    unfolding only_renews
    judged_put after activates e n v h =
        let same-renews : after.renews ≡ renews p (selection_of p r) is = n ∙ ap (λ (x : Selection). renews p x is) same in
        rw (← judge_put after.count activates e, eq-eqb operation activation activates, ← same-renews, pick_last after.renews) h

    judge_clear :
        (count : ℕ) → (operation ≡ activation → ⊥) → operation ≡ deactivation → count ≡ length (listed sel is) →
        first_error (deactivation_tests count) ≡ judge most p operation r is
    judge_clear count activates deactivates e =
        rw (
          judge_rest most p operation r is every,
          ne_eqb operation activation activates,
          eq-eqb operation deactivation deactivates,
          e ∙ ap (λ (x : Selection). length (listed x is)) same,
        )

    pub judged_clear :
        (count : ℕ) → (operation ≡ activation → ⊥) → operation ≡ deactivation → count ≡ length (listed sel is) →
        (v : Result Bool RequestError) → JudgedBy (first_error (deactivation_tests count)) false v →
        JudgedBy (judge most p operation r is) (only_renews p operation r is) v
    judged_clear count activates deactivates e v h =
        rw (← judge_clear count activates deactivates e, renews_other p operation r is activates) h

module _ (most : ℕ) (p : Profile) (r : Request) (is : List Instance) where
  pub record ActivationPasses : Type 0 where
    pub provided : not_provided p r ≡ false
    pub user : user_specified r ≡ false
    pub kind : other_kind r.to.address.number ≡ false
    pub prefix : begins_any (barred p) (digits_of r.to.address.number) ≡ false
    pub own : selected_same p (number_asked p r.served) r.to.address.number 0 (served_numbers p) ≡ false
    pub room : afterwards p r is ≤ most

  pub judge_activation : judge most p activation r is ≡ none → ActivationPasses
  unfolding judge
  judge_activation h =
      let t = (passed (every_tests p r ++ activation_tests most p r (number_asked p r.served) (afterwards p r is)) h).1.1.1 in
      record {
        provided = t.0;
        user = t.1.0;
        kind = t.1.1.0;
        prefix = t.1.1.1.0;
        own = t.1.1.1.1.0;
        room = fits_few most p (afterwards p r is) (not_not (fits most p (afterwards p r is)) t.1.1.1.1.1.0);
      }

  -- how many active instances are selected
  abbrev active : ℕ
  active = length (listed (selection_of p r) is)

  pub judge_deactivation : judge most p deactivation r is ≡ none → 0 < length (listed (selection_of p r) is)
  unfolding judge
  judge_deactivation h =
      let t = (passed (every_tests p r ++ deactivation_tests active) h).1.1.1 in
      let some : active ≡ 0 → ⊥ = eqb-false active 0 t.0 in
      omega arith

  -- "error 46 exactly if there's none"
  pub none_fails :
      first_error (every_tests p r) ≡ none → length (listed (selection_of p r) is) ≡ 0 →
      judge most p deactivation r is ≡ some 46
  none_fails every nothing = rw (judge_rest most p deactivation r is every, eq-eqb active 0 nothing)

  -- every request's own errors are others
  passes_every :
      (v : Option ℕ) → first_error (every_tests p r) ≡ v → judge most p deactivation r is ≡ some 46 → v ≡ none
  passes_every none every h = refl
  passes_every (some e) every h =
      let same : first_error (every_tests p r) ≡ some 46 = every ∙ sym (judge_fails most p deactivation r is e every) ∙ h in
      let other : 46 < 46 = subst (BelowIf 46) same (first_below 46 (every_tests p r) refl) in
      absurd (omega arith)

  pub fails_none :
      judge most p deactivation r is ≡ some 46 →
      (first_error (every_tests p r) ≡ none) × (length (listed (selection_of p r) is) ≡ 0)
  fails_none h =
      let every = passes_every (first_error (every_tests p r)) refl h in
      let b : Bool = eqb active 0 in
      let e : pick {A = Option ℕ} b (some 46) none ≡ some 46 = sym (judge_rest most p deactivation r is every) ∙ h in
      (every, eqb-true active 0 (pick_first {A = Option ℕ} b (some 46) none (λ q. apart 46 (sym q ∙ e))))
