-- A request that the end may send, and the same as it is read, are judged alike; and what a whole interrogation
-- passes. Assumes nothing.
use Prim.Native.Nat.{ℕ, ◌+◌}
use mathlib.Core.Path.{◌≡◌, refl, sym, ap, ◌∙◌}
use mathlib.Core.Bool.{Bool, true, false, not}
use mathlib.Core.List.{List, [], ◌∷◌}
use mathlib.Core.Option.{Option, none, some}
use mathlib.Core.Logic.{◌⊎◌, ⊎_elim}
use lib.ListN.{length}
use lib.Dec.{ltb, eqb}
use borrow.Author.Tests.{eq-eqb, eqb-true, eqb-false}
use Rattle.laws.specs.Pick.{pick}
use Rattle.laws.specs.Tests.{all}
use Rattle.laws.proofs.Picks.{by_bool}
use Rattle.codes.specs.Codes.{activation}
use Rattle.numbers.specs.Number.{most, digits_of, tidy_number, number_good}
use Rattle.numbers.specs.declared.number.Number.{Number}
use Rattle.numbers.proofs.Goods.{good_address}
use Rattle.profile.specs.Profile.{barred, served_numbers, place_in}
use Rattle.profile.specs.declared.profile.Profile.{Profile}
use Rattle.profile.proofs.Tidied.{digits_tidied, count_tidied, same_tidied, place_tidied}
use Rattle.requests.specs.Sent.{sendable, tidy_served, tidy_request}
use Rattle.requests.specs.declared.request.Request.{Request}
use Rattle.requests.specs.declared.request.Served.{Served}
use Rattle.requests.proofs.Goods.{ServedIs, good_served, good_to, good_request}
use Rattle.instances.specs.Run.{count_of, deactivated}
use Rattle.instances.specs.Places.{places_of}
use Rattle.instances.specs.declared.instance.Instance.{Instance}
use Rattle.instances.specs.declared.instance.Selection.{Selection}
use Rattle.rules.specs.Prefix.{begins_any}
use Rattle.rules.specs.Selection.{number_asked, selection_of}
use Rattle.rules.specs.Judge.{first_error, every_tests, not_in_use, is_subscribed, has_all_numbers, served_invalid, not_provided}
use Rattle.rules.specs.Judge.{user_specified, other_kind, selected_same, afterwards, tests_of, judge}
use Rattle.rules.proofs.Judges.{count_afterwards}

-- ---- numbers

module _ (n : Number) (good : number_good n ≡ true) (long : length n.digits ≡ most) where
  kind_tidied : other_kind (tidy_number n) ≡ other_kind n
  unfolding other_kind
  kind_tidied = rw (count_tidied n good long)

  selected_tidied :
      (p : Profile) (asked from : ℕ) (ns : List Number) → selected_same p asked (tidy_number n) from ns ≡ selected_same p asked n from ns
  unfolding selected_same
  selected_tidied p asked from [] = refl
  selected_tidied p asked from (x ∷ ns) = rw (same_tidied n good long p x, selected_tidied p asked (1 + from) ns)

-- ---- the served number

module _ (p : Profile) (served : Served) (good : ServedIs served) (long : length served.number.digits ≡ most) where
  one_good : (served.all ≡ 1 → ⊥) → number_good served.number ≡ true
  one_good other = ⊎_elim (λ e. absurd (other e)) (λ e. e.1) good

  asked_tidied : number_asked p (tidy_served served) ≡ number_asked p served
  unfolding number_asked
  asked_tidied =
      by_bool _ (eqb served.all 1)
      (λ e. rw e)
      (λ e. rw (e, place_tidied served.number (one_good (eqb-false served.all 1 e)) long p (served_numbers p)))

  -- whether it is invalid
  abbrev invalid : Served → Bool
  invalid s =
      all
      (not (eqb p.msn 0)
      ∷ not (pick (eqb s.all 1) (has_all_numbers p) (ltb (place_in p s.number (served_numbers p)) p.numbercount))
      ∷ [])

  invalid_tidied : invalid (tidy_served served) ≡ invalid served
  invalid_tidied =
      by_bool _ (eqb served.all 1)
      (λ e. rw e)
      (λ e. rw (e, place_tidied served.number (one_good (eqb-false served.all 1 e)) long p (served_numbers p)))

-- ---- the request

-- what the tests of an activation look at is the same of both requests
record Alike (p : Profile) (r s : Request) (is : List Instance) : Type 0 where
  provided : not_provided p r ≡ not_provided p s
  user : user_specified r ≡ user_specified s
  kind : other_kind r.to.address.number ≡ other_kind s.to.address.number
  begins : begins_any (barred p) (digits_of r.to.address.number) ≡ begins_any (barred p) (digits_of s.to.address.number)
  selects :
      selected_same p (number_asked p r.served) r.to.address.number 0 (served_numbers p)
      ≡ selected_same p (number_asked p s.served) s.to.address.number 0 (served_numbers p)
  after : afterwards p r is ≡ afterwards p s is

tests_alike :
    (limit : ℕ) (p : Profile) (operation : ℕ) (r s : Request) (is : List Instance) → (eqb operation activation ≡ true → Alike p r s is) →
    selection_of p r ≡ selection_of p s → first_error (tests_of limit p operation r is) ≡ first_error (tests_of limit p operation s is)
tests_alike limit p operation r s is alike same =
    by_bool (first_error (tests_of limit p operation r is) ≡ first_error (tests_of limit p operation s is)) (eqb operation activation)
    (λ e. let z = alike e in rw (e, z.provided, z.user, z.kind, z.begins, z.selects, z.after))
    (λ e. rw (e, same))

-- arrays of digits have their places
abbrev pub Sized : Request → Type 0
Sized r = (length r.served.number.digits ≡ most) × (length r.to.address.number.digits ≡ most)

module _ (p : Profile) (operation : ℕ) (r : Request) (goes : sendable operation r ≡ true) (sizes : Sized r) where
  abbrev r' : Request
  r' = tidy_request operation r

  served_is : ServedIs r.served
  served_is = good_served r.served (good_request operation r goes).served

  pub selection_tidied : selection_of p (tidy_request operation r) ≡ selection_of p r
  unfolding selection_of
  selection_tidied =
      ap (λ (k : ℕ). with_number k) (asked_tidied p r.served served_is sizes.0)
    where
      with_number : ℕ → Selection
      with_number k = record { procedure = r.procedure; number = k; service = r.service }

  served_tidied : served_invalid p r' ≡ served_invalid p r
  unfolding served_invalid
  served_tidied = invalid_tidied p r.served served_is sizes.0

  provided_tidied : not_provided p r' ≡ not_provided p r
  unfolding not_provided
  provided_tidied = refl

  after_tidied : (is : List Instance) → afterwards p r' is ≡ afterwards p r is
  after_tidied is =
      let count : Selection → ℕ = λ sel. length (places_of p sel) + count_of sel.procedure (deactivated sel is) in
      sym (count_afterwards p r' is (selection_of p r') refl (count (selection_of p r')) refl)
      ∙ (ap count selection_tidied ∙ count_afterwards p r is (selection_of p r) refl (count (selection_of p r)) refl)

  to_number : eqb operation activation ≡ true → number_good r.to.address.number ≡ true
  to_number e =
      (good_address r.to.address (good_to r.to ((good_request operation r goes).to (eqb-true operation activation e))).address).number

  user_tidied : eqb operation activation ≡ true → user_specified r' ≡ user_specified r
  user_tidied e = rw (e, (good_to r.to ((good_request operation r goes).to (eqb-true operation activation e))).user)

  kind_alike : eqb operation activation ≡ true → other_kind r'.to.address.number ≡ other_kind r.to.address.number
  kind_alike e = rw e (kind_tidied r.to.address.number (to_number e) sizes.1)

  begins_alike :
      eqb operation activation ≡ true →
      begins_any (barred p) (digits_of r'.to.address.number) ≡ begins_any (barred p) (digits_of r.to.address.number)
  begins_alike e = rw e (ap (begins_any (barred p)) (digits_tidied r.to.address.number))

  selects_alike :
      eqb operation activation ≡ true →
      selected_same p (number_asked p r'.served) r'.to.address.number 0 (served_numbers p)
      ≡ selected_same p (number_asked p r.served) r.to.address.number 0 (served_numbers p)
  selects_alike e =
      ap (λ k. selected_same p k r'.to.address.number 0 (served_numbers p)) (asked_tidied p r.served served_is sizes.0)
      ∙ rw e (selected_tidied r.to.address.number (to_number e) sizes.1 p (number_asked p r.served) 0 (served_numbers p))

  tests_tidied : (limit : ℕ) (is : List Instance) → first_error (tests_of limit p operation r' is) ≡ first_error (tests_of limit p operation r is)
  tests_tidied limit is =
      tests_alike limit p operation r' r is
      (λ e. record {
        provided = provided_tidied;
        user = user_tidied e;
        kind = kind_alike e;
        begins = begins_alike e;
        selects = selects_alike e;
        after = after_tidied is;
      })
      selection_tidied

  pub judge_tidied : (limit : ℕ) (is : List Instance) → judge limit p operation (tidy_request operation r) is ≡ judge limit p operation r is
  unfolding judge
  judge_tidied limit is = rw (served_tidied, tests_tidied limit is)

-- ---- a whole interrogation

-- of a profile in use, for a procedure that is subscribed, where MSN is no or the "all numbers" option yes, no test of every request holds
pub whole_passes :
    (p : Profile) (r : Request) → not_in_use p ≡ false → is_subscribed p r.procedure ≡ true → (p.msn ≡ 0) ⊎ (has_all_numbers p ≡ true) →
    r.served.all ≡ 1 → first_error (every_tests p r) ≡ none
unfolding served_invalid
whole_passes p r used subscribed whole every =
    ⊎_elim
    (λ no. rw (used, subscribed, eq-eqb p.msn 0 no))
    (λ option. rw (used, subscribed, eq-eqb r.served.all 1 every) (go (eqb p.msn 0) (has_all_numbers p) option))
    whole
  where
    go : (no option : Bool) → option ≡ true → pick {A = Option ℕ} (pick (not no) (pick (not option) true false) false) (some 6) none ≡ none
    go true option h = refl
    go false option h = rw h
