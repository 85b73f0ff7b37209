-- The tables of codes: each rule is one computed test, and one law over any list turns the test into the rule.
-- Assumes nothing.
use Prim.Native.Nat.{ℕ, zero, suc, ◌+◌, ◌<◌, ◌≤◌}
use mathlib.Core.Path.{◌≡◌, refl, sym, ap, ◌∙◌}
use mathlib.Core.Bool.{true, cond}
use mathlib.Core.List.{List, [], ◌∷◌}
use mathlib.Core.Logic.{⊎_elim}
use native.Mathlib.Nat.{eq-or-lt_of_le}
use native.Mathlib.Omega.{arith}
use lib.ListN.{length, get_or}
use lib.Dec.{ltb, eqb}
use borrow.Author.Tests.{lt-ltb, ltb-true, eqb-true, eq-eqb}
use Rattle.std.specs.List.{position, position_or_len}
use Rattle.std.specs.Option.{unwrap_or}
use Rattle.std.specs.Prelude.{Option}
use Rattle.std.proofs.lemmas.List.Recursion.{is_position_or_len}
use Rattle.laws.proofs.Tests.{both_hold}
use Rattle.laws.proofs.Picks.{pick_ind, pick_last}
use Rattle.codes.proofs.Searches.{found_or_length}
use Rattle.codes.specs.Codes.{services, trunk_reasons, place_of, ascends, apart, service_code, procedure_code}

ascends_parts :
    (below x : ℕ) (xs : List ℕ) → ascends below (x ∷ xs) ≡ true → (ltb below x ≡ true) × (ascends x xs ≡ true)
unfolding ascends
ascends_parts below x xs h = both_hold (ltb below x) (ascends x xs) h

apart_parts :
    (x : ℕ) (xs : List ℕ) → apart (x ∷ xs) ≡ true → (eqb (place_of x xs) (length xs) ≡ true) × (apart xs ≡ true)
unfolding apart
apart_parts x xs h = both_hold (eqb (place_of x xs) (length xs)) (apart xs) h

-- every code of an ascending list is above the bound that the list begins with
ascends_over :
    (below : ℕ) (l : List ℕ) → ascends below l ≡ true → (i : ℕ) → i < length l → below < get_or l i 0
ascends_over below [] h i k = absurd (omega arith)
ascends_over below (x ∷ xs) h zero k = ltb-true below x (ascends_parts below x xs h).0
ascends_over below (x ∷ xs) h (suc i) k =
    let p = ascends_parts below x xs h in
    omega (arith, ltb-true below x p.0, ascends_over x xs p.1 i (omega arith))

-- in an ascending list a later code is above an earlier one
pub ascends_above :
    (below : ℕ) (l : List ℕ) → ascends below l ≡ true → (i j : ℕ) → i < j → j < length l →
    get_or l i 0 < get_or l j 0
ascends_above below [] h i j lt k = absurd (omega arith)
ascends_above below (x ∷ xs) h i zero lt k = absurd (omega arith)
ascends_above below (x ∷ xs) h zero (suc j) lt k =
    ascends_over x xs (ascends_parts below x xs h).1 j (omega arith)
ascends_above below (x ∷ xs) h (suc i) (suc j) lt k =
    ascends_above x xs (ascends_parts below x xs h).1 i j (omega arith) (omega arith)

-- the place of a code is the first at which it stands
pub place_first :
    (code : ℕ) (l : List ℕ) (i : ℕ) → i < length l → get_or l i 0 ≡ code → place_of code l ≤ i
unfolding place_of
place_first code [] i k e = absurd (omega arith)
place_first code (x ∷ xs) zero k e = rw (eq-eqb x code e) (omega arith)
place_first code (x ∷ xs) (suc i) k e =
    pick_ind (λ p. p ≤ suc i) (eqb x code) (λ _. omega arith)
    (λ _. omega (arith, place_first code xs i (omega arith) e))

-- a code stands at its place
pub place_stands : (code : ℕ) (l : List ℕ) → place_of code l < length l → get_or l (place_of code l) 0 ≡ code
unfolding place_of
place_stands code [] = λ k. absurd (omega arith)
place_stands code (x ∷ xs) =
    pick_ind (λ p. p < suc (length xs) → get_or (x ∷ xs) p 0 ≡ code) (eqb x code) (λ e _. eqb-true x code e)
    (λ _ k. place_stands code xs (omega arith))

-- in a list in which no code stands twice, the first does not stand again
apart_first :
    (x : ℕ) (xs : List ℕ) → apart (x ∷ xs) ≡ true → (i : ℕ) → i < length xs → get_or xs i 0 ≡ x → ⊥
apart_first x xs h i k e =
    let p = apart_parts x xs h in
    omega (arith, eqb-true (place_of x xs) (length xs) p.0, place_first x xs i k e)

-- in such a list two places with the same code are the same place
pub apart_same :
    (l : List ℕ) → apart l ≡ true → (i j : ℕ) → i < length l → j < length l → get_or l i 0 ≡ get_or l j 0 → i ≡ j
apart_same [] h i j k m e = absurd (omega arith)
apart_same (x ∷ xs) h zero zero k m e = refl
apart_same (x ∷ xs) h zero (suc j) k m e = absurd (apart_first x xs h j (omega arith) (sym e))
apart_same (x ∷ xs) h (suc i) zero k m e = absurd (apart_first x xs h i (omega arith) e)
apart_same (x ∷ xs) h (suc i) (suc j) k m e =
    let p = apart_parts x xs h in
    ap suc (apart_same xs p.1 i j (omega arith) (omega arith) e)

-- in such a list each place is the place of its code
pub apart_place :
    (l : List ℕ) → apart l ≡ true → (i : ℕ) → i < length l → place_of (get_or l i 0) l ≡ i
apart_place l h i k =
    let first = place_first (get_or l i 0) l i k refl in
    apart_same l h (place_of (get_or l i 0) l) i (omega arith) k (place_stands (get_or l i 0) l (omega arith))

-- ---- the search for a code

-- the place of a code is the first place at which it stands
pub place_is : (code : ℕ) (l : List ℕ) → place_of code l ≡ position_or_len (λ x. eqb x code) l
unfolding place_of
place_is code =
    is_position_or_len (place_of code) (λ x. eqb x code) refl
    (λ x xs. pick_ind (λ n. n ≡ cond (eqb x code) 0 (1 + place_of code xs)) (eqb x code) (λ e. rw e) (λ e. rw e (omega arith)))

-- what std's search for a code finds
pub place_found :
    (code : ℕ) (l : List ℕ) (r : Option ℕ) → r ≡ position (λ x. eqb x code) l → unwrap_or r (length l) ≡ place_of code l
place_found code l r e = found_or_length (λ x. eqb x code) l r e ∙ sym (place_is code l)

-- ---- the sixteen services

-- the codes ascend
pub services_ascend : ascends 0 services ≡ true
unfolding ascends
services_ascend = refl

-- no code stands twice
pub services_apart : apart services ≡ true
unfolding apart place_of
services_apart = refl

-- a later place has a higher code
pub service_above : (i j : ℕ) → i < j → j < 16 → get_or services i 0 < get_or services j 0
service_above i j lt k = ascends_above 0 services services_ascend i j lt k

-- a code that has a place stands there
pub place_code_lem : (code : ℕ) → place_of code services < 16 → get_or services (place_of code services) 0 ≡ code
place_code_lem code k = place_stands code services k

-- a place is the place of its code
pub place_of_lem : (i : ℕ) → i < 16 → place_of (get_or services i 0) services ≡ i
place_of_lem i k = apart_place services services_apart i k

-- a request may name all services
pub service_all : service_code 0 ≡ true
unfolding service_code
service_all = refl

-- the sixteen services go up to 42
pub service_most : (code : ℕ) → service_code code ≡ true → code ≤ 42
unfolding service_code
service_most code =
    pick_ind (λ t. t ≡ true → code ≤ 42) (eqb code 0) (λ all _. omega (arith, eqb-true code 0 all))
    (λ _ h.
    let inside = ltb-true (place_of code services) (length services) (rw pick_last at h) in
    let e = place_code_lem code inside in
    ⊎_elim
    (λ (last : place_of code services ≡ 15). omega (arith, rw last at e))
    (λ (lt : place_of code services < 15). omega (arith, e, service_above (place_of code services) 15 lt (omega arith)))
    (eq-or-lt_of_le (omega arith)))

-- ---- the procedures

-- the codes below 3 are procedures
pub procedure_three : (code : ℕ) → code < 3 → procedure_code code ≡ true
unfolding procedure_code
procedure_three code h = lt-ltb code 3 h

-- ---- the reasons on the trunk

-- no code stands twice
pub reasons_apart : apart trunk_reasons ≡ true
unfolding apart place_of
reasons_apart = refl

-- two of our reasons with the same code are the same reason
pub trunk_reason_same :
    (i j : ℕ) → i < 4 → j < 4 → get_or trunk_reasons i 0 ≡ get_or trunk_reasons j 0 → i ≡ j
trunk_reason_same i j k m e = apart_same trunk_reasons reasons_apart i j k m e

-- the procedure of a request, as a test
pub procedure_code_lem : (code : ℕ) → procedure_code code ≡ ltb code 3
unfolding procedure_code
procedure_code_lem code = refl
