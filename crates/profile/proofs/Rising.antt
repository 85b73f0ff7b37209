-- The services that a good profile offers: each is one of the sixteen, a later one is above an earlier one, and each has its own
-- place. Assumes nothing.
use Prim.Native.Nat.{ℕ, zero, suc, ◌<◌}
use mathlib.Core.Path.{◌≡◌, refl}
use mathlib.Core.Bool.{Bool, true}
use mathlib.Core.List.{List, [], ◌∷◌}
use mathlib.Core.Logic.{⊎_elim}
use native.Mathlib.Nat.{eq-or-lt_of_le}
use native.Mathlib.Omega.{arith}
use lib.ListN.{length, get_or}
use lib.Dec.{ltb}
use borrow.Author.Tests.{ltb-true, ltb-false}
use Rattle.laws.proofs.Picks.{pick_ind}
use Rattle.codes.specs.Codes.{place_of, service_code}
use Rattle.codes.proofs.Tables.{place_first, place_stands}
use Rattle.profile.specs.Profile.{rising}
use Rattle.profile.proofs.Profiles.{rising_first, rising_above}

pub rising_code :
    (below : ℕ) (codes : List ℕ) (k : ℕ) → rising below codes ≡ true → k < length codes →
    service_code (get_or codes k 0) ≡ true
rising_code below [] k h lt = absurd (omega arith)
rising_code below (code ∷ codes) zero h lt = (rising_first below code codes h).known
rising_code below (code ∷ codes) (suc k) h lt =
    rising_code code codes k (rising_first below code codes h).rest (omega arith)

pub rising_later :
    (below : ℕ) (codes : List ℕ) (i k : ℕ) → rising below codes ≡ true → i < k → k < length codes →
    get_or codes i 0 < get_or codes k 0
rising_later below [] i k h less lt = absurd (omega arith)
rising_later below (code ∷ codes) i zero h less lt = absurd (omega arith)
rising_later below (code ∷ codes) zero (suc k) h less lt =
    rising_above code codes k (rising_first below code codes h).rest (omega arith)
rising_later below (code ∷ codes) (suc i) (suc k) h less lt =
    rising_later code codes i k (rising_first below code codes h).rest (omega arith) (omega arith)

-- the place of a service that is offered is where it stands
pub rising_place :
    (below : ℕ) (codes : List ℕ) (k : ℕ) → rising below codes ≡ true → k < length codes →
    place_of (get_or codes k 0) codes ≡ k
rising_place below codes k h lt =
    let code : ℕ = get_or codes k 0 in
    let first = place_first code codes k lt refl in
    ⊎_elim
    (λ (same : place_of code codes ≡ k). same)
    (λ (less : place_of code codes < k).
    absurd (omega (
      arith,
      rising_later below codes (place_of code codes) k h less lt,
      place_stands code codes (omega (arith, first)),
    )))
    (eq-or-lt_of_le first)

-- of two that are offered, the one with the higher code has the later place
pub rising_order :
    (below : ℕ) (codes : List ℕ) (a b : ℕ) → rising below codes ≡ true → place_of a codes < length codes →
    place_of b codes < length codes →
    a < b →
    place_of a codes < place_of b codes
rising_order below codes a b h at bt less =
    let one = place_stands a codes at in
    let two = place_stands b codes bt in
    pick_ind (λ (_ : Bool). place_of a codes < place_of b codes) (ltb (place_of a codes) (place_of b codes)) {x = true} {y = true}
    (λ e. ltb-true (place_of a codes) (place_of b codes) e)
    (λ e.
    ⊎_elim
    (λ (same : place_of b codes ≡ place_of a codes). absurd (omega (arith, one, rw same at two)))
    (λ (later : place_of b codes < place_of a codes).
    absurd (omega (arith, one, two, rising_later below codes (place_of b codes) (place_of a codes) h later at)))
    (eq-or-lt_of_le (ltb-false (place_of a codes) (place_of b codes) e)))
