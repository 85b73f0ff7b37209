-- Laws of a test of every octet by its place. Assumes nothing.
use Prim.Native.Nat.{ℕ, suc, ◌+◌, ◌<◌}
use mathlib.Core.Path.{◌≡◌, sym, ap, ◌∙◌}
use mathlib.Core.Bool.{Bool, true}
use mathlib.Core.List.{List, [], ◌∷◌}
use native.Mathlib.Nat.{add-zero}
use native.Mathlib.Omega.{arith}
use lib.ListN.{length, get_or}
use Rattle.std.specs.List.{list_all, enumerate_from}
use Rattle.laws.specs.Places.{every_to}
use Rattle.laws.proofs.Picks.{by_bool}
use Rattle.laws.proofs.Walks.{every_more, every_fails}

-- every octet passes with its place, the first having the place k, where each before it did
pub every_placed :
    (test : ℕ × ℕ → Bool) (f : ℕ → Bool) (k : ℕ) (xs : List ℕ) → every_to f k ≡ true →
    ((i : ℕ) → i < length xs → test (k + i, get_or xs i 0) ≡ f (k + i)) →
    list_all test (enumerate_from k xs) ≡ every_to f (k + length xs)
every_placed test f k [] before same = rw add-zero (sym before)
every_placed test f k (x ∷ xs) before same =
    let here : test (k, x) ≡ f k = rw add-zero at (same 0 (omega arith)) in
    by_bool _ (f k)
    (λ passes.
    let after : k + 1 + length xs ≡ k + suc (length xs) = omega arith in
    rw (here, passes)
    (every_placed test f (k + 1) xs (every_more f k before passes)
    (λ i lt. let next : k + 1 + i ≡ k + suc i = omega arith in rw next (same (suc i) (omega arith)))
    ∙ ap (every_to f) after))
    (λ fails. rw (here, fails) (sym (every_fails f (k + suc (length xs)) k (omega arith) fails)))
