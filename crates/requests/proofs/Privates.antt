-- What is passed over as private elements is exactly what spells some, any number of them. Assumes nothing.
use Prim.Native.Nat.{ℕ, ◌+◌, ◌/◌, ◌≤◌, ◌<◌}
use mathlib.Core.Path.{◌≡◌, ap}
use mathlib.Core.Bool.{true}
use mathlib.Core.List.{List, [], ◌∷◌}
use native.Mathlib.Omega.{arith}
use lib.ListN.{length, get_or}
use lib.Seq.{slice, slice-cons}
use lib.Dec.{eqb}
use borrow.Author.Tests.{eq-eqb, eqb-true}
use Rattle.laws.specs.Stands.{Stands}
use Rattle.laws.proofs.Picks.{pick_ind}
use Rattle.laws.proofs.Stands.{stands_first}
use Rattle.skip.specs.Skip.{skip_depth}
use Rattle.std.specs.Prelude.{Option, Some}
use Rattle.skip.proofs.Skips.{Further, further}
use Rattle.skip.proofs.Runs.{run_fills, run_only}
use Rattle.skip.proofs.Spellings.{skip_back, skippable_some, skip_only, apart}
use Rattle.requests.specs.Request.{private_at, privates}
use Rattle.requests.specs.Spelt.{PrivateSpelt, PrivatesSpelt}
use Rattle.requests.proofs.Readers.{private_further}

-- the first octet of what stands there
first_stands : (s : List ℕ) (at : ℕ) (ws : List ℕ) → 0 < length ws → Stands s at ws → get_or s at 0 ≡ get_or ws 0 0
first_stands s at [] some st = absurd (omega arith)
first_stands s at (w ∷ ws) some st = stands_first s at w ws st

-- what spells a private element is passed
private_back :
    (s : List ℕ) (end : ℕ) → end ≤ length s → (ws : List ℕ) (at : ℕ) → PrivateSpelt ws → Stands s at ws → at + length ws ≤ end →
    private_at s at end ≡ Some (at + length ws)
unfolding private_at
private_back s end in-s ws at p st fit =
    rw (first_stands s at ws (skippable_some skip_depth ws p.skipped) st, eq-eqb (get_or ws 0 0 / 64) 3 p.class)
    (skip_back skip_depth ws s at end p.skipped st fit in-s)

-- what spells private elements is passed over
pub privates_back :
    (s ps : List ℕ) (at end : ℕ) → PrivatesSpelt ps → Stands s at ps → at + length ps ≡ end → end ≤ length s →
    privates s at end ≡ true
unfolding privates
privates_back s ps at end run st fit in-s =
    run_fills PrivateSpelt (λ a. private_at s a end) s end (λ a. private_further s a end) (private_back s end in-s) run at st fit

module _ (s : List ℕ) (small : (i : ℕ) → get_or s i 0 < 256) where
  private_only : (end at next : ℕ) → end ≤ length s → private_at s at end ≡ Some next → PrivateSpelt (slice at next s)
  unfolding private_at
  private_only end at next in-s =
      pick_ind (λ (x : Option ℕ). x ≡ Some next → PrivateSpelt (slice at next s)) (eqb (get_or s at 0 / 64) 3)
      (λ e h.
      let on : Further at end (Some next) = rw h at (further skip_depth s at end) in
      let first : get_or (slice at next s) 0 0 ≡ get_or s at 0 =
      ap (λ (l : List ℕ). get_or l 0 0) (slice-cons at next s 0 on.0 (omega (arith, on.1))) in
      record { class = rw first (eqb-true (get_or s at 0 / 64) 3 e); skipped = skip_only s small skip_depth at end next h })
      (λ _ h. absurd (apart h))

  -- nothing else is
  pub privates_only :
      (at end : ℕ) → at ≤ end → end ≤ length s → privates s at end ≡ true → PrivatesSpelt (slice at end s)
  unfolding privates
  privates_only at end le in-s h =
      run_only PrivateSpelt (λ a. private_at s a end) s end (λ a. private_further s a end)
      (λ a next e. private_only end a next in-s e) at le h
