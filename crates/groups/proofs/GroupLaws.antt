-- Laws of numbers in groups of seven bits, each once over the number k of groups: the bound, the shortest, how many groups,
-- that what is written reads back, and that nothing else is read. Assumes nothing.
use Prim.Native.Nat.{ℕ, zero, suc, ◌+◌, ◌-◌, ◌*◌, ◌/◌, ◌%◌, ◌^◌, ◌≤◌, ◌<◌}
use mathlib.Core.Path.{◌≡◌, refl, sym, ap, ◌∙◌}
use mathlib.Core.List.{List, [], ◌∷◌}
use native.Mathlib.Nat.{one-le-pow}
use native.Mathlib.Omega.{arith}
use lib.ListN.{length, get_or}
use lib.Dec.{ltb, eqb}
use borrow.Author.Tests.{lt-ltb, le-ltb, ne_eqb, ltb-true, ltb-false, eqb-false}
use Rattle.std.specs.Prelude.{Option, Some, None}
use Rattle.laws.specs.Got.{Got, got, wrong}
use Rattle.laws.specs.Pick.{pick}
use Rattle.laws.specs.Stands.{Stands}
use Rattle.laws.proofs.Picks.{pick_ind}
use Rattle.laws.proofs.Stands.{stands_first, stands_right, stands_nil, stands_cons}
use Rattle.groups.specs.Groups.{infront, groups_in, groups_told, groups_at, groups_with, groups}

-- ---- what is read

-- what is known of a number of at most k groups that was found at `at`
pub record Takes (k at v next : ℕ) : Type 0 where
  pub small : v < 128 ^ k
  pub starts : at < next
  pub stops : next ≤ at + k

abbrev TakesIf : ℕ → ℕ → Got ℕ → Type 0
TakesIf k at (got v next) = Takes k at v next
TakesIf k at wrong = Unit {0}

infront_takes :
    (k at b : ℕ) (x : Got ℕ) → TakesIf k (at + 1) x → TakesIf (suc k) at (infront (b % 128) x)
infront_takes k at b (got v next) t =
    pick_ind (TakesIf (suc k) at) (eqb v 0) (λ _. tt) (λ _. record {
      small = omega (arith, t.small);
      starts = omega (arith, t.starts);
      stops = omega (arith, t.stops);
    })
infront_takes k at b wrong t = tt

takes_if : (k : ℕ) (s : List ℕ) (at : ℕ) → TakesIf k at (groups_in k s at)
unfolding groups_in
takes_if zero s at = tt
takes_if (suc k) s at =
    pick_ind (TakesIf (suc k) at) (ltb (get_or s at 0) 128)
    (λ e. record {
      small = omega (arith, ltb-true (get_or s at 0) 128 e, one-le-pow k 128 (omega arith));
      starts = omega arith;
      stops = omega arith;
    })
    (λ _. infront_takes k at (get_or s at 0) (groups_in k s (at + 1)) (takes_if k s (at + 1)))

-- the bound: a number of at most k groups is below 128 ^ k, and takes at least one octet and at most k
pub groups_bound : (k : ℕ) (s : List ℕ) (at v next : ℕ) → groups_in k s at ≡ got v next → Takes k at v next
groups_bound k s at v next e = rw e at (takes_if k s at)

abbrev Least : ℕ → ℕ → ℕ → Type 0
Least at v next = (j : ℕ) → next ≡ at + suc j → 0 < j → 128 ^ j ≤ v

abbrev LeastIf : ℕ → Got ℕ → Type 0
LeastIf at (got v next) = Least at v next
LeastIf at wrong = Unit {0}

infront_least : (at b v next : ℕ) → Least (at + 1) v next → (v ≡ 0 → ⊥) → Least at (b % 128 + 128 * v) next
infront_least at b v next h some zero e pos = omega arith
infront_least at b v next h some (suc zero) e pos = omega arith
infront_least at b v next h some (suc (suc j)) e pos = omega (arith, h (suc j) (omega arith) (omega arith))

least_if : (k : ℕ) (s : List ℕ) (at : ℕ) → LeastIf at (groups_in k s at)
unfolding groups_in
least_if zero s at = tt
least_if (suc k) s at =
    pick_ind (LeastIf at) (ltb (get_or s at 0) 128) (λ _ j e pos. absurd (omega arith))
    (λ _. under (groups_in k s (at + 1)) (least_if k s (at + 1)))
  where
    under : (x : Got ℕ) → LeastIf (at + 1) x → LeastIf at (infront (get_or s at 0 % 128) x)
    under (got v next) h =
        pick_ind (LeastIf at) (eqb v 0) (λ _. tt) (λ e. infront_least at (get_or s at 0) v next h (eqb-false v 0 e))
    under wrong h = tt

-- the shortest: a number that took j + 1 groups, j not 0, needs them all
pub groups_shortest :
    (k : ℕ) (s : List ℕ) (at v next j : ℕ) → groups_in k s at ≡ got v next → next ≡ at + suc j → 0 < j →
    128 ^ j ≤ v
groups_shortest k s at v next j e = rw e at (least_if k s at) j

-- ---- what is written

enough_both : (k j n : ℕ) → n < 128 ^ suc k → n < 128 ^ suc j → groups_with k n ≡ groups_with j n
unfolding groups_with
enough_both zero zero n h g = refl
enough_both zero (suc j) n h g = rw (lt-ltb n 128 h)
enough_both (suc k) zero n h g = rw (lt-ltb n 128 g)
enough_both (suc k) (suc j) n h g =
    ap (λ (ws : List ℕ). pick (ltb n 128) (n ∷ []) ((128 + n % 128) ∷ ws))
    (enough_both k j (n / 128) (omega arith) (omega arith))

below_power : (n : ℕ) → n < 128 ^ n
below_power zero = omega arith
below_power (suc n) = omega (arith, below_power n)

-- enough groups are enough: more of them change nothing
pub groups_enough : (k n : ℕ) → n < 128 ^ suc k → groups_with k n ≡ groups n
unfolding groups
groups_enough k n h = enough_both k n n h (omega (arith, below_power n))

-- a number below 128 is its own group
pub groups_one : (n : ℕ) → n < 128 → groups n ≡ n ∷ []
unfolding groups_with
groups_one n h = sym (groups_enough 0 n h)

-- a larger one has its lowest seven bits in front of the groups of the rest
pub groups_more : (n : ℕ) → 128 ≤ n → groups n ≡ (128 + n % 128) ∷ groups (n / 128)
unfolding groups_with
groups_more n h =
    sym (groups_enough (suc n) n (omega (arith, below_power n)))
    ∙ rw (le-ltb n 128 h)
    (ap (λ (ws : List ℕ). (128 + n % 128) ∷ ws) (groups_enough n (n / 128) (omega (arith, below_power n))))

with_length : (k n : ℕ) → length (groups_with k n) ≤ suc k
unfolding groups_with
with_length zero n = omega arith
with_length (suc k) n =
    pick_ind (λ (ws : List ℕ). length ws ≤ suc (suc k)) (ltb n 128) (λ _. omega arith)
    (λ _. omega (arith, with_length k (n / 128)))

-- how many: a number below 128 ^ (k + 1) has at most k + 1 groups
pub groups_length : (k n : ℕ) → n < 128 ^ suc k → length (groups n) ≤ suc k
groups_length k n h = rw (groups_enough k n h) at (with_length k n)

-- ---- both

-- one group, which ends the number
pub groups_last :
    (k : ℕ) (s : List ℕ) (at : ℕ) → get_or s at 0 < 128 → groups_in (suc k) s at ≡ got (get_or s at 0) (at + 1)
unfolding groups_in
groups_last k s at h = rw (lt-ltb (get_or s at 0) 128 h)

-- a group in front of others, of which more follow
pub groups_infront :
    (k : ℕ) (s : List ℕ) (at : ℕ) → 128 ≤ get_or s at 0 →
    groups_in (suc k) s at ≡ infront (get_or s at 0 % 128) (groups_in k s (at + 1))
unfolding groups_in
groups_infront k s at h = rw (le-ltb (get_or s at 0) 128 h)

small_or_not : {P : Type 0} (n : ℕ) → (n < 128 → P) → (128 ≤ n → P) → P
small_or_not {P} n f g =
    pick_ind (λ _. P) (ltb n 128) {x = n} {y = n} (λ e. f (ltb-true n 128 e)) (λ e. g (ltb-false n 128 e))

-- the round trip: a number that stands somewhere in its groups is read as that number
pub groups_back :
    (n k : ℕ) (s : List ℕ) (at : ℕ) → Stands s at (groups n) → length (groups n) ≤ k →
    groups_in k s at ≡ got n (at + length (groups n))
groups_back n zero s at st le =
    small_or_not n (λ h. absurd (omega (arith, ap length (groups_one n h))))
    (λ h. absurd (omega (arith, ap length (groups_more n h))))
groups_back n (suc k) s at st le =
    small_or_not n
    (λ h.
    let e : groups n ≡ n ∷ [] = groups_one n h in
    let b : get_or s at 0 ≡ n = stands_first s at n [] (rw e at st) in
    groups_last k s at (omega arith) ∙ rw (b, e))
    (λ h.
    let e : groups n ≡ (128 + n % 128) ∷ groups (n / 128) = groups_more n h in
    let rest : List ℕ = groups (n / 128) in
    let b : get_or s at 0 ≡ 128 + n % 128 = stands_first s at (128 + n % 128) rest (rw e at st) in
    let st' : Stands s (at + 1) rest = stands_right s at ((128 + n % 128) ∷ []) rest (rw e at st) in
    let low : (128 + n % 128) % 128 ≡ n % 128 = omega arith in
    let all : n % 128 + 128 * (n / 128) ≡ n = omega arith in
    let next : at + 1 + length rest ≡ at + length (groups n) = omega (arith, ap length e) in
    groups_infront k s at (omega arith)
    ∙ rw (
      groups_back (n / 128) k s (at + 1) st' (omega (arith, ap length e)),
      b,
      low,
      ne_eqb (n / 128) 0 (λ z. omega arith),
      all,
      next,
    ))

-- a number below 2 ^ 32 that stands before `end` is told
pub groups_at_back :
    (n : ℕ) (s : List ℕ) (at end : ℕ) → n < 2 ^ 32 → Stands s at (groups n) → at + length (groups n) ≤ end →
    end ≤ length s → groups_at s at end ≡ got (Some n) (at + length (groups n))
unfolding groups_at
groups_at_back n s at end small st fit in-s =
    rw (le-ltb (length s) end in-s, groups_back n (end - at) s at st (omega arith), lt-ltb n (2 ^ 32) small)

-- ---- wrong else is read

abbrev Octets : List ℕ → ℕ → ℕ → Type 0
Octets s at next = (i : ℕ) → at ≤ i → i < next → get_or s i 0 < 256

-- ws stand at `at`, and end there
pub record StandsTo (s : List ℕ) (at : ℕ) (ws : List ℕ) (next : ℕ) : Type 0 where
  pub stands : Stands s at ws
  pub ends : next ≡ at + length ws

abbrev OnlyIf : List ℕ → ℕ → Got ℕ → Type 0
OnlyIf s at (got v next) = Octets s at next → StandsTo s at (groups v) next
OnlyIf s at wrong = Unit {0}

only_last : (s : List ℕ) (at : ℕ) → get_or s at 0 < 128 → StandsTo s at (groups (get_or s at 0)) (at + 1)
only_last s at h =
    rw (groups_one (get_or s at 0) h) (record {
      stands = stands_cons s at (get_or s at 0) [] refl (stands_nil s (at + 1));
      ends = refl;
    })

only_infront :
    (s : List ℕ) (at v next : ℕ) → 128 ≤ get_or s at 0 → (v ≡ 0 → ⊥) → OnlyIf s (at + 1) (got v next) →
    OnlyIf s at (got (get_or s at 0 % 128 + 128 * v) next)
only_infront s at v next big some h o =
    let b : ℕ = get_or s at 0 in
    let n : ℕ = b % 128 + 128 * v in
    let inner : StandsTo s (at + 1) (groups v) next = h (λ i le lt. o i (omega arith) lt) in
    let small : b < 256 = o at (omega arith) (omega (arith, inner.ends)) in
    let low : n % 128 ≡ b % 128 = omega arith in
    let high : n / 128 ≡ v = omega arith in
    let first : b ≡ 128 + b % 128 = omega arith in
    let large : 128 ≤ n = omega arith in
    rw (groups_more n large, low, high) (record {
      stands = stands_cons s at (128 + b % 128) (groups v) first inner.stands;
      ends = omega (arith, inner.ends);
    })

only_if : (k : ℕ) (s : List ℕ) (at : ℕ) → OnlyIf s at (groups_in k s at)
unfolding groups_in
only_if zero s at = tt
only_if (suc k) s at =
    pick_ind (OnlyIf s at) (ltb (get_or s at 0) 128) (λ e _. only_last s at (ltb-true (get_or s at 0) 128 e))
    (λ e. under (ltb-false (get_or s at 0) 128 e) (groups_in k s (at + 1)) (only_if k s (at + 1)))
  where
    under : 128 ≤ get_or s at 0 → (x : Got ℕ) → OnlyIf s (at + 1) x → OnlyIf s at (infront (get_or s at 0 % 128) x)
    under big (got v next) h =
        pick_ind (OnlyIf s at) (eqb v 0) (λ _. tt) (λ e. only_infront s at v next big (eqb-false v 0 e) h)
    under big wrong h = tt

-- what is accepted is exactly what is written: the octets of a number that is read are its groups
pub groups_only :
    (k : ℕ) (s : List ℕ) (at v next : ℕ) → ((i : ℕ) → at ≤ i → i < next → get_or s i 0 < 256) →
    groups_in k s at ≡ got v next → StandsTo s at (groups v) next
groups_only k s at v next o e = rw e at (only_if k s at) o

told_got : (x : Got ℕ) (v next : ℕ) → groups_told x ≡ got (Some v) next → x ≡ got v next
told_got (got w p) v next =
    pick_ind (λ y. ◌≡◌ {A = Got (Option ℕ)} (got y p) (got (Some v) next) → got w p ≡ got v next) (ltb w (2 ^ 32)) {x = Some w} {y = None}
    (λ _ e. cc)
    (λ _ e. absurd (cc))
told_got wrong v next = λ e. absurd (cc)

-- the same of a number that is told
pub groups_at_only :
    (s : List ℕ) (at end v next : ℕ) → ((i : ℕ) → at ≤ i → i < next → get_or s i 0 < 256) →
    groups_at s at end ≡ got (Some v) next → StandsTo s at (groups v) next
unfolding groups_at
groups_at_only s at end v next o =
    pick_ind (λ x. x ≡ got (Some v) next → StandsTo s at (groups v) next) (ltb (length s) end)
    (λ _ e. absurd (cc))
    (λ _ e. groups_only (end - at) s at v next o (told_got (groups_in (end - at) s at) v next e))
