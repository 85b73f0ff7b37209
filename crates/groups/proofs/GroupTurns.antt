-- What the functions under `groups_at` and `put_groups` go by: the turns of their loops, and what the last group decides.
-- Assumes nothing.
use Prim.Native.Nat.{ℕ, zero, suc, ◌+◌, ◌-◌, ◌*◌, ◌/◌, ◌%◌, ◌^◌, ◌≤◌, ◌<◌}
use mathlib.Core.Path.{◌≡◌, refl, sym, ap, ◌∙◌}
use mathlib.Core.List.{List, [], ◌∷◌}
use mathlib.Core.Logic.{⊎_elim}
use native.Mathlib.Nat.{add-zero, eq-or-lt_of_le, pow-le-pow_right}
use Rattle.laws.proofs.Over.{over_cons}
use native.Mathlib.Omega.{arith}
use lib.ListN.{length, get_or, set}
use borrow.Author.Tests.{lt-ltb, le-ltb, ne_eqb}
use Rattle.std.specs.Prelude.{Some, None, Result, Ok, Err}
use Rattle.std.specs.Result.{OkIff, result_ok}
use Rattle.std.proofs.lemmas.Result.{OkIff-at_ok, OkIff-at_err}
use Rattle.laws.specs.Got.{Got, got, wrong}
use Rattle.laws.specs.Over.{over, Wrote}
use Rattle.groups.specs.Groups.{groups_in, told_value, groups_told, groups_at, groups}
use Rattle.groups.specs.inner.Groups.{LastAt, groups_most, groups_value}
use Rattle.groups.proofs.GroupLaws.{groups_last, groups_infront, groups_shortest, groups_one, groups_more}

-- ---- the value of k groups

value_small : (k : ℕ) (s : List ℕ) (at : ℕ) → groups_value k s at < 128 ^ k
unfolding groups_value
value_small zero s at = omega arith
value_small (suc k) s at = omega (arith, value_small k s (at + 1))

-- a machine word holds the value of as many groups as a number below 2 ^ 32 has
pub value_fits : (k : ℕ) (s : List ℕ) (at : ℕ) → k ≤ groups_most → groups_value k s at < 2 ^ 35
value_fits k s at h =
    let le : 128 ^ k ≤ 128 ^ groups_most = pow-le-pow_right (omega arith) h in
    omega (arith, value_small k s at)

-- nothing added yet
pub value_none : (k : ℕ) (s : List ℕ) (at : ℕ) → 0 ≡ groups_value (k - k) s at
unfolding groups_value
value_none k s at = let e : k - k ≡ 0 = omega arith in rw e

-- one group more, in front
pub value_more :
    (k i : ℕ) (s : List ℕ) (at v : ℕ) → 0 < i → i ≤ k → v ≡ groups_value (k - i) s (at + i) →
    get_or s (at + (i - 1)) 0 % 128 + 128 * v ≡ groups_value (k - (i - 1)) s (at + (i - 1))
unfolding groups_value
value_more k i s at v pos le e =
    let count : k - (i - 1) ≡ suc (k - i) = omega arith in
    let place : at + i ≡ at + (i - 1) + 1 = omega arith in
    rw (count, e, place)

-- all of them
pub value_all :
    (k i : ℕ) (s : List ℕ) (at v : ℕ) → i ≤ 0 → v ≡ groups_value (k - i) s (at + i) → v ≡ groups_value k s at
value_all k i s at v none e =
    let count : k - i ≡ k = omega arith in
    let place : at + i ≡ at = omega arith in
    rw (count, place) at e

value_some :
    (j : ℕ) (s : List ℕ) (at last : ℕ) → last ≡ at + j → get_or s last 0 < 128 → (get_or s last 0 ≡ 0 → ⊥) →
    groups_value (suc j) s at ≡ 0 → ⊥
unfolding groups_value
value_some zero s at last e small some z =
    let same : get_or s last 0 ≡ get_or s at 0 = rw (e, add-zero) in
    omega arith
value_some (suc j) s at last e small some z = value_some j s (at + 1) last (omega arith) small some (omega arith)

-- ---- where the last group stands

-- none passed yet
pub last_none : (s : List ℕ) (at : ℕ) → LastAt s at at at
last_none s at = record {
  from = omega arith;
  within = omega arith;
  more = λ i le lt. absurd (omega arith);
  last = λ lt. absurd (omega arith);
}

-- one passed that is not the last
pub last_more : (s : List ℕ) (at i : ℕ) → LastAt s at i i → 128 ≤ get_or s i 0 → LastAt s at (i + 1) (i + 1)
last_more s at i l h = record {
  from = omega (arith, l.from);
  within = omega arith;
  more = λ j le lt. ⊎_elim (λ e. rw e h) (λ less. l.more j le (omega arith)) (eq-or-lt_of_le (le_of j lt));
  last = λ lt. absurd (omega arith);
}
  where
    le_of : (j : ℕ) → j < i + 1 → j ≤ i
    le_of j lt = omega arith

-- it was met before `end`, or there is none
pub last_here :
    (s : List ℕ) (at end i : ℕ) → LastAt s at i i → i ≤ end → (i < end → get_or s i 0 < 128) → LastAt s at end i
last_here s at end i l le h = record { from = l.from; within = le; more = l.more; last = h }

last_step : (s : List ℕ) (at end last : ℕ) → LastAt s at end last → at < last → LastAt s (at + 1) end last
last_step s at end last l lt = record {
  from = omega arith;
  within = l.within;
  more = λ i le. l.more i (omega arith);
  last = l.last;
}

-- one in front that is not the last
last_wider :
    (s : List ℕ) (at end last : ℕ) → 128 ≤ get_or s at 0 → LastAt s (at + 1) end last → LastAt s at end last
last_wider s at end last h l = record {
  from = omega (arith, l.from);
  within = l.within;
  more = λ i le lt. ⊎_elim (λ e. rw (← e) h) (λ less. l.more i (omega arith) lt) (eq-or-lt_of_le le);
  last = l.last;
}

-- ---- what the last group decides

-- no last group, no number
groups_none :
    (k : ℕ) (s : List ℕ) (at end : ℕ) → end ≡ at + k → LastAt s at end end → groups_in k s at ≡ wrong
unfolding groups_in
groups_none zero s at end e l = refl
groups_none (suc k) s at end e l =
    groups_infront k s at (l.more at (omega arith) (omega arith))
    ∙ rw (groups_none k s (at + 1) end (omega arith) (last_step s at end end l (omega arith)))

-- a last group of 0 behind others: not the shortest
groups_zero :
    (j k : ℕ) (s : List ℕ) (at end last : ℕ) → last ≡ at + suc j → end ≡ at + k → LastAt s at end last → last < end →
    get_or s last 0 ≡ 0 → groups_in k s at ≡ wrong
groups_zero j zero s at end last e f l lt z = absurd (omega arith)
groups_zero zero (suc zero) s at end last e f l lt z = absurd (omega arith)
groups_zero zero (suc (suc k)) s at end last e f l lt z =
    let place : last ≡ at + 1 = e in
    let first : get_or s (at + 1) 0 ≡ 0 = rw place at z in
    groups_infront (suc k) s at (l.more at (omega arith) (omega arith))
    ∙ rw (groups_last k s (at + 1) (omega arith), first)
groups_zero (suc j) (suc k) s at end last e f l lt z =
    groups_infront k s at (l.more at (omega arith) (omega arith))
    ∙ rw (groups_zero j k s (at + 1) end last (omega arith) (omega arith) (last_step s at end last l (omega arith)) lt z)

-- any other last group
groups_ends :
    (j k : ℕ) (s : List ℕ) (at end last : ℕ) → last ≡ at + j → end ≡ at + k → LastAt s at end last → last < end →
    (get_or s last 0 ≡ 0 → ⊥) → groups_in k s at ≡ got (groups_value (suc j) s at) (last + 1)
unfolding groups_value
groups_ends j zero s at end last e f l lt some = absurd (omega arith)
groups_ends zero (suc k) s at end last e f l lt some =
    let place : last ≡ at = omega arith in
    let small : get_or s at 0 < 128 = rw place at (l.last lt) in
    let value : get_or s at 0 ≡ get_or s at 0 % 128 + 128 * 0 = omega arith in
    groups_last k s at small ∙ rw (← value, place)
groups_ends (suc j) (suc k) s at end last e f l lt some =
    let rest : ℕ = groups_value (suc j) s (at + 1) in
    let e' : last ≡ at + 1 + j = omega arith in
    groups_infront k s at (l.more at (omega arith) (omega arith))
    ∙ rw (
      groups_ends j k s (at + 1) end last e' (omega arith) (last_step s at end last l (omega arith)) lt some,
      ne_eqb rest 0 (value_some j s (at + 1) last e' (l.last lt) some),
    )

-- a value of 64 bits as one of 32: it is told where it is below 2 ^ 32
pub told_try : {E : Type 0} (r : Result ℕ E) (v : ℕ) → OkIff r (v < 2 ^ 32) v → result_ok r ≡ told_value v
told_try {E} (Ok x) v h =
    let p = OkIff-at_ok {E = E} (Ok x) (v < 2 ^ 32) v x h refl in
    rw (p.1, lt-ltb v (2 ^ 32) p.0)
told_try {E} (Err e) v h = rw (le-ltb v (2 ^ 32) (not_less (OkIff-at_err {T = ℕ} {E = E} (Err e) (v < 2 ^ 32) v e h refl)))
  where
    not_less : (v < 2 ^ 32 → ⊥) → 2 ^ 32 ≤ v
    not_less not = omega (arith, not)

-- ---- the ways out of `groups_at`
module _ (s : List ℕ) (at end : ℕ) (in-s : end ≤ length s) where
  groups_at_told : {x : Got ℕ} → groups_in (end - at) s at ≡ x → groups_at s at end ≡ groups_told x
  unfolding groups_at
  groups_at_told e = rw (le-ltb (length s) end in-s, e)

  -- no octet left
  pub groups_at_empty : end ≤ at → groups_at s at end ≡ wrong
  unfolding groups_in
  groups_at_empty h = let none : end - at ≡ 0 = omega arith in groups_at_told {x = wrong} (rw none)

  -- one group
  pub groups_at_first : at < end → get_or s at 0 < 128 → groups_at s at end ≡ got (Some (get_or s at 0)) (at + 1)
  groups_at_first lt small =
      let some : end - at ≡ suc (end - at - 1) = omega arith in
      groups_at_told {x = got (get_or s at 0) (at + 1)} (rw some (groups_last (end - at - 1) s at small))
      ∙ rw (lt-ltb (get_or s at 0) (2 ^ 32) (omega arith))

  -- the last group is missing
  pub groups_at_open : at < end → 128 ≤ get_or s at 0 → LastAt s (at + 1) end end → groups_at s at end ≡ wrong
  groups_at_open lt big l = groups_at_told (groups_none (end - at) s at end (omega arith) (last_wider s at end end big l))

  module _ (last : ℕ) (lt : at < end) (big : 128 ≤ get_or s at 0) (l : (last < end) × LastAt s (at + 1) end last) where
    -- the last group is 0
    pub groups_at_zero : get_or s last 0 ≡ 0 → groups_at s at end ≡ wrong
    groups_at_zero z =
        let l' : LastAt s at end last = last_wider s at end last big l.1 in
        groups_at_told (groups_zero (last - at - 1) (end - at) s at end last (omega (arith, l.1.from)) (omega arith) l' l.0 z)

    groups_at_found :
        (get_or s last 0 ≡ 0 → ⊥) →
        groups_in (end - at) s at ≡ got (groups_value (last + 1 - at) s at) (last + 1)
    groups_at_found some =
        let l' : LastAt s at end last = last_wider s at end last big l.1 in
        let count : last + 1 - at ≡ suc (last - at) = omega (arith, l.1.from) in
        rw count (groups_ends (last - at) (end - at) s at end last (omega (arith, l.1.from)) (omega arith) l' l.0 some)

    -- any other number
    pub groups_at_ends :
        (get_or s last 0 ≡ 0 → ⊥) →
        groups_at s at end ≡ got (told_value (groups_value (last + 1 - at) s at)) (last + 1)
    groups_at_ends some = groups_at_told (groups_at_found some)

    -- more groups than a number below 2 ^ 32 has
    pub groups_at_large :
        (get_or s last 0 ≡ 0 → ⊥) → groups_most < last + 1 - at →
        groups_at s at end ≡ got None (last + 1)
    groups_at_large some many =
        let v : ℕ = groups_value (last + 1 - at) s at in
        let least : 128 ^ (last - at) ≤ v =
        groups_shortest (end - at) s at v (last + 1) (last - at) (groups_at_found some) (omega arith) (omega arith) in
        let most : groups_most ≤ last - at = omega arith in
        let power : 128 ^ groups_most ≤ 128 ^ (last - at) = pow-le-pow_right (omega arith) most in
        groups_at_ends some ∙ rw (le-ltb v (2 ^ 32) (omega arith))

-- ---- the turns of `put_groups`

-- one group counted, or written, and as many left as there were
pub size_more :
    (k rest m : ℕ) → 128 ≤ rest → k + length (groups rest) ≡ m → k + 1 + length (groups (rest / 128)) ≡ m
size_more k rest m h e = omega (arith, ap length (groups_more rest h))

-- the last group
pub size_last : (k rest m : ℕ) → rest < 128 → k + length (groups rest) ≡ m → k + 1 ≡ m
size_last k rest m h e = omega (arith, ap length (groups_one rest h))

-- what is still to be written after one group
pub over_group :
    (xs : List ℕ) (p rest : ℕ) (ys : List ℕ) → 128 ≤ rest → over xs p (groups rest) ≡ ys →
    over (set xs p (128 + rest % 128)) (p + 1) (groups (rest / 128)) ≡ ys
over_group xs p rest ys h e =
    sym (over_cons xs p (128 + rest % 128) (groups (rest / 128))) ∙ rw (groups_more rest h) at e

-- the last group written, after all others
pub wrote_last :
    {xs ys zs : List ℕ} {at p q rest : ℕ} {ws : List ℕ} → rest < 128 → p + length (groups rest) ≡ at + length ws →
    over ys p (groups rest) ≡ over xs at ws → Wrote ys p (rest ∷ []) q zs → Wrote xs at ws q zs
wrote_last {rest = rest} h long left w = record {
  moved = w.moved ∙ rw (groups_one rest h) at long;
  holds = w.holds ∙ rw (groups_one rest h) at left;
}
