-- Instances counted one by one, each under its procedure: what was counted of the three, and what is still to come. Assumes nothing.
use Prim.Native.Nat.{ℕ, zero, suc, ◌+◌, ◌<◌, ◌≤◌}
use mathlib.Core.Logic.{◌↔◌}
use mathlib.Core.Path.{◌≡◌, refl, sym, ap, ◌∙◌}
use mathlib.Core.Bool.{Bool, true, false≢true}
use mathlib.Core.List.{List, [], ◌∷◌}
use native.Mathlib.Omega.{arith}
use lib.ListN.{length, get_or, set, length-set}
use lib.Seq.{get_or-set_same, get_or-set_other}
use lib.Dec.{eqb}
use borrow.Author.Tests.{eqb-true, eqb-false}
use Rattle.std.specs.List.{All}
use Rattle.laws.proofs.Picks.{by_bool}
use Rattle.laws.proofs.Thoses.{those_none, those_most}
use Rattle.laws.proofs.Filled.{get_any}
use Rattle.instances.specs.Run.{is_of, count_of, few_of_each}
use Rattle.instances.specs.declared.instance.Instance.{Instance}
use Rattle.instances.proofs.Counts.{count_this, count_other}
use Rattle.instances.proofs.Goods.{few_of, few_is, few_at}

pub record Tallied (whole left : List Instance) (counts : List ℕ) : Type 0 where
  pub long : length counts ≡ 3
  pub each : (q : ℕ) → q < 3 → get_or counts q 0 + count_of q left ≡ count_of q whole

-- before the first
pub tally_first : (whole : List Instance) → Tallied whole whole (0 ∷ 0 ∷ 0 ∷ [])
tally_first whole = record { long = refl; each = none }
  where
    none : (q : ℕ) → q < 3 → get_or (0 ∷ 0 ∷ 0 ∷ []) q 0 + count_of q whole ≡ count_of q whole
    none zero h = omega arith
    none (suc zero) h = omega arith
    none (suc (suc zero)) h = omega arith
    none (suc (suc (suc q))) h = absurd (omega arith)

-- one more
module _ (whole l m : List Instance) (x : Instance) (counts : List ℕ) (e : l ≡ x ∷ m) (so : Tallied whole l counts) where
  -- no more of a procedure were counted than there are instances
  pub tally_most : (q : ℕ) → q < 3 → get_or counts q 0 ≤ length whole
  tally_most q h = omega (arith, so.each q h, those_most (is_of q) whole)

  pub tally_one : x.procedure < 3 → Tallied whole m (set counts x.procedure (get_or counts x.procedure 0 + 1))
  tally_one three = record {
    long = length-set counts x.procedure (get_or counts x.procedure 0 + 1) ∙ so.long;
    each =
        λ q h.
        by_bool (get_or (set counts x.procedure (get_or counts x.procedure 0 + 1)) q 0 + count_of q m ≡ count_of q whole)
        (eqb x.procedure q)
        (λ t.
        let same = eqb-true x.procedure q t in
        let here = get_or-set_same counts q (get_or counts q 0 + 1) 0 (omega (arith, so.long)) in
        rw same (omega (arith, here, so.each q h, count_this q l m x e same)))
        (λ t.
        let other = eqb-false x.procedure q t in
        let there = get_or-set_other counts x.procedure q (get_or counts x.procedure 0 + 1) 0 (λ w. other (sym w)) in
        omega (arith, there, so.each q h, count_other q l m x e other));
  }

  -- one of no procedure
  pub tally_none : (x.procedure < 3 → ⊥) → Tallied whole m counts
  tally_none past = record { long = so.long; each = λ q h. omega (arith, so.each q h, count_other q l m x e (λ w. omega arith)) }

-- at the end, where the test asks whether each count is within the limit
module _ (whole left : List Instance) (counts : List ℕ) (most : ℕ) (end : left ≡ []) (so : Tallied whole left counts) where
  counted : (q : ℕ) → q < 3 → get_or counts q 0 ≡ count_of q whole
  counted q h = omega (arith, so.each q h, ap length (those_none (is_of q) left end))

  within : few_of_each most whole ≡ true → All (λ n. n ≤ most) counts
  within t k d less =
      let three : k < 3 = omega (arith, so.long) in
      rw (get_any counts k d 0 less) (omega (arith, counted k three, few_at most whole (few_of most whole t) k three))

  pub tallied : (r : Bool) → ((r ≡ true) ↔ All (λ n. n ≤ most) counts) → r ≡ few_of_each most whole
  tallied r h =
      by_bool (r ≡ few_of_each most whole) r
      (λ t.
      let few : (q : ℕ) → q < 3 → count_of q whole ≤ most = λ q three. omega (arith, counted q three, h.0 t q 0 (omega (arith, so.long))) in
      t ∙ sym (few_is most whole (few 0 (omega arith), few 1 (omega arith), few 2 (omega arith))))
      (λ f.
      by_bool (r ≡ few_of_each most whole) (few_of_each most whole)
      (λ t. absurd (false≢true (sym f ∙ h.1 (within t))))
      (λ t. f ∙ sym t))
