-- Instances that ascend, met one by one: those of a procedure stand together, and are counted by their places. Assumes nothing.
use Prim.Native.Nat.{ℕ, ◌+◌, ◌-◌, ◌<◌, ◌≤◌}
use mathlib.Core.Logic.{⊎_elim}
use mathlib.Core.Path.{◌≡◌, refl, sym, ap, ◌∙◌}
use mathlib.Core.Bool.{false}
use mathlib.Core.List.{List, [], ◌∷◌}
use native.Mathlib.Nat.{eq-or-lt_of_le}
use native.Mathlib.Omega.{arith}
use lib.ListN.{length, get_or}
use lib.Dec.{leb}
use borrow.Author.Tests.{leb-true, leb-false}
use Rattle.laws.proofs.Picks.{by_bool}
use Rattle.laws.proofs.Thoses.{those_none}
use Rattle.lists.specs.Entries.{instances_most}
use Rattle.instances.specs.Instance.{key, key_of}
use Rattle.instances.specs.Run.{is_of, count_of, few_of_each}
use Rattle.instances.specs.declared.instance.Instance.{Instance}
use Rattle.instances.proofs.Keys.{Small, key_first, key_least}
use Rattle.instances.proofs.Counts.{count_this, count_other}
use Rattle.instances.proofs.Goods.{few_of, few_is, few_at}

-- `i` instances of the whole were met and the others are left. The last one met has the procedure before `beyond` and the key
-- `below`; the first one of its procedure stands at `from`. Its procedure is subscribed; of earlier ones few were met, of later
-- ones none
pub record Blocks (subscribed : List ℕ) (whole left : List Instance) (beyond from below i : ℕ) : Type 0 where
  pub three : beyond ≤ 3
  pub some : 0 < i → 0 < beyond
  pub low : key (beyond - 1) 0 0 ≤ below
  pub subscribes : (q : ℕ) → q + 1 ≡ beyond → get_or subscribed q 0 ≡ 1
  pub past : (q : ℕ) → q + 1 < beyond → count_of q whole ≤ count_of q left + instances_most
  pub here : (q : ℕ) → q + 1 ≡ beyond → count_of q whole + from ≡ count_of q left + i
  pub later : (q : ℕ) → beyond ≤ q → count_of q whole ≡ count_of q left

-- before the first
pub blocks_first : (subscribed : List ℕ) (whole : List Instance) → Blocks subscribed whole whole 0 0 0 0
unfolding key
blocks_first subscribed whole = record {
  three = omega arith;
  some = λ h. absurd (omega arith);
  low = omega arith;
  subscribes = λ q h. absurd (omega arith);
  past = λ q h. absurd (omega arith);
  here = λ q h. absurd (omega arith);
  later = λ q h. refl;
}

module _
    (subscribed : List ℕ) (whole l : List Instance) (beyond from below i : ℕ) (so : Blocks subscribed whole l beyond from below i)
  where
    -- where few of the last procedure were met, few were met of every one
    few_met : (q : ℕ) → i ≤ from + instances_most → count_of q whole ≤ count_of q l + instances_most
    few_met q h =
        by_bool (count_of q whole ≤ count_of q l + instances_most) (leb beyond q)
        (λ t. omega (arith, so.later q (leb-true beyond q t)))
        (λ t.
        ⊎_elim
        (λ (same : q + 1 ≡ beyond). omega (arith, so.here q same, h))
        (λ (less : q + 1 < beyond). so.past q less)
        (eq-or-lt_of_le (omega (arith, leb-false beyond q t))))

    -- where more of it were met, there are more
    pub blocks_over : from + instances_most < i → few_of_each instances_most whole ≡ false
    blocks_over h =
        by_bool (few_of_each instances_most whole ≡ false) (few_of_each instances_most whole)
        (λ t.
        let last : 0 < beyond = so.some (omega arith) in
        let few = few_at instances_most whole (few_of instances_most whole t) (beyond - 1) (omega (arith, so.three)) in
        absurd (omega (arith, h, few, so.here (beyond - 1) (omega arith))))
        (λ t. t)

    -- at the end the last procedure decides
    pub blocks_last : l ≡ [] → few_of_each instances_most whole ≡ leb i (from + instances_most)
    blocks_last e =
        by_bool (few_of_each instances_most whole ≡ leb i (from + instances_most)) (leb i (from + instances_most))
        (λ t.
        let few : (q : ℕ) → count_of q whole ≤ instances_most =
        λ q. omega (arith, few_met q (leb-true i (from + instances_most) t), ap length (those_none (is_of q) l e)) in
        few_is instances_most whole (few 0, few 1, few 2) ∙ sym t)
        (λ t. blocks_over (leb-false i (from + instances_most) t) ∙ sym t)

    module _ (m : List Instance) (x : Instance) (e : l ≡ x ∷ m) (above : below < key_of x) where
      -- one that is not of a later procedure is of the last one
      pub blocks_same : Small x → (beyond ≤ x.procedure → ⊥) → x.procedure + 1 ≡ beyond
      blocks_same small h =
          let same = key_least (beyond - 1) x.procedure x.number x.service below small.0 small.1 so.low above in
          omega (arith, same, h)

      -- one more of the last procedure
      pub blocks_on : x.procedure + 1 ≡ beyond → Blocks subscribed whole m beyond from (key_of x) (i + 1)
      blocks_on h = record {
        three = so.three;
        some = λ k. omega arith;
        low = omega (arith, so.low, above);
        subscribes = so.subscribes;
        past = λ q k. omega (arith, so.past q k, count_other q l m x e (λ w. omega arith));
        here = λ q k. omega (arith, so.here q k, count_this q l m x e (omega arith));
        later = λ q k. omega (arith, so.later q k, count_other q l m x e (λ w. omega arith));
      }

      -- the first of a later procedure
      pub blocks_next :
          beyond ≤ x.procedure → x.procedure < 3 → get_or subscribed x.procedure 0 ≡ 1 → i ≤ from + instances_most →
          Blocks subscribed whole m (x.procedure + 1) i (key_of x) (i + 1)
      blocks_next h three subscribes few = record {
        three = omega arith;
        some = λ k. omega arith;
        low = key_first (x.procedure + 1 - 1) x.procedure x.number x.service (omega arith);
        subscribes = λ q k. let same : q ≡ x.procedure = omega arith in rw same subscribes;
        past = λ q k. omega (arith, few_met q few, count_other q l m x e (λ w. omega arith));
        here = λ q k. omega (arith, so.later q (omega arith), count_this q l m x e (omega arith));
        later = λ q k. omega (arith, so.later q (omega arith), count_other q l m x e (λ w. omega arith));
      }
