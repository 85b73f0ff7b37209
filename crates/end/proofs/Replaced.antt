-- A picture whose instances of a procedure make way for those of a list: first those of lower procedures, then the list, then the rest.
-- Assumes nothing.
use Prim.Native.Nat.{ℕ, zero, suc, ◌+◌, ◌<◌}
use mathlib.Core.Path.{◌≡◌, refl, sym, ap, ◌∙◌}
use mathlib.Core.Bool.{Bool, true}
use mathlib.Core.List.{List, [], ◌∷◌, ◌++◌, append-nil}
use native.Mathlib.Omega.{arith}
use lib.Dec.{ltb, eqb}
use lib.ListN.{take, drop}
use lib.Seq.{append_snoc}
use borrow.Author.Tests.{eq-eqb, ne_eqb, eqb-true, eqb-false, ltb-true, ltb-false}
use borrow.Author.Rules.{rules}
use mir.Val.{Val}
use denote.Array.{each}
use denote.Shadow.{shadow}
use Rattle.std.specs.List.{position_or_len}
use Rattle.laws.proofs.Picks.{by_bool}
use Rattle.laws.proofs.Thoses.{those_take, those_skip, those_none}
use Rattle.laws.proofs.Eaches.{Each, each_so}
use Rattle.instances.specs.Instance.{key_of, spared}
use Rattle.instances.specs.Run.{instances_of, packed, merged, deactivated, is_of, each_good}
use Rattle.instances.specs.declared.instance.Instance.{Instance}
use Rattle.instances.specs.declared.run.Run.{Run}
use Rattle.instances.specs.contracts.instance.Instance.{the_row}
use Rattle.instances.proofs.Fits.{goods_of}
use Rattle.instances.proofs.Choices.{chosen_every, kept_test, gone_test}
use Rattle.instances.proofs.Keys.{Small, key_procedure}
use Rattle.instances.proofs.Merged.{nil_merged, merged_nil, merge_lower, merge_higher}
use Rattle.end.specs.Listed.{every_of}
use Rattle.end.specs.inner.Listed.{Packed}
use Rattle.end.proofs.Packings.{packed_more, packed_packed}

-- ---- a run to which instances are added, one after the other

-- with those that are left it is the whole
pub record Adding (whole : Run) (left : List Instance) (next : Run) : Type 0 where
  pub held : Packed next
  pub comes : packed (instances_of next ++ left) ≡ whole

module _ (whole : Run) (left : List Instance) (next : Run) (so : Adding whole left next) where
  pub adding_skip : (rest : List Instance) → left ≡ rest → Adding whole rest next
  adding_skip rest on = rw on at so

  pub adding_next :
      (x : Instance) (rest : List Instance) (more : Run) → left ≡ x ∷ rest → more ≡ packed (instances_of next ++ x ∷ []) → Adding whole rest more
  adding_next x rest more on is = record {
    held = rw is (packed_packed (instances_of next ++ x ∷ []));
    comes =
        rw is
        (packed_more (instances_of next ++ x ∷ []) rest
        ∙ ap packed (append_snoc (instances_of next) x rest)
        ∙ rw on at so.comes);
  }

  pub adding_done : left ≡ [] → next ≡ whole
  adding_done on = so.held ∙ rw (on, append-nil (instances_of next)) at so.comes

-- ---- those of other procedures

abbrev pub others : ℕ → List Instance → List Instance
others procedure is = deactivated (every_of procedure) is

module _ (procedure : ℕ) (l m : List Instance) (x : Instance) (on : l ≡ x ∷ m) where
  pub others_skip : x.procedure ≡ procedure → others procedure l ≡ others procedure m
  others_skip own =
      those_skip (spared (every_of procedure)) l m x on
      (gone_test _ (chosen_every (every_of procedure) refl refl x ∙ eq-eqb x.procedure procedure own))

  pub others_take : (x.procedure ≡ procedure → ⊥) → others procedure l ≡ x ∷ others procedure m
  others_take other =
      those_take (spared (every_of procedure)) l m x on
      (kept_test _ (chosen_every (every_of procedure) refl refl x ∙ ne_eqb x.procedure procedure other))

pub others_none : (procedure : ℕ) (l : List Instance) → l ≡ [] → others procedure l ≡ []
others_none procedure l e = those_none (spared (every_of procedure)) l e

-- ---- the list among them

-- one that comes before all of the list
first_before : (new : List Instance) (x : Instance) (ys : List Instance) → Each (λ w. key_of x < key_of w) new → merged new (x ∷ ys) ≡ x ∷ merged new ys
first_before [] x ys h = nil_merged (x ∷ ys) ∙ ap (λ (l : List Instance). x ∷ l) (sym (nil_merged ys))
first_before (w ∷ new) x ys h = merge_lower (w ∷ new) (x ∷ ys) x ys refl w new refl h.0

-- one that comes after all of it
all_before : (new : List Instance) (x : Instance) (ys : List Instance) → Each (λ w. key_of w < key_of x) new → merged new (x ∷ ys) ≡ new ++ (x ∷ ys)
all_before [] x ys h = nil_merged (x ∷ ys)
all_before (w ∷ new) x ys h =
    merge_higher (w ∷ new) (x ∷ ys) w new refl x ys refl (omega (arith, h.0))
    ∙ ap (λ (l : List Instance). w ∷ l) (all_before new x ys h.1)

-- what holds of each holds of each of the first
pub each_take : {A : Type 0} (P : A → Type 0) (n : ℕ) (l : List A) → Each P l → Each P (take n l)
each_take P zero l h = tt
each_take P (suc n) [] h = tt
each_take P (suc n) (x ∷ l) h = (h.0, each_take P n l h.1)

-- an array of instances that is owned: the numbers and services are octets
pub owned_small : (l : List Instance) (us : List Val) → shadow (each the_row.Denot the_row.own_val l us) → Each Small l
owned_small [] us s = tt
owned_small (x ∷ l) [] s = absurd s
owned_small (x ∷ l) (u ∷ us) s = ((search (rules, s.0), search (rules, s.0)), owned_small l us s.1)

-- those of a list of the procedure
pub each_own :
    (procedure : ℕ) (l : List Instance) → each_good (is_of procedure) l ≡ true → Each Small l → Each (λ w. (w.procedure ≡ procedure) × Small w) l
each_own procedure l own small = paired l (goods_of (is_of procedure) l own) small
  where
    paired : (m : List Instance) → Each (λ w. is_of procedure w ≡ true) m → Each Small m → Each (λ w. (w.procedure ≡ procedure) × Small w) m
    paired [] h k = tt
    paired (w ∷ m) h k = ((eqb-true w.procedure procedure h.0, k.0), paired m h.1 k.1)

-- a later procedure
abbrev pub later : ℕ → Instance → Bool
later procedure x = ltb procedure x.procedure

-- the place of the first of a later procedure, or after the last
abbrev pub place : ℕ → List Instance → ℕ
place procedure old = position_or_len (later procedure) old

module _ (procedure : ℕ) (new : List Instance) (own : Each (λ w. (w.procedure ≡ procedure) × Small w) new) where
  abbrev among : List Instance → ℕ → List Instance
  among old n = (others procedure (take n old) ++ new) ++ others procedure (drop n old)

  -- the list stands after those of earlier procedures
  pub among_others : (old : List Instance) → Each Small old → merged new (others procedure old) ≡ among old (place procedure old)
  among_others [] small =
      let none = others_none procedure [] refl in
      rw none (merged_nil new ∙ sym (append-nil new))
  among_others (x ∷ old) small =
      by_bool (merged new (others procedure (x ∷ old)) ≡ among (x ∷ old) (place procedure (x ∷ old))) (later procedure x)
      (λ h.
      let above : procedure < x.procedure = ltb-true procedure x.procedure h in
      let other : x.procedure ≡ procedure → ⊥ = λ e. omega (arith, above, e) in
      let last = each_so (λ w. (w.procedure ≡ procedure) × Small w) (λ w. key_of w < key_of x)
      (λ w t. key_procedure _ _ _ _ _ _ t.1.0 t.1.1 (omega (arith, t.0, above))) new own in
      rw (h, others_none procedure [] refl, others_take procedure (x ∷ old) old x refl other)
      (all_before new x (others procedure old) last))
      (λ h.
      let next : 1 + place procedure old ≡ suc (place procedure old) = omega arith in
      let on = among_others old small.1 in
      rw (h, next)
      (by_bool (merged new (others procedure (x ∷ old)) ≡ among (x ∷ old) (suc (place procedure old))) (eqb x.procedure procedure)
      (λ e.
      let is : x.procedure ≡ procedure = eqb-true x.procedure procedure e in
      rw (others_skip procedure (x ∷ old) old x refl is, others_skip procedure (x ∷ take (place procedure old) old) (take (place procedure old) old) x refl is)
      on)
      (λ e.
      let other : x.procedure ≡ procedure → ⊥ = eqb-false x.procedure procedure e in
      let below : x.procedure < procedure = omega (arith, other, ltb-false procedure x.procedure h) in
      let first = each_so (λ w. (w.procedure ≡ procedure) × Small w) (λ w. key_of x < key_of w)
      (λ w t. key_procedure _ _ _ _ _ _ small.0.0 small.0.1 (omega (arith, t.0, below))) new own in
      rw (others_take procedure (x ∷ old) old x refl other, others_take procedure (x ∷ take (place procedure old) old) (take (place procedure old) old) x refl other)
      (first_before new x (others procedure old) first ∙ ap (λ (l : List Instance). x ∷ l) on))))
