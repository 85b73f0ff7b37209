-- A good list in a good picture: the picture stays good, and there is room for it. Assumes nothing.
use Prim.Native.Nat.{ℕ, ◌≤◌}
use mathlib.Core.Path.{◌≡◌, refl, sym, ap, ◌∙◌}
use mathlib.Core.Bool.{true, false, false≢true}
use mathlib.Core.List.{List, [], ◌∷◌}
use native.Mathlib.Omega.{arith}
use lib.ListN.{length}
use lib.Dec.{eqb}
use borrow.Author.Tests.{ne_eqb, eqb-true, eqb-false}
use Rattle.laws.proofs.Picks.{by_bool}
use Rattle.laws.proofs.Tests.{both_hold}
use Rattle.laws.proofs.Thoses.{those_none, those_skip, those_fewer}
use Rattle.laws.proofs.Eaches.{Each, each_so, each_those}
use Rattle.numbers.specs.Address.{blank_address}
use Rattle.profile.specs.Profile.{profile_good}
use Rattle.profile.specs.declared.profile.Profile.{Profile}
use Rattle.profile.proofs.Profiles.{GoodProfile, good_profile}
use Rattle.lists.specs.Entries.{instances_most}
use Rattle.instances.specs.Instance.{key_of, spared, instance_good}
use Rattle.instances.specs.Places.{run_most}
use Rattle.instances.specs.Run.{deactivated, is_of, count_of, each_good, instances_good}
use Rattle.instances.specs.declared.instance.Instance.{Instance}
use Rattle.instances.proofs.Choices.{spared_other}
use Rattle.instances.proofs.Counts.{count_merged}
use Rattle.instances.proofs.Keys.{Small, key_same, each_merged, up_merged}
use Rattle.instances.proofs.Fits.{goods_of}
use Rattle.instances.proofs.Goods.{GoodList, good_list, list_good_lem, good_short, cleared_good, small_good}
use Rattle.end.specs.Listed.{list_good, every_of, replaced}

-- ---- none of a procedure

none_of : (q : ℕ) (l : List Instance) → Each (λ x. is_of q x ≡ false) l → count_of q l ≡ 0
none_of q [] h = ap length (those_none (is_of q) [] refl)
none_of q (x ∷ l) h = ap length (those_skip (is_of q) (x ∷ l) l x refl h.0) ∙ none_of q l h.1

-- ---- two things that hold of each hold of it together

pub each_both :
    (P Q : Instance → Type 0) (l : List Instance) → Each P l → Each Q l → Each (λ x. P x × Q x) l
each_both P Q [] h k = tt
each_both P Q (x ∷ l) h k = ((h.0, k.0), each_both P Q l h.1 k.1)

-- ---- one of the list and one that is left of the picture have not the same key

listed_apart :
    (procedure : ℕ) (x y : Instance) → Small x × (is_of procedure x ≡ true) → Small y × (is_of procedure y ≡ false) →
    key_of x ≡ key_of y → ⊥
listed_apart procedure x y hx hy e =
    let same = key_same x.procedure x.number x.service y.procedure y.number y.service
    hx.0.0 hy.0.0 hx.0.1 hy.0.1 e in
    false≢true (sym hy.1 ∙ ap (λ q. eqb q procedure) (sym same.0) ∙ hx.1)

-- ---- the picture

module _
    (most : ℕ) (p : Profile) (profile : GoodProfile p) (procedure : ℕ) (new is : List Instance)
    (own : Each (λ x. is_of procedure x ≡ true) new)
    (good : GoodList p most new)
    (so : GoodList p most is)
  where
    abbrev left : List Instance
    left = deactivated (every_of procedure) is

    kept : GoodList p most left
    kept = cleared_good p (every_of procedure) most is so

    small : (x : Instance) → instance_good p x ≡ true → Small x
    small x h = small_good p profile (every_of procedure) blank_address x h

    new_own : Each (λ x. Small x × (is_of procedure x ≡ true)) new
    new_own = each_both (λ x. Small x) (λ x. is_of procedure x ≡ true) new (each_so _ (λ x. Small x) small new good.each) own

    left_other : Each (λ x. Small x × (is_of procedure x ≡ false)) left
    left_other =
        each_so (λ x. (instance_good p x ≡ true) × (spared (every_of procedure) x ≡ true)) (λ x. Small x × (is_of procedure x ≡ false))
        (λ x h. (small x h.0, spared_other (every_of procedure) refl refl x h.1)) left
        (each_those (λ x. instance_good p x ≡ true) (spared (every_of procedure)) is so.each)

    -- of the procedure there are those of the list, of another those of the picture
    few_at : (q : ℕ) → count_of q new ≤ most → count_of q is ≤ most → count_of q (replaced procedure new is) ≤ most
    few_at q h k =
        let sum = count_merged q new left in
        by_bool (count_of q (replaced procedure new is) ≤ most) (eqb procedure q)
        (λ e.
        let none : count_of q left ≡ 0 =
        none_of q left
        (each_so (λ x. Small x × (is_of procedure x ≡ false)) (λ x. is_of q x ≡ false)
        (λ x t. ap (λ r. is_of r x) (sym (eqb-true procedure q e)) ∙ t.1) left left_other) in
        omega (arith, sum, h, none))
        (λ e.
        let none : count_of q new ≡ 0 =
        none_of q new
        (each_so (λ x. is_of procedure x ≡ true) (λ x. is_of q x ≡ false)
        (λ x t. ne_eqb x.procedure q (λ same. eqb-false procedure q e (sym (eqb-true x.procedure procedure t) ∙ same))) new own) in
        omega (arith, sum, k, none, those_fewer (spared (every_of procedure)) (is_of q) is))

    pub replaced_list : GoodList p most (replaced procedure new is)
    replaced_list = record {
      ascends = up_merged (λ x. Small x × (is_of procedure x ≡ true)) (λ y. Small y × (is_of procedure y ≡ false)) (listed_apart procedure) 0
          new left new_own left_other good.ascends kept.ascends;
      each = each_merged (λ x. instance_good p x ≡ true) new left good.each kept.each;
      few = (
        few_at 0 good.few.0 so.few.0,
        few_at 1 good.few.1 so.few.1,
        few_at 2 good.few.2 so.few.2,
      );
    }

-- the same of the tests
replaced_of :
    (most : ℕ) (p : Profile) (procedure : ℕ) (new is : List Instance) → profile_good p ≡ true →
    list_good most p procedure new ≡ true →
    instances_good most p is ≡ true →
    GoodList p most (replaced procedure new is)
unfolding list_good
replaced_of most p procedure new is profile list picture =
    let t = both_hold (each_good (is_of procedure) new) (instances_good most p new) list in
    replaced_list most p (good_profile p profile) procedure new is (goods_of (is_of procedure) new t.0)
    (good_list p most new t.1) (good_list p most is picture)

pub replaced_good :
    (most : ℕ) (p : Profile) (procedure : ℕ) (new is : List Instance) → profile_good p ≡ true →
    list_good most p procedure new ≡ true →
    instances_good most p is ≡ true →
    instances_good most p (replaced procedure new is) ≡ true
replaced_good most p procedure new is profile list picture =
    list_good_lem p most (replaced procedure new is) (replaced_of most p procedure new is profile list picture)

-- so the record of the picture leaves none out (`packed_all`)
pub replaced_few :
    (p : Profile) (procedure : ℕ) (new is : List Instance) → profile_good p ≡ true →
    list_good instances_most p procedure new ≡ true →
    instances_good instances_most p is ≡ true →
    length (replaced procedure new is) ≤ run_most
replaced_few p procedure new is profile list picture =
    good_short p (replaced procedure new is) (replaced_of instances_most p procedure new is profile list picture)
