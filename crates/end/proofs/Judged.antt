-- A list judged instance by instance: each is of the procedure and obeys the rules of a table, and they ascend. Assumes nothing.
use Prim.Native.Nat.{ℕ, zero, suc, ◌+◌, ◌<◌, ◌≤◌}
use mathlib.Core.Path.{◌≡◌, refl, sym, ◌∙◌}
use mathlib.Core.Bool.{Bool, true, false}
use mathlib.Core.List.{List, [], ◌∷◌}
use native.Mathlib.Numerals.{add-one}
use native.Mathlib.Omega.{arith}
use lib.ListN.{length, drop, get_or, drop_of_length-le, length-take}
use lib.Seq.{drop-cons}
use borrow.Author.Tests.{eq-eqb, eqb-true}
use Rattle.laws.specs.Tests.{all}
use Rattle.laws.proofs.Picks.{by_bool}
use Rattle.laws.proofs.Tests.{both_hold}
use Rattle.laws.proofs.Thoses.{those_most}
use Rattle.laws.proofs.Eaches.{Each, each_so}
use Rattle.profile.specs.Profile.{subscribed_services}
use Rattle.profile.specs.declared.profile.Profile.{Profile}
use Rattle.lists.specs.Entries.{instances_most}
use Rattle.instances.specs.Instance.{key_of, instance_good}
use Rattle.instances.specs.Run.{instances_of, is_of, count_of, ascending, each_good}
use Rattle.instances.specs.declared.instance.Instance.{Instance}
use Rattle.instances.specs.declared.run.Run.{Run}
use Rattle.instances.proofs.Runs.{outside}
use Rattle.instances.proofs.Orders.{sound, sound_on, sound_low, sound_bad, sound_none}
use Rattle.instances.proofs.Keys.{up_of, up_ascending}
use Rattle.instances.proofs.Fits.{Fits, fits_of, fits_is, goods_of, goods_all}
use Rattle.end.specs.Listed.{list_good}
use Rattle.end.proofs.GoodLists.{is_list, list_is}
use Rattle.end.proofs.Pictures.{each_both}

-- ---- one instance

-- what each instance of a good list is: of the procedure, and one that obeys the rules of a table
abbrev pub fair : Profile → ℕ → Instance → Bool
fair p procedure x = all (is_of procedure x ∷ instance_good p x ∷ [])

-- the rules, one by one
abbrev pub Obeys : Profile → Instance → Type 0
Obeys p x = Fits p.subscribed p.numbercount (subscribed_services p) x

-- it is fair if it is of the procedure and obeys them
is_fair : (p : Profile) (procedure : ℕ) (x : Instance) → x.procedure ≡ procedure → Obeys p x → fair p procedure x ≡ true
is_fair p procedure x own so =
    rw (eq-eqb x.procedure procedure own, fits_is p.subscribed p.numbercount (subscribed_services p) x so)

-- and not if it cannot be both
not_fair : (p : Profile) (procedure : ℕ) (x : Instance) → (x.procedure ≡ procedure → Obeys p x → ⊥) → fair p procedure x ≡ false
not_fair p procedure x h =
    by_bool (fair p procedure x ≡ false) (fair p procedure x)
    (λ t.
    let b = both_hold (is_of procedure x) (instance_good p x) t in
    absurd (h (eqb-true x.procedure procedure b.0) (fits_of p.subscribed p.numbercount (subscribed_services p) x b.1)))
    (λ t. t)

-- what a place of an array holds, where it is not what is read past the end
pub within : (l : List ℕ) (i : ℕ) → get_or l i 0 ≡ 1 → i < length l
within [] i h = absurd (omega (arith, h))
within (x ∷ l) zero h = omega arith
within (x ∷ l) (suc i) h = omega (arith, within l i h)

-- what holds of each holds of that at a place
each_at : (P : Instance → Type 0) (l : List Instance) (i : ℕ) (d : Instance) → Each P l → i < length l → P (get_or l i d)
each_at P [] i d h k = absurd (omega (arith, k))
each_at P (x ∷ l) zero d h k = h.0
each_at P (x ∷ l) (suc i) d h k = each_at P l i d h.1 (omega (arith, k))

pub good_at : (good : Instance → Bool) (l : List Instance) (i : ℕ) → each_good good l ≡ true → i < length l → good (get_or l i outside) ≡ true
good_at good l i each h = each_at (λ x. good x ≡ true) l i outside (goods_of good l each) h

-- ---- the list

-- two tests of which each passes where the other does
same_tests : (a b : Bool) → (a ≡ true → b ≡ true) → (b ≡ true → a ≡ true) → a ≡ b
same_tests true b f g = sym (f refl)
same_tests false true f g = g refl
same_tests false false f g = refl

-- a list within the limit is good exactly if its instances are fair, and ascend
judged_by :
    (p : Profile) (procedure : ℕ) (l : List Instance) → length l ≤ instances_most →
    list_good instances_most p procedure l ≡ sound (fair p procedure) 0 l
judged_by p procedure l few =
    let Own : Instance → Type 0 = λ x. is_of procedure x ≡ true in
    let Good : Instance → Type 0 = λ x. instance_good p x ≡ true in
    let Fair : Instance → Type 0 = λ x. fair p procedure x ≡ true in
    let most : (q : ℕ) → count_of q l ≤ instances_most = λ q. omega (arith, few, those_most (is_of q) l) in
    same_tests (list_good instances_most p procedure l) (sound (fair p procedure) 0 l)
    (λ h.
    let is = list_is instances_most p procedure l h in
    let each = each_so (λ x. Own x × Good x) Fair (λ x t. rw (t.0, t.1)) l (each_both Own Good l is.0 is.1.each) in
    rw (up_ascending 0 l is.1.ascends, goods_all (fair p procedure) l each))
    (λ h.
    let is = both_hold (ascending 0 l) (each_good (fair p procedure) l) h in
    let each = goods_of (fair p procedure) l is.1 in
    is_list instances_most p procedure l
    (each_so Fair Own (λ x t. (both_hold (is_of procedure x) (instance_good p x) t).0) l each) record {
      ascends = up_of 0 l is.0;
      each = each_so Fair Good (λ x t. (both_hold (is_of procedure x) (instance_good p x) t).1) l each;
      few = (most 0, most 1, most 2);
    })

-- a run that counts no more than the limit holds no more
pub few_held : (run : Run) (l : List Instance) → l ≡ instances_of run → run.count ≤ instances_most → length l ≤ instances_most
few_held run l is few = rw is (omega (arith, few, length-take run.count run.run))

-- i of its instances were met, the last of them with the key `below`, and the others decide
abbrev pub Judged : Profile → ℕ → List Instance → ℕ → ℕ → Type 0
Judged p procedure l below i = sound (fair p procedure) 0 l ≡ sound (fair p procedure) below (drop i l)

module _
    (p : Profile) (procedure : ℕ) (l : List Instance) (i below : ℕ)
    (few : length l ≤ instances_most) (so : Judged p procedure l below i)
  where
    abbrev x : Instance
    x = get_or l i outside

    -- what is left decides whether the list is good
    judged : list_good instances_most p procedure l ≡ sound (fair p procedure) below (drop i l)
    judged = judged_by p procedure l few ∙ so

    -- the next is not fair, has no higher key than the one before it, or neither
    module _ (h : i < length l) where
      on : drop i l ≡ x ∷ drop (i + 1) l
      on = rw add-one (drop-cons l i outside h)

      pub judged_unfair : (x.procedure ≡ procedure → Obeys p x → ⊥) → list_good instances_most p procedure l ≡ false
      judged_unfair bad = judged ∙ sound_bad (fair p procedure) _ _ x on below (not_fair p procedure x bad)

      pub judged_low : key_of x ≤ below → list_good instances_most p procedure l ≡ false
      judged_low low = judged ∙ sound_low (fair p procedure) _ _ x on below low

      pub judged_on : below < key_of x → x.procedure ≡ procedure → Obeys p x → Judged p procedure l (key_of x) (i + 1)
      judged_on above own good =
          so ∙ sound_on (fair p procedure) _ _ x on below above (is_fair p procedure x own good)

    -- all were met
    pub judged_all : length l ≤ i → list_good instances_most p procedure l ≡ true
    judged_all h = judged ∙ sound_none (fair p procedure) below _ (drop_of_length-le l h)
