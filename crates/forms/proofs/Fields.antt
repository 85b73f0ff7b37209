-- Laws of the fields of a night sheet, over plain values: a field within its bound, and fields one after the other. Assumes nothing.
use Prim.Native.Nat.{ℕ, zero, suc, ◌+◌, ◌-◌, ◌≤◌, ◌<◌}
use mathlib.Core.Path.{◌≡◌, refl, sym, ap, ◌∙◌}
use mathlib.Core.Bool.{Bool, true, false≢true}
use mathlib.Core.List.{List, [], ◌∷◌, ◌++◌, map, map-append, append_assoc, append-nil}
use native.Mathlib.Nat.{sub-zero, zero-add}
use native.Mathlib.Omega.{arith}
use lib.ListN.{length, set, replicate, length-append, length-map}
use lib.Dec.{ltb}
use borrow.Author.Tests.{ltb-true, le-ltb, lt-ltb}
use Rattle.laws.specs.Pick.{pick}
use Rattle.laws.specs.Got.{Got, got, wrong, and_then}
use Rattle.laws.proofs.Gots.{Something, found_then, found_is}
use Rattle.laws.proofs.Picks.{pick_ind}
use Rattle.laws.proofs.Walks.{store_next}
use Rattle.octets.specs.Found.{found}
use Rattle.octets.specs.declared.found.Found.{Found}
use Rattle.groups.specs.Groups.{groups_at}
use Rattle.std.specs.Prelude.{Option, Some, None}
use Rattle.numbers.specs.Number.{most}
use Rattle.forms.specs.Instance.{field_of, field_at, fields_at}
use Rattle.forms.specs.inner.Reading.{any_field, field_below, fields_below, got_as, octets_on}

-- ---- one field

module _ (s : List ℕ) (at : ℕ) where
  -- tests that agree let in the same fields
  pub field_same : (good other : ℕ → Bool) → ((n : ℕ) → good n ≡ other n) → field_at good s at ≡ field_at other s at
  unfolding field_at
  field_same good other h = each (groups_at s at (length s))
    where
      each : (g : Got (Option ℕ)) → field_of good g ≡ field_of other g
      each (got (Some n) next) = rw (h n)
      each (got None next) = refl
      each wrong = refl

  -- a field that is found passes its test
  pub field_passes : (good : ℕ → Bool) → Something (λ n. good n ≡ true) (field_at good s at)
  unfolding field_at
  field_passes good = each (groups_at s at (length s))
    where
      each : (g : Got (Option ℕ)) → Something (λ n. good n ≡ true) (field_of good g)
      each (got (Some n) next) = pick_ind (Something (λ n. good n ≡ true)) (good n) (λ e. e) (λ _. tt)
      each (got None next) = tt
      each wrong = tt

  -- a test of a field within a wider one
  pub field_narrow :
      (wide good : ℕ → Bool) → ((n : ℕ) → good n ≡ true → wide n ≡ true) →
      field_at good s at ≡ and_then (field_at wide s at) (λ n next. pick (good n) (got n next) wrong)
  unfolding field_at
  field_narrow wide good h = each (groups_at s at (length s))
    where
      test : ℕ → ℕ → Got ℕ
      test n next = pick (good n) (got n next) wrong

      each : (g : Got (Option ℕ)) → field_of good g ≡ and_then (field_of wide g) test
      each (got (Some n) next) =
          pick_ind (λ x. test n next ≡ and_then x test) (wide n) (λ _. refl) (λ e.
          pick_ind (λ x. x ≡ wrong) (good n) (λ f. absurd (false≢true (sym e ∙ h n f))) (λ _. refl))
      each (got None next) = refl
      each wrong = refl

  -- a field of any number, below a bound or not
  pub below_is :
      (below value next : ℕ) → any_field s at ≡ got value next → value < below → field_below below s at ≡ got value next
  below_is below value next e h =
      field_narrow (λ _. true) (λ n. ltb n below) (λ n _. refl) ∙ rw (e, lt-ltb value below h)

  pub below_not :
      (below value next : ℕ) → any_field s at ≡ got value next → below ≤ value → field_below below s at ≡ wrong
  below_not below value next e h =
      field_narrow (λ _. true) (λ n. ltb n below) (λ n _. refl) ∙ rw (e, le-ltb value below h)

  pub below_none : (below : ℕ) → any_field s at ≡ wrong → field_below below s at ≡ wrong
  below_none below e = field_narrow (λ _. true) (λ n. ltb n below) (λ n _. refl) ∙ rw e

  -- what is found below a bound is below it
  pub below_small : (below value next : ℕ) → field_below below s at ≡ got value next → value < below
  below_small below value next e =
      ltb-true value below (found_is (λ n. ltb n below ≡ true) e (field_passes (λ n. ltb n below)))

-- ---- fields, one after the other

-- all of them pass the test
abbrev pub AllPass : (ℕ → Bool) → List ℕ → Type 0
AllPass good [] = Unit {0}
AllPass good (n ∷ ns) = (good n ≡ true) × AllPass good ns

-- as many as were asked for, and all pass
pub record Passing (good : ℕ → Bool) (count : ℕ) (ns : List ℕ) : Type 0 where
  pub counted : length ns ≡ count
  pub passes : AllPass good ns

pub fields_passing : (good : ℕ → Bool) (count : ℕ) (s : List ℕ) (at : ℕ) → Something (Passing good count) (fields_at good count s at)
unfolding fields_at
fields_passing good zero s at = record { counted = refl; passes = tt }
fields_passing good (suc count) s at =
    found_then (Passing good (suc count)) (field_at good s at) _ (λ n next e.
    found_then (Passing good (suc count)) (fields_at good count s next) _ (λ ns last f.
    let rest = found_is (Passing good count) f (fields_passing good count s next) in
    record {
      counted = ap suc rest.counted;
      passes = (found_is (λ m. good m ≡ true) e (field_passes s at good), rest.passes);
    }))

-- things that were read, before what is found after them
abbrev pub ahead : {A : Type 0} → List A → Got (List A) → Got (List A)
ahead xs (got ys next) = got (xs ++ ys) next
ahead xs wrong = wrong

pub ahead_none : {A : Type 0} (g : Got (List A)) → g ≡ ahead [] g
ahead_none (got ys next) = refl
ahead_none wrong = refl

pub ahead_one :
    {A : Type 0} (xs : List A) (x : A) (g : Got (List A)) →
    ahead xs (and_then g (λ ys next. got (x ∷ ys) next)) ≡ ahead (xs ++ (x ∷ [])) g
ahead_one xs x (got ys next) = rw (append_assoc xs (x ∷ []) ys)
ahead_one xs x wrong = refl

-- A reader of `count` fields from `at` on has come to `here`: it has `read` i of them, which stand in `octets` with `base` on top
-- and zeros past them; and what is found from `here` on decides.
pub record Come (below base count : ℕ) (s : List ℕ) (at i here : ℕ) (octets : List ℕ) : Type 0 where
  pub read : List ℕ
  pub counted : i ≡ length read
  pub few : i ≤ count
  pub stored : octets ≡ map (λ n. base + n) read ++ replicate (most - i) 0
  pub decides : fields_below below count s at ≡ ahead read (fields_below below (count - i) s here)

module _ (below base count : ℕ) (s : List ℕ) (at : ℕ) where
  -- it begins at `at`, with none
  pub come_first : Come below base count s at 0 at (replicate most 0)
  come_first = record {
    read = [];
    counted = refl;
    few = omega arith;
    stored = refl;
    decides = rw sub-zero (ahead_none (fields_below below count s at));
  }

  module _ (i here : ℕ) (octets : List ℕ) (so : Come below base count s at i here octets) where
    -- it has read them all
    pub come_all :
        count ≤ i → count ≤ most →
        ◌≡◌ {A = Option (Found (List ℕ))}
        (Some (record { value = octets; next = here }))
        (found (got_as (octets_on base) (fields_below below count s at)))
    unfolding fields_at
    come_all h room =
        let none : count - i ≡ 0 = omega arith in
        let left : most - i ≡ most - length (map (λ n. base + n) so.read) =
        omega (arith, so.counted, length-map so.read (λ n. base + n)) in
        rw (so.decides, none, append-nil so.read, so.stored, left)

    module _ (more : i < count) where
      left_one : count - i ≡ suc (count - (i + 1))
      left_one = omega arith

      come_step :
          fields_below below count s at
          ≡ ahead so.read
          (and_then (field_below below s here) (λ n next.
          and_then (fields_below below (count - (i + 1)) s next) (λ ns last. got (n ∷ ns) last)))
      unfolding fields_at
      come_step = so.decides ∙ rw left_one

      -- no such field stands there
      pub come_wrong : field_below below s here ≡ wrong → fields_below below count s at ≡ wrong
      come_wrong none = come_step ∙ rw none

      -- one stands there: it goes on after it
      pub come_next :
          (n next : ℕ) → count ≤ most → field_below below s here ≡ got n next →
          Come below base count s at (i + 1) next (set octets i (base + n))
      come_next n next room found = record {
        read = so.read ++ (n ∷ []);
        counted = rw (length-append so.read (n ∷ []), so.counted);
        few = omega arith;
        stored =
            let f : ℕ → ℕ = λ m. base + m in
            let place : i ≡ length (map f so.read) = so.counted ∙ sym (length-map so.read f) in
            let left : most - i ≡ suc (most - (i + 1)) = omega arith in
            rw (so.stored, left, map-append f so.read (n ∷ []), ← store_next (map f so.read) (base + n) 0 (most - (i + 1)), ← place);
        decides = come_step ∙ rw (found, ahead_one so.read n (fields_below below (count - (i + 1)) s next));
      }

-- with nothing on top they are as they were
pub map_none : (ns : List ℕ) → map (λ n. 0 + n) ns ≡ ns
map_none [] = refl
map_none (n ∷ ns) = rw (zero-add n, map_none ns)
