-- Instances, one after the other: what is read is such as a sheet may hold, and it is read into a run. Assumes nothing.
use Prim.Native.Nat.{ℕ, zero, suc, ◌+◌, ◌-◌, ◌≤◌, ◌<◌}
use mathlib.Core.Path.{◌≡◌, refl, ap, ◌∙◌}
use mathlib.Core.Bool.{true}
use mathlib.Core.List.{List, [], ◌∷◌, ◌++◌, map, append_assoc, append-nil}
use native.Mathlib.Nat.{sub-zero}
use native.Mathlib.Omega.{arith}
use lib.ListN.{length, set, replicate, length-append, length-map, length-replicate}
use lib.Dec.{ltb, leb}
use borrow.Author.Tests.{leb-true}
use Rattle.laws.specs.Got.{got, wrong, and_then}
use Rattle.std.specs.Prelude.{Option, Some}
use Rattle.octets.specs.Found.{found}
use Rattle.octets.specs.declared.found.Found.{Found}
use Rattle.laws.proofs.Gots.{Something, found_then, found_is}
use Rattle.laws.proofs.Filled.{Filled, filled_none, filled_next, filled_done}
use Rattle.laws.proofs.Eaches.{Each}
use Rattle.numbers.specs.Number.{most, padded, fair, number_of}
use Rattle.numbers.specs.Address.{sub_of}
use Rattle.numbers.proofs.Goods.{fair_some, parts_good_lem}
use Rattle.numbers.proofs.Spellings.{padded_taken}
use Rattle.instances.specs.Instance.{blank_instance}
use Rattle.instances.specs.Places.{run_most}
use Rattle.instances.specs.Run.{packed}
use Rattle.instances.specs.declared.instance.Instance.{Instance}
use Rattle.instances.specs.declared.run.Run.{Run}
use Rattle.instances.proofs.Runs.{packed_done}
use Rattle.forms.specs.Instance.{address_of, field_at, fields_at, kind_good, address_from, service_of, instance_from}
use Rattle.forms.specs.Sheet.{instances_from}
use Rattle.forms.specs.inner.Reading.{field_below, got_as}
use Rattle.forms.specs.declared.form.Form.{Form}
use Rattle.forms.proofs.Fields.{AllPass, Passing, field_passes, below_small, fields_passing, ahead, ahead_none, ahead_one}
use Rattle.forms.proofs.Readers.{characters, fair_good}
use Rattle.forms.proofs.Fits.{Held, FieldsFit}

-- ---- what is read of an instance is such as a sheet may hold

long : (ws : List ℕ) → length ws ≤ most → length (padded ws) ≡ most
long ws few =
    omega (arith, few, length-append ws (replicate (most - length ws) 0), length-replicate {A = ℕ} (most - length ws) 0)

made_held :
    (form kind : ℕ) (ds sub : List ℕ) → form < 2 → kind_good form kind ≡ true → fair (length ds) ≡ true →
    AllPass (λ d. ltb d 10) ds →
    length sub ≤ most →
    AllPass (λ o. ltb o 256) sub →
    Held (address_of form kind ds sub)
made_held form kind ds sub low type some digits few octets =
    let cs : List ℕ = map (λ d. 48 + d) ds in
    let same : length cs ≡ length ds = length-map ds (λ d. 48 + d) in
    let fairly : fair (length cs) ≡ true = rw same some in
    let short : length cs ≤ most = (fair_some (length cs) fairly).1 in
    record {
      good =
          parts_good_lem (number_of form kind cs) (sub_of sub) few
          (λ _. fair_good form kind cs low (characters ds digits) short fairly ∙ type)
          (λ e. omega (arith, low, e));
      digits = long cs short;
      sub = long sub few;
      octets = rw (padded_taken sub) octets;
    }

module _ (s : List ℕ) where
  address_held_lem : (at : ℕ) → Something Held (address_from s at)
  unfolding address_from
  address_held_lem at =
      found_then Held (field_at (λ form. ltb form 2) s at) _ (λ form p e.
      found_then Held (field_at (kind_good form) s p) _ (λ kind q f.
      found_then Held (field_at fair s q) _ (λ count a g.
      found_then Held (fields_at (λ d. ltb d 10) count s a) _ (λ ds b h.
      found_then Held (field_at (λ n. leb n most) s b) _ (λ subcount c k.
      found_then Held (fields_at (λ o. ltb o 256) subcount s c) _ (λ sub next l.
      let digits = found_is (Passing (λ d. ltb d 10) count) h (fields_passing (λ d. ltb d 10) count s a) in
      let octets = found_is (Passing (λ o. ltb o 256) subcount) l (fields_passing (λ o. ltb o 256) subcount s c) in
      let few : subcount ≤ most =
      leb-true subcount most (found_is (λ n. leb n most ≡ true) k (field_passes s b (λ n. leb n most))) in
      made_held form kind ds sub (below_small s at 2 form p e)
      (found_is (λ n. kind_good form n ≡ true) f (field_passes s p (kind_good form)))
      (rw digits.counted (found_is (λ n. fair n ≡ true) g (field_passes s q fair)))
      digits.passes (omega (arith, few, octets.counted)) octets.passes))))))

  module _ (form : Form) where
    instance_fits_lem : (at : ℕ) → Something (FieldsFit form) (instance_from form s at)
    unfolding instance_from
    instance_fits_lem at =
        let P : Instance → Type 0 = FieldsFit form in
        found_then P (field_below form.procedures s at) _ (λ procedure p e.
        found_then P (field_below form.numbers s p) _ (λ number q f.
        found_then P (field_at service_of s q) _ (λ service a g.
        found_then P (address_from s a) _ (λ address next h. record {
          procedure = below_small s at form.procedures procedure p e;
          number = below_small s p form.numbers number q f;
          service = found_is (λ n. service_of n ≡ true) g (field_passes s q service_of);
          address = found_is Held h (address_held_lem a);
        }))))

    pub instances_fit : (n at : ℕ) → Something (Each (FieldsFit form)) (instances_from form n s at)
    unfolding instances_from
    instances_fit zero at = tt
    instances_fit (suc n) at =
        let P : List Instance → Type 0 = Each (FieldsFit form) in
        found_then P (instance_from form s at) _ (λ k p e.
        found_then P (instances_from form n s p) _ (λ ks q f.
        (found_is (FieldsFit form) e (instance_fits_lem at), found_is P f (instances_fit n p))))

    -- as many as were asked for
    pub instances_count : (n at : ℕ) → Something (λ is. length is ≡ n) (instances_from form n s at)
    unfolding instances_from
    instances_count zero at = refl
    instances_count (suc n) at =
        let P : List Instance → Type 0 = λ is. length is ≡ suc n in
        found_then P (instance_from form s at) _ (λ k p _.
        found_then P (instances_from form n s p) _ (λ ks q e.
        ap suc (found_is (λ is. length is ≡ n) e (instances_count n p))))

-- ---- a walk that reads them into a run

module _ (f : Form) (s : List ℕ) where
  pub instances_end : (at : ℕ) → instances_from f 0 s at ≡ got [] at
  unfolding instances_from
  instances_end at = refl

  pub instances_step :
      (n at : ℕ) →
      instances_from f (suc n) s at
      ≡ and_then (instance_from f s at) (λ k p. and_then (instances_from f n s p) (λ ks q. got (k ∷ ks) q))
  unfolding instances_from
  instances_step n at = refl

-- A reader of `count` instances from `at` on has come to `here`: it has `read` i of them, which stand in the array of a run with
-- blanks past them, whatever comes after; and what is found from `here` on decides.
pub record Going (f : Form) (s : List ℕ) (at count i here : ℕ) (array : List Instance) : Type 0 where
  pub read : List Instance
  pub few : i ≤ count
  pub filled : (rest : List Instance) → Filled run_most blank_instance (read ++ rest) rest i array
  pub decides : instances_from f count s at ≡ ahead read (instances_from f (count - i) s here)

module _ (f : Form) (s : List ℕ) (at count : ℕ) where
  -- it begins at `at`, with none
  pub going_first : Going f s at count 0 at (replicate run_most blank_instance)
  going_first = record {
    read = [];
    few = omega arith;
    filled = λ rest. filled_none run_most blank_instance rest;
    decides = rw sub-zero (ahead_none (instances_from f count s at));
  }

  module _ (i here : ℕ) (array : List Instance) (so : Going f s at count i here array) where
    -- it has read them all
    pub going_all :
        count ≤ i →
        ◌≡◌ {A = Option (Found Run)}
        (Some (record { value = record { count = count; run = array }; next = here }))
        (found (got_as packed (instances_from f count s at)))
    going_all h =
        let same : count ≡ i = omega (arith, so.few) in
        let none : count - i ≡ 0 = omega arith in
        let full = filled_done run_most blank_instance so.read i array (rw (append-nil so.read) at (so.filled [])) in
        rw (so.decides, none, instances_end f s here, append-nil so.read, same, packed_done so.read i array full)

    module _ (more : i < count) where
      going_step :
          instances_from f count s at
          ≡ ahead so.read
          (and_then (instance_from f s here) (λ k p. and_then (instances_from f (count - (i + 1)) s p) (λ ks q. got (k ∷ ks) q)))
      going_step =
          let one : count - i ≡ suc (count - (i + 1)) = omega arith in
          so.decides ∙ rw (one, instances_step f s (count - (i + 1)) here)

      -- no instance stands there
      pub going_wrong : instance_from f s here ≡ wrong → instances_from f count s at ≡ wrong
      going_wrong e = going_step ∙ rw e

      -- one stands there: it goes on after it
      pub going_next :
          (k : Instance) (next : ℕ) → count ≤ run_most → instance_from f s here ≡ got k next →
          Going f s at count (i + 1) next (set array i k)
      going_next k next fits found = record {
        read = so.read ++ (k ∷ []);
        few = omega arith;
        filled = λ rest.
            filled_next run_most blank_instance ((so.read ++ (k ∷ [])) ++ rest) k rest i array (omega arith)
            (rw (append_assoc so.read (k ∷ []) rest) (so.filled (k ∷ rest)));
        decides = going_step ∙ rw (found, ahead_one so.read k (instances_from f (count - (i + 1)) s next));
      }
