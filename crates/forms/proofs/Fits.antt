-- What a night sheet may hold: addresses, instances, and how many of them; and the same with zeros past digits and octets. Assumes
-- nothing.
use Prim.Native.Nat.{ℕ, zero, suc, ◌+◌, ◌*◌, ◌-◌, ◌<◌, ◌≤◌}
use mathlib.Core.Path.{◌≡◌, refl, sym, ◌∙◌}
use mathlib.Core.Bool.{true, false}
use mathlib.Core.List.{List, [], ◌∷◌, map}
use mathlib.Core.Logic.{⊎_elim}
use native.Mathlib.Omega.{arith}
use lib.ListN.{length, take, get_or}
use lib.Dec.{ltb}
use borrow.Author.Tests.{lt-ltb, ltb-false}
use Rattle.laws.specs.Pick.{pick}
use Rattle.laws.proofs.Picks.{pick_else}
use Rattle.laws.proofs.Tests.{both_hold}
use Rattle.laws.proofs.Eaches.{Each, each_so, up_map}
use Rattle.codes.specs.Digits.{all_digits}
use Rattle.codes.proofs.Characters.{digits_step, type_most}
use Rattle.numbers.specs.Number.{most, digits_of}
use Rattle.numbers.specs.Address.{sub_octets_of, tidy_address, address_good}
use Rattle.numbers.specs.declared.address.Address.{Address}
use Rattle.numbers.proofs.Goods.{digits_fair, good_number, good_address}
use Rattle.numbers.proofs.Spellings.{padded_taken}
use Rattle.numbers.proofs.Readers as readers
use Rattle.instances.specs.Instance.{procedures, key_of}
use Rattle.instances.specs.Places.{run_most}
use Rattle.instances.specs.Run.{ascending, count_of, few_of_each}
use Rattle.instances.specs.declared.instance.Instance.{Instance}
use Rattle.instances.proofs.Keys.{up_of, up_ascending}
use Rattle.instances.proofs.Counts.{count_cons, all_three}
use Rattle.instances.proofs.Goods.{few_of, few_is}
use Rattle.forms.specs.Form.{form1}
use Rattle.forms.specs.Instance.{digit_of, service_of}
use Rattle.forms.specs.Sheet.{in_order}
use Rattle.forms.specs.declared.form.Form.{Form}
use Rattle.forms.proofs.Fields.{AllPass}

-- ---- digits

-- characters of digits are digits, and come back
module _ (c : ℕ) (cs : List ℕ) (h : all_digits (c ∷ cs) ≡ true) where
  tested : pick (ltb c 48) false (pick (ltb 57 c) false (all_digits cs)) ≡ true
  tested = sym (digits_step (c ∷ cs) 0 (omega arith)) ∙ h

  from_zero : 48 ≤ c
  from_zero = ltb-false c 48 (pick_else (ltb c 48) (pick (ltb 57 c) false (all_digits cs)) tested).0

  to_nine : (c ≤ 57) × (all_digits cs ≡ true)
  to_nine =
      let q = pick_else (ltb 57 c) (all_digits cs) (pick_else (ltb c 48) (pick (ltb 57 c) false (all_digits cs)) tested).1 in
      (ltb-false 57 c q.0, q.1)

pub digits_pass : (cs : List ℕ) → all_digits cs ≡ true → AllPass (λ d. ltb d 10) (map digit_of cs)
digits_pass [] h = tt
digits_pass (c ∷ cs) h =
    (lt-ltb (c - 48) 10 (omega (arith, from_zero c cs h, (to_nine c cs h).0)), digits_pass cs (to_nine c cs h).1)

pub digits_kept : (cs : List ℕ) → all_digits cs ≡ true → map (λ d. 48 + d) (map digit_of cs) ≡ cs
digits_kept [] h = refl
digits_kept (c ∷ cs) h =
    let same : 48 + (c - 48) ≡ c = omega (arith, from_zero c cs h) in rw (same, digits_kept cs (to_nine c cs h).1)

-- ---- addresses

-- an address as a table's record holds it: good, in arrays of 20 octets
pub record Held (a : Address) : Type 0 where
  pub good : address_good a ≡ true
  pub digits : length a.number.digits ≡ most
  pub sub : length a.sub ≡ most
  pub octets : AllPass (λ o. ltb o 256) (sub_octets_of a)

all_below : (n : ℕ) (os : List ℕ) → ((i : ℕ) → get_or os i 0 < 256) → AllPass (λ o. ltb o 256) (take n os)
all_below zero os h = tt
all_below (suc n) [] h = tt
all_below (suc n) (o ∷ os) h = (lt-ltb o 256 (h 0), all_below n os (λ i. h (suc i)))

-- a good address in such arrays
pub held_is :
    (a : Address) → address_good a ≡ true → length a.number.digits ≡ most → length a.sub ≡ most →
    ((i : ℕ) → get_or a.sub i 0 < 256) → Held a
held_is a good digits sub octets = record {
  good = good;
  digits = digits;
  sub = sub;
  octets = all_below a.subcount a.sub octets;
}

pub held_digits : (a : Address) → Held a → all_digits (digits_of a.number) ≡ true
held_digits a h =
    let ws : List ℕ = digits_of a.number in
    let digits = (good_number a.number (good_address a h.good).number).digits in
    let some = digits_fair ws digits in
    sym (readers.digits_fair ws (length ws) refl some.0 some.1) ∙ digits

-- its counts and codes are small
pub record Small (a : Address) : Type 0 where
  pub form : a.number.form < 2
  pub kind : a.number.kind ≤ 6
  pub digits : a.number.count ≤ most
  pub sub : a.subcount ≤ most

pub held_small : (a : Address) → Held a → Small a
held_small a h =
    let address = good_address a h.good in
    let number = good_number a.number address.number in
    let shape : (a.number.form < 2) × (a.number.kind ≤ 6) =
    ⊎_elim
    (λ e. (omega (arith, e.0), omega (arith, e.1)))
    (λ e. (omega (arith, e.0), type_most a.number.kind e.1))
    number.shape in
    record { form = shape.0; kind = shape.1; digits = number.few; sub = address.few }

-- ---- instances

-- an instance that a sheet of the form may hold
pub record FieldsFit (f : Form) (i : Instance) : Type 0 where
  pub procedure : i.procedure < f.procedures
  pub number : i.number < f.numbers
  pub service : service_of i.service ≡ true
  pub address : Held i.address

-- zeros past its digits and octets
abbrev pub tidy_instance : Instance → Instance
tidy_instance i = record {
  procedure = i.procedure;
  number = i.number;
  service = i.service;
  address = tidy_address i.address;
}

-- zeros past the digits and octets stay zeros
pub tidy_twice : (i : Instance) → tidy_instance (tidy_instance i) ≡ tidy_instance i
tidy_twice i = rw (padded_taken (digits_of i.address.number), padded_taken (sub_octets_of i.address))

-- ---- in order

pub order_of :
    (f : Form) (is : List Instance) → in_order f is ≡ true →
    (ascending 0 is ≡ true) × (few_of_each f.perprocedure is ≡ true)
unfolding in_order
order_of f is h = both_hold (ascending 0 is) (few_of_each f.perprocedure is) h

pub order_is :
    (f : Form) (is : List Instance) → ascending 0 is ≡ true → few_of_each f.perprocedure is ≡ true → in_order f is ≡ true
unfolding in_order
order_is f is a b = rw (a, b)

-- zeros past digits and octets change neither keys nor counts
ascending_tidy : (is : List Instance) → ascending 0 is ≡ true → ascending 0 (map tidy_instance is) ≡ true
ascending_tidy is h = up_ascending 0 (map tidy_instance is) (up_map key_of tidy_instance 0 is (up_of 0 is h))

count_tidy : (q : ℕ) (is : List Instance) → count_of q (map tidy_instance is) ≡ count_of q is
count_tidy q [] = refl
count_tidy q (x ∷ is) =
    omega (arith, count_tidy q is, count_cons q x is, count_cons q (tidy_instance x) (map tidy_instance is))

few_tidy : (most : ℕ) (is : List Instance) → few_of_each most is ≡ true → few_of_each most (map tidy_instance is) ≡ true
few_tidy most is h =
    let few = few_of most is h in
    few_is most (map tidy_instance is)
    (omega (arith, count_tidy 0 is, few.0), omega (arith, count_tidy 1 is, few.1), omega (arith, count_tidy 2 is, few.2))

pub order_tidy : (f : Form) (is : List Instance) → in_order f is ≡ true → in_order f (map tidy_instance is) ≡ true
order_tidy f is h =
    let so = order_of f is h in
    order_is f (map tidy_instance is) (ascending_tidy is so.0) (few_tidy f.perprocedure is so.1)

-- three procedures, of each no more than the form has
pub few_instances :
    (f : Form) (is : List Instance) → f.procedures ≡ procedures → Each (FieldsFit f) is → in_order f is ≡ true →
    length is ≤ f.procedures * f.perprocedure
few_instances f is three each order =
    let few = few_of f.perprocedure is (order_of f is order).1 in
    let all = all_three is (each_so (FieldsFit f) (λ x. x.procedure < 3) (λ x h. omega (arith, h.procedure, three)) is each) in
    rw three (omega (arith, all, few.0, few.1, few.2))

-- ---- forms

-- a form for whose instances a run has room, and all of whose fields but the last handled identifier are below 128
pub record Short (f : Form) : Type 0 where
  pub code : f.code < 128
  pub last : f.lastmost ≤ 32767
  pub procedures : f.procedures ≡ procedures
  pub numbers : f.numbers ≤ 128
  pub few : f.procedures * f.perprocedure ≤ run_most

pub form1_short : Short form1
form1_short = record { code = omega arith; last = omega arith; procedures = refl; numbers = omega arith; few = omega arith }
