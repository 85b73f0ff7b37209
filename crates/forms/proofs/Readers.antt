-- Laws of the readers of addresses and instances, over plain values. Assumes nothing.
use Prim.Native.Nat.{ℕ, zero, suc, ◌+◌, ◌-◌, ◌≤◌, ◌<◌}
use mathlib.Core.Path.{◌≡◌, refl, sym, ◌∙◌}
use mathlib.Core.Bool.{true, false, not, false≢true}
use mathlib.Core.List.{List, [], ◌∷◌, map}
use native.Mathlib.Omega.{arith}
use lib.ListN.{length, replicate, length-append, length-replicate, length-map}
use lib.Seq.{take-append-le, take-length}
use lib.Dec.{ltb, leb, eqb, leb-suc-suc}
use borrow.Author.Tests.{lt-ltb, le-ltb, eq-eqb, ne_eqb, ltb-true, eqb-true}
use Rattle.laws.specs.Pick.{pick}
use Rattle.laws.specs.Got.{Got, got, wrong, and_then}
use Rattle.laws.proofs.Gots.{found_is}
use Rattle.laws.proofs.Picks.{pick_ind, by_bool}
use Rattle.laws.proofs.Tests.{all_at}
use Rattle.octets.specs.declared.found.Found.{Found}
use Rattle.codes.specs.Codes.{service_code}
use Rattle.numbers.specs.Number.{most, unknown, padded, fair, digits_of, number_good, number_of}
use Rattle.codes.specs.Digits.{type_good, all_digits}
use Rattle.numbers.specs.Address.{sub_of, forwarded_of}
use Rattle.numbers.specs.declared.number.Number.{Number}
use Rattle.numbers.specs.declared.address.Address.{Address}
use Rattle.codes.proofs.Characters.{digits_step, digits_end, type_most}
use Rattle.codes.proofs.Tables.{service_most}
use Rattle.numbers.proofs.Goods.{fair_some, some_fair, good_number, digits_fair}
use Rattle.numbers.proofs.Readers.{record_good}
use Rattle.forms.specs.Instance.{field_at, fields_at, kind_good, address_from, service_of}
use Rattle.forms.specs.inner.Reading.{field_below, fields_below, octets_on, number_from_fields}
use Rattle.forms.proofs.Parts.{test_none, test_then, then_through, Keeps}
use Rattle.forms.proofs.Fields.{Passing, AllPass, field_same, field_narrow, field_passes, below_small, fields_passing, map_none}

-- ---- numbers

-- a type and a count that are let in are within the bounds by which their fields are read
pub kind_small : (form n : ℕ) → kind_good form n ≡ true → ltb n 256 ≡ true
kind_small form n =
    pick_ind (λ t. t ≡ true → ltb n 256 ≡ true) (eqb form unknown)
    (λ _ e. lt-ltb n 256 (omega (arith, eqb-true n 0 e)))
    (λ _ e. lt-ltb n 256 (omega (arith, type_most n e)))

count_small : (n : ℕ) → fair n ≡ true → ltb n 21 ≡ true
count_small n e = lt-ltb n 21 (omega (arith, fair_some n e))

-- characters of digits
pub characters : (ds : List ℕ) → AllPass (λ d. ltb d 10) ds → all_digits (map (λ d. 48 + d) ds) ≡ true
characters [] h = digits_end []
characters (d ∷ ds) h =
    let small : d < 10 = ltb-true d 10 h.0 in
    let c : ℕ = 48 + d in
    digits_step (c ∷ map (λ d. 48 + d) ds) 0 (omega arith)
    ∙ rw (le-ltb c 48 (omega arith), le-ltb 57 c (omega arith)) (characters ds h.1)

module _ (form kind : ℕ) (cs : List ℕ) (low : form < 2) (digits : all_digits cs ≡ true) (few : length cs ≤ most) where
  held : digits_of (number_of form kind cs) ≡ cs
  held =
      take-append-le (length cs) cs (replicate (most - length cs) 0) (omega arith) ∙ take-length cs

  long : length (padded cs) ≡ most
  long =
      omega (arith, length-append cs (replicate (most - length cs) 0), length-replicate {A = ℕ} (most - length cs) 0)

  shaped : (form : ℕ) → form < 2 →
      pick (eqb form unknown) (eqb kind 0) (pick (eqb form 1) (type_good kind) false) ≡ kind_good form kind
  shaped zero h = refl
  shaped (suc zero) h = refl
  shaped (suc (suc n)) h = absurd (omega arith)

  pub fair_good : fair (length cs) ≡ true → number_good (number_of form kind cs) ≡ kind_good form kind
  fair_good e =
      let some = fair_some (length cs) e in
      record_good (number_of form kind cs) some.0 some.1 long ∙ rw (held, digits) (shaped form low)

  unfair_good : fair (length cs) ≡ false → number_good (number_of form kind cs) ≡ false
  unfair_good e =
      by_bool (number_good (number_of form kind cs) ≡ false) (number_good (number_of form kind cs))
      (λ h.
      let some = digits_fair cs (rw held at (good_number (number_of form kind cs) h).digits) in
      absurd (false≢true (sym e ∙ some_fair (length cs) some.0 some.1)))
      (λ h. h)

  -- type and count are judged together, as a table's number
  judged :
      (x : Got Number) →
      pick (kind_good form kind) (pick (fair (length cs)) x wrong) wrong
      ≡ pick (number_good (number_of form kind cs)) x wrong
  judged x =
      by_bool
      (pick (kind_good form kind) (pick (fair (length cs)) x wrong) wrong ≡ pick (number_good (number_of form kind cs)) x wrong)
      (fair (length cs))
      (λ e. rw (e, fair_good e))
      (λ e. rw (e, unfair_good e) (test_none (kind_good form kind)))

-- what is read after a form and type, and after the count
abbrev digits_from : List ℕ → ℕ → ℕ → ℕ → ℕ → Got Number
digits_from s form kind count a =
    and_then (fields_at (λ d. ltb d 10) count s a) (λ ds next. got (number_of form kind (map (λ d. 48 + d) ds)) next)

abbrev count_from : List ℕ → ℕ → ℕ → ℕ → Got Number
count_from s form kind q = and_then (field_at fair s q) (λ count a. digits_from s form kind count a)

module _ (s : List ℕ) (at : ℕ) where
  pub number_no_form : field_below 2 s at ≡ wrong → number_from_fields s at ≡ wrong
  unfolding number_from_fields
  number_no_form e = rw e

  module _ (form p : ℕ) (f : field_below 2 s at ≡ got form p) where
    pub number_no_kind : field_below 256 s p ≡ wrong → number_from_fields s at ≡ wrong
    unfolding number_from_fields
    number_no_kind e = rw (f, field_narrow s p (λ n. ltb n 256) (kind_good form) (kind_small form), e)

    module _ (kind q : ℕ) (k : field_below 256 s p ≡ got kind q) where
      number_kind : number_from_fields s at ≡ pick (kind_good form kind) (count_from s form kind q) wrong
      unfolding number_from_fields
      number_kind =
          rw (f, field_narrow s p (λ n. ltb n 256) (kind_good form) (kind_small form), k)
          (test_then (kind_good form kind) kind q (λ n next. count_from s form n next))

      pub number_no_count : field_below 21 s q ≡ wrong → number_from_fields s at ≡ wrong
      number_no_count e =
          number_kind ∙ rw (field_narrow s q (λ n. ltb n 21) fair count_small, e) (test_none (kind_good form kind))

      module _ (count a : ℕ) (c : field_below 21 s q ≡ got count a) where
        number_digits :
            number_from_fields s at ≡ pick (kind_good form kind) (pick (fair count) (digits_from s form kind count a) wrong) wrong
        number_digits =
            number_kind
            ∙ rw (
              field_narrow s q (λ n. ltb n 21) fair count_small,
              c,
              test_then (fair count) count a (λ n next. digits_from s form kind n next),
            )

        pub number_no_digits : fields_below 10 count s a ≡ wrong → number_from_fields s at ≡ wrong
        number_no_digits e =
            number_digits ∙ rw (e, test_none {A = Number} (fair count)) (test_none (kind_good form kind))

        -- the record that the reader makes of the fields, and whether it is let in
        module _ (r : Found (List ℕ)) (d : Keeps (octets_on 48) (fields_below 10 count s a) r) where
          abbrev made : Number
          made = record { form = form; kind = kind; count = count; digits = r.value }

          abbrev cs : List ℕ
          cs = map (λ d. 48 + d) d.thing

          passing : Passing (λ d. ltb d 10) count d.thing
          passing = found_is (Passing (λ d. ltb d 10) count) d.is (fields_passing (λ d. ltb d 10) count s a)

          counted : length cs ≡ count
          counted = length-map d.thing (λ d. 48 + d) ∙ passing.counted

          number_made : made ≡ number_of form kind cs
          number_made = rw (d.held, ← counted)

          number_judged : number_from_fields s at ≡ pick (number_good made) (got made r.next) wrong
          number_judged =
              let low : form < 2 = below_small s at 2 form p f in
              let few : count < 21 = below_small s q 21 count a c in
              let j = judged form kind cs low (characters d.thing passing.passes) (omega (arith, counted))
              (got (number_of form kind cs) r.next) in
              number_digits ∙ rw (number_made, d.is, ← counted) j

          pub number_refused : number_good made ≡ false → number_from_fields s at ≡ wrong
          number_refused h = number_judged ∙ rw h

          pub number_found : number_good made ≡ true → number_from_fields s at ≡ got made r.next
          number_found h = number_judged ∙ rw h

-- ---- addresses

-- what follows the number
abbrev sub_from : List ℕ → Number → ℕ → Got Address
sub_from s number b =
    and_then (field_at (λ n. leb n most) s b) (λ subcount c.
    and_then (fields_at (λ o. ltb o 256) subcount s c) (λ sub next. got (forwarded_of number (sub_of sub)).address next))

module _ (s : List ℕ) (at : ℕ) where
  address_parts : address_from s at ≡ and_then (number_from_fields s at) (sub_from s)
  unfolding address_from number_from_fields
  address_parts =
      then_through (field_at (λ form. ltb form 2) s at) _ _ (sub_from s) (λ form p.
      then_through (field_at (kind_good form) s p) _ _ (sub_from s) (λ kind q.
      then_through (field_at fair s q) _ _ (sub_from s) (λ count a.
      then_through (fields_at (λ d. ltb d 10) count s a) _ _ (sub_from s) (λ ds b. refl))))

  pub address_no_number : number_from_fields s at ≡ wrong → address_from s at ≡ wrong
  address_no_number e = address_parts ∙ rw e

  module _ (number : Number) (b : ℕ) (n : number_from_fields s at ≡ got number b) where
    sub_field : field_at (λ n. leb n most) s b ≡ field_below 21 s b
    sub_field = field_same s b (λ n. leb n most) (λ n. ltb n 21) (λ n. sym (leb-suc-suc n most))

    pub address_no_count : field_below 21 s b ≡ wrong → address_from s at ≡ wrong
    address_no_count e = address_parts ∙ rw (n, sub_field, e)

    module _ (count c : ℕ) (k : field_below 21 s b ≡ got count c) where
      pub address_no_octets : fields_below 256 count s c ≡ wrong → address_from s at ≡ wrong
      address_no_octets e = address_parts ∙ rw (n, sub_field, k, e)

      pub address_found :
          (r : Found (List ℕ)) → Keeps (octets_on 0) (fields_below 256 count s c) r →
          address_from s at ≡ got (record { number = number; subcount = count; sub = r.value }) r.next
      address_found r d =
          let passing = found_is (Passing (λ o. ltb o 256) count) d.is (fields_passing (λ o. ltb o 256) count s c) in
          address_parts ∙ rw (n, sub_field, k, d.is, d.held, map_none d.thing, passing.counted)

-- ---- services

-- one of the sixteen is an octet
pub service_small : (n : ℕ) → service_of n ≡ true → ltb n 256 ≡ true
service_small n h = all_at (not (eqb n 0) ∷ ltb n 256 ∷ service_code n ∷ []) 1 h

pub service_few : (n : ℕ) → service_of n ≡ true → n ≤ 42
service_few n h = service_most n (all_at (not (eqb n 0) ∷ ltb n 256 ∷ service_code n ∷ []) 2 h)

module _ (s : List ℕ) (at : ℕ) where
  service_tested : field_at service_of s at ≡ and_then (field_below 256 s at) (λ n next. pick (service_of n) (got n next) wrong)
  service_tested = field_narrow s at (λ n. ltb n 256) service_of service_small

  pub service_none : field_below 256 s at ≡ wrong → field_at service_of s at ≡ wrong
  service_none e = service_tested ∙ rw e

  module _ (code next : ℕ) (f : field_below 256 s at ≡ got code next) where
    pub service_all : code ≡ 0 → field_at service_of s at ≡ wrong
    service_all e = service_tested ∙ rw (f, eq-eqb code 0 e)

    pub service_other : (code ≡ 0 → ⊥) → service_code code ≡ false → field_at service_of s at ≡ wrong
    service_other e h =
        service_tested ∙ rw (f, ne_eqb code 0 e, lt-ltb code 256 (below_small s at 256 code next f), h)

    pub service_found : (code ≡ 0 → ⊥) → service_code code ≡ true → field_at service_of s at ≡ got code next
    service_found e h =
        service_tested ∙ rw (f, ne_eqb code 0 e, lt-ltb code 256 (below_small s at 256 code next f), h)

pub service_octet : (s : List ℕ) (at code next : ℕ) → field_at service_of s at ≡ got code next → code < 256
service_octet s at code next e =
    ltb-true code 256 (service_small code (found_is (λ n. service_of n ≡ true) e (field_passes s at service_of)))
