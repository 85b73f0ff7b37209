-- What is written for a good number or address spells it, with zeros past its digits and its subaddress's octets, and so reads
-- back as it. Assumes nothing.
use Prim.Native.Nat.{ℕ, ◌+◌, ◌≤◌}
use mathlib.Core.Path.{◌≡◌, refl}
use mathlib.Core.Bool.{true}
use mathlib.Core.List.{List, [], ◌∷◌, ◌++◌}
use mathlib.Core.Logic.{inl, inr, ⊎_elim}
use native.Mathlib.Omega.{arith}
use lib.ListN.{length}
use Rattle.std.specs.Prelude.{Option, Some, None}
use Rattle.laws.specs.Got.{Got, got, wrong}
use Rattle.laws.specs.Stands.{Stands}
use Rattle.octets.specs.Head.{head_at}
use Rattle.octets.specs.Element.{element}
use Rattle.values.specs.Enumerated.{enumerated_tag, enumerated_octets}
use Rattle.octets.specs.declared.head.Head.{Head}
use Rattle.octets.proofs.Spellings.{element_spells}
use Rattle.numbers.specs.Number.{most, other_tag, number_in, number_at, digits_of, tidy_number, number_good, number_octets}
use Rattle.numbers.specs.Address.{sub_of, address_at, sub_octets_of, tidy_address, address_good, sub_octets, address_octets}
use Rattle.numbers.specs.Spelt.{NumberSpelt, SubSpelt, AddressSpelt}
use Rattle.numbers.specs.declared.number.Number.{Number}
use Rattle.numbers.specs.declared.address.Address.{Address}
use Rattle.numbers.proofs.Goods.{some_fair, digits_fair, good_number, good_address}
use Rattle.numbers.proofs.Sizes.{unknown_octets, public_octets, public_inside, sub_none, sub_some, sub_few, contents_most}
use Rattle.numbers.proofs.SpellingTrips.{number_spelt_back, address_spelt_back}

-- ---- numbers

-- what is written for a good number spells it
pub number_spells : (n : Number) → number_good n ≡ true → NumberSpelt (tidy_number n) (number_octets n)
number_spells n h =
    let g = good_number n h in
    let ws : List ℕ = digits_of n in
    let vs : List ℕ = enumerated_octets n.kind ++ element 0x12 ws in
    let few = (digits_fair ws g.digits).1 in
    ⊎_elim
    (λ u.
    inl (record {
      digits = ws;
      good = g.digits;
      spells = rw (unknown_octets n u.0) (element_spells 0x80 ws (omega arith));
      is = rw (u.0, u.1);
    }))
    (λ u.
    inr (inl (record {
      kind = n.kind;
      digits = ws;
      type = enumerated_octets n.kind;
      string = element 0x12 ws;
      kinds = u.1;
      good = g.digits;
      first = element_spells enumerated_tag (n.kind ∷ []) (omega arith);
      second = element_spells 0x12 ws (omega arith);
      spells =
          rw (public_octets n (λ e. omega (arith, u.0)))
          (element_spells 0xA1 vs (omega (arith, public_inside n.kind ws few)));
      is = rw u.0;
    })))
    g.shape

-- so a good number that was written reads back as the same number with zeros past its digits
pub number_back :
    (depth : ℕ) (n : Number) (s : List ℕ) (at end : ℕ) → 2 ≤ depth → number_good n ≡ true →
    Stands s at (number_octets n) → at + length (number_octets n) ≤ end → end ≤ length s →
    number_at depth s at end ≡ got (tidy_number n) (at + length (number_octets n))
number_back depth n s at end deep h = number_spelt_back depth s at end (number_spells n h) deep

-- an element that is found, and is not NULL, whose tag is 05
abbrev pub NotNull : Option Head → Type 0
NotNull (Some h) = h.tag ≡ 0x05 → ⊥
NotNull None = ⊥

-- what is read as a number is never NULL: a reader may tell the two apart by the tag
pub number_not_null :
    (depth : ℕ) (s : List ℕ) (at end : ℕ) {n : Number} {next : ℕ} → number_at depth s at end ≡ got n next →
    NotNull (head_at depth s at end)
unfolding number_at other_tag
number_not_null depth s at end {n} {next} = in_head (head_at depth s at end)
  where
    none : ◌≡◌ {A = Got Number} wrong (got n next) → ⊥
    none h = let z : ◌≡◌ {A = ℕ} 0 1 = cc in omega arith

    in_head : (x : Option Head) → number_in depth s x ≡ got n next → NotNull x
    in_head (Some x) h = λ e. none (rw e at h)
    in_head None h = none h

-- ---- addresses

-- what is written for at most 20 octets spells a subaddress, or none
pub sub_spells : (ws : List ℕ) → length ws ≤ most → SubSpelt (sub_of ws) (sub_octets ws)
sub_spells [] few = inl (record { none = sub_none; is = refl })
sub_spells (w ∷ ws) few =
    let some : length (w ∷ ws) ≡ 0 → ⊥ = λ e. omega arith in
    inr (inl (record {
      octets = w ∷ ws;
      good = some_fair (length (w ∷ ws)) (omega arith) few;
      spells = rw (sub_some (w ∷ ws) some) (element_spells 0x04 (w ∷ ws) (omega arith));
      is = refl;
    }))

-- what is written for a good address spells it
pub address_spells :
    (a : Address) → address_good a ≡ true →
    AddressSpelt (record { address = tidy_address a; user = 0 }) (address_octets a)
unfolding address_octets
address_spells a h = record {
  number = tidy_number a.number;
  sub = sub_of (sub_octets_of a);
  first = number_octets a.number;
  second = sub_octets (sub_octets_of a);
  numbers = number_spells a.number (good_address a h).number;
  subs = sub_spells (sub_octets_of a) (sub_few a h);
  spells = element_spells 0x30 (number_octets a.number ++ sub_octets (sub_octets_of a)) (omega (arith, contents_most a h));
  is = refl;
}

-- so a good address that was written reads back as the same address with zeros past its digits and octets
pub address_back :
    (depth : ℕ) (a : Address) (s : List ℕ) (at end : ℕ) → 3 ≤ depth → address_good a ≡ true →
    Stands s at (address_octets a) → at + length (address_octets a) ≤ end → end ≤ length s →
    address_at depth s at end ≡ got (record { address = tidy_address a; user = 0 }) (at + length (address_octets a))
address_back depth a s at end deep h = address_spelt_back depth s at end (address_spells a h) deep
