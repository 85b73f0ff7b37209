-- Which octets a number and an address are written as, and how many: by the fields of the record, and at most.
-- Assumes nothing.
use Prim.Native.Nat.{ℕ, ◌+◌, ◌≤◌, min}
use mathlib.Core.Path.{◌≡◌, refl, ap, ◌∙◌}
use mathlib.Core.Bool.{Bool, true, false}
use mathlib.Core.List.{List, [], ◌++◌}
use native.Mathlib.Omega.{arith}
use lib.ListN.{length, take, replicate, length-append, length-take}
use lib.Dec.{eqb}
use borrow.Author.Tests.{eq-eqb, ne_eqb}
use Rattle.laws.specs.Pick.{pick}
use Rattle.laws.proofs.Picks.{pick_ind, pick_map, pick_last}
use Rattle.octets.specs.Element.{element}
use Rattle.values.specs.Enumerated.{enumerated_octets}
use Rattle.octets.proofs.Elements.{length_small}
use Rattle.values.proofs.Enumerateds.{length_enumerated}
use Rattle.numbers.specs.Number.{most, unknown, public, digits_of, number_good, number_octets}
use Rattle.codes.specs.Digits.{type_good}
use Rattle.codes.proofs.Characters.{zeros_digits, type_zero}
use Rattle.numbers.specs.Address.{sub_octets_of, address_good, sub_octets, address_octets}
use Rattle.numbers.specs.declared.number.Number.{Number}
use Rattle.numbers.specs.declared.address.Address.{Address}
use Rattle.numbers.proofs.Goods.{digits_fair, good_number, good_address}
use Rattle.numbers.proofs.Readers.{record_good}

-- ---- what a record's array holds

-- of `count` octets an array has 20 at most
pub held_count : (count : ℕ) (ws : List ℕ) → length ws ≡ most → length (take count ws) ≡ min count most
held_count count ws long = length-take count ws ∙ ap (min count) long

-- ---- numbers

-- unknown form: digits under the tag 80
pub unknown_octets : (n : Number) → n.form ≡ unknown → number_octets n ≡ element 0x80 (digits_of n)
unfolding number_octets
unknown_octets n h = rw (eq-eqb n.form unknown h)

-- any other form is written as the public one: a type and a numeric string under the tag A1
pub public_octets :
    (n : Number) → (n.form ≡ unknown → ⊥) →
    number_octets n ≡ element 0xA1 (enumerated_octets n.kind ++ element 0x12 (digits_of n))
unfolding number_octets
public_octets n h = rw (ne_eqb n.form unknown h)

-- a type and a numeric string are five octets longer than the digits
pub public_inside :
    (kind : ℕ) (ws : List ℕ) → length ws ≤ most →
    length (enumerated_octets kind ++ element 0x12 ws) ≡ length ws + 5
public_inside kind ws few =
    omega
    (arith, length-append (enumerated_octets kind) (element 0x12 ws), length_enumerated kind, length_small 0x12 ws (omega arith))

-- the octets of a number, by how many digits it has
number_long :
    (n : Number) → length (digits_of n) ≤ most →
    length (number_octets n) ≡ pick (eqb n.form unknown) (length (digits_of n) + 2) (length (digits_of n) + 7)
unfolding number_octets
number_long n few =
    let ws : List ℕ = digits_of n in
    let vs : List ℕ = enumerated_octets n.kind ++ element 0x12 ws in
    let inner : length vs ≡ length ws + 5 = public_inside n.kind ws few in
    let outer : length (element 0xA1 vs) ≡ length ws + 7 = omega (arith, length_small 0xA1 vs (omega arith)) in
    pick_map length (eqb n.form unknown) (element 0x80 ws) (element 0xA1 vs)
    ∙ rw (length_small 0x80 ws (omega arith), outer)

-- the octets of a number, by its fields
pub number_size_lem :
    (n : Number) → length n.digits ≡ most →
    length (number_octets n) ≡ pick (eqb n.form unknown) (min n.count most + 2) (min n.count most + 7)
number_size_lem n long =
    let count = held_count n.count n.digits long in
    rw count at (number_long n (omega (arith, count)))

-- at most 20 digits are at most 27 octets
number_few : (n : Number) → length (digits_of n) ≤ most → length (number_octets n) ≤ 27
number_few n few =
    rw (number_long n few)
    (pick_ind (λ k. k ≤ 27) (eqb n.form unknown) (λ _. omega arith) (λ _. omega arith))

-- so every record has at most 27, good or not
pub every_number_most : (n : Number) → length n.digits ≡ most → length (number_octets n) ≤ 27
every_number_most n long = number_few n (omega (arith, held_count n.count n.digits long))

-- and so has a good number
pub number_most : (n : Number) → number_good n ≡ true → length (number_octets n) ≤ 27
number_most n h = number_few n (digits_fair (digits_of n) (good_number n h).digits).1

-- ---- addresses

-- no subaddress is written as nothing
pub sub_none : sub_octets [] ≡ []
unfolding sub_octets
sub_none = refl

-- a subaddress is its octets under the tag 04
pub sub_some : (ws : List ℕ) → (length ws ≡ 0 → ⊥) → sub_octets ws ≡ element 0x04 ws
unfolding sub_octets
sub_some ws h = rw (ne_eqb (length ws) 0 h)

-- the octets of a subaddress, by how many it holds
pub sub_size :
    (ws : List ℕ) → length ws ≤ most →
    length (sub_octets ws) ≡ pick (eqb (length ws) 0) 0 (length ws + 2)
unfolding sub_octets
sub_size ws few =
    pick_map length (eqb (length ws) 0) [] (element 0x04 ws)
    ∙ rw (length_small 0x04 ws (omega arith))

-- at most 20 octets of a subaddress are written
pub sub_few : (a : Address) → address_good a ≡ true → length (sub_octets_of a) ≤ most
sub_few a h = let g = good_address a h in omega (arith, length-take a.subcount a.sub)

-- the contents of an address, by its number and its subaddress
pub contents_size :
    (a : Address) → length a.sub ≡ most →
    length (number_octets a.number ++ sub_octets (sub_octets_of a))
    ≡ length (number_octets a.number) + pick (eqb (min a.subcount most) 0) 0 (min a.subcount most + 2)
contents_size a long =
    let count = held_count a.subcount a.sub long in
    rw (
      length-append (number_octets a.number) (sub_octets (sub_octets_of a)),
      sub_size (sub_octets_of a) (omega (arith, count)),
      count,
    )

-- at most 20 digits and at most 20 octets of subaddress are contents of at most 49 octets
contents_few :
    (a : Address) → length (digits_of a.number) ≤ most → length (sub_octets_of a) ≤ most →
    length (number_octets a.number ++ sub_octets (sub_octets_of a)) ≤ 49
contents_few a digits few =
    let sub : length (sub_octets (sub_octets_of a)) ≤ 22 =
    rw (sub_size (sub_octets_of a) few)
    (pick_ind (λ k. k ≤ 22) (eqb (length (sub_octets_of a)) 0) (λ _. omega arith) (λ _. omega arith)) in
    omega (arith, number_few a.number digits, length-append (number_octets a.number) (sub_octets (sub_octets_of a)))

-- so are those of every record, good or not
pub every_contents_most :
    (a : Address) → length a.number.digits ≡ most → length a.sub ≡ most →
    length (number_octets a.number ++ sub_octets (sub_octets_of a)) ≤ 49
every_contents_most a digits sub =
    contents_few a (omega (arith, held_count a.number.count a.number.digits digits))
    (omega (arith, held_count a.subcount a.sub sub))

-- and those of a good address
pub contents_most :
    (a : Address) → address_good a ≡ true →
    length (number_octets a.number ++ sub_octets (sub_octets_of a)) ≤ 49
contents_most a h =
    let number = good_number a.number (good_address a h).number in
    contents_few a (digits_fair (digits_of a.number) number.digits).1 (sub_few a h)

-- an address is two octets longer than its contents
pub address_long :
    (a : Address) → length (number_octets a.number ++ sub_octets (sub_octets_of a)) ≤ 49 →
    length (address_octets a) ≡ length (number_octets a.number ++ sub_octets (sub_octets_of a)) + 2
unfolding address_octets
address_long a few = length_small 0x30 (number_octets a.number ++ sub_octets (sub_octets_of a)) (omega arith)

-- the octets of an address, by its number and its subaddress
pub address_size :
    (a : Address) → length a.number.digits ≡ most → length a.sub ≡ most →
    length (address_octets a)
    ≡ length (number_octets a.number) + pick (eqb (min a.subcount most) 0) 0 (min a.subcount most + 2) + 2
address_size a digits sub = rw (address_long a (every_contents_most a digits sub), contents_size a sub)

-- every record has at most 51 octets, good or not
pub every_address_most :
    (a : Address) → length a.number.digits ≡ most → length a.sub ≡ most → length (address_octets a) ≤ 51
every_address_most a digits sub =
    let few = every_contents_most a digits sub in omega (arith, few, address_long a few)

-- and so has a good address
pub address_most : (a : Address) → address_good a ≡ true → length (address_octets a) ≤ 51
address_most a h = let few = contents_most a h in omega (arith, few, address_long a few)

-- ---- both bounds are reached

-- a public number of 20 digits
abbrev pub longest_number : Number
longest_number = record { form = public; kind = 0; count = most; digits = replicate most 48 }

-- it is good
pub longest_number_lem : number_good longest_number ≡ true
longest_number_lem =
    record_good longest_number (omega arith) (omega arith) refl
    ∙ ap (λ (b : Bool). pick b (type_good 0) false) (zeros_digits most)
    ∙ type_zero

-- and has 27 octets
pub number_longest : length (number_octets longest_number) ≡ 27
number_longest = number_size_lem longest_number refl

-- its address with 20 octets of subaddress
abbrev pub longest_address : Address
longest_address = record { number = longest_number; subcount = most; sub = replicate most 0 }

-- it is good
pub longest_address_lem : address_good longest_address ≡ true
unfolding address_good
longest_address_lem = pick_last (number_good longest_number) ∙ longest_number_lem

-- and has 51 octets
pub address_longest : length (address_octets longest_address) ≡ 51
address_longest = rw number_longest at (address_size longest_address refl refl)

-- an address is the sequence of its parts
pub address_octets_lem :
    (a : Address) → address_octets a ≡ element 0x30 (number_octets a.number ++ sub_octets (sub_octets_of a))
unfolding address_octets
address_octets_lem a = refl
