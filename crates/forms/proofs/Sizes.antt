-- How many octets instances and night sheets take, at most: over the number of instances, and over the form. Assumes nothing.
use Prim.Native.Nat.{ℕ, ◌+◌, ◌*◌, ◌≤◌, ◌<◌}
use mathlib.Core.Path.{◌≡◌, refl, ap}
use mathlib.Core.Bool.{Bool, true}
use mathlib.Core.List.{List, [], ◌∷◌, ◌++◌, map}
use native.Mathlib.Nat.{mul-suc}
use native.Mathlib.Omega.{arith}
use lib.ListN.{length, length-append, length-map, length-take}
use lib.Dec.{ltb}
use borrow.Author.Tests.{ltb-true}
use Rattle.laws.proofs.Eaches.{Each}
use Rattle.groups.specs.Groups.{groups}
use Rattle.groups.proofs.GroupLaws.{groups_length}
use Rattle.numbers.specs.Number.{most, digits_of}
use Rattle.numbers.specs.Address.{sub_octets_of}
use Rattle.numbers.specs.declared.address.Address.{Address}
use Rattle.numbers.proofs.Goods.{digits_fair, good_number, good_address}
use Rattle.instances.specs.declared.instance.Instance.{Instance}
use Rattle.forms.specs.Form.{form1}
use Rattle.forms.specs.Size.{instance_most, sheet_most}
use Rattle.forms.specs.Instance.{all_groups, digit_of, address_fields, instance_fields}
use Rattle.forms.specs.Sheet.{instances_octets, sheet_octets}
use Rattle.forms.specs.declared.form.Form.{Form}
use Rattle.forms.proofs.Fields.{AllPass}
use Rattle.forms.proofs.Readers.{service_few}
use Rattle.forms.proofs.Fits.{digits_pass, Held, held_digits, held_small, FieldsFit, Short}
use Rattle.forms.proofs.Octets.{fields_none, fields_more, fields_both, octets_none, octets_more, sheet_octets_lem}

-- ---- fields

-- a field below 128 is one octet
field_most : (n : ℕ) (ns : List ℕ) → n < 128 → length (all_groups (n ∷ ns)) ≤ 1 + length (all_groups ns)
field_most n ns h = rw (fields_more n ns) (omega (arith, length-append (groups n) (all_groups ns), groups_length 0 n h))

-- fields that a test lets in, of at most c groups each
fields_most :
    (c : ℕ) (good : ℕ → Bool) → ((n : ℕ) → good n ≡ true → length (groups n) ≤ c) → (ns : List ℕ) → AllPass good ns →
    length (all_groups ns) ≤ c * length ns
fields_most c good small [] h = rw fields_none (omega arith)
fields_most c good small (n ∷ ns) h =
    rw (fields_more n ns, mul-suc c (length ns))
    (omega (arith, length-append (groups n) (all_groups ns), small n h.0, fields_most c good small ns h.1))

-- ---- an address

module _ (a : Address) (h : Held a) where
  -- 20 digits, each in one octet
  digits_most : length (all_groups (map digit_of (digits_of a.number))) ≤ most
  digits_most =
      let good = (good_number a.number (good_address a h.good).number).digits in
      let cs : List ℕ = digits_of a.number in
      omega (
        arith,
        fields_most 1 (λ d. ltb d 10) (λ d e. groups_length 0 d (omega (arith, ltb-true d 10 e))) (map digit_of cs)
            (digits_pass cs (held_digits a h)),
        length-map cs digit_of,
        digits_fair cs good,
      )

  -- 20 octets of subaddress, each in two
  sub_most : length (all_groups (sub_octets_of a)) ≤ 2 * most
  sub_most =
      omega (
        arith,
        fields_most 2 (λ o. ltb o 256) (λ o e. groups_length 1 o (omega (arith, ltb-true o 256 e))) (sub_octets_of a) h.octets,
        length-take a.subcount a.sub,
        (held_small a h).sub,
      )

  -- and four counts and codes
  pub address_most : length (all_groups (address_fields a)) ≤ 64
  address_most =
      let small = held_small a h in
      let ds : List ℕ = map digit_of (digits_of a.number) in
      let ws : List ℕ = sub_octets_of a in
      let rest : List ℕ = ds ++ (a.subcount ∷ ws) in
      omega (
        arith,
        field_most a.number.form (a.number.kind ∷ a.number.count ∷ rest) (omega (arith, small.form)),
        field_most a.number.kind (a.number.count ∷ rest) (omega (arith, small.kind)),
        field_most a.number.count rest (omega (arith, small.digits)),
        ap length (fields_both ds (a.subcount ∷ ws)),
        length-append (all_groups ds) (all_groups (a.subcount ∷ ws)),
        digits_most,
        field_most a.subcount ws (omega (arith, small.sub)),
        sub_most,
      )

-- ---- instances

module _ (f : Form) (short : Short f) where
  pub instance_most_lem : (i : Instance) → FieldsFit f i → length (all_groups (instance_fields i)) ≤ instance_most
  instance_most_lem i fits =
      let rest : List ℕ = address_fields i.address in
      omega (
        arith,
        field_most i.procedure (i.number ∷ i.service ∷ rest) (omega (arith, fits.procedure, short.procedures)),
        field_most i.number (i.service ∷ rest) (omega (arith, fits.number, short.numbers)),
        field_most i.service rest (omega (arith, service_few i.service fits.service)),
        address_most i.address fits.address,
      )

  -- n instances are at most 67 n octets
  pub instances_most_lem : (is : List Instance) → Each (FieldsFit f) is → length (instances_octets is) ≤ instance_most * length is
  instances_most_lem [] fits = rw octets_none (omega arith)
  instances_most_lem (i ∷ is) fits =
      rw (octets_more i is)
      (omega (
        arith,
        length-append (all_groups (instance_fields i)) (instances_octets is),
        instance_most_lem i fits.0,
        instances_most_lem is fits.1,
      ))

-- ---- a sheet

-- form, last handled and count: at most 5 octets
pub head_most :
    (code last count : ℕ) → code < 128 → last ≤ 32767 → count < 128 →
    length (all_groups (code ∷ last ∷ count ∷ [])) ≤ 5
head_most code last count small few least =
    omega (
      arith,
      field_most code (last ∷ count ∷ []) small,
      ap length (fields_more last (count ∷ [])),
      length-append (groups last) (all_groups (count ∷ [])),
      groups_length 2 last (omega arith),
      field_most count [] least,
      ap length fields_none,
    )

module _ (f : Form) (short : Short f) (last : ℕ) (is : List Instance) (small : last ≤ f.lastmost) (each : Each (FieldsFit f) is)
    (few : length is ≤ f.procedures * f.perprocedure) where
  -- a sheet of n instances is at most 67 n + 5 octets
  pub sheet_size : length (sheet_octets f last is) ≤ instance_most * length is + 5
  sheet_size =
      omega (
        arith,
        ap length (sheet_octets_lem f last is),
        length-append (all_groups (f.code ∷ last ∷ length is ∷ [])) (instances_octets is),
        head_most f.code last (length is) short.code (omega (arith, small, short.last)) (omega (arith, few, short.few)),
        instances_most_lem f short is each,
      )

  pub sheet_most_lem : length (sheet_octets f last is) ≤ sheet_most f
  sheet_most_lem = omega (arith, sheet_size, few)

-- "under .. 1,613 (sheet)"
pub form1_most : sheet_most form1 ≡ 1613
form1_most = refl
