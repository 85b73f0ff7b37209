-- An instance in a night sheet: "procedure, number index, service, form (0 unknown, 1 public), type (0 if unknown), digit count, digits,
-- subaddress length (0 none), octets", each a number in groups of seven bits (document 01, "Night sheet").
use Rattle.std.specs.Prelude.{ℕ, zero, suc, ◌+◌, ◌-◌, Bool, not, List, [], ◌∷◌, ◌++◌, map, length, take, ltb, leb, eqb, Option, Some, None}
use Rattle.laws.specs.Pick.{pick}
use Rattle.laws.specs.Tests.{all}
use Rattle.laws.specs.Got.{Got, got, wrong, and_then}
use Rattle.groups.specs.Groups.{groups, groups_at}
use Rattle.codes.specs.Codes.{service_code}
use Rattle.numbers.specs.Number.{unknown, most, fair, number_of, digits_of}
use Rattle.codes.specs.Digits.{type_good}
use Rattle.numbers.specs.Address.{sub_of, forwarded_of}
use Rattle.numbers.specs.declared.address.Address.{Address}
use Rattle.forms.specs.declared.form.Form.{Form}
use Rattle.instances.specs.Instance.{instance_of}
use Rattle.instances.specs.declared.instance.Instance.{Instance}

-- ---- written

-- numbers one after the other, each in its groups
unfoldable pub all_groups : List ℕ → List ℕ
all_groups [] = []
all_groups (n ∷ ns) = groups n ++ all_groups ns

-- "digit (0 to 9)": a digit is stored as its character
abbrev pub digit_of : ℕ → ℕ
digit_of c = c - 48

abbrev pub address_fields : Address → List ℕ
address_fields a =
    a.number.form
    ∷ a.number.kind
    ∷ a.number.count
    ∷ map digit_of (digits_of a.number)
    ++ (a.subcount ∷ take a.subcount a.sub)

abbrev pub instance_fields : Instance → List ℕ
instance_fields i = i.procedure ∷ i.number ∷ i.service ∷ address_fields i.address

unfoldable pub instance_octets : Instance → List ℕ
instance_octets i = all_groups (instance_fields i)

-- ---- read

-- a number that 32 bits do not hold is past every bound
abbrev pub value_of : (ℕ → Bool) → Option ℕ → ℕ → Got ℕ
value_of good (Some n) next = pick (good n) (got n next) wrong
value_of good None next = wrong

abbrev pub field_of : (ℕ → Bool) → Got (Option ℕ) → Got ℕ
field_of good g = and_then g (value_of good)

-- the field at `at`, which a test lets in
unfoldable pub field_at : (ℕ → Bool) → List ℕ → ℕ → Got ℕ
field_at good s at = field_of good (groups_at s at (length s))

-- n such fields
unfoldable pub fields_at : (ℕ → Bool) → ℕ → List ℕ → ℕ → Got (List ℕ)
fields_at good zero s at = got [] at
fields_at good (suc n) s at =
    and_then (field_at good s at) (λ x p. and_then (fields_at good n s p) (λ xs q. got (x ∷ xs) q))

-- "type (0 if unknown)"
abbrev pub kind_good : ℕ → ℕ → Bool
kind_good form kind = pick (eqb form unknown) (eqb kind 0) (type_good kind)

-- the address with these parts: digits as characters, zeros past the counts
abbrev pub address_of : ℕ → ℕ → List ℕ → List ℕ → Address
address_of form kind ds sub = (forwarded_of (number_of form kind (map (λ d. 48 + d) ds)) (sub_of sub)).address

unfoldable pub address_from : List ℕ → ℕ → Got Address
address_from s at =
    and_then (field_at (λ form. ltb form 2) s at) (λ form p.
    and_then (field_at (kind_good form) s p) (λ kind q.
    and_then (field_at fair s q) (λ count a.
    and_then (fields_at (λ d. ltb d 10) count s a) (λ ds b.
    and_then (field_at (λ n. leb n most) s b) (λ subcount c.
    and_then (fields_at (λ o. ltb o 256) subcount s c) (λ sub next. got (address_of form kind ds sub) next))))))

-- one of the sixteen services
abbrev pub service_of : ℕ → Bool
service_of code = all (not (eqb code 0) ∷ ltb code 256 ∷ service_code code ∷ [])

unfoldable pub instance_from : Form → List ℕ → ℕ → Got Instance
instance_from f s at =
    and_then (field_at (λ n. ltb n f.procedures) s at) (λ procedure p.
    and_then (field_at (λ n. ltb n f.numbers) s p) (λ number q.
    and_then (field_at service_of s q) (λ service a.
    and_then (address_from s a) (λ address next.
    got (instance_of procedure number service address) next))))
