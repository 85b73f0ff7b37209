-- The longest reply and the longest night sheet: "lent output under 707 octets (any component) or 1,613 (sheet)" (document 01, "Local
-- refusals"). The least output is enough for every reply and every sheet, and a table needs it whole.
use Rattle.std.specs.Prelude.{ℕ, ◌+◌, ◌/◌, ◌%◌, List, [], ◌∷◌, ◌++◌, replicate}
use Rattle.laws.specs.Places.{each_from, gathered}
use Rattle.numbers.specs.Number.{number_of, public}
use Rattle.numbers.specs.Address.{sub_of, forwarded_of}
use Rattle.instances.specs.Instance.{instance_of}
use Rattle.instances.specs.declared.instance.Instance.{Instance}
use Rattle.instances.specs.Run.{packed}
use Rattle.exchange.specs.Table.{table_of}
use Rattle.exchange.specs.declared.table.Table.{Table}

-- ---- the widest access, and the fullest table of it

-- a number of public type 6 with 20 digits, the last of which is given
abbrev pub longest_digits : ℕ → List ℕ
longest_digits last = replicate 19 0x39 ++ (last ∷ [])

-- four such served numbers, six services, all that may be yes, and sixteen prefixes of 20 digits: the record as docs/RECORDS.md lays it out
abbrev pub wide_access : List ℕ
wide_access =
    4
    ∷ gathered (λ k. public ∷ 6 ∷ 20 ∷ longest_digits (0x30 + k)) 4
    ++ (6 ∷ 32 ∷ 33 ∷ 34 ∷ 35 ∷ 36 ∷ 37 ∷ [])
    ++ (1 ∷ 1 ∷ 1 ∷ 1 ∷ 1 ∷ 1 ∷ 1 ∷ 2 ∷ 1 ∷ 5 ∷ 16 ∷ gathered (λ _. 20 ∷ replicate 20 0x30) 16)

-- 8 instances of each procedure, two services for each number, with 20 digits of a public number and 20 octets of subaddress: an octet over
-- 127 is two in a sheet
abbrev pub full_instance : ℕ → Instance
full_instance j =
    instance_of (j / 8) (j % 8 / 2) (32 + j % 2)
    (forwarded_of (number_of public 6 (longest_digits 0x39)) (sub_of (replicate 20 0xFF))).address

-- the last handled identifier takes three octets in a sheet, and leaves the identifier 32,767
abbrev pub full_table : Table
full_table = table_of 32766 (packed (each_from full_instance 24 0))

-- the interrogation of cfnr for all services and all numbers, with the identifier 32,767: two octets
abbrev pub last_interrogation : List ℕ
last_interrogation =
    0xA1 ∷ 0x11 ∷ 0x02 ∷ 0x02 ∷ 0x7F ∷ 0xFF ∷ 0x02 ∷ 0x01 ∷ 0x0B ∷ 0x30 ∷ 0x08 ∷ 0x0A ∷ 0x01 ∷ 0x02 ∷ 0x0A ∷ 0x01 ∷ 0x00 ∷ 0x05 ∷ 0x00 ∷ []
