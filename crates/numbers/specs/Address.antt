-- Addresses: "a sequence of a number and perhaps a subaddress: an octet string (tag 04) of 1 to 20, or a user-specified one
-- (tag 30, contents not read)" (document 01, "Numbers").
use Rattle.std.specs.Prelude.{ℕ, ◌-◌, ◌≡◌, Bool, List, [], ◌∷◌, ◌++◌, length, take, leb, eqb, Option, Some, None}
use Rattle.std.proofs.Math.Seq.{slice}
use Rattle.laws.specs.Pick.{pick}
use Rattle.laws.specs.Tests.{all}
use Rattle.laws.specs.Got.{Got, got, wrong, and_then}
use Rattle.laws.specs.Over.{Puts}
use Rattle.octets.specs.Head.{head_at}
use Rattle.octets.specs.Found.{found}
use Rattle.octets.specs.Element.{element}
use Rattle.octets.specs.declared.head.Head.{Head}
use Rattle.octets.specs.declared.found.Found.{Found}
use Rattle.numbers.specs.Number.{most, padded, fair, blank_number, number_at, tidy_number, number_good, number_octets}
use Rattle.numbers.specs.declared.number.Number.{Number}
use Rattle.numbers.specs.declared.address.Sub.{Sub}
use Rattle.numbers.specs.declared.address.Address.{Address}
use Rattle.numbers.specs.declared.address.Forwarded.{Forwarded}

-- a subaddress of the octets ws, none where there are none; and a user-specified one
abbrev pub sub_of : List ℕ → Sub
sub_of ws = record { user = 0; count = length ws; octets = padded ws }

abbrev pub user_sub : Sub
user_sub = record { user = 1; count = 0; octets = padded [] }

abbrev pub blank_sub : Sub
blank_sub = sub_of []

-- an octet string of 1 to 20
unfoldable pub octets_in : List ℕ → ℕ → ℕ → Got Sub
octets_in s start stop = pick (fair (stop - start)) (got (sub_of (slice start stop s)) stop) wrong

-- a subaddress is the last element of its address
abbrev pub sub_in : List ℕ → ℕ → Option Head → Got Sub
sub_in s end (Some h) =
    pick (eqb h.next end)
    (pick (eqb h.tag 0x30) (got user_sub h.stop) (pick (eqb h.tag 0x04) (octets_in s h.start h.stop) wrong))
    wrong
sub_in s end None = wrong

-- what stands between the number and the end of an address
unfoldable pub sub_at : ℕ → List ℕ → ℕ → ℕ → Got Sub
sub_at depth s at end = pick (eqb at end) (got blank_sub end) (sub_in s end (head_at depth s at end))

-- a forwarded-to address: where the subaddress is user-specified, its octets are not kept
abbrev pub forwarded_of : Number → Sub → Forwarded
forwarded_of number sub = record {
  address = record { number = number; subcount = sub.count; sub = sub.octets };
  user = sub.user;
}

-- the record of no address, and that of none to forward to
abbrev pub blank_forwarded : Forwarded
blank_forwarded = forwarded_of blank_number blank_sub

abbrev pub blank_address : Address
blank_address = blank_forwarded.address

abbrev pub address_in : ℕ → List ℕ → Option Head → Got Forwarded
address_in depth s (Some h) =
    pick (eqb h.tag 0x30)
    (and_then (number_at (depth - 1) s h.start h.stop) (λ number place.
    and_then (sub_at (depth - 1) s place h.stop) (λ sub last. got (forwarded_of number sub) h.next)))
    wrong
address_in depth s None = wrong

-- the address at `at`, of the octets of s before `end`
unfoldable pub address_at : ℕ → List ℕ → ℕ → ℕ → Got Forwarded
address_at depth s at end = address_in depth s (head_at depth s at end)

-- ---- addresses that a table holds, and how they are written

-- the subaddress's octets of a record
abbrev pub sub_octets_of : Address → List ℕ
sub_octets_of a = take a.subcount a.sub

-- the same address with zeros past its digits and octets
abbrev pub tidy_address : Address → Address
tidy_address a = record {
  number = tidy_number a.number;
  subcount = length (sub_octets_of a);
  sub = padded (sub_octets_of a);
}

-- whether a record is an address as a table holds it
unfoldable pub address_good : Address → Bool
address_good a = all (leb a.subcount most ∷ number_good a.number ∷ [])

unfoldable pub sub_octets : List ℕ → List ℕ
sub_octets ws = pick (eqb (length ws) 0) [] (element 0x04 ws)

unfoldable pub address_octets : Address → List ℕ
address_octets a = element 0x30 (number_octets a.number ++ sub_octets (sub_octets_of a))

-- what `blank_address` promises
abbrev pub BlankAddress : Address → Type 0
BlankAddress r = r ≡ blank_address

-- what `address_at` promises
abbrev pub AddressAt : ℕ → List ℕ → ℕ → ℕ → Option (Found Forwarded) → Type 0
AddressAt depth s at end r = r ≡ found (address_at depth s at end)

-- what `address_good` promises
abbrev pub AddressGood : Address → Bool → Type 0
AddressGood a r = r ≡ address_good a

-- what `address_size` promises
abbrev pub AddressSize : Address → ℕ → Type 0
AddressSize a r = r ≡ length (address_octets a)

-- what `put_sub` promises
abbrev pub PutSub : List ℕ → ℕ → Address → ℕ → List ℕ → Type 0
PutSub xs at a next ys = Puts xs at (sub_octets (sub_octets_of a)) next ys

-- what `put_address` promises
abbrev pub PutAddress : List ℕ → ℕ → Address → ℕ → List ℕ → Type 0
PutAddress xs at a next ys = Puts xs at (address_octets a) next ys
