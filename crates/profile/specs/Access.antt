-- The access record: lent octets at fixed offsets (docs/RECORDS.md), read into a profile.
use Rattle.std.specs.Prelude.{ℕ, ◌+◌, ◌*◌, ◌≡◌, Bool, true, false, Option, Some, None, List, [], ◌∷◌, length, get_or, replicate, eqb}
use Rattle.std.proofs.Math.Seq.{slice}
use Rattle.laws.specs.Pick.{pick}
use Rattle.laws.specs.Tests.{all}
use Rattle.laws.specs.Places.{each_from}
use Rattle.numbers.specs.Number.{most, blank_number}
use Rattle.numbers.specs.declared.number.Number.{Number}
use Rattle.profile.specs.Profile.{numbers_most, services_most, prefixes_most, profile_good}
use Rattle.profile.specs.declared.profile.Prefix.{Prefix}
use Rattle.profile.specs.declared.profile.Profile.{Profile}

-- where each field stands, and the record's size
abbrev pub numbers_at : ℕ
numbers_at = 1

abbrev pub number_size : ℕ
number_size = 23

abbrev pub services_at : ℕ
services_at = 94

abbrev pub subscribed_at : ℕ
subscribed_at = 100

abbrev pub flags_at : ℕ
flags_at = 103

abbrev pub prefixes_at : ℕ
prefixes_at = 111

abbrev pub prefix_size : ℕ
prefix_size = 21

abbrev pub access_size : ℕ
access_size = 447

-- form, type, count and twenty places for digits
unfoldable pub number_from : List ℕ → ℕ → Number
number_from s at = record {
  form = get_or s at 0;
  kind = get_or s (at + 1) 0;
  count = get_or s (at + 2) 0;
  digits = slice (at + 3) (at + number_size) s;
}

-- count and twenty places for digits
unfoldable pub prefix_from : List ℕ → ℕ → Prefix
prefix_from s at = record { count = get_or s at 0; digits = slice (at + 1) (at + prefix_size) s }

unfoldable pub prefixes_from : List ℕ → List Prefix
prefixes_from s = each_from (λ k. prefix_from s (prefixes_at + prefix_size * k)) prefixes_most 0

unfoldable pub profile_from : List ℕ → Profile
profile_from s = record {
  numbercount = get_or s 0 0;
  numbers = each_from (λ k. number_from s (numbers_at + number_size * k)) numbers_most 0;
  servicecount = get_or s 93 0;
  services = slice services_at (services_at + services_most) s;
  subscribed = slice subscribed_at (subscribed_at + 3) s;
  msn = get_or s flags_at 0;
  all = get_or s (flags_at + 1) 0;
  inuse = get_or s (flags_at + 2) 0;
  counted = get_or s (flags_at + 3) 0;
  option = get_or s (flags_at + 4) 0;
  release = get_or s (flags_at + 5) 0;
  limit = get_or s (flags_at + 6) 0;
  prefixcount = get_or s (flags_at + 7) 0;
  prefixes = prefixes_from s;
}

-- the profile of no record
abbrev pub no_profile : Profile
no_profile = record {
  numbercount = 0;
  numbers = replicate numbers_most blank_number;
  servicecount = 0;
  services = replicate services_most 0;
  subscribed = replicate 3 0;
  msn = 0;
  all = 0;
  inuse = 0;
  counted = 0;
  option = 0;
  release = 0;
  limit = 0;
  prefixcount = 0;
  prefixes = replicate prefixes_most (record { count = 0; digits = replicate most 0 });
}

-- what an access record says: the profile, or `ok` is false where it breaks a rule
pub record AccessRead : Type 0 where
  pub ok : Bool
  pub profile : Profile

abbrev pub no_access : AccessRead
no_access = record { ok = false; profile = no_profile }

-- a record of another size is none, and one whose profile breaks a rule: refusal 3
unfoldable pub access_read : List ℕ → AccessRead
access_read s =
    pick (all (eqb (length s) access_size ∷ profile_good (profile_from s) ∷ []))
    (record { ok = true; profile = profile_from s })
    no_access

-- the profile that was read, where there is one
abbrev pub profile_read : AccessRead → Option Profile
profile_read a = pick a.ok (Some a.profile) None

-- what `read_access` promises
abbrev pub ReadAccess : List ℕ → Option Profile → Type 0
ReadAccess s r = r ≡ profile_read (access_read s)
