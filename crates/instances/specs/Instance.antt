-- Instances, and which of them a selection chooses (document 01, "Profile and table").
use Rattle.std.specs.Prelude.{ℕ, ◌+◌, ◌*◌, ◌≡◌, Bool, false, not, List, [], ◌∷◌, ltb, eqb, get_or}
use Rattle.laws.specs.Tests.{all, any}
use Rattle.numbers.specs.Address.{address_good, blank_address}
use Rattle.numbers.specs.declared.address.Address.{Address}
use Rattle.profile.specs.Profile.{subscribed_services}
use Rattle.profile.specs.declared.profile.Profile.{Profile}
use Rattle.instances.specs.declared.instance.Instance.{Instance}
use Rattle.instances.specs.declared.instance.Key.{Key}
use Rattle.instances.specs.declared.instance.Selection.{Selection}

-- "An instance is (procedure, served number, basic service, forwarded-to address)": the number by its place in the profile
abbrev pub instance_of : ℕ → ℕ → ℕ → Address → Instance
instance_of procedure number service address = record {
  procedure = procedure;
  number = number;
  service = service;
  address = address;
}

-- cfu 0, cfb 1, cfnr 2
abbrev pub procedures : ℕ
procedures = 3

-- the record of no instance
abbrev pub blank_instance : Instance
blank_instance = instance_of 0 0 0 blank_address

-- "ascending by the first three": one number for the three, which are octets
unfoldable pub key : ℕ → ℕ → ℕ → ℕ
key procedure number service = (procedure * 256 + number) * 256 + service

abbrev pub key_of : Instance → ℕ
key_of x = key x.procedure x.number x.service

-- the three of an instance as a record of their own, and the number of such a record
abbrev pub key_for : Instance → Key
key_for x = record { procedure = x.procedure; number = x.number; service = x.service }

abbrev pub key_at : Key → ℕ
key_at k = key k.procedure k.number k.service

-- ---- selections: of a procedure, one number or all, and one service or all

-- "allNumbers", and "code 0: all subscribed"
abbrev pub every_number : ℕ
every_number = 255

abbrev pub every_service : ℕ
every_service = 0

-- whether `is` was asked for, or all were
unfoldable pub named : ℕ → ℕ → ℕ → Bool
named every asked is = any (eqb asked every ∷ eqb asked is ∷ [])

-- whether a number and a service of the profile are selected
unfoldable pub selected : Selection → ℕ → ℕ → Bool
selected sel number service =
    all (named every_number sel.number number ∷ named every_service sel.service service ∷ [])

-- whether it is the procedure that a selection is of
unfoldable pub concerns : Selection → ℕ → Bool
concerns sel procedure = eqb procedure sel.procedure

-- a "selected instance"
unfoldable pub chosen : Selection → Instance → Bool
chosen sel x = all (concerns sel x.procedure ∷ selected sel x.number x.service ∷ [])

-- an instance that is not selected
abbrev pub spared : Selection → Instance → Bool
spared sel x = not (chosen sel x)

-- the instance of a procedure, number and service: "At most one for each"
unfoldable pub is_at : ℕ → ℕ → ℕ → Instance → Bool
is_at procedure number service x =
    all (eqb x.procedure procedure ∷ eqb x.number number ∷ eqb x.service service ∷ [])

-- ---- instances that break no rule

-- whether a code stands among others
unfoldable pub among : ℕ → List ℕ → Bool
among code [] = false
among code (x ∷ xs) = any (eqb x code ∷ among code xs ∷ [])

-- "hold only subscribed procedures and services and profile numbers", and addresses by the rules for numbers
unfoldable pub instance_fits : List ℕ → ℕ → List ℕ → Instance → Bool
instance_fits subscribed numbercount services x =
    all
    (ltb x.procedure procedures
    ∷ eqb (get_or subscribed x.procedure 0) 1
    ∷ ltb x.number numbercount
    ∷ among x.service services
    ∷ address_good x.address
    ∷ [])

abbrev pub instance_good : Profile → Instance → Bool
instance_good p x = instance_fits p.subscribed p.numbercount (subscribed_services p) x

-- what `Instance::key` and `key_of` promise
abbrev pub KeyFor : Instance → Key → Type 0
KeyFor x r = r ≡ key_for x

abbrev pub KeyOf : Key → ℕ → Type 0
KeyOf k r = r ≡ key_at k

-- what `blank_instance` promises
abbrev pub BlankInstance : Instance → Type 0
BlankInstance r = r ≡ blank_instance

-- what `is_named` promises
abbrev pub IsNamed : ℕ → ℕ → ℕ → Bool → Type 0
IsNamed every asked is r = r ≡ named every asked is
