-- The profile of an access, and the rules that refusal 3 stands for (document 01, "Profile and table").
use Rattle.std.specs.Prelude.{ℕ, ◌+◌, ◌≡◌, Bool, true, false, List, [], ◌∷◌, take, get_or, ltb, leb, eqb}
use Rattle.laws.specs.Pick.{pick}
use Rattle.laws.specs.Tests.{all, any}
use Rattle.laws.specs.Places.{every_to}
use Rattle.codes.specs.Codes.{place_of, service_code}
use Rattle.numbers.specs.Number.{digits_of, number_good}
use Rattle.numbers.specs.declared.number.Number.{Number}
use Rattle.profile.specs.declared.profile.Prefix.{Prefix}
use Rattle.profile.specs.declared.profile.Profile.{Profile}

-- "1 to 4 served numbers", "1 to 6 subscribed basic services", "0 to 16 special prefixes"
abbrev pub numbers_most : ℕ
numbers_most = 4

abbrev pub services_most : ℕ
services_most = 6

abbrev pub prefixes_most : ℕ
prefixes_most = 16

-- the numbers, services and prefixes that a record counts
abbrev pub served_numbers : Profile → List Number
served_numbers p = take p.numbercount p.numbers

abbrev pub subscribed_services : Profile → List ℕ
subscribed_services p = take p.servicecount p.services

abbrev pub barred : Profile → List Prefix
barred p = take p.prefixcount p.prefixes

-- ---- numbers

unfoldable pub same_digits : List ℕ → List ℕ → Bool
same_digits [] [] = true
same_digits [] (y ∷ ys) = false
same_digits (x ∷ xs) [] = false
same_digits (x ∷ xs) (y ∷ ys) = all (eqb x y ∷ same_digits xs ys ∷ [])

-- "Two numbers are the same if form, type and digits agree."
unfoldable pub same_number : Number → Number → Bool
same_number a b =
    all
    (eqb a.form b.form
    ∷ eqb a.kind b.kind
    ∷ eqb a.count b.count
    ∷ same_digits (digits_of a) (digits_of b)
    ∷ [])

-- whether an access takes two numbers for the same; a profile may come to have a say in it
unfoldable pub same : Profile → Number → Number → Bool
same p a b = same_number a b

-- the place of the first number that is the same as n; the number of them where none is
unfoldable pub place_in : Profile → Number → List Number → ℕ
place_in p n [] = 0
place_in p n (x ∷ xs) = pick (same p x n) 0 (1 + place_in p n xs)

abbrev pub no_number : Number
no_number = record { form = 0; kind = 0; count = 0; digits = [] }

-- "1 to 4 served numbers, all different": each is the first of its kind
unfoldable pub numbers_good : Profile → Bool
numbers_good p =
    all
    (leb 1 p.numbercount
    ∷ leb p.numbercount numbers_most
    ∷ every_to
    (λ k.
    all
    (number_good (get_or p.numbers k no_number)
    ∷ eqb (place_in p (get_or p.numbers k no_number) (served_numbers p)) k
    ∷ []))
    p.numbercount
    ∷ [])

-- ---- services

-- "codes ascending", each one of the sixteen and above `below`
unfoldable pub rising : ℕ → List ℕ → Bool
rising below [] = true
rising below (code ∷ codes) = all (ltb below code ∷ service_code code ∷ rising code codes ∷ [])

-- "1 to 6 subscribed basic services, codes ascending"
unfoldable pub services_good : Profile → Bool
services_good p =
    all (leb 1 p.servicecount ∷ leb p.servicecount services_most ∷ rising 0 (subscribed_services p) ∷ [])

-- ---- prefixes

-- "special prefixes of 1 to 20 digits": the digits of a number of unknown form
unfoldable pub prefix_good : Prefix → Bool
prefix_good f = number_good (record { form = 0; kind = 0; count = f.count; digits = f.digits })

abbrev pub no_prefix : Prefix
no_prefix = record { count = 0; digits = [] }

unfoldable pub prefixes_good : Profile → Bool
prefixes_good p =
    all
    (leb p.prefixcount prefixes_most
    ∷ every_to (λ k. prefix_good (get_or p.prefixes k no_prefix)) p.prefixcount
    ∷ [])

-- ---- the rest

-- "yes or no"
abbrev pub flag : ℕ → Bool
flag x = leb x 1

-- "three subscribed flags (cfu, cfb, cfnr)"
unfoldable pub subscriptions_good : Profile → Bool
subscriptions_good p =
    all (flag (get_or p.subscribed 0 0) ∷ flag (get_or p.subscribed 1 0) ∷ flag (get_or p.subscribed 2 0) ∷ [])

-- "MSN yes or no (no needs exactly one number); 'all numbers' option yes or no; in use yes or no; counted end yes or no"
unfoldable pub uses_good : Profile → Bool
uses_good p =
    all
    (flag p.all
    ∷ flag p.inuse
    ∷ flag p.counted
    ∷ flag p.msn
    ∷ any (eqb p.msn 1 ∷ eqb p.numbercount 1 ∷ [])
    ∷ [])

-- "notification option 0 to 2; release own number yes or no; diversion limit 1 to 5"
unfoldable pub diversion_good : Profile → Bool
diversion_good p =
    all (leb p.option 2 ∷ flag p.release ∷ leb 1 p.limit ∷ leb p.limit 5 ∷ [])

abbrev pub profile_rules : Profile → List Bool
profile_rules p =
    numbers_good p
    ∷ services_good p
    ∷ subscriptions_good p
    ∷ uses_good p
    ∷ diversion_good p
    ∷ prefixes_good p
    ∷ []

-- whether a profile breaks no rule
unfoldable pub profile_good : Profile → Bool
profile_good p = all (profile_rules p)

-- what `same` promises
abbrev pub Same : Profile → Number → Number → Bool → Type 0
Same p a b r = r ≡ same p a b

-- what `number_place` promises
abbrev pub NumberPlace : Profile → Number → ℕ → Type 0
NumberPlace p n r = r ≡ place_in p n (served_numbers p)

-- what `service_slot` promises: the place of the service among those subscribed; how many there are where it is none of them
abbrev pub ServiceSlot : Profile → ℕ → ℕ → Type 0
ServiceSlot p service r = r ≡ place_of service (subscribed_services p)
