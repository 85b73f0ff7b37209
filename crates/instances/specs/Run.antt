-- What a table or a picture holds: its instances, one after the other (document 01, "Profile and table", "Replies").
use Rattle.std.specs.Prelude.{ℕ, ◌+◌, ◌-◌, ◌≡◌, Bool, true, List, [], ◌∷◌, ◌++◌, map, length, take, get_or, replicate, ltb, leb, eqb, ℤ}
use Rattle.std.specs.Prelude.{Option as Answer, None, Some}
use Rattle.std.proofs.Math.Option.{Option, none, some}
use Rattle.laws.specs.Pick.{pick}
use Rattle.laws.specs.Tests.{all}
use Rattle.laws.specs.Those.{those}
use Rattle.numbers.specs.Number.{blank_number}
use Rattle.numbers.specs.declared.address.Address.{Address}
use Rattle.numbers.specs.declared.number.Number.{Number}
use Rattle.profile.specs.Profile.{numbers_most, no_number}
use Rattle.profile.specs.declared.profile.Profile.{Profile}
use Rattle.lists.specs.Entry.{entry_of}
use Rattle.lists.specs.Entries.{instances_most, entries_of}
use Rattle.lists.specs.Listed.{PutList}
use Rattle.lists.specs.declared.entry.Entry.{Entry}
use Rattle.lists.specs.declared.entries.Entries.{Entries}
use Rattle.instances.specs.Instance.{instance_of, blank_instance, key_of, chosen, spared, is_at, instance_good}
use Rattle.instances.specs.Places.{run_most, places_of}
use Rattle.instances.specs.declared.instance.Instance.{Instance}
use Rattle.instances.specs.declared.instance.Key.{Key}
use Rattle.instances.specs.declared.instance.Selection.{Selection}
use Rattle.instances.specs.declared.places.Place.{Place}
use Rattle.instances.specs.declared.run.Run.{Run}
use Rattle.instances.specs.declared.run.After.{After}

-- the instances that a record counts
abbrev pub instances_of : Run → List Instance
instances_of run = take run.count run.run

-- the record of instances, with blanks after them: of as many as there is room for, which are all where none breaks a rule
-- (`packed_all`)
abbrev pub packed : List Instance → Run
packed is = record {
  count = length (take run_most is);
  run = take run_most is ++ replicate (run_most - length (take run_most is)) blank_instance;
}

-- ---- what a request reads

-- "every active selected instance, by profile number, then service code"
abbrev pub listed : Selection → List Instance → List Instance
listed sel is = those (chosen sel) is

-- "Each carries the profile's own number"
unfoldable pub served_number : List Number → ℕ → Number
served_number numbers number = pick (ltb number numbers_most) (get_or numbers number no_number) blank_number

abbrev pub entry_for : List Number → Instance → Entry
entry_for numbers x = entry_of (served_number numbers x.number) x.service x.procedure x.address

-- the address of the instance of a procedure, number and service
unfoldable pub forwarded_to : ℕ → ℕ → ℕ → List Instance → Option Address
forwarded_to procedure number service [] = none
forwarded_to procedure number service (x ∷ xs) =
    pick (is_at procedure number service x) (some x.address) (forwarded_to procedure number service xs)

-- how many instances of a procedure there are
abbrev pub is_of : ℕ → Instance → Bool
is_of procedure x = eqb x.procedure procedure

abbrev pub count_of : ℕ → List Instance → ℕ
count_of procedure is = length (those (is_of procedure) is)

-- ---- what a request changes

-- "removes every active selected instance"
abbrev pub deactivated : Selection → List Instance → List Instance
deactivated sel is = those (spared sel) is

-- the instance of a place
abbrev pub instance_at : ℕ → Address → Place → Instance
instance_at procedure address w = instance_of procedure w.number w.service address

-- two ascending lists as one
unfoldable pub merged : List Instance → List Instance → List Instance
merged [] ys = ys
merged (x ∷ xs) [] = x ∷ xs
merged (x ∷ xs) (y ∷ ys) =
    pick (ltb (key_of y) (key_of x)) (y ∷ merged (x ∷ xs) ys) (x ∷ merged xs (y ∷ ys))

-- "every selected number and service (code 0: all subscribed) gets the address, replacing an older one, all together"
abbrev pub activated_at : Selection → Address → List Place → List Instance → List Instance
activated_at sel address ws is = merged (map (instance_at sel.procedure address) ws) (deactivated sel is)

abbrev pub activated : Profile → Selection → Address → List Instance → List Instance
activated p sel address is = activated_at sel address (places_of p sel) is

-- "replacing an older one": a selected instance gets the address where it stands
abbrev pub renewed : Selection → Address → Instance → Instance
renewed sel address x = pick (chosen sel x) (instance_of x.procedure x.number x.service address) x

-- whether as many instances are selected as places: then an activation of instances that break no rule only renews them
-- (`activated_renewed`)
abbrev pub renews : Profile → Selection → List Instance → Bool
renews p sel is = eqb (length (listed sel is)) (length (places_of p sel))

-- ---- instances that break no rule

-- "strictly ascending by the first three": each key is above the one before it, the first above `below`; no service has the code 0
unfoldable pub ascending : ℕ → List Instance → Bool
ascending below [] = true
ascending below (x ∷ xs) = all (ltb below (key_of x) ∷ ascending (key_of x) xs ∷ [])

unfoldable pub each_good : (Instance → Bool) → List Instance → Bool
each_good good [] = true
each_good good (x ∷ xs) = all (good x ∷ each_good good xs ∷ [])

-- "at most 8 for each procedure", over the limit
unfoldable pub few_of_each : ℕ → List Instance → Bool
few_of_each most is = all (leb (count_of 0 is) most ∷ leb (count_of 1 is) most ∷ leb (count_of 2 is) most ∷ [])

abbrev pub instances_good : ℕ → Profile → List Instance → Bool
instances_good most p is = all (ascending 0 is ∷ each_good (instance_good p) is ∷ few_of_each most is ∷ [])

-- "At most one for each procedure, number and service, and at most 8 for each procedure"
unfoldable pub run_good : ℕ → Profile → Run → Bool
run_good most p run = all (leb run.count run_most ∷ instances_good most p (instances_of run) ∷ [])

-- ---- what the functions of a run promise

abbrev pub FreshRun : Run → Type 0
FreshRun r = r ≡ packed []

-- the same, as the code answers it
abbrev pub found_by : Option Address → Answer Address
found_by none = None
found_by (some address) = Some address

abbrev pub FindsAddress : Key → Run → Answer Address → Type 0
FindsAddress key run r = r ≡ found_by (forwarded_to key.procedure key.number key.service (instances_of run))

abbrev pub ChosenCount : Selection → Run → ℕ → Type 0
ChosenCount sel run r = r ≡ length (listed sel (instances_of run))

abbrev pub Clear : Selection → Run → Run → Type 0
Clear sel run r = r ≡ packed (deactivated sel (instances_of run))

abbrev pub Ordered : ℕ → Run → Bool → Type 0
Ordered most run r = r ≡ all (ascending 0 (instances_of run) ∷ few_of_each most (instances_of run) ∷ [])

abbrev pub RunGood : Profile → Run → Bool → Type 0
RunGood p run r = r ≡ run_good instances_most p run

abbrev pub Put : Profile → Selection → Address → Run → Run → Type 0
Put p sel address run r = r ≡ packed (activated p sel address (instances_of run))

-- how many of the procedure there are after an activation: the places that are selected, and the instances that are not
-- (`count_activated`); and whether it only renews
pub record CountAfter (p : Profile) (sel : Selection) (run : Run) (r : After) : Type 0 where
  pub count : r.count ≡ length (places_of p sel) + count_of sel.procedure (deactivated sel (instances_of run))
  pub renews : r.renews ≡ renews p sel (instances_of run)

abbrev pub Renew : Selection → Address → Run → Run → Type 0
Renew sel address run r = r ≡ packed (map (renewed sel address) (instances_of run))

-- a run that breaks no rule has no more than 8 of a procedure
abbrev pub EntriesOf : Profile → Selection → Run → Entries → Type 0
EntriesOf p sel run r = r ≡ entries_of (take instances_most (map (entry_for p.numbers) (listed sel (instances_of run))))

-- the same entries, as the list of them
abbrev pub PutListed : List ℕ → ℤ → Profile → Selection → Run → ℕ → List ℕ → Type 0
PutListed xs identifier p sel run n ys =
    PutList xs identifier (entries_of (take instances_most (map (entry_for p.numbers) (listed sel (instances_of run))))) n ys
