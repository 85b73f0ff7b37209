-- A list of the exchange, as the end reads it, is what the exchange holds; and a good list replaces what is held of its procedure.
-- Assumes nothing.
use Prim.Native.Nat.{ℕ, ◌+◌, ◌<◌, ◌≤◌}
use mathlib.Core.Path.{◌≡◌, refl, sym, ap, ◌∙◌}
use mathlib.Core.Bool.{true}
use mathlib.Core.Logic.{⊎_elim}
use mathlib.Core.List.{List, [], ◌∷◌, map}
use mathlib.Core.Option.{Option, none, some}
use native.Mathlib.Omega.{arith}
use lib.ListN.{length, get_or, length-map}
use lib.Dec.{eqb}
use borrow.Author.Tests.{eqb-true}
use Rattle.laws.specs.Pick.{pick}
use Rattle.laws.specs.Those.{those}
use Rattle.laws.proofs.Tests.{all_at}
use Rattle.laws.proofs.Stands.{stands_whole}
use Rattle.laws.proofs.Thoses.{those_fewer}
use Rattle.laws.proofs.Walks.{every_at}
use Rattle.laws.proofs.Eaches.{Each, each_so, each_map, each_those, Up, up_those, up_map}
use Rattle.numbers.specs.Number.{tidy_number, number_good}
use Rattle.numbers.specs.Address.{tidy_address, address_good, address_octets}
use Rattle.numbers.specs.declared.address.Address.{Address}
use Rattle.numbers.proofs.Goods.{good_number, good_address, address_read_lem}
use Rattle.numbers.proofs.Trips.{address_back}
use Rattle.profile.specs.Access.{access_read}
use Rattle.profile.specs.Profile.{served_numbers, subscribed_services, no_number, place_in}
use Rattle.profile.specs.declared.profile.Profile.{Profile}
use Rattle.profile.proofs.Profiles.{GoodProfile, good_profile, number_fits, numbers_fit, numbers_fair, rule_at}
use Rattle.profile.proofs.Records.{access_good, access_numbers}
use Rattle.lists.specs.Entry.{tidy_entry}
use Rattle.lists.specs.Entries.{instances_most, tidy_entries}
use Rattle.lists.specs.declared.entry.Entry.{Entry}
use Rattle.instances.specs.Instance.{key_of, instance_good, spared}
use Rattle.instances.specs.Run.{served_number, entry_for, merged, is_of, count_of, deactivated}
use Rattle.instances.specs.declared.instance.Instance.{Instance}
use Rattle.instances.proofs.Choices.{spared_other}
use Rattle.instances.proofs.Merged.{merged_nil}
use Rattle.instances.proofs.Fits.{fits_of, fits_is}
use Rattle.instances.proofs.Goods.{GoodList}
use Rattle.end.specs.Listed.{instance_for, instances_listed, list_good, every_of, replaced}
use Rattle.end.proofs.GoodLists.{from_ascending, is_list, list_is}
use Rattle.forms.proofs.Fits.{tidy_instance, tidy_twice}
use Rattle.promise.proofs.DemandLists as L
use Rattle.promise.proofs.DemandLists.{held_of}
use Rattle.profile.proofs.Tidied.{place_tidied}
use Rattle.instances.proofs.Listeds.{served_own}

-- what is read of a procedure's list: its instances, where it is good
unfoldable pub read_on : Profile → ℕ → List Entry → Option (List Instance)
read_on p procedure es =
    pick (list_good instances_most p procedure (instances_listed p es)) (some (map tidy_instance (instances_listed p es))) none

-- ---- a good list replaces what is held of its procedure

pub replaced_held :
    (p : Profile) (q : ℕ) (new is : List Instance) → list_good instances_most p q new ≡ true → Up key_of 0 is →
    held_of q (replaced q new is) ≡ map tidy_instance new
replaced_held p q new is h u =
    L.held_merged q 0 new (deactivated (every_of q) is) (list_is instances_most p q new h).0 (up_those key_of (spared (every_of q)) 0 is u)
    ∙ (ap (merged (map tidy_instance new)) (L.held_dropped q (spared (every_of q)) (spared_other (every_of q) refl refl) is)
    ∙ merged_nil (map tidy_instance new))

-- ---- numbers and addresses come back

-- an address with zeros past its digits and octets is one that a table holds
tidy_address_lem : (a : Address) → address_good a ≡ true → address_good (tidy_address a) ≡ true
tidy_address_lem a h =
    let s : List ℕ = address_octets a in
    let back = address_back 3 a s 0 (length s) (omega arith) h (stands_whole s) (omega arith) (omega arith) in
    let shape = (good_number a.number (good_address a h).number).shape in
    address_read_lem 3 s 0 (length s) (record { address = tidy_address a; user = 0 }) (0 + length s) back
    (λ e. ⊎_elim (λ z. omega (arith, e, z.0)) (λ z. omega (arith, e, z.0)) shape)

module _ (access : List ℕ) (ok : (access_read access).ok ≡ true) where
  abbrev p : Profile
  p = (access_read access).profile

  fair : GoodProfile p
  fair = good_profile p (access_good access ok)

  -- a number of the profile stands at its own place
  placed : (k : ℕ) → k < p.numbercount → place_in p (get_or p.numbers k no_number) (served_numbers p) ≡ k
  placed k h =
      let fit : numbers_fit p p.numbercount ≡ true = sym (numbers_fair p fair.some fair.few)
      ∙ rule_at p 0 (access_good access ok) in
      let one = every_at (number_fits p p.numbercount p.numbers) p.numbercount k h fit in
      let number = get_or p.numbers k no_number in
      eqb-true (place_in p number (served_numbers p)) k
      (all_at (number_good number ∷ eqb (place_in p number (served_numbers p)) k ∷ []) 1 one)

  place_back : (k : ℕ) → k < p.numbercount → place_in p (tidy_number (served_number p.numbers k)) (served_numbers p) ≡ k
  place_back k h =
      let most = fair.few in
      rw (served_own p.numbers k (omega (arith, h, most)))
      (place_tidied (get_or p.numbers k no_number) (fair.numbers k h) (access_numbers access ok k (omega (arith, h, most))) p
      (served_numbers p)
      ∙ placed k h)

  abbrev entry_on : Instance → Entry
  entry_on = entry_for p.numbers

  -- an instance comes back with zeros where its record carries no meaning
  instance_back : (x : Instance) → instance_good p x ≡ true → instance_for p (tidy_entry (entry_on x)) ≡ tidy_instance x
  instance_back x h = rw (place_back x.number (fits_of p.subscribed p.numbercount (subscribed_services p) x h).number)

  tidy_good : (x : Instance) → instance_good p x ≡ true → instance_good p (tidy_instance x) ≡ true
  tidy_good x h =
      let f = fits_of p.subscribed p.numbercount (subscribed_services p) x h in
      fits_is p.subscribed p.numbercount (subscribed_services p) (tidy_instance x) (record {
        procedure = f.procedure;
        subscribes = f.subscribes;
        number = f.number;
        service = f.service;
        address = tidy_address_lem x.address f.address;
      })

  instances_back :
      (l : List Instance) → Each (λ x. instance_good p x ≡ true) l → map (instance_for p) (tidy_entries (map entry_on l)) ≡ map tidy_instance l
  instances_back [] h = refl
  instances_back (x ∷ l) h = rw (instance_back x h.0, instances_back l h.1)

  -- what is held of a procedure is a good list
  module _ (q : ℕ) (is : List Instance) (so : GoodList p instances_most is) where
    abbrev own : List Instance
    own = those (is_of q) is

    own_each : Each (λ x. (instance_good p x ≡ true) × (is_of q x ≡ true)) own
    own_each = each_those (λ x. instance_good p x ≡ true) (is_of q) is so.each

    own_up : Up key_of 0 (map tidy_instance own)
    own_up = up_map key_of tidy_instance 0 own (up_those key_of (is_of q) 0 is so.ascends)

    count_own : (o : ℕ) → count_of o (map tidy_instance own) ≤ count_of o is
    count_own o =
        omega (
          arith,
          ap length (L.those_map (is_of o) tidy_instance own),
          length-map (those (is_of o) own) tidy_instance,
          those_fewer (is_of q) (is_of o) is,
        )

    own_good : GoodList p instances_most (map tidy_instance own)
    own_good = record {
      ascends = own_up;
      each = each_map (λ x. instance_good p x ≡ true) tidy_instance own (each_so _ _ (λ x h. tidy_good x h.0) own own_each);
      few = (
        omega (arith, count_own 0, so.few.0),
        omega (arith, count_own 1, so.few.1),
        omega (arith, count_own 2, so.few.2),
      );
    }

    own_list : list_good instances_most p q (map tidy_instance own) ≡ true
    own_list =
        is_list instances_most p q (map tidy_instance own)
        (each_map (λ x. is_of q x ≡ true) tidy_instance own (each_so _ _ (λ x h. h.1) own own_each)) own_good

    from_back : instances_listed p (tidy_entries (map entry_on own)) ≡ map tidy_instance own
    from_back =
        let back = instances_back own (each_so _ _ (λ x h. h.0) own own_each) in
        from_ascending p (tidy_entries (map entry_on own)) (rw back own_up) ∙ back

    -- so a whole list is read as what is held
    pub read_back : read_on p q (tidy_entries (map entry_on (those (is_of q) is))) ≡ some (held_of q is)
    unfolding read_on held_of
    read_back =
        let twice : map tidy_instance (map tidy_instance own) ≡ map tidy_instance own =
        L.map_map tidy_instance tidy_instance own
        ∙ L.map_same (λ x. tidy_instance (tidy_instance x)) tidy_instance own (L.each_any _ tidy_twice own) in
        rw (from_back, own_list, twice)
