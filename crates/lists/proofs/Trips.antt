-- What is written as entries is read as those entries. Assumes nothing.
use Prim.Native.Nat.{ℕ, zero, suc, ◌+◌, ◌≤◌}
use mathlib.Core.Path.{◌≡◌, refl, ap, ◌∙◌}
use mathlib.Core.Bool.{true}
use mathlib.Core.List.{List, [], ◌∷◌, ◌++◌}
use mathlib.Core.Logic.{⊎_elim}
use native.Mathlib.Omega.{arith}
use lib.ListN.{length, length-append}
use borrow.Author.Tests.{lt-ltb, eq-eqb, ne_eqb}
use Rattle.laws.specs.Got.{got}
use Rattle.laws.specs.Stands.{Stands}
use Rattle.laws.proofs.Stands.{stands_left, stands_right}
use Rattle.octets.specs.Element.{element}
use Rattle.values.specs.Enumerated.{enumerated_octets}
use Rattle.octets.proofs.Elements.{Inside, inside_element}
use Rattle.values.proofs.Enumerateds.{enumerated_back, length_enumerated}
use Rattle.numbers.specs.Number.{other, tidy_number, number_octets}
use Rattle.numbers.specs.Address.{tidy_address, address_octets}
use Rattle.numbers.proofs.Goods.{good_number, good_address}
use Rattle.numbers.proofs.Sizes.{number_most, address_most}
use Rattle.numbers.proofs.Trips.{number_back, address_back}
use Rattle.lists.specs.Entry.{entry_depth, field_depth, fields_octets, entry_octets, entry_good, tidy_entry, kept, last_field, codes_in}
use Rattle.lists.specs.Entry.{fields_in, entry_at}
use Rattle.lists.specs.Entries.{entries_octets, all_good, tidy_entries, entries_from}
use Rattle.lists.specs.declared.entry.Entry.{Entry}
use Rattle.lists.proofs.Sizes.{good_entry, fields_size, entry_some, good_entries, octets_none, octets_more}

-- ---- an entry

-- the address of a good entry is one that a table holds
good_kept : (e : Entry) → entry_good e ≡ true → kept (record { address = tidy_address e.address; user = 0 }) ≡ true
unfolding kept
good_kept e h =
    let n = good_number e.address.number (good_address e.address (good_entry e h).1).number in
    rw (lt-ltb e.address.number.form other
    (⊎_elim (λ (u : (e.address.number.form ≡ 0) × (e.address.number.kind ≡ 0)). omega arith) (λ p. omega (arith, p.0)) n.shape))

-- the fields that stand from `start` on, one after the other, up to `end`
module _ (e : Entry) (good : entry_good e ≡ true) (s : List ℕ) (end next : ℕ) (in-s : end ≤ length s) where
  last_back :
      (at : ℕ) → Stands s at (address_octets e.address) → at + length (address_octets e.address) ≡ end →
      last_field (tidy_number e.served) e.service e.procedure s at end next ≡ got (tidy_entry e) next
  unfolding last_field
  last_back at st fit =
      rw (
        address_back field_depth e.address s at end (omega arith) (good_entry e good).1 st (omega arith) in-s,
        eq-eqb (at + length (address_octets e.address)) end fit,
        good_kept e good,
      )

  codes_back :
      (at : ℕ) →
      Stands s at (enumerated_octets e.service ++ (enumerated_octets e.procedure ++ address_octets e.address)) →
      at + 6 + length (address_octets e.address) ≡ end →
      codes_in (tidy_number e.served) s at end next ≡ got (tidy_entry e) next
  unfolding codes_in
  codes_back at st fit =
      let service : List ℕ = enumerated_octets e.service in
      let procedure : List ℕ = enumerated_octets e.procedure in
      let address : List ℕ = address_octets e.address in
      let three = length_enumerated e.service in
      let three2 = length_enumerated e.procedure in
      let rest = stands_right s at service (procedure ++ address) st in
      let p : ℕ = at + length service in
      rw (
        enumerated_back field_depth e.service s at end (λ z. omega arith) (stands_left s at service (procedure ++ address) st)
            (omega arith) in-s,
        enumerated_back field_depth e.procedure s p end (λ z. omega arith) (stands_left s p procedure address rest) (omega arith)
            in-s,
      )
      (last_back (p + length procedure) (stands_right s p procedure address rest) (omega arith))

  fields_back :
      (at : ℕ) → Stands s at (fields_octets e) → at + length (fields_octets e) ≡ end →
      fields_in s at end next ≡ got (tidy_entry e) next
  unfolding fields_in
  fields_back at st fit =
      let number : List ℕ = number_octets e.served in
      let rest : List ℕ = enumerated_octets e.service ++ (enumerated_octets e.procedure ++ address_octets e.address) in
      let size = fields_size e in
      rw
      (number_back field_depth e.served s at end (omega arith) (good_entry e good).0 (stands_left s at number rest st)
      (omega arith) in-s)
      (codes_back (at + length number) (stands_right s at number rest st) (omega arith))

-- an entry that stands at `at`
entry_in :
    (e : Entry) (s : List ℕ) (at end : ℕ) → entry_good e ≡ true →
    (i : Inside entry_depth s at end 0x30 (fields_octets e)) →
    entry_at s at end ≡ got (tidy_entry e) (at + length (element 0x30 (fields_octets e)))
unfolding entry_at
entry_in e s at end good i =
    rw i.is
    (fields_back e good s (i.start + length (fields_octets e)) (i.start + length (fields_octets e)) i.room i.start
    i.stands refl
    ∙ ap (got (tidy_entry e)) i.stop)

pub entry_back :
    (e : Entry) (s : List ℕ) (at end : ℕ) → entry_good e ≡ true → Stands s at (entry_octets e) →
    at + length (entry_octets e) ≤ end → end ≤ length s →
    entry_at s at end ≡ got (tidy_entry e) (at + length (entry_octets e))
unfolding entry_octets
entry_back e s at end good st fit in-s =
    let g = good_entry e good in
    let number = number_most e.served g.0 in
    let address = address_most e.address g.1 in
    entry_in e s at end good
    (inside_element entry_depth s at end 0x30 (fields_octets e) (λ z. omega arith) (λ z. omega arith) (omega (arith, fields_size e)) st
    fit in-s)

-- ---- entries

-- entries that stand from `at` up to `end`, at most `left` of them
pub entries_back :
    (left : ℕ) (es : List Entry) (s : List ℕ) (at end : ℕ) → all_good es ≡ true → length es ≤ left →
    Stands s at (entries_octets es) → at + length (entries_octets es) ≡ end → end ≤ length s →
    entries_from left s at end ≡ got (tidy_entries es) end
unfolding entries_from
entries_back zero [] s at end good few st fit in-s =
    rw (eq-eqb at end (omega (arith, ap length octets_none)))
entries_back (suc left) [] s at end good few st fit in-s =
    rw (eq-eqb at end (omega (arith, ap length octets_none)))
entries_back zero (e ∷ es) s at end good few st fit in-s = absurd (omega arith)
entries_back (suc left) (e ∷ es) s at end good few st fit in-s =
    let g = good_entries e es good in
    let both = rw (octets_more e es) at st in
    let long = rw (octets_more e es) at fit in
    let sum = length-append (entry_octets e) (entries_octets es) in
    let some = entry_some e in
    let next : ℕ = at + length (entry_octets e) in
    rw (
      ne_eqb at end (λ z. omega arith),
      entry_back e s at end g.0 (stands_left s at (entry_octets e) (entries_octets es) both) (omega arith) in-s,
      entries_back left es s next end g.1 (omega arith) (stands_right s at (entry_octets e) (entries_octets es) both)
          (omega arith) in-s,
    )
