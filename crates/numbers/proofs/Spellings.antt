-- Nothing else is read as a number or an address than what spells one, needless lengths aside, and its record is the one that the
-- octets say. Assumes nothing.
use Prim.Native.Nat.{ℕ, ◌-◌, ◌≤◌, ◌<◌}
use mathlib.Core.Path.{◌≡◌, refl}
use mathlib.Core.Bool.{true}
use mathlib.Core.List.{List, [], ◌∷◌}
use mathlib.Core.Logic.{inl, inr}
use native.Mathlib.Omega.{arith}
use lib.ListN.{length, get_or, take, replicate}
use lib.Seq.{slice, slice_empty, length-slice, take-append_seam}
use lib.Dec.{eqb}
use borrow.Author.Tests.{eqb-true}
use Rattle.laws.specs.Pick.{pick}
use Rattle.laws.specs.Tests.{all}
use Rattle.std.specs.Prelude.{Option, Some, None}
use Rattle.laws.specs.Got.{Got, got, wrong, and_then}
use Rattle.laws.proofs.Gots.{Something, FoundAt, found_is, found_at_then}
use Rattle.laws.proofs.Picks.{pick_ind}
use Rattle.laws.proofs.Tests.{both_hold}
use Rattle.codes.specs.Digits.{type_good}
use Rattle.octets.specs.Head.{head_at}
use Rattle.octets.specs.Spelt.{Spells}
use Rattle.octets.specs.declared.head.Head.{Head}
use Rattle.octets.proofs.Slices.{slice_join}
use Rattle.octets.proofs.Spellings.{HeadSpelt, head_only}
use Rattle.values.specs.Enumerated.{enumerated_tag, enumerated_at}
use Rattle.values.proofs.Enumerateds.{enumerated_within}
use Rattle.values.proofs.Spellings.{enumerated_only}
use Rattle.numbers.specs.Number.{most, unknown, padded, fair, digits_good}
use Rattle.numbers.specs.Number.{digits_in, string_of, string_at, public_in, other_tag, number_in, number_at}
use Rattle.numbers.specs.Address.{octets_in, sub_in, sub_at, address_in, address_at}
use Rattle.numbers.specs.Spelt.{NumberSpelt, SubSpelt, AddressSpelt}
use Rattle.numbers.specs.declared.number.Number.{Number}
use Rattle.numbers.specs.declared.address.Sub.{Sub}
use Rattle.numbers.specs.declared.address.Forwarded.{Forwarded}
use Rattle.numbers.proofs.Readers.{number_within}

module _ (s : List ℕ) (small : (i : ℕ) → get_or s i 0 < 256) where
  -- ---- numbers

  -- what stands from `at` on spells it
  abbrev Spelt : ℕ → Number → ℕ → Type 0
  Spelt at n next = NumberSpelt n (slice at next s)

  unknown_only :
      (at start stop next : ℕ) → Spells 0x80 (slice start stop s) (slice at next s) →
      FoundAt (Spelt at) (digits_in unknown 0 s start stop next)
  unfolding digits_in
  unknown_only at start stop next sp =
      pick_ind (FoundAt (Spelt at)) (digits_good (slice start stop s))
      (λ good. inl (record { digits = slice start stop s; good = good; spells = sp; is = refl }))
      (λ _. tt)

  -- a type from `start` up to `place`, and the head of a numeric string there
  string_head :
      (depth at start stop next kind place : ℕ) → start ≤ place → type_good kind ≡ true →
      Spells enumerated_tag (kind ∷ []) (slice start place s) → Spells 0xA1 (slice start stop s) (slice at next s) →
      (h : Option Head) → head_at depth s place stop ≡ h → FoundAt (Spelt at) (string_of kind s stop next h)
  unfolding digits_in
  string_head depth at start stop next kind place le kinds first sp (Some x) e =
      let tag : ℕ = x.tag in
      let from : ℕ = x.start in
      let to : ℕ = x.stop in
      let last : ℕ = x.next in
      pick_ind (FoundAt (Spelt at)) (all (eqb tag 0x12 ∷ eqb last stop ∷ []))
      (λ both.
      pick_ind (FoundAt (Spelt at)) (digits_good (slice from to s))
      (λ good.
      let b = both_hold (eqb tag 0x12) (eqb last stop) both in
      let h : HeadSpelt depth s place stop tag from to last = head_only s small depth place stop e in
      let ends : last ≡ stop = eqb-true last stop b.1 in
      inr (inl (record {
        kind = kind;
        digits = slice from to s;
        type = slice start place s;
        string = slice place stop s;
        kinds = kinds;
        good = good;
        first = first;
        second = rw (eqb-true tag 0x12 b.0, ends) at h.spells;
        spells = rw (slice_join start place stop s le (omega (arith, h.starts, h.stops, h.nexts, ends))) sp;
        is = refl;
      })))
      (λ _. tt))
      (λ _. tt)
  string_head depth at start stop next kind place le kinds first sp None e = tt

  -- the contents of a public number
  public_only :
      (depth at start stop next : ℕ) → Spells 0xA1 (slice start stop s) (slice at next s) →
      FoundAt (Spelt at) (public_in depth s start stop next)
  unfolding public_in string_at
  public_only depth at start stop next sp = from (enumerated_at depth s start stop) refl
    where
      from :
          (v : Got ℕ) → enumerated_at depth s start stop ≡ v →
          FoundAt (Spelt at)
          (and_then v (λ kind place. pick (type_good kind) (string_at depth kind s place stop next) wrong))
      from (got kind place) e =
          pick_ind (FoundAt (Spelt at)) (type_good kind)
          (λ kinds.
          string_head depth at start stop next kind place (omega (arith, enumerated_within depth s start stop e)) kinds
          (enumerated_only s small depth start stop e) sp (head_at depth s place stop) refl)
          (λ _. tt)
      from wrong e = tt

  number_head :
      (depth at end : ℕ) (h : Option Head) → head_at depth s at end ≡ h →
      FoundAt (Spelt at) (number_in depth s h)
  number_head depth at end (Some h) e =
      let tag : ℕ = h.tag in
      let start : ℕ = h.start in
      let stop : ℕ = h.stop in
      let next : ℕ = h.next in
      let P : Got Number → Type 0 = FoundAt (Spelt at) in
      let sp : Spells tag (slice start stop s) (slice at next s) = (head_only s small depth at end e).spells in
      pick_ind P (eqb tag 0x80) (λ t. unknown_only at start stop next (rw (eqb-true tag 0x80 t) at sp)) (λ _.
      pick_ind P (eqb tag 0xA1) (λ t. public_only (depth - 1) at start stop next (rw (eqb-true tag 0xA1 t) at sp)) (λ _.
      pick_ind P (other_tag tag)
      (λ kinds. inr (inr (record { tag = tag; contents = slice start stop s; kinds = kinds; spells = sp; is = refl })))
      (λ _. tt)))
  number_head depth at end None e = tt

  -- what is accepted as a number spells it
  pub number_only :
      (depth at end : ℕ) {n : Number} {next : ℕ} → number_at depth s at end ≡ got n next → NumberSpelt n (slice at next s)
  unfolding number_at
  number_only depth at end e = rw e at (number_head depth at end (head_at depth s at end) refl)

  -- ---- addresses

  octets_only :
      (at start stop end : ℕ) → stop ≤ length s → Spells 0x04 (slice start stop s) (slice at end s) →
      Something (λ sub. SubSpelt sub (slice at end s)) (octets_in s start stop)
  unfolding octets_in
  octets_only at start stop end inside sp =
      pick_ind (Something (λ sub. SubSpelt sub (slice at end s))) (fair (stop - start))
      (λ good.
      inr (inl (record {
        octets = slice start stop s;
        good = rw (length-slice start stop s inside) good;
        spells = sp;
        is = refl;
      })))
      (λ _. tt)

  sub_head :
      (depth at end : ℕ) (h : Option Head) → head_at depth s at end ≡ h →
      Something (λ sub. SubSpelt sub (slice at end s)) (sub_in s end h)
  sub_head depth at end (Some x) e =
      let tag : ℕ = x.tag in
      let start : ℕ = x.start in
      let stop : ℕ = x.stop in
      let next : ℕ = x.next in
      let P : Got Sub → Type 0 = Something (λ sub. SubSpelt sub (slice at end s)) in
      let h : HeadSpelt depth s at end tag start stop next = head_only s small depth at end e in
      pick_ind P (eqb next end)
      (λ last.
      let sp : Spells tag (slice start stop s) (slice at end s) = rw (eqb-true next end last) at h.spells in
      pick_ind P (eqb tag 0x30)
      (λ t. inr (inr (record { contents = slice start stop s; spells = rw (eqb-true tag 0x30 t) at sp; is = refl }))) (λ _.
      pick_ind P (eqb tag 0x04)
      (λ t.
      octets_only at start stop end (omega (arith, h.nexts, h.ends, h.inside)) (rw (eqb-true tag 0x04 t) at sp))
      (λ _. tt)))
      (λ _. tt)
  sub_head depth at end None e = tt

  -- what is accepted as the rest of an address spells it
  pub sub_only :
      (depth at end : ℕ) {sub : Sub} {last : ℕ} → sub_at depth s at end ≡ got sub last → SubSpelt sub (slice at end s)
  unfolding sub_at
  sub_only depth at end e =
      found_is (λ sub. SubSpelt sub (slice at end s)) e
      (pick_ind (Something (λ sub. SubSpelt sub (slice at end s))) (eqb at end)
      (λ same. inl (record { none = rw (eqb-true at end same) (slice_empty end s); is = refl }))
      (λ _. sub_head depth at end (head_at depth s at end) refl))

  address_head :
      (depth at end : ℕ) (h : Option Head) → head_at depth s at end ≡ h →
      FoundAt (λ to next. AddressSpelt to (slice at next s)) (address_in depth s h)
  address_head depth at end (Some h) e =
      let tag : ℕ = h.tag in
      let start : ℕ = h.start in
      let stop : ℕ = h.stop in
      let next : ℕ = h.next in
      let P : Forwarded → ℕ → Type 0 = λ to next. AddressSpelt to (slice at next s) in
      let inner : ℕ = depth - 1 in
      let sp : Spells tag (slice start stop s) (slice at next s) = (head_only s small depth at end e).spells in
      pick_ind (FoundAt P) (eqb tag 0x30)
      (λ t.
      found_at_then P (number_at inner s start stop) _ (λ number place f.
      found_at_then P (sub_at inner s place stop) _ (λ sub last g.
      let in_order = number_within inner s start stop number place f in
      record {
        number = number;
        sub = sub;
        first = slice start place s;
        second = slice place stop s;
        numbers = number_only inner start stop f;
        subs = sub_only inner place stop g;
        spells =
            rw (slice_join start place stop s (omega (arith, in_order)) (omega (arith, in_order)))
            (rw (eqb-true tag 0x30 t) at sp);
        is = refl;
      })))
      (λ _. tt)
  address_head depth at end None e = tt

  -- what is accepted as an address spells it
  pub address_only :
      (depth at end : ℕ) {to : Forwarded} {next : ℕ} → address_at depth s at end ≡ got to next →
      AddressSpelt to (slice at next s)
  unfolding address_at
  address_only depth at end e = rw e at (address_head depth at end (head_at depth s at end) refl)

-- ---- digits and octets with zeros past them

-- what is padded begins with the octets that it was made of
pub padded_taken : (ws : List ℕ) → take (length ws) (padded ws) ≡ ws
padded_taken ws = take-append_seam ws (replicate (most - length ws) 0)
