-- What the writers of an address in a night sheet leave, from what each of their steps leaves. Assumes nothing.
use Prim.Native.Nat.{ℕ, suc, ◌+◌, ◌-◌, ◌≤◌, ◌<◌}
use mathlib.Core.Path.{◌≡◌, refl, sym, ap, ◌∙◌}
use mathlib.Core.Bool.{true}
use mathlib.Core.List.{List, [], ◌∷◌, ◌++◌, map, map-append}
use native.Mathlib.Nat.{sub-zero}
use native.Mathlib.Numerals.{add-one}
use native.Mathlib.Omega.{arith}
use lib.ListN.{length, take, drop, get_or, length-append, take-append-drop}
use lib.Seq.{take-suc, take_all, drop-cons}
use Rattle.laws.specs.Over.{Wrote}
use Rattle.laws.proofs.Over.{then, wrote_none, puts_then, room_then, room_after}
use Rattle.groups.specs.Groups.{PutGroups}
use Rattle.numbers.specs.Number.{digits_of}
use Rattle.numbers.specs.Address.{address_good}
use Rattle.numbers.specs.declared.address.Address.{Address}
use Rattle.numbers.proofs.Goods.{digits_each, good_number, good_address}
use Rattle.forms.specs.Instance.{all_groups, address_fields}
use Rattle.sheets.specs.inner.Write.{Room, above, NoneBelow}
use Rattle.forms.proofs.Octets.{fields_none, fields_more, fields_both}

-- the first of some fields was written: there is room for the others, and with them all are written
module _ {xs : List ℕ} {at : ℕ} (n : ℕ) (ns : List ℕ) {p : ℕ} {ys : List ℕ} (fits : Room xs at (all_groups (n ∷ ns)))
    (put : PutGroups xs at n p ys) where
  pub field_room : Room ys p (all_groups ns)
  field_room = room_after (all_groups ns) (rw (fields_more n ns) at fits) put

  pub field_wrote : {q : ℕ} {zs : List ℕ} → Wrote ys p (all_groups ns) q zs → Wrote xs at (all_groups (n ∷ ns)) q zs
  field_wrote rest = rw (fields_more n ns) (puts_then (rw (fields_more n ns) at fits) put (λ _. rest))

-- and it was the last
pub field_last :
    {xs : List ℕ} {at : ℕ} (n : ℕ) {p : ℕ} {ys : List ℕ} → Room xs at (all_groups (n ∷ [])) → PutGroups xs at n p ys →
    Wrote xs at (all_groups (n ∷ [])) p ys
field_last n fits put = field_wrote n [] fits put (rw fields_none wrote_none)

-- ---- digits and octets

above_zero : (octets : List ℕ) → map (λ c. c - 0) octets ≡ octets
above_zero [] = refl
above_zero (c ∷ octets) = rw (above_zero octets, sub-zero)

-- a writer of octets has come to the i-th of them, and to the place p
abbrev pub Come : ℕ → List ℕ → List ℕ → ℕ → ℕ → ℕ → List ℕ → Type 0
Come base octets xs at i p ys = Wrote xs at (all_groups (above base (take i octets))) p ys

module _ (base : ℕ) (octets xs : List ℕ) (at : ℕ) where
  pub come_first : Come base octets xs at 0 at xs
  come_first = rw fields_none wrote_none

  module _ {i p : ℕ} {ys : List ℕ} (so : Come base octets xs at i p ys) where
    -- there is room for one more, which is written
    pub come_next :
        {q : ℕ} {zs : List ℕ} → i < length octets → Room xs at (all_groups (above base octets)) →
        PutGroups ys p (get_or octets i 0 - base) q zs → Come base octets xs at (i + 1) q zs
    come_next more fits put =
        let n : ℕ = get_or octets i 0 - base in
        let left : List ℕ = above base (drop (suc i) octets) in
        let split : above base octets ≡ above base (take i octets) ++ (n ∷ left) =
        ap (above base) (sym (take-append-drop i octets) ∙ ap (λ l. take i octets ++ l) (drop-cons octets i 0 more))
        ∙ map-append (λ c. c - base) (take i octets) (get_or octets i 0 ∷ drop (suc i) octets) in
        let rest = room_then (all_groups (n ∷ left)) (rw (split, fields_both (above base (take i octets)) (n ∷ left)) at fits) so in
        let room : Room ys p (all_groups (n ∷ [])) =
        omega (arith, rest, ap length (fields_both (n ∷ []) left), length-append (all_groups (n ∷ [])) (all_groups left)) in
        rw (
          add-one i,
          take-suc octets i 0 more,
          map-append (λ c. c - base) (take i octets) (get_or octets i 0 ∷ []),
          fields_both (above base (take i octets)) (n ∷ []),
        )
        (then so (field_last n room put))

    pub come_all : length octets ≤ i → Wrote xs at (all_groups (above base octets)) p ys
    come_all h = rw (take_all i octets h) at so

-- ---- an address

module _ (a : Address) where
  abbrev digits : List ℕ
  digits = above 48 (digits_of a.number)

  abbrev sub : List ℕ
  sub = above 0 (take a.subcount a.sub)

  -- the digits of a good address are no characters below 0
  pub digits_above : address_good a ≡ true → NoneBelow 48 (digits_of a.number)
  digits_above good i lt =
      (digits_each (digits_of a.number) (good_number a.number (good_address a good).number).digits i lt).0

  module _ {xs : List ℕ} {at p : ℕ} {ys : List ℕ} {q : ℕ} {zs : List ℕ} {k : ℕ} {us : List ℕ}
      (fits : Room xs at (all_groups (address_fields a)))
      (form : PutGroups xs at a.number.form p ys)
      (kind : PutGroups ys p a.number.kind q zs)
      (count : PutGroups zs q a.number.count k us) where
    abbrev after : List ℕ
    after = a.subcount ∷ take a.subcount a.sub

    number_room : Room us k (all_groups (digits ++ after))
    number_room = field_room a.number.count _ (field_room a.number.kind _ (field_room a.number.form _ fits form) kind) count

    pub digits_room : Room us k (all_groups digits)
    digits_room = omega (arith, number_room, ap length (fields_both digits after), length-append (all_groups digits) (all_groups after))

    module _ {m : ℕ} {vs : List ℕ} {t : ℕ} {ws : List ℕ} (wrote-digits : Wrote us k (all_groups digits) m vs)
        (subcount : PutGroups vs m a.subcount t ws) where
      after_room : Room vs m (all_groups after)
      after_room = room_then (all_groups after) (rw (fields_both digits after) at number_room) wrote-digits

      pub sub_room : Room ws t (all_groups sub)
      sub_room = rw (above_zero (take a.subcount a.sub)) (field_room a.subcount _ after_room subcount)

      pub address_wrote :
          {n : ℕ} {rs : List ℕ} → Wrote ws t (all_groups sub) n rs → Wrote xs at (all_groups (address_fields a)) n rs
      address_wrote wrote-sub =
          let last = field_wrote a.subcount _ after_room subcount (rw (above_zero (take a.subcount a.sub)) at wrote-sub) in
          let second = field_room a.number.form _ fits form in
          let third = field_room a.number.kind _ second kind in
          field_wrote a.number.form _ fits form
          (field_wrote a.number.kind _ second kind
          (field_wrote a.number.count _ third count (rw (fields_both digits after) (then wrote-digits last))))
