-- What the writers of instances and of a night sheet leave, from what each of their steps leaves. Assumes nothing.
use Prim.Native.Nat.{ℕ, zero, suc, ◌+◌, ◌≤◌, ◌<◌}
use mathlib.Core.List.{List, [], ◌∷◌}
use native.Mathlib.Numerals.{add-one}
use native.Mathlib.Omega.{arith}
use lib.ListN.{length, take, get_or, length-append, length-take}
use lib.Seq.{take-suc, take_all}
use Rattle.laws.specs.Over.{Wrote}
use Rattle.laws.proofs.Over.{wrote_length, then, wrote_none}
use Rattle.groups.specs.Groups.{PutGroups}
use Rattle.instances.specs.declared.instance.Instance.{Instance}
use Rattle.forms.specs.declared.form.Form.{Form}
use Rattle.forms.specs.Size.{instance_most}
use Rattle.forms.specs.Instance.{all_groups, address_fields, instance_fields}
use Rattle.forms.specs.Sheet.{sheet_octets}
use Rattle.forms.proofs.Octets.{octets_none, octets_one, octets_both, sheet_octets_lem}
use Rattle.forms.proofs.Sizes.{head_most}
use Rattle.sheets.specs.inner.Write.{Room, Space, WroteInstances, Writable, AllWritable}
use Rattle.sheets.proofs.Writers.{field_room, field_wrote, field_last}

-- ---- an instance

module _ (x : Instance) (small : length (all_groups (instance_fields x)) ≤ instance_most) {xs : List ℕ} {at p : ℕ} {ys : List ℕ} {q : ℕ} {zs : List ℕ} {k : ℕ}
    {us : List ℕ}
    (space : Space xs at (x ∷ []))
    (first : PutGroups xs at x.procedure p ys)
    (second : PutGroups ys p x.number q zs)
    (third : PutGroups zs q x.service k us) where
  whole : Room xs at (all_groups (instance_fields x))
  whole = omega (arith, space, small)

  second_room : Room ys p (all_groups (x.number ∷ x.service ∷ address_fields x.address))
  second_room = field_room x.procedure _ whole first

  third_room : Room zs q (all_groups (x.service ∷ address_fields x.address))
  third_room = field_room x.number _ second_room second

  -- there is room for the address, and with it the instance is written
  pub instance_room : Room us k (all_groups (address_fields x.address))
  instance_room = field_room x.service _ third_room third

  pub instance_wrote :
      {n : ℕ} {rs : List ℕ} → Wrote us k (all_groups (address_fields x.address)) n rs → WroteInstances xs at (x ∷ []) n rs
  instance_wrote address =
      let all =
      field_wrote x.procedure _ whole first
      (field_wrote x.number _ second_room second (field_wrote x.service _ third_room third address)) in
      record {
        holds = rw (octets_one x) all;
        within = omega (arith, all.moved, small);
      }

-- ---- instances, one after the other

pub writable_at : (l : List Instance) → AllWritable l → (i : ℕ) (d : Instance) → i < length l → Writable (get_or l i d)
writable_at [] h i d lt = absurd (omega arith)
writable_at (x ∷ l) h zero d lt = h.0
writable_at (x ∷ l) h (suc i) d lt = writable_at l h.1 i d (omega arith)

-- the first i of them were written
module _ (l : List Instance) (xs : List ℕ) (at : ℕ) where
  pub run_first : WroteInstances xs at (take 0 l) at xs
  run_first = record { holds = rw octets_none wrote_none; within = omega arith }

  module _ {i p : ℕ} {ys : List ℕ} (so : WroteInstances xs at (take i l) p ys) where
    pub run_all : length l ≤ i → WroteInstances xs at l p ys
    run_all h = rw (take_all i l h) at so

    -- there is space for one more, which is written
    module _ (more : i < length l) (d : Instance) where
      abbrev here : Instance
      here = get_or l i d

      pub run_space : Space xs at l → Space ys p (here ∷ [])
      run_space fits = omega (arith, fits, so.within, wrote_length so.holds, length-take i l)

      pub run_next : {q : ℕ} {zs : List ℕ} → WroteInstances ys p (here ∷ []) q zs → WroteInstances xs at (take (i + 1) l) q zs
      run_next next =
          rw (add-one i, take-suc l i d more) (record {
            holds = rw (octets_both (take i l) (here ∷ [])) (then so.holds next.holds);
            within = omega (arith, so.within, next.within, length-append (take i l) (here ∷ []));
          })

-- ---- the sheet

module _ (form : Form) (last : ℕ) (is : List Instance) (small : form.code < 128) (few : last ≤ 32767) (least : length is < 128)
    {xs : List ℕ} {p : ℕ} {ys : List ℕ} {q : ℕ} {zs : List ℕ} {k : ℕ} {us : List ℕ}
    (room : Space xs 5 is)
    (first : PutGroups xs 0 form.code p ys)
    (second : PutGroups ys p last q zs)
    (third : PutGroups zs q (length is) k us) where
  head_wrote : Wrote xs 0 (all_groups (form.code ∷ last ∷ length is ∷ [])) k us
  head_wrote =
      let whole : Room xs 0 (all_groups (form.code ∷ last ∷ length is ∷ [])) =
      omega (arith, room, head_most form.code last (length is) small few least) in
      let rest = field_room form.code _ whole first in
      field_wrote form.code _ whole first
      (field_wrote last _ rest second (field_last (length is) (field_room last _ rest second) third))

  pub sheet_space : Space us k is
  sheet_space =
      omega (
        arith,
        room,
        head_wrote.moved,
        wrote_length head_wrote,
        head_most form.code last (length is) small few least,
      )

  pub sheet_wrote : {n : ℕ} {rs : List ℕ} → WroteInstances us k is n rs → Wrote xs 0 (sheet_octets form last is) n rs
  sheet_wrote instances = rw (sheet_octets_lem form last is) (then head_wrote instances.holds)
