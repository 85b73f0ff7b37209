-- What is written reads back: fields, addresses, instances and sheets that stand somewhere in their groups. Assumes nothing.
use Prim.Native.Nat.{ℕ, zero, suc, ◌+◌, ◌*◌, ◌^◌, ◌≤◌, ◌<◌}
use mathlib.Core.Path.{◌≡◌, refl, ap, ◌∙◌}
use mathlib.Core.Bool.{Bool, true}
use mathlib.Core.List.{List, [], ◌∷◌, ◌++◌, map}
use mathlib.Core.Logic.{⊎_elim}
use native.Mathlib.Nat.{add-zero}
use native.Mathlib.Omega.{arith}
use lib.ListN.{length, length-append, length-map}
use lib.Seq.{length-take-le}
use lib.Dec.{ltb, leb, eqb}
use borrow.Author.Tests.{lt-ltb, le-leb, eq-eqb, ltb-true}
use Rattle.laws.specs.Got.{got}
use Rattle.laws.specs.Stands.{Stands}
use Rattle.laws.proofs.Stands.{stands_left, stands_right}
use Rattle.laws.proofs.Eaches.{Each}
use Rattle.groups.specs.Groups.{groups}
use Rattle.groups.proofs.GroupLaws.{groups_at_back}
use Rattle.numbers.specs.Number.{most, fair, digits_of}
use Rattle.codes.specs.Digits.{all_digits}
use Rattle.numbers.specs.Address.{sub_octets_of, tidy_address}
use Rattle.numbers.specs.declared.number.Number.{Number}
use Rattle.numbers.specs.declared.address.Address.{Address}
use Rattle.numbers.proofs.Goods.{some_fair, GoodNumber, good_number, good_address, digits_fair}
use Rattle.instances.specs.declared.instance.Instance.{Instance}
use Rattle.forms.specs.Instance.{all_groups, digit_of, address_fields, instance_fields, field_at, fields_at, kind_good, address_from}
use Rattle.forms.specs.Instance.{service_of, instance_from}
use Rattle.forms.specs.Sheet.{instances_octets, instances_from, in_order, sheet_octets, sheet_in}
use Rattle.forms.specs.declared.form.Form.{Form}
use Rattle.forms.proofs.Fields.{AllPass}
use Rattle.forms.proofs.Readers.{kind_small, service_few}
use Rattle.forms.proofs.Fits.{Held, digits_pass, digits_kept, held_digits, FieldsFit, tidy_instance, order_tidy, few_instances, Short}
use Rattle.forms.proofs.Instances.{instances_end, instances_step}
use Rattle.forms.proofs.Octets.{fields_none, fields_more, fields_both, octets_none, octets_more, sheet_octets_lem}

-- ---- fields that stand in their groups

-- fields stand at `at`, before the end
pub record Standing (s : List ℕ) (at : ℕ) (ns : List ℕ) : Type 0 where
  pub stands : Stands s at (all_groups ns)
  pub fits : at + length (all_groups ns) ≤ length s

-- the place after a field, and after some
abbrev pub after : ℕ → ℕ → ℕ
after at n = at + length (groups n)

abbrev pub past : ℕ → List ℕ → ℕ
past at ns = at + length (all_groups ns)

past_both : (at : ℕ) (ns ms : List ℕ) → past (past at ns) ms ≡ past at (ns ++ ms)
past_both at ns ms = omega (arith, ap length (fields_both ns ms), length-append (all_groups ns) (all_groups ms))

pub past_one : (at n : ℕ) (ns : List ℕ) → past (after at n) ns ≡ past at (n ∷ ns)
past_one at n ns = omega (arith, ap length (fields_more n ns), length-append (groups n) (all_groups ns))

module _ (s : List ℕ) (at : ℕ) where
  standing_left : (ns ms : List ℕ) → Standing s at (ns ++ ms) → Standing s at ns
  standing_left ns ms st = record {
    stands = stands_left s at (all_groups ns) (all_groups ms) (rw fields_both at st.stands);
    fits = omega (arith, st.fits, past_both at ns ms);
  }

  standing_right : (ns ms : List ℕ) → Standing s at (ns ++ ms) → Standing s (past at ns) ms
  standing_right ns ms st = record {
    stands = stands_right s at (all_groups ns) (all_groups ms) (rw fields_both at st.stands);
    fits = omega (arith, st.fits, past_both at ns ms);
  }

  pub standing_rest : (n : ℕ) (ns : List ℕ) → Standing s at (n ∷ ns) → Standing s (after at n) ns
  standing_rest n ns st = record {
    stands = stands_right s at (groups n) (all_groups ns) (rw fields_more at st.stands);
    fits = omega (arith, st.fits, past_one at n ns);
  }

  -- a field that a test lets in
  pub field_back :
      (good : ℕ → Bool) (n : ℕ) (ns : List ℕ) → n < 2 ^ 32 → good n ≡ true → Standing s at (n ∷ ns) →
      field_at good s at ≡ got n (after at n)
  unfolding field_at
  field_back good n ns small pass st =
      let here = stands_left s at (groups n) (all_groups ns) (rw fields_more at st.stands) in
      rw (groups_at_back n s at (length s) small here (omega (arith, st.fits, past_one at n ns)) (omega arith), pass)

-- fields that a test lets in, all below a bound of 32 bits
fields_back :
    (good : ℕ → Bool) → ((n : ℕ) → good n ≡ true → n < 2 ^ 32) → (s : List ℕ) (at count : ℕ) (ns : List ℕ) →
    length ns ≡ count → AllPass good ns → Standing s at ns →
    fields_at good count s at ≡ got ns (past at ns)
unfolding fields_at
fields_back good small s at zero [] long pass st = rw (fields_none, add-zero at)
fields_back good small s at (suc count) [] long pass st = absurd (omega arith)
fields_back good small s at zero (n ∷ ns) long pass st = absurd (omega arith)
fields_back good small s at (suc count) (n ∷ ns) long pass st =
    rw (
      field_back s at good n ns (small n pass.0) pass.0 st,
      fields_back good small s (after at n) count ns (omega arith) pass.1 (standing_rest s at n ns st),
      past_one at n ns,
    )

-- ---- addresses

module _ (a : Address) (h : Held a) where
  abbrev n : Number
  n = a.number

  abbrev ws : List ℕ
  ws = digits_of n

  abbrev ds : List ℕ
  ds = map digit_of ws

  abbrev os : List ℕ
  os = sub_octets_of a

  fine : GoodNumber n
  fine = good_number n (good_address a h.good).number

  some : (1 ≤ length ws) × (length ws ≤ most)
  some = digits_fair ws fine.digits

  counted : length ws ≡ n.count
  counted = length-take-le n.count n.digits (omega (arith, fine.few, h.digits))

  digits : all_digits ws ≡ true
  digits = held_digits a h

  subcounted : length os ≡ a.subcount
  subcounted = length-take-le a.subcount a.sub (omega (arith, (good_address a h.good).few, h.sub))

  shaped : (n.form < 2) × (kind_good n.form n.kind ≡ true)
  shaped =
      ⊎_elim
      (λ u. (omega (arith, u.0), rw u.0 (eq-eqb n.kind 0 u.1)))
      (λ u. (omega (arith, u.0), rw u.0 u.1))
      fine.shape

  -- a good address that stands somewhere reads back as the same with zeros past its digits and octets
  pub address_back :
      (s : List ℕ) (at : ℕ) → Standing s at (address_fields a) → address_from s at ≡ got (tidy_address a) (past at (address_fields a))
  unfolding address_from
  address_back s at st =
      let few : a.subcount ≤ most = (good_address a h.good).few in
      let kind : n.kind < 256 = ltb-true n.kind 256 (kind_small n.form n.kind shaped.1) in
      let count : n.count ≤ most = fine.few in
      let p : ℕ = after at n.form in
      let q : ℕ = after p n.kind in
      let r : ℕ = after q n.count in
      let t : ℕ = past r ds in
      let u : ℕ = after t a.subcount in
      let st1 = standing_rest s at n.form (n.kind ∷ n.count ∷ ds ++ (a.subcount ∷ os)) st in
      let st2 = standing_rest s p n.kind (n.count ∷ ds ++ (a.subcount ∷ os)) st1 in
      let st3 = standing_rest s q n.count (ds ++ (a.subcount ∷ os)) st2 in
      let st4 = standing_right s r ds (a.subcount ∷ os) st3 in
      let st5 = standing_rest s t a.subcount os st4 in
      let fairly : fair n.count ≡ true = some_fair n.count (omega (arith, some.0, counted)) count in
      let end : past u os ≡ past at (address_fields a) =
      past_one t a.subcount os
      ∙ past_both r ds (a.subcount ∷ os)
      ∙ past_one q n.count (ds ++ (a.subcount ∷ os))
      ∙ past_one p n.kind (n.count ∷ ds ++ (a.subcount ∷ os))
      ∙ past_one at n.form (n.kind ∷ n.count ∷ ds ++ (a.subcount ∷ os)) in
      rw (
        field_back s at (λ form. ltb form 2) n.form _ (omega (arith, shaped.0)) (lt-ltb n.form 2 shaped.0) st,
        field_back s p (kind_good n.form) n.kind _ (omega (arith, kind)) shaped.1 st1,
        field_back s q fair n.count _ (omega (arith, count)) fairly st2,
        fields_back (λ d. ltb d 10) (λ d e. omega (arith, ltb-true d 10 e)) s r n.count ds (length-map ws digit_of ∙ counted)
            (digits_pass ws digits) (standing_left s r ds (a.subcount ∷ os) st3),
        field_back s t (λ m. leb m most) a.subcount _ (omega (arith, few)) (le-leb a.subcount most few) st4,
        fields_back (λ o. ltb o 256) (λ o e. omega (arith, ltb-true o 256 e)) s u a.subcount os subcounted h.octets st5,
        digits_kept ws digits,
        end,
      )

-- ---- instances

module _ (f : Form) (short : Short f) where
  instance_back :
      (i : Instance) → FieldsFit f i → (s : List ℕ) (at : ℕ) → Standing s at (instance_fields i) →
      instance_from f s at ≡ got (tidy_instance i) (past at (instance_fields i))
  unfolding instance_from
  instance_back i h s at st =
      let fs : List ℕ = address_fields i.address in
      let p : ℕ = after at i.procedure in
      let q : ℕ = after p i.number in
      let r : ℕ = after q i.service in
      let st1 = standing_rest s at i.procedure (i.number ∷ i.service ∷ fs) st in
      let st2 = standing_rest s p i.number (i.service ∷ fs) st1 in
      let st3 = standing_rest s q i.service fs st2 in
      let code : i.service ≤ 42 = service_few i.service h.service in
      let end : past r fs ≡ past at (instance_fields i) =
      past_one q i.service fs
      ∙ past_one p i.number (i.service ∷ fs)
      ∙ past_one at i.procedure (i.number ∷ i.service ∷ fs) in
      rw (
        field_back s at (λ n. ltb n f.procedures) i.procedure _ (omega (arith, h.procedure, short.procedures))
            (lt-ltb i.procedure f.procedures h.procedure) st,
        field_back s p (λ n. ltb n f.numbers) i.number _ (omega (arith, h.number, short.numbers))
            (lt-ltb i.number f.numbers h.number) st1,
        field_back s q service_of i.service _ (omega (arith, code)) h.service st2,
        address_back i.address h.address s r st3,
        end,
      )

  instances_back :
      (is : List Instance) → Each (FieldsFit f) is → (s : List ℕ) (at : ℕ) →
      Stands s at (instances_octets is) → at + length (instances_octets is) ≤ length s →
      instances_from f (length is) s at ≡ got (map tidy_instance is) (at + length (instances_octets is))
  instances_back [] h s at st fit = rw (instances_end f s at, octets_none, add-zero at)
  instances_back (k ∷ ks) h s at st fit =
      let fs : List ℕ = all_groups (instance_fields k) in
      let rest : List ℕ = instances_octets ks in
      let long : length (instances_octets (k ∷ ks)) ≡ length fs + length rest = ap length (octets_more k ks) ∙ length-append fs rest in
      let both : Stands s at (fs ++ rest) = rw (octets_more k ks) at st in
      let here : Standing s at (instance_fields k) =
      record { stands = stands_left s at fs rest both; fits = omega (arith, fit, long) } in
      let end : past at (instance_fields k) + length rest ≡ at + length (instances_octets (k ∷ ks)) = omega (arith, long) in
      rw (
        instances_step f s (length ks) at,
        instance_back k h.0 s at here,
        instances_back ks h.1 s (past at (instance_fields k)) (stands_right s at fs rest both) (omega (arith, fit, long)),
        end,
      )

  -- ---- the sheet

  -- a sheet that stands in its octets, and nothing after it, is read as its instances, each with zeros past its digits and octets
  pub sheet_back :
      (last : ℕ) (is : List Instance) (s : List ℕ) → last ≤ f.lastmost → Each (FieldsFit f) is → in_order f is ≡ true →
      Stands s 0 (sheet_octets f last is) → length s ≡ length (sheet_octets f last is) →
      sheet_in f s ≡ got (record { last = last; instances = map tidy_instance is }) (length s)
  unfolding sheet_in
  sheet_back last is s small each order st whole =
      let code : ℕ = f.code in
      let head : List ℕ = all_groups (code ∷ last ∷ length is ∷ []) in
      let rest : List ℕ = instances_octets is in
      let both : Stands s 0 (head ++ rest) = rw (sheet_octets_lem f last is) at st in
      let long : length s ≡ length head + length rest = whole ∙ ap length (sheet_octets_lem f last is) ∙ length-append head rest in
      let few : length is ≤ f.procedures * f.perprocedure = few_instances f is short.procedures each order in
      let p : ℕ = after 0 code in
      let q : ℕ = after p last in
      let a : ℕ = after q (length is) in
      let st0 : Standing s 0 (code ∷ last ∷ length is ∷ []) =
      record { stands = stands_left s 0 head rest both; fits = omega (arith, long) } in
      let st1 = standing_rest s 0 code (last ∷ length is ∷ []) st0 in
      let st2 = standing_rest s p last (length is ∷ []) st1 in
      let end : a ≡ 0 + length head =
      omega (
        arith,
        past_one q (length is) [],
        past_one p last (length is ∷ []),
        past_one 0 code (last ∷ length is ∷ []),
        ap length fields_none,
      ) in
      let there : Stands s a rest = rw end (stands_right s 0 head rest both) in
      rw (
        field_back s 0 (eqb code) code _ (omega (arith, short.code)) (eq-eqb code code refl) st0,
        field_back s p (λ n. leb n f.lastmost) last _ (omega (arith, small, short.last)) (le-leb last f.lastmost small) st1,
        field_back s q (λ n. true) (length is) _ (omega (arith, few, short.few)) refl st2,
        instances_back is each s a there (omega (arith, long, end)),
        eq-eqb (a + length rest) (length s) (omega (arith, long, end)),
        order_tidy f is order,
      )
      (ap (λ (n : ℕ). got (record { last = last; instances = map tidy_instance is }) n) (omega (arith, long, end)))
