-- What is accepted is exactly what is written: the octets of a sheet that is read are those of its instances. Assumes nothing.
use Prim.Native.Nat.{ℕ, zero, suc, ◌+◌, ◌-◌, ◌≤◌, ◌<◌}
use mathlib.Core.Path.{◌≡◌, refl, sym, ◌∙◌}
use mathlib.Core.Bool.{Bool, true}
use mathlib.Core.List.{List, [], ◌∷◌, ◌++◌, map}
use native.Mathlib.Nat.{add-zero}
use native.Mathlib.Omega.{arith}
use lib.ListN.{length, get_or, length-append, length-map}
use lib.Seq.{take-length}
use lib.Dec.{ltb, leb, eqb}
use borrow.Author.Tests.{eqb-true}
use Rattle.laws.specs.Tests.{all}
use Rattle.laws.specs.Got.{Got, got, wrong}
use Rattle.laws.specs.Stands.{Stands}
use Rattle.laws.proofs.Gots.{found_is, FoundAt, found_at_then, found_at_is}
use Rattle.laws.proofs.Picks.{pick_ind}
use Rattle.laws.proofs.Tests.{both_hold}
use Rattle.laws.proofs.Stands.{stands_first, stands_right, stands_nil, stands_cons, slice_stands}
use Rattle.groups.specs.Groups.{groups, groups_at}
use Rattle.std.specs.Prelude.{Option, Some, None}
use Rattle.groups.proofs.GroupLaws.{StandsTo, groups_at_only}
use Rattle.numbers.specs.Number.{most, fair}
use Rattle.numbers.specs.declared.address.Address.{Address}
use Rattle.numbers.proofs.Spellings.{padded_taken}
use Rattle.instances.specs.declared.instance.Instance.{Instance}
use Rattle.forms.specs.Form.{form1}
use Rattle.forms.specs.Size.{sheet_most}
use Rattle.forms.specs.Instance.{all_groups, digit_of, address_of, address_fields, instance_fields, field_of, field_at, fields_at, kind_good}
use Rattle.forms.specs.Instance.{address_from, service_of, instance_from}
use Rattle.forms.specs.Sheet.{Sheet, instances_from, in_order, instances_octets, sheet_octets, sheet_in}
use Rattle.forms.specs.Formed.{ReadForm}
use Rattle.forms.specs.declared.form.Form.{Form}
use Rattle.forms.specs.declared.sheet.FormRead.{FormRead}
use Rattle.forms.proofs.Fields.{Passing, field_passes, fields_passing}
use Rattle.forms.proofs.Fits.{few_instances, Short, form1_short}
use Rattle.forms.proofs.Instances.{instances_count}
use Rattle.forms.proofs.Sheets.{Allowed, sheet_allowed_lem, form_found}
use Rattle.forms.proofs.Octets.{fields_none, fields_more, fields_both, octets_none, octets_more, sheet_octets_lem}
use Rattle.forms.proofs.Sizes.{sheet_most_lem}

-- ---- what stands one after the other

stands_both :
    (s : List ℕ) (at : ℕ) (ws vs : List ℕ) → Stands s at ws → Stands s (at + length ws) vs → Stands s at (ws ++ vs)
stands_both s at [] vs st su = rw add-zero at su
stands_both s at (w ∷ ws) vs st su =
    let next : at + suc (length ws) ≡ at + 1 + length ws = omega arith in
    stands_cons s at w (ws ++ vs) (stands_first s at w ws st)
    (stands_both s (at + 1) ws vs (stands_right s at (w ∷ []) ws st) (rw next at su))

joined :
    (s : List ℕ) (at : ℕ) (ws : List ℕ) (p : ℕ) (vs : List ℕ) (q : ℕ) → StandsTo s at ws p → StandsTo s p vs q →
    StandsTo s at (ws ++ vs) q
joined s at ws p vs q a b = record {
  stands = stands_both s at ws vs a.stands (rw a.ends at b.stands);
  ends = omega (arith, a.ends, b.ends, length-append ws vs);
}

nothing : (s : List ℕ) (at : ℕ) → StandsTo s at [] at
nothing s at = record { stands = stands_nil s at; ends = rw add-zero }

-- ---- fields

module _ (s : List ℕ) (small : (i : ℕ) → get_or s i 0 < 256) where
  -- what is read at a place stands there in its groups, up to the place after it
  abbrev One : ℕ → ℕ → ℕ → Type 0
  One at n next = StandsTo s at (groups n) next

  abbrev All : ℕ → List ℕ → ℕ → Type 0
  All at ns next = StandsTo s at (all_groups ns) next

  field_only : (good : ℕ → Bool) (at : ℕ) → FoundAt (One at) (field_at good s at)
  unfolding field_at
  field_only good at = each (groups_at s at (length s)) refl
    where
      each : (g : Got (Option ℕ)) → groups_at s at (length s) ≡ g → FoundAt (One at) (field_of good g)
      each (got (Some n) next) e =
          pick_ind (FoundAt (One at)) (good n)
          (λ _. groups_at_only s at (length s) n next (λ i _ _. small i) e)
          (λ _. tt)
      each (got None next) e = tt
      each wrong e = tt

  field_stands : (good : ℕ → Bool) (at n next : ℕ) → field_at good s at ≡ got n next → One at n next
  field_stands good at n next e = found_at_is (One at) e (field_only good at)

  -- a field, and others after it
  cons_only : (at n p : ℕ) (ns : List ℕ) (q : ℕ) → One at n p → All p ns q → All at (n ∷ ns) q
  cons_only at n p ns q a b = rw (fields_more n ns) (joined s at (groups n) p (all_groups ns) q a b)

  fields_only : (good : ℕ → Bool) (count at : ℕ) → FoundAt (All at) (fields_at good count s at)
  unfolding fields_at
  fields_only good zero at = rw fields_none (nothing s at)
  fields_only good (suc count) at =
      found_at_then (All at) (field_at good s at) _ (λ n p e.
      found_at_then (All at) (fields_at good count s p) _ (λ ns q f.
      cons_only at n p ns q (field_stands good at n p e) (found_at_is (All p) f (fields_only good count p))))

  fields_stand :
      (good : ℕ → Bool) (count at : ℕ) (ns : List ℕ) (next : ℕ) → fields_at good count s at ≡ got ns next → All at ns next
  fields_stand good count at ns next e = found_at_is (All at) e (fields_only good count at)

  fields_count :
      (good : ℕ → Bool) (count at : ℕ) (ns : List ℕ) (next : ℕ) → fields_at good count s at ≡ got ns next → length ns ≡ count
  fields_count good count at ns next e = (found_is (Passing good count) e (fields_passing good count s at)).counted

-- ---- addresses

-- digits come back from their characters
digits_back : (ds : List ℕ) → map digit_of (map (λ d. 48 + d) ds) ≡ ds
digits_back [] = refl
digits_back (d ∷ ds) = let same : 48 + d - 48 ≡ d = omega arith in rw (same, digits_back ds)

-- the fields of the record that a reader makes are those that it read
made_fields :
    (form kind : ℕ) (ds sub : List ℕ) →
    address_fields (address_of form kind ds sub) ≡ form ∷ kind ∷ length ds ∷ ds ++ (length sub ∷ sub)
made_fields form kind ds sub =
    let cs : List ℕ = map (λ d. 48 + d) ds in
    rw (padded_taken cs, padded_taken sub, digits_back ds, length-map ds (λ d. 48 + d))

module _ (s : List ℕ) (small : (i : ℕ) → get_or s i 0 < 256) where
  abbrev Of : ℕ → Address → ℕ → Type 0
  Of at a next = StandsTo s at (all_groups (address_fields a)) next

  address_only : (at : ℕ) → FoundAt (Of at) (address_from s at)
  unfolding address_from
  address_only at =
      found_at_then (Of at) (field_at (λ form. ltb form 2) s at) _ (λ form p e.
      found_at_then (Of at) (field_at (kind_good form) s p) _ (λ kind q f.
      found_at_then (Of at) (field_at fair s q) _ (λ count a g.
      found_at_then (Of at) (fields_at (λ d. ltb d 10) count s a) _ (λ ds b h.
      found_at_then (Of at) (field_at (λ n. leb n most) s b) _ (λ subcount c k.
      found_at_then (Of at) (fields_at (λ o. ltb o 256) subcount s c) _ (λ sub next l.
      let rest : List ℕ = ds ++ (subcount ∷ sub) in
      let after =
      joined s a (all_groups ds) b (all_groups (subcount ∷ sub)) next
      (fields_stand s small (λ d. ltb d 10) count a ds b h)
      (cons_only s small b subcount c sub next (field_stands s small (λ n. leb n most) b subcount c k)
      (fields_stand s small (λ o. ltb o 256) subcount c sub next l)) in
      rw (
        made_fields form kind ds sub,
        fields_count s small (λ d. ltb d 10) count a ds b h,
        fields_count s small (λ o. ltb o 256) subcount c sub next l,
      )
      (cons_only s small at form p (kind ∷ count ∷ rest) next (field_stands s small (λ form. ltb form 2) at form p e)
      (cons_only s small p kind q (count ∷ rest) next (field_stands s small (kind_good form) p kind q f)
      (cons_only s small q count a rest next (field_stands s small fair q count a g)
      (rw (fields_both ds (subcount ∷ sub)) after))))))))))

  -- ---- instances

  abbrev Is : ℕ → Instance → ℕ → Type 0
  Is at i next = StandsTo s at (all_groups (instance_fields i)) next

  instance_only : (form : Form) (at : ℕ) → FoundAt (Is at) (instance_from form s at)
  unfolding instance_from
  instance_only form at =
      found_at_then (Is at) (field_at (λ n. ltb n form.procedures) s at) _ (λ procedure p e.
      found_at_then (Is at) (field_at (λ n. ltb n form.numbers) s p) _ (λ number q f.
      found_at_then (Is at) (field_at service_of s q) _ (λ service a g.
      found_at_then (Is at) (address_from s a) _ (λ address next h.
      let rest : List ℕ = address_fields address in
      cons_only s small at procedure p (number ∷ service ∷ rest) next
      (field_stands s small (λ n. ltb n form.procedures) at procedure p e)
      (cons_only s small p number q (service ∷ rest) next (field_stands s small (λ n. ltb n form.numbers) p number q f)
      (cons_only s small q service a rest next (field_stands s small service_of q service a g)
      (found_at_is (Of a) h (address_only a))))))))

  abbrev Are : ℕ → List Instance → ℕ → Type 0
  Are at is next = StandsTo s at (instances_octets is) next

  instances_only : (form : Form) (n at : ℕ) → FoundAt (Are at) (instances_from form n s at)
  unfolding instances_from
  instances_only form zero at = rw octets_none (nothing s at)
  instances_only form (suc n) at =
      found_at_then (Are at) (instance_from form s at) _ (λ k p e.
      found_at_then (Are at) (instances_from form n s p) _ (λ ks q f.
      rw (octets_more k ks)
      (joined s at (all_groups (instance_fields k)) p (instances_octets ks) q (found_at_is (Is at) e (instance_only form at))
      (found_at_is (Are p) f (instances_only form n p)))))

  -- ---- the sheet

  abbrev Exactly : Form → Sheet → ℕ → Type 0
  Exactly form sheet next = s ≡ sheet_octets form sheet.last sheet.instances

  -- octets that stand at the start and end where s ends are s
  whole : (ws : List ℕ) (next : ℕ) → next ≡ length s → StandsTo s 0 ws next → s ≡ ws
  whole ws next e st =
      let long : length s ≡ 0 + length ws = sym e ∙ st.ends in
      sym (take-length s) ∙ rw (← long) at (slice_stands s 0 ws st.stands (omega (arith, long)))

  exactly : (form : Form) → FoundAt (Exactly form) (sheet_in form s)
  unfolding sheet_in
  exactly form =
      let P : Sheet → ℕ → Type 0 = Exactly form in
      found_at_then P (field_at (eqb form.code) s 0) _ (λ code p e.
      found_at_then P (field_at (λ n. leb n form.lastmost) s p) _ (λ last q f.
      found_at_then P (field_at (λ n. true) s q) _ (λ count a g.
      found_at_then P (instances_from form count s a) _ (λ is next h.
      pick_ind (FoundAt P) (all (eqb next (length s) ∷ in_order form is ∷ []))
      (λ t.
      let end : eqb next (length s) ≡ true = (both_hold (eqb next (length s)) (in_order form is) t).0 in
      let same : form.code ≡ code =
      eqb-true form.code code (found_is (λ n. eqb form.code n ≡ true) e (field_passes s 0 (eqb form.code))) in
      let counted : length is ≡ count = found_is (λ ks. length ks ≡ count) h (instances_count s form count a) in
      let head =
      cons_only s small 0 code p (last ∷ count ∷ []) a (field_stands s small (eqb form.code) 0 code p e)
      (cons_only s small p last q (count ∷ []) a (field_stands s small (λ n. leb n form.lastmost) p last q f)
      (cons_only s small q count a [] a (field_stands s small (λ n. true) q count a g) (rw fields_none (nothing s a)))) in
      whole (sheet_octets form last is) next (eqb-true next (length s) end)
      (rw (sheet_octets_lem form last is, same, counted)
      (joined s 0 (all_groups (code ∷ last ∷ count ∷ [])) a (instances_octets is) next head
      (found_at_is (Are a) h (instances_only form count a)))))
      (λ _. tt)))))

  -- the octets of a sheet that is accepted are exactly those in which it is written
  pub sheet_only :
      (form : Form) (sheet : Sheet) (next : ℕ) → sheet_in form s ≡ got sheet next →
      s ≡ sheet_octets form sheet.last sheet.instances
  sheet_only form sheet next e = found_at_is (Exactly form) e (exactly form)

  -- and no more than a sheet of the form has
  pub accepted_most :
      (form : Form) → Short form → (sheet : Sheet) (next : ℕ) → sheet_in form s ≡ got sheet next → length s ≤ sheet_most form
  accepted_most form short sheet next e =
      let so = found_is (Allowed form) e (sheet_allowed_lem form s) in
      let few = few_instances form sheet.instances short.procedures so.each so.order in
      rw (sheet_only form sheet next e) (sheet_most_lem form short sheet.last sheet.instances so.last so.each few)

  -- of form 1: "1,613 (sheet)"
  pub accepted_form1 : (sheet : Sheet) (next : ℕ) → sheet_in form1 s ≡ got sheet next → length s ≤ 1613
  accepted_form1 = accepted_most form1 form1_short

  -- and so what `read_form` accepts
  pub form_accepted : {r : Option FormRead} {f : FormRead} → ReadForm s r → r ≡ Some f → length s ≤ 1613
  form_accepted told is = let found = form_found s told is in accepted_form1 found.sheet found.next found.is
