-- A night sheet by its form alone: what stands before the instances, the instances, and what the whole holds. Assumes nothing.
use Prim.Native.Nat.{ℕ, suc, ◌+◌, ◌≤◌, ◌<◌}
use mathlib.Core.Path.{◌≡◌, refl, sym, ◌∙◌}
use mathlib.Core.Bool.{Bool, true, false}
use mathlib.Core.List.{List, [], ◌∷◌}
use native.Mathlib.Omega.{arith}
use lib.ListN.{length}
use lib.Dec.{ltb, leb, eqb, leb-suc-suc}
use borrow.Author.Tests.{eq-eqb, ne_eqb, leb-true}
use Rattle.std.specs.Prelude.{Option, Some, None}
use Rattle.laws.specs.Pick.{pick}
use Rattle.laws.specs.Tests.{all}
use Rattle.laws.specs.Got.{Got, got, wrong, and_then}
use Rattle.laws.proofs.Gots.{Something, found_then, found_is}
use Rattle.laws.proofs.Picks.{pick_ind, by_bool}
use Rattle.laws.proofs.Tests.{both_hold}
use Rattle.laws.proofs.Eaches.{Each}
use Rattle.instances.specs.Places.{run_most}
use Rattle.instances.specs.Run.{instances_of, packed, Ordered}
use Rattle.instances.specs.declared.instance.Instance.{Instance}
use Rattle.instances.specs.declared.run.Run.{Run}
use Rattle.instances.proofs.Runs.{packed_all}
use Rattle.forms.specs.Form.{form1}
use Rattle.forms.specs.Instance.{field_at}
use Rattle.forms.specs.Sheet.{Sheet, instances_from, in_order, sheet_in}
use Rattle.forms.specs.Formed.{form_read, ReadForm}
use Rattle.forms.specs.inner.Reading.{any_field, field_below, opening_in, Fitting}
use Rattle.forms.specs.declared.form.Form.{Form}
use Rattle.forms.specs.declared.sheet.FormRead.{FormRead}
use Rattle.forms.specs.declared.sheet.Opening.{Opening}
use Rattle.forms.proofs.Parts.{then_through}
use Rattle.forms.proofs.Fields.{field_same, field_narrow, field_passes}
use Rattle.forms.proofs.Fits.{FieldsFit, few_instances, Short, form1_short}
use Rattle.forms.proofs.Instances.{instances_fit, instances_count}

-- ---- what stands before the instances

-- "at most" is below the next
most_below : (n most : ℕ) → leb n most ≡ ltb n (most + 1)
most_below n most = let next : most + 1 ≡ suc most = omega arith in rw next (sym (leb-suc-suc n most))

module _ (f : Form) (s : List ℕ) where
  form_field : field_at (eqb f.code) s 0 ≡ and_then (any_field s 0) (λ n next. pick (eqb f.code n) (got n next) wrong)
  form_field = field_narrow s 0 (λ _. true) (eqb f.code) (λ n _. refl)

  pub opening_no_form : any_field s 0 ≡ wrong → opening_in f s ≡ wrong
  unfolding opening_in
  opening_no_form e = rw (form_field, e)

  module _ (code p : ℕ) (is : any_field s 0 ≡ got code p) where
    pub opening_other : (code ≡ f.code → ⊥) → opening_in f s ≡ wrong
    unfolding opening_in
    opening_other e = rw (form_field, is, ne_eqb f.code code (λ q. e (sym q)))

    module _ (same : code ≡ f.code) where
      last_field_lem : field_at (λ n. leb n f.lastmost) s p ≡ field_below (f.lastmost + 1) s p
      last_field_lem =
          field_same s p (λ n. leb n f.lastmost) (λ n. ltb n (f.lastmost + 1)) (λ n. most_below n f.lastmost)

      pub opening_no_last : field_below (f.lastmost + 1) s p ≡ wrong → opening_in f s ≡ wrong
      unfolding opening_in
      opening_no_last e = rw (form_field, is, eq-eqb f.code code (sym same), last_field_lem, e)

      module _ (last q : ℕ) (l : field_below (f.lastmost + 1) s p ≡ got last q) where
        pub opening_no_count : any_field s q ≡ wrong → opening_in f s ≡ wrong
        unfolding opening_in
        opening_no_count e = rw (form_field, is, eq-eqb f.code code (sym same), last_field_lem, l, e)

        pub opening_is :
            (count next : ℕ) → any_field s q ≡ got count next →
            opening_in f s ≡ got (record { last = last; count = count }) next
        unfolding opening_in
        opening_is count next e = rw (form_field, is, eq-eqb f.code code (sym same), last_field_lem, l, e)

-- ---- the sheet, part by part

-- what is made of the instances that an opening counts: nothing after them, and in order
abbrev whole_of : Form → List ℕ → ℕ → List Instance → ℕ → Got Sheet
whole_of f s last is next =
    pick (all (eqb next (length s) ∷ in_order f is ∷ [])) (got (record { last = last; instances = is }) next) wrong

abbrev rest_from : Form → List ℕ → Opening → ℕ → Got Sheet
rest_from f s o a = and_then (instances_from f o.count s a) (whole_of f s o.last)

module _ (f : Form) (s : List ℕ) where
  sheet_parts : sheet_in f s ≡ and_then (opening_in f s) (rest_from f s)
  unfolding sheet_in opening_in
  sheet_parts =
      then_through (field_at (eqb f.code) s 0) _ _ (rest_from f s) (λ code p.
      then_through (field_at (λ n. leb n f.lastmost) s p) _ _ (rest_from f s) (λ last q.
      then_through (field_at (λ n. true) s q) _ _ (rest_from f s) (λ count a. refl)))

  pub sheet_no_opening : opening_in f s ≡ wrong → sheet_in f s ≡ wrong
  sheet_no_opening e = sheet_parts ∙ rw e

  module _ (o : Opening) (a : ℕ) (opened : opening_in f s ≡ got o a) where
    pub sheet_no_instances : instances_from f o.count s a ≡ wrong → sheet_in f s ≡ wrong
    sheet_no_instances e = sheet_parts ∙ rw (opened, e)

    module _ (is : List Instance) (next : ℕ) (found : instances_from f o.count s a ≡ got is next) where
      pub sheet_after : (next ≡ length s → ⊥) → sheet_in f s ≡ wrong
      sheet_after e = sheet_parts ∙ rw (opened, found, ne_eqb next (length s) e)

      out_of_order : in_order f is ≡ false → sheet_in f s ≡ wrong
      out_of_order e =
          let sheet : Sheet = record { last = o.last; instances = is } in
          sheet_parts
          ∙ rw (opened, found, e)
          (pick_ind (λ t. pick t (got sheet next) wrong ≡ wrong) (eqb next (length s)) {x = false} {y = false} (λ _. refl) (λ _. refl))

      in_order_lem :
          next ≡ length s → in_order f is ≡ true → sheet_in f s ≡ got (record { last = o.last; instances = is }) next
      in_order_lem e h = sheet_parts ∙ rw (opened, found, eq-eqb next (length s) e, h)

      fits : Each (FieldsFit f) is
      fits = found_is (Each (FieldsFit f)) found (instances_fit s f o.count a)

      counted : length is ≡ o.count
      counted = found_is (λ ks. length ks ≡ o.count) found (instances_count s f o.count a)

      -- more than a run has room for are too many of a procedure
      too_many : Fitting f → run_most < o.count → in_order f is ≡ false
      too_many fitting h =
          by_bool (in_order f is ≡ false) (in_order f is)
          (λ order.
          let few = few_instances f is fitting.0 fits order in
          absurd (omega (arith, counted, rw (fitting.0, fitting.1) at few)))
          (λ e. e)

      -- in a run, as its `ordered` answers of it
      module _ (run : Run) (held : run ≡ packed is) (short : o.count ≤ run_most) (t : Bool) (ordered : Ordered f.perprocedure run t) where
        order_told : t ≡ in_order f is
        unfolding in_order
        order_told =
            let all : instances_of run ≡ is = rw held (packed_all is (omega (arith, counted))) in
            ordered ∙ rw all

        pub sheet_disordered : t ≡ false → sheet_in f s ≡ wrong
        sheet_disordered e = out_of_order (sym order_told ∙ e)

        pub sheet_read :
            next ≡ length s → t ≡ true →
            ◌≡◌ {A = Option FormRead} (Some (record { last = o.last; run = run })) (form_read (sheet_in f s))
        sheet_read e h = rw (in_order_lem e (sym order_told ∙ h), held)

    pub sheet_many : Fitting f → run_most < o.count → sheet_in f s ≡ wrong
    sheet_many fitting h = each (instances_from f o.count s a) refl
      where
        each : (g : Got (List Instance)) → instances_from f o.count s a ≡ g → sheet_in f s ≡ wrong
        each (got is next) e = out_of_order is next e (too_many is next e fitting h)
        each wrong e = sheet_no_instances e

-- ---- what is accepted is allowed

-- such a last handled identifier, such instances, in order
pub record Allowed (f : Form) (sheet : Sheet) : Type 0 where
  pub last : sheet.last ≤ f.lastmost
  pub each : Each (FieldsFit f) sheet.instances
  pub order : in_order f sheet.instances ≡ true

pub sheet_allowed_lem : (f : Form) (s : List ℕ) → Something (Allowed f) (sheet_in f s)
unfolding sheet_in
sheet_allowed_lem f s =
    let P : Sheet → Type 0 = Allowed f in
    found_then P (field_at (eqb f.code) s 0) _ (λ code p e.
    found_then P (field_at (λ n. leb n f.lastmost) s p) _ (λ last q g.
    found_then P (field_at (λ n. true) s q) _ (λ count a _.
    found_then P (instances_from f count s a) _ (λ is next h.
    pick_ind (Something P) (all (eqb next (length s) ∷ in_order f is ∷ []))
    (λ t. record {
      last = leb-true last f.lastmost (found_is (λ n. leb n f.lastmost ≡ true) g (field_passes s p (λ n. leb n f.lastmost)));
      each = found_is (Each (FieldsFit f)) h (instances_fit s f count a);
      order = (both_hold (eqb next (length s)) (in_order f is) t).1;
    })
    (λ _. tt)))))

-- a run has room for what is allowed, and holds it all
module _ (f : Form) (short : Short f) (sheet : Sheet) (so : Allowed f sheet) where
  pub allowed_room : length sheet.instances ≤ run_most
  allowed_room = omega (arith, few_instances f sheet.instances short.procedures so.each so.order, short.few)

  pub allowed_packed : instances_of (packed sheet.instances) ≡ sheet.instances
  allowed_packed = packed_all sheet.instances allowed_room

-- ---- what the reader of sheets answers

-- it holds the sheet that was found
pub record FormFound (s : List ℕ) (r : FormRead) : Type 0 where
  pub sheet : Sheet
  pub next : ℕ
  pub is : sheet_in form1 s ≡ got sheet next
  pub allowed : Allowed form1 sheet
  pub last : r.last ≡ sheet.last
  pub run : r.run ≡ packed sheet.instances
  pub instances : instances_of r.run ≡ sheet.instances

abbrev FormIf : List ℕ → Option FormRead → Type 0
FormIf s (Some r) = FormFound s r
FormIf s None = sheet_in form1 s ≡ wrong

form_if : (s : List ℕ) → FormIf s (form_read (sheet_in form1 s))
form_if s = each (sheet_in form1 s) refl
  where
    each : (g : Got Sheet) → sheet_in form1 s ≡ g → FormIf s (form_read g)
    each (got sheet next) f =
        let allowed = found_is (Allowed form1) f (sheet_allowed_lem form1 s) in
        record {
          sheet = sheet;
          next = next;
          is = f;
          allowed = allowed;
          last = refl;
          run = refl;
          instances = allowed_packed form1 form1_short sheet allowed;
        }
    each wrong f = f

pub form_found : (s : List ℕ) {r : Option FormRead} {f : FormRead} → ReadForm s r → r ≡ Some f → FormFound s f
form_found s e h = rw (sym e ∙ h) at (form_if s)

pub form_none : (s : List ℕ) {r : Option FormRead} → ReadForm s r → r ≡ None → sheet_in form1 s ≡ wrong
form_none s e h = rw (sym e ∙ h) at (form_if s)
