-- Laws of a night sheet that is listed, over plain values: how long its listing is, and what is answered. Assumes nothing.
use Prim.Native.Nat.{ℕ, zero, suc, min, ◌+◌, ◌≤◌, ◌<◌}
use mathlib.Core.Path.{◌≡◌, refl, sym, ap, ◌∙◌}
use mathlib.Core.Bool.{false}
use mathlib.Core.List.{List, [], ◌∷◌, ◌++◌}
use native.Mathlib.Nat.{zero-add}
use native.Mathlib.Omega.{arith}
use lib.ListN.{length, take, length-append, length-take}
use lib.Dec.{ltb}
use borrow.Author.Tests.{lt-ltb, le-ltb, ltb-false}
use Rattle.std.specs.Prelude.{Option, Some, None, Ok, Err}
use Rattle.laws.specs.Got.{Got, got, wrong}
use Rattle.laws.specs.Over.{Wrote}
use Rattle.laws.proofs.Over.{length_over, over_nil}
use Rattle.laws.proofs.Gots.{found_is}
use Rattle.laws.proofs.Picks.{pick_ind}
use Rattle.refusals.specs.declared.refusal.Refusal.TheVariants.{ShortOutput, BadSheet}
use Rattle.instances.specs.Places.{run_most}
use Rattle.instances.specs.Run.{instances_of, count_of}
use Rattle.instances.specs.declared.instance.Instance.{Instance}
use Rattle.instances.specs.declared.run.Run.{Run}
use Rattle.instances.proofs.Goods.{Few, few_of}
use Rattle.forms.specs.Form.{form1}
use Rattle.forms.specs.Sheet.{Sheet, sheet_in}
use Rattle.forms.specs.Formed.{ReadForm}
use Rattle.forms.specs.declared.sheet.FormRead.{FormRead}
use Rattle.forms.proofs.Fits.{order_of, form1_short}
use Rattle.forms.proofs.Sheets.{Allowed, sheet_allowed_lem, allowed_room, FormFound, form_found, form_none}
use Rattle.texts.specs.Pen.{Penned}
use Rattle.texts.proofs.Words.{decimal_one, name_lengths, counted}
use Rattle.texts.proofs.Pens.{pen_wrote}
use Rattle.listings.specs.Listing.{line_of, header_line, instance_lines, header_most, lines_most, listing}
use Rattle.listings.specs.Listing.{listing_most, listing_in, listed_sheet, ListsSheet, refused_line, printed_as, printed_sheet, PrintsSheet}
use Rattle.listings.specs.inner.Write.{sheet_of}
use Rattle.listings.proofs.Lines.{header_most_lem}
use Rattle.listings.proofs.Lengths.{lines_most_lem, more_most}

-- ---- how long a listing is

listing_parts :
    (sheet : Sheet) →
    listing form1 sheet ≡ header_line 1 sheet.last (length sheet.instances) ++ instance_lines sheet.instances
unfolding listing
listing_parts sheet = refl

pub listing_octets_lem : listing_most form1 ≡ 1811
listing_octets_lem = omega (arith, name_lengths)

few_each : (is : List Instance) → Few 8 is → (procedure : ℕ) → procedure < 3 → count_of procedure is ≤ 8
few_each is few zero h = few.0
few_each is few (suc zero) h = few.1
few_each is few (suc (suc zero)) h = few.2
few_each is few (suc (suc (suc procedure))) h = absurd (omega arith)

module _ (sheet : Sheet) (so : Allowed form1 sheet) where
  abbrev is : List Instance
  is = sheet.instances

  -- by how many instances there are of each procedure
  pub listing_most_lem :
      length (listing form1 sheet) ≤ header_most + lines_most (λ procedure. count_of procedure is) form1.procedures
  listing_most_lem =
      let short = allowed_room form1 form1_short sheet so in
      omega (
        arith,
        ap length (listing_parts sheet),
        length-append (header_line 1 sheet.last (length is)) (instance_lines is),
        header_most_lem sheet.last (length is) so.last (omega (arith, short)),
        lines_most_lem is so.each,
      )

  allowed_fits : length (listing form1 sheet) ≤ listing_most form1
  allowed_fits =
      let few = few_of 8 is (order_of form1 is so.order).1 in
      omega (
        arith,
        listing_most_lem,
        more_most (λ procedure. count_of procedure is) (λ _. form1.perprocedure) form1.procedures (few_each is few),
      )

-- every listing fits in 1,811 octets
pub listing_fits : (s : List ℕ) → length (listing_in (sheet_in form1 s)) ≤ listing_most form1
listing_fits s = each (sheet_in form1 s) refl
  where
    each : (g : Got Sheet) → sheet_in form1 s ≡ g → length (listing_in g) ≤ listing_most form1
    each (got sheet next) e = allowed_fits sheet (found_is (Allowed form1) e (sheet_allowed_lem form1 s))
    each wrong e = omega arith

-- ---- the listing of a run

-- by the instances that its array holds
pub run_parts :
    (last : ℕ) (run : Run) (few : ℕ) → length run.run ≡ run_most → few ≡ min run.count run_most →
    listing form1 (sheet_of last run) ≡ header_line 1 last few ++ instance_lines (take few run.run)
run_parts last run few long is =
    let same : take few run.run ≡ instances_of run = counted run.count run.run long is in
    let count : length (instances_of run) ≡ few = omega (arith, length-take run.count run.run) in
    listing_parts (sheet_of last run)
    ∙ ap (λ (n : ℕ). header_line 1 last n ++ instance_lines (instances_of run)) count
    ∙ ap (λ (is : List Instance). header_line 1 last few ++ instance_lines is) (sym same)

-- ---- a sheet that was read

abbrev sheet_for : ℕ → List Instance → Sheet
sheet_for last is = record { last = last; instances = is }

module _ (s : List ℕ) (o : Option FormRead) (told : ReadForm s o) (r : FormRead) (ok : o ≡ Some r) where
  found : FormFound s r
  found = form_found s told ok

  same_sheet : sheet_of r.last r.run ≡ found.sheet
  same_sheet =
      ap (λ (n : ℕ). sheet_of n r.run) found.last
      ∙ ap (λ (is : List Instance). sheet_for found.sheet.last is) found.instances

  -- its listing fits
  pub read_fits : length (listing form1 (sheet_of r.last r.run)) ≤ listing_most form1
  read_fits = rw same_sheet (allowed_fits found.sheet found.allowed)

-- ---- what is answered

refused_text : refused_line ≡ 114 ∷ 101 ∷ 102 ∷ 117 ∷ 115 ∷ 101 ∷ 100 ∷ 32 ∷ 57 ∷ 10 ∷ []
unfolding refused_line line_of
refused_text = rw (decimal_one 9 (omega arith))

module _ (s xs : List ℕ) where
  pub lists_short : length xs < listing_most form1 → ListsSheet s xs (Err ShortOutput) xs
  unfolding listed_sheet
  lists_short short =
      let is = lt-ltb (length xs) (listing_most form1) short in
      record { told = rw is; count = rw is; lent = rw is (sym (over_nil xs 0)) }

  pub prints_short : length xs < listing_most form1 → PrintsSheet s xs 0 xs
  unfolding printed_sheet
  prints_short short =
      let is = lt-ltb (length xs) (listing_most form1) short in
      record { count = rw is; lent = rw is (sym (over_nil xs 0)) }

  module _ (some : listing_most form1 ≤ length xs) (o : Option FormRead) (told : ReadForm s o) where
    wide : ltb (length xs) (listing_most form1) ≡ false
    wide = le-ltb (length xs) (listing_most form1) some

    module _ (bad : o ≡ None) where
      none : sheet_in form1 s ≡ wrong
      none = form_none s told bad

      pub lists_none : ListsSheet s xs (Err BadSheet) xs
      unfolding listed_sheet
      lists_none = record {
        told = rw (wide, none);
        count = rw (wide, none);
        lent = rw (wide, none) (sym (over_nil xs 0));
      }

      pub prints_none :
          {n : ℕ} {ys : List ℕ} →
          Penned xs 0 (114 ∷ 101 ∷ 102 ∷ 117 ∷ 115 ∷ 101 ∷ 100 ∷ 32 ∷ 57 ∷ 10 ∷ []) n ys →
          PrintsSheet s xs n ys
      unfolding printed_sheet
      prints_none pen =
          let w = pen_wrote (omega (arith, listing_octets_lem)) pen in
          record { count = rw (wide, none, refused_text) (w.moved ∙ zero-add _); lent = rw (wide, none, refused_text) w.holds }

    module _ (r : FormRead) (ok : o ≡ Some r) {n : ℕ} {ys : List ℕ}
        (w : Penned xs 0 (listing form1 (sheet_of r.last r.run)) n ys) where
      is_sheet_lem : sheet_in form1 s ≡ got (found s o told r ok).sheet (found s o told r ok).next
      is_sheet_lem = (found s o told r ok).is

      whole : Wrote xs 0 (listing form1 (found s o told r ok).sheet) n ys
      whole =
          let fits : length (listing form1 (sheet_of r.last r.run)) ≤ listing_most form1 = read_fits s o told r ok in
          rw (same_sheet s o told r ok) at (pen_wrote (omega (arith, fits, some)) w)

      pub lists_sheet : ListsSheet s xs (Ok n) ys
      unfolding listed_sheet
      lists_sheet = record {
        told = rw (wide, is_sheet_lem);
        count = rw (wide, is_sheet_lem) (whole.moved ∙ zero-add _);
        lent = rw (wide, is_sheet_lem) whole.holds;
      }

      pub prints_sheet : PrintsSheet s xs n ys
      unfolding printed_sheet
      prints_sheet = record {
        count = rw (wide, is_sheet_lem) (whole.moved ∙ zero-add _);
        lent = rw (wide, is_sheet_lem) whole.holds;
      }

-- what is printed is within the output, whatever its size
printed_fits : (s : List ℕ) (size : ℕ) → length (printed_sheet s size) ≤ size
unfolding printed_sheet
printed_fits s size =
    pick_ind (λ ws. length ws ≤ size) (ltb size (listing_most form1)) {x = []} (λ _. omega arith) (λ e.
    each (sheet_in form1 s) (listing_fits s) (omega (arith, ltb-false size (listing_most form1) e)))
  where
    each : (g : Got Sheet) → length (listing_in g) ≤ listing_most form1 → listing_most form1 ≤ size → length (printed_as g) ≤ size
    each (got sheet next) fits wide = omega (arith, fits, wide)
    each wrong fits wide = omega (arith, ap length refused_text, listing_octets_lem, wide)

pub prints_within : {s xs : List ℕ} {r : ℕ} {ys : List ℕ} → PrintsSheet s xs r ys → r ≤ length ys
prints_within {s} {xs} p =
    omega (
      arith,
      p.count,
      printed_fits s (length xs),
      ap length p.lent,
      length_over xs 0 (printed_sheet s (length xs)),
    )
