-- A sheet that is listed has at most 1,613 octets, so that more of them are refused, whatever they are. Assumes nothing.
use Prim.Native.Nat.{ℕ, ◌≤◌, ◌<◌}
use mathlib.Core.Path.{◌≡◌, refl, sym, ap, ◌∙◌}
use mathlib.Core.Bool.{true, not, false≢true}
use mathlib.Core.List.{List}
use native.Mathlib.Omega.{arith}
use lib.ListN.{length, get_or}
use lib.Dec.{ltb}
use borrow.Author.Tests.{le-ltb, not-false}
use Rattle.std.specs.Prelude.{Ok}
use Rattle.laws.specs.Got.{Got, got, wrong}
use Rattle.laws.specs.Over.{over}
use Rattle.laws.proofs.Picks.{pick_ind}
use Rattle.refusals.specs.Refusal.{tells}
use Rattle.refusals.specs.Handling.{Made}
use Rattle.refusals.proofs.Refusals.{refuses_not}
use Rattle.forms.specs.Form.{form1}
use Rattle.forms.specs.Sheet.{Sheet, sheet_in}
use Rattle.forms.proofs.Accepted.{accepted_form1}
use Rattle.listings.specs.Listing.{listing_most, is_sheet, listed_sheet, ListsSheet, refused_line, printed_as, printed_sheet, PrintsSheet}

module _ (s : List ℕ) (small : (i : ℕ) → get_or s i 0 < 256) where
  is_most : is_sheet (sheet_in form1 s) ≡ true → length s ≤ 1613
  is_most = each (sheet_in form1 s) refl
    where
      each : (g : Got Sheet) → sheet_in form1 s ≡ g → is_sheet g ≡ true → length s ≤ 1613
      each (got sheet next) e _ = accepted_form1 s small sheet next e
      each wrong e h = absurd (false≢true h)

  listed_size : (size : ℕ) → (listed_sheet s size).told ≡ tells tt → length s ≤ 1613
  unfolding listed_sheet
  listed_size size =
      let P : Made → Type 0 = λ m. m.told ≡ tells tt → length s ≤ 1613 in
      pick_ind P (ltb size (listing_most form1)) (λ _ h. absurd (refuses_not _ tt h)) (λ _.
      pick_ind P (not (is_sheet (sheet_in form1 s))) (λ _ h. absurd (refuses_not _ tt h)) (λ is _. is_most (not-false _ is)))

  -- what `list_sheet` lists has at most 1,613 octets
  pub listed_accepted : (xs : List ℕ) (n : ℕ) (ys : List ℕ) → ListsSheet s xs (Ok n) ys → length s ≤ 1613
  listed_accepted xs n ys lists = listed_size (length xs) (sym lists.told)

  printed_long : (size : ℕ) → listing_most form1 ≤ size → 1613 < length s → printed_sheet s size ≡ refused_line
  unfolding printed_sheet
  printed_long size room long = rw (le-ltb size (listing_most form1) room) (each (sheet_in form1 s) refl)
    where
      each : (g : Got Sheet) → sheet_in form1 s ≡ g → printed_as g ≡ refused_line
      each (got sheet next) e = absurd (omega (arith, long, accepted_form1 s small sheet next e))
      each wrong e = refl

  -- of more octets `print_sheet` prints "refused 9", so that one who has read so many need not read on
  pub prints_long :
      (xs : List ℕ) (r : ℕ) (ys : List ℕ) → PrintsSheet s xs r ys → listing_most form1 ≤ length xs → 1613 < length s →
      (r ≡ length refused_line) × (ys ≡ over xs 0 refused_line)
  prints_long xs r ys prints room long =
      let is = printed_long (length xs) room long in
      (prints.count ∙ ap length is, prints.lent ∙ ap (over xs 0) is)
