-- How long the lines of a sheet's instances are, by how many there are of each procedure. Assumes nothing.
use Prim.Native.Nat.{ℕ, zero, suc, ◌+◌, ◌≤◌, ◌<◌}
use mathlib.Core.Path.{◌≡◌, refl, ap, ◌∙◌}
use mathlib.Core.List.{List, [], ◌∷◌}
use native.Mathlib.Nat.{add-mul, one-mul, mul-le-mul_right}
use native.Mathlib.Omega.{arith}
use lib.ListN.{length, length-append}
use lib.Dec.{eqb}
use borrow.Author.Tests.{ne_eqb, eqb-true, eqb-false}
use Rattle.laws.specs.Pick.{pick}
use Rattle.laws.proofs.Picks.{by_bool}
use Rattle.laws.proofs.Eaches.{Each}
use Rattle.instances.specs.Run.{count_of}
use Rattle.instances.specs.declared.instance.Instance.{Instance}
use Rattle.instances.proofs.Counts.{count_cons}
use Rattle.forms.specs.Form.{form1}
use Rattle.forms.proofs.Fits.{FieldsFit}
use Rattle.listings.specs.Listing.{instance_line, instance_lines, line_most, lines_most}
use Rattle.listings.proofs.Lines.{line_most_lem, lines_none, lines_more}

-- over fewer of each of the procedures below n
pub more_most :
    (few many : ℕ → ℕ) (n : ℕ) → ((procedure : ℕ) → procedure < n → few procedure ≤ many procedure) →
    lines_most few n ≤ lines_most many n
more_most few many zero less = omega arith
more_most few many (suc n) less =
    omega (
      arith,
      more_most few many n (λ procedure h. less procedure (omega arith)),
      mul-le-mul_right (line_most n) (less n (omega arith)),
    )

-- one more of the procedure q
module _ (count more : ℕ → ℕ) (q : ℕ) (one : (procedure : ℕ) → more procedure ≡ pick (eqb q procedure) 1 0 + count procedure) where
  most_before : (n : ℕ) → n ≤ q → lines_most more n ≡ lines_most count n
  most_before zero h = refl
  most_before (suc n) h =
      let same : more n ≡ count n = one n ∙ rw (ne_eqb q n (λ e. omega arith)) (omega arith) in
      rw (same, most_before n (omega arith))

  pub most_one : (n : ℕ) → q < n → lines_most more n ≡ lines_most count n + line_most q
  most_one zero h = absurd (omega arith)
  most_one (suc n) h =
      by_bool (lines_most more (suc n) ≡ lines_most count (suc n) + line_most q) (eqb q n)
      (λ e.
      let here : q ≡ n = eqb-true q n e in
      let added : more n ≡ 1 + count n = one n ∙ rw e in
      rw added
      (omega (arith, ap line_most here, most_before n (omega (arith, here)), add-mul 1 (count n) (line_most n), one-mul (line_most n))))
      (λ e.
      let less : q < n = omega (arith, eqb-false q n e) in
      let same : more n ≡ count n = one n ∙ rw e (omega arith) in
      rw (same, most_one n less) (omega arith))

pub lines_most_lem :
    (is : List Instance) → Each (FieldsFit form1) is →
    length (instance_lines is) ≤ lines_most (λ procedure. count_of procedure is) form1.procedures
lines_most_lem [] b = rw lines_none (omega arith)
lines_most_lem (i ∷ is) b =
    rw (lines_more i is)
    (omega (
      arith,
      length-append (instance_line i) (instance_lines is),
      line_most_lem i b.0,
      lines_most_lem is b.1,
      most_one (λ procedure. count_of procedure is) (λ procedure. count_of procedure (i ∷ is)) i.procedure
          (λ procedure. count_cons procedure i is) form1.procedures b.0.procedure,
    ))
