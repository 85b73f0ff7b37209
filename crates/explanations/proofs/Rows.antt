-- Laws of the rows of an explanation, for their writers. Assumes nothing.
use Prim.Native.Nat.{ℕ}
use mathlib.Core.Path.{◌≡◌, refl, sym, ap, ◌∙◌}
use mathlib.Core.Bool.{true, false, false≢true}
use mathlib.Core.List.{List, [], ◌∷◌}
use native.Mathlib.Omega.{arith}
use lib.IntN.{ℤ, pos, negsuc, nat_abs}
use Rattle.std.specs.Prelude.{Result, Ok, Err}
use Rattle.std.specs.Result.{OkIff, result_unwrap_or}
use Rattle.std.specs.Int.{FitsUnsignedBits}
use mir.Syntax.{w16}
use mir.Val.{SFits, to_z, of_z}
use mir.Facts.{to_z-of_z}
use lib.Dec.{eqb}
use Rattle.laws.specs.Pick.{pick}
use Rattle.laws.specs.Tests.{any}
use Rattle.laws.specs.Got.{Got, got, wrong}
use Rattle.codes.specs.Codes.{activation, deactivation, interrogation}
use Rattle.requests.specs.Heard.{heard}
use Rattle.requests.specs.Request.{argument_at}
use Rattle.requests.specs.declared.heard.Operation.{Operation}
use Rattle.requests.specs.declared.request.Request.{Request}
use Rattle.octets.proofs.Founds.{Somewhere}
use Rattle.explanations.specs.Text.{request_line}
use Rattle.explanations.specs.Explained.{row_seven, row_line, operation_no, is_operation, argued_text, asked_text, said_text, said}

-- ---- an operation's number, by the machine's conversion, which fails at a negative one

tried :
    {E : Type 0} (r : Result ℕ E) (z : ℤ) → SFits w16 z → OkIff r (FitsUnsignedBits 64 z) (nat_abs z) →
    result_unwrap_or r 0 ≡ operation_no z
unfolding operation_no
tried (Ok v) (pos n) fits is = is.1
tried (Ok v) (negsuc n) fits is = absurd is.0
tried (Err e) (pos n) fits is = absurd (is (omega (arith, fits)))
tried (Err e) (negsuc n) fits is = refl

pub number_tried :
    {E : Type 0} (r : Result ℕ E) (z : ℤ) → SFits w16 z →
    OkIff r (FitsUnsignedBits 64 (to_z w16 (of_z w16 z))) (nat_abs (to_z w16 (of_z w16 z))) →
    result_unwrap_or r 0 ≡ operation_no z
number_tried r z fits is = tried r z fits (rw (to_z-of_z fits) at is)

pub number_pos : (n : ℕ) → operation_no (pos n) ≡ n
unfolding operation_no
number_pos n = refl

pub number_negsuc : (n : ℕ) → operation_no (negsuc n) ≡ 0
unfolding operation_no
number_negsuc n = refl

-- the test of an operation's number
pub operation_number : (n : ℕ) → is_operation (operation_no (pos n)) ≡ any (eqb n activation ∷ eqb n deactivation ∷ eqb n interrogation ∷ [])
unfolding is_operation operation_no
operation_number n = refl

pub operation_negative : (n : ℕ) → is_operation (operation_no (negsuc n)) ≡ false
unfolding is_operation operation_no
operation_negative n = refl

-- ---- what is said, part by part

pub said_heard : (s : List ℕ) → said s ≡ said_text s (heard s)
unfolding said
said_heard s = refl

pub asked_is :
    (s : List ℕ) (identifier : ℤ) (operation : Operation) (at end : ℕ) →
    asked_text s identifier operation at end
    ≡ pick (is_operation (operation_no operation.value))
    (argued_text identifier (operation_no operation.value) (argument_at operation s at end)) (row_line row_seven identifier)
unfolding asked_text
asked_is s identifier operation at end = refl

-- ---- an argument that was read, or not

module _ (identifier : ℤ) (operation : ℕ) (g : Got Request) where
  pub argument_told : (request : Request) → Somewhere g request → argued_text identifier operation g ≡ request_line identifier operation request
  argument_told request found = rw found.is

  pub argument_untold : g ≡ wrong → argued_text identifier operation g ≡ argued_text identifier operation wrong
  argument_untold none = rw none
