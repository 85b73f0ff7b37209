-- What an explanation says of a component is what the exchange answers it, or the request that it judges, unless row 6 holds, whatever the
-- profile and the last handled identifier. Assumes nothing.
use Prim.Native.Nat.{ℕ}
use mathlib.Core.Path.{◌≡◌, refl, sym, ◌∙◌}
use mathlib.Core.Bool.{Bool, true, false}
use mathlib.Core.List.{List, ◌++◌, append_assoc}
use mathlib.Core.Logic.{◌⊎◌, inl, inr}
use native.Mathlib.Omega.{arith}
use lib.IntN.{ℤ, pos, negsuc}
use Rattle.laws.specs.Pick.{pick}
use Rattle.laws.specs.Got.{Got, got, wrong}
use Rattle.profile.specs.declared.profile.Profile.{Profile}
use Rattle.requests.specs.Heard.{heard}
use Rattle.requests.specs.Request.{argument_at}
use Rattle.requests.specs.declared.heard.Heard.{Heard}
use Rattle.requests.specs.declared.heard.Heard.TheVariants as heard
use Rattle.requests.specs.declared.heard.Operation.{Operation}
use Rattle.requests.specs.declared.request.Request.{Request}
use Rattle.answers.specs.declared.answer.Problem.TheVariants.{Invoke}
use Rattle.answers.specs.declared.answer.Whose.TheVariants.{Own}
use Rattle.exchange.specs.Question.{Question, rejects, duplicate, known_operation, code_of, argued, invoked, question_of, question}
use Rattle.exchange.proofs.Questions.{known_number, known_negative, question_heard, invoked_is}
use Rattle.texts.proofs.Words.{decimal_one}
use Rattle.explanations.specs.Text.{chars}
use Rattle.explanations.specs.Explained.{reply_of, row_seven, row_line, operation_no, is_operation, argued_text, asked_text, said_text, said}
use Rattle.explanations.proofs.Rows.{operation_number, operation_negative, said_heard, asked_is, number_pos, number_negsuc}
use Rattle.promise.specs.Told.{Tells, RowSix}

-- the exchange and the explanation know the same operations, by the same numbers
same_operations : (z : ℤ) → is_operation (operation_no z) ≡ known_operation z
same_operations (pos n) = operation_number n ∙ sym (known_number n)
same_operations (negsuc n) = operation_negative n ∙ sym (known_negative n)

same_number_lem : (z : ℤ) → operation_no z ≡ code_of z
same_number_lem (pos n) = number_pos n
same_number_lem (negsuc n) = number_negsuc n

abbrev Told : List ℕ → Question → Type 0
Told line q = Tells line q ⊎ RowSix q

-- ---- rows 7 and 8, and requests

argued_told :
    (identifier : ℤ) (operation : Operation) (g : Got Request) →
    Tells (argued_text identifier (operation_no operation.value) g) (argued identifier operation g)
argued_told identifier operation (got request next) = rw (same_number_lem operation.value)
argued_told identifier operation wrong =
    (chars "row 8: argument not as in clause 7.1: answered, unless row 6 holds, ", rw (decimal_one 2 (omega arith)))

seven_told : (identifier : ℤ) → Tells (row_line row_seven identifier) (rejects (Own identifier) (Invoke 1))
seven_told identifier =
    (chars "row 7: operation not 7, 8, 11: answered, unless row 6 holds, ", rw (decimal_one 1 (omega arith)))

asked_told :
    (p : Profile) (last : ℕ) (s : List ℕ) (identifier : ℤ) (operation : Operation) (at end : ℕ) →
    Told (asked_text s identifier operation at end) (invoked p last s identifier operation at end)
asked_told p last s identifier operation at end =
    rw (asked_is s identifier operation at end, invoked_is p last s identifier operation at end, same_operations operation.value)
    (twice (duplicate p last identifier) (known_operation operation.value))
  where
    twice :
        (again is : Bool) →
        Told (pick is (argued_text identifier (operation_no operation.value) (argument_at operation s at end))
        (row_line row_seven identifier))
        (pick again (rejects (Own identifier) (Invoke 0))
        (pick is (argued identifier operation (argument_at operation s at end)) (rejects (Own identifier) (Invoke 1))))
    twice true is = inr (identifier, refl)
    twice false true = inl (argued_told identifier operation (argument_at operation s at end))
    twice false false = inl (seven_told identifier)

-- ---- the rows

heard_told : (p : Profile) (last : ℕ) (s : List ℕ) (h : Heard) → Told (said_text s h) (question_of p last s h)
heard_told p last s heard.NotOne =
    inl (chars "row 1: not one element filling the input: answered ", rw (decimal_one 2 (omega arith)))
heard_told p last s heard.Silent = inl (chars "row 2: " ++ reply_of s ++ chars ": answered ", silent (chars "row 2: " ++ reply_of s))
  where
    silent : (u : List ℕ) → u ++ chars ": answered by silence\n" ≡ (u ++ chars ": answered ") ++ chars "by silence\n"
    silent u = sym (append_assoc u (chars ": answered ") (chars "by silence\n"))
heard_told p last s heard.OtherTag =
    inl (chars "row 3: an outer tag other than A1 to A4: answered ", rw (decimal_one 0 (omega arith)))
heard_told p last s heard.NoIdentifier = inl (chars "row 4: identifier unreadable: answered ", rw (decimal_one 1 (omega arith)))
heard_told p last s (heard.NoOperation identifier) =
    inl (chars "row 5: operation unreadable: answered ", rw (decimal_one 1 (omega arith)))
heard_told p last s (heard.Asks identifier operation at end) = asked_told p last s identifier operation at end

pub told_answered : (p : Profile) (last : ℕ) (s : List ℕ) → Told (said s) (question p last s)
told_answered p last s = rw (said_heard s, question_heard p last s) (heard_told p last s (heard s))
