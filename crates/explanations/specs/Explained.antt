-- A component told in words: its elements, and then the request or reply that it is, or the row of document 01's table at which reading
-- stops and what is answered (document 01, "Replies, in the order checked").
use Rattle.std.specs.Prelude.{ℕ, ◌+◌, ◌*◌, ◌≡◌, Bool, List, [], ◌∷◌, ◌++◌, ℤ, pos, negsuc, length, ltb, eqb, Result}
use Rattle.laws.specs.Pick.{pick}
use Rattle.laws.specs.Tests.{any, test, first}
use Rattle.laws.specs.Got.{Got, got, wrong}
use Rattle.laws.specs.Over.{over}
use Rattle.octets.specs.Head.{head_at}
use Rattle.octets.specs.declared.head.Head.{Head}
use Rattle.std.specs.Prelude.{Option, Some, None}
use Rattle.values.specs.Ident.{ident_at}
use Rattle.skip.specs.Depth.{component_depth, inside_depth}
use Rattle.codes.specs.Codes.{activation, deactivation, interrogation}
use Rattle.requests.specs.Heard.{heard}
use Rattle.requests.specs.Request.{argument_at}
use Rattle.requests.specs.declared.heard.Heard.{Heard}
use Rattle.requests.specs.declared.heard.Heard.TheVariants.{NotOne, Silent, OtherTag, NoIdentifier, NoOperation, Asks}
use Rattle.requests.specs.declared.heard.Operation.{Operation}
use Rattle.requests.specs.declared.request.Request.{Request}
use Rattle.refusals.specs.Refusal.{component_most}
use Rattle.refusals.specs.Handling.{handling_told, written_count, Made, not_made, made}
use Rattle.refusals.specs.declared.refusal.Refusal.{Refusal}
use Rattle.refusals.specs.declared.refusal.Refusal.TheVariants.{ShortOutput, LongComponent}
use Rattle.explanations.specs.Text.{chars, signed_text, request_line}
use Rattle.explanations.specs.Elements.{lines_in}

-- ---- row 2: results, errors and rejects

unfoldable pub reply_word : ℕ → List ℕ
reply_word tag = pick (eqb tag 0xA2) (chars "result") (pick (eqb tag 0xA3) (chars "error") (chars "reject"))

abbrev pub value_word : Got ℤ → List ℕ
value_word (got value next) = chars ", value " ++ signed_text value
value_word wrong = chars ", no value"

-- an error has a value after its identifier
unfoldable pub value_text : ℕ → List ℕ → ℕ → ℕ → List ℕ
value_text tag s at end = pick (eqb tag 0xA3) (value_word (ident_at inside_depth s at end)) []

abbrev pub own_text : ℕ → List ℕ → ℕ → Got ℤ → List ℕ
own_text tag s end (got value next) = chars ", identifier " ++ signed_text value ++ value_text tag s next end
own_text tag s end wrong = chars ", no identifier"

abbrev pub own_identifier : ℕ → List ℕ → ℕ → ℕ → List ℕ
own_identifier tag s at end = own_text tag s end (ident_at inside_depth s at end)

unfoldable pub reply_text : ℕ → List ℕ → ℕ → ℕ → List ℕ
reply_text tag s at end = reply_word tag ++ own_identifier tag s at end

abbrev pub reply_found : List ℕ → Option Head → List ℕ
reply_found s (Some h) = reply_text h.tag s h.start h.stop
reply_found s None = []

unfoldable pub reply_of : List ℕ → List ℕ
reply_of s = reply_found s (head_at component_depth s 0 (length s))

abbrev pub reply_line : List ℕ → List ℕ
reply_line s = chars "row 2: " ++ reply_of s ++ chars ": answered by silence\n"

-- ---- rows whose words end with an identifier

abbrev pub row_five : List ℕ
row_five = chars "row 5: operation unreadable: answered by reject, general problem 1, identifier "

abbrev pub row_seven : List ℕ
row_seven = chars "row 7: operation not 7, 8, 11: answered, unless row 6 holds, by reject, invoke problem 1, identifier "

abbrev pub row_eight : List ℕ
row_eight = chars "row 8: argument not as in clause 7.1: answered, unless row 6 holds, by reject, invoke problem 2, identifier "

abbrev pub row_line : List ℕ → ℤ → List ℕ
row_line words identifier = words ++ signed_text identifier ++ chars "\n"

-- ---- rows 7 and 8, and requests

-- an operation's number; a negative one is none
unfoldable pub operation_no : ℤ → ℕ
operation_no (pos n) = n
operation_no (negsuc n) = 0

-- "operation not 7, 8, 11"
unfoldable pub is_operation : ℕ → Bool
is_operation n = any (eqb n activation ∷ eqb n deactivation ∷ eqb n interrogation ∷ [])

abbrev pub argued_text : ℤ → ℕ → Got Request → List ℕ
argued_text identifier operation (got request next) = request_line identifier operation request
argued_text identifier operation wrong = row_line row_eight identifier

unfoldable pub asked_text : List ℕ → ℤ → Operation → ℕ → ℕ → List ℕ
asked_text s identifier operation at end =
    pick (is_operation (operation_no operation.value))
    (argued_text identifier (operation_no operation.value) (argument_at operation s at end))
    (row_line row_seven identifier)

-- ---- the component

abbrev pub said_text : List ℕ → Heard → List ℕ
said_text s NotOne = chars "row 1: not one element filling the input: answered by reject, general problem 2, identifier NULL\n"
said_text s Silent = reply_line s
said_text s OtherTag = chars "row 3: an outer tag other than A1 to A4: answered by reject, general problem 0, identifier NULL\n"
said_text s NoIdentifier = chars "row 4: identifier unreadable: answered by reject, general problem 1, identifier NULL\n"
said_text s (NoOperation identifier) = row_line row_five identifier
said_text s (Asks identifier operation at end) = asked_text s identifier operation at end

unfoldable pub said : List ℕ → List ℕ
said s = said_text s (heard s)

-- the explanation of the component s
unfoldable pub explained : List ℕ → List ℕ
explained s = lines_in component_depth s 0 (length s) ++ said s

-- the most octets of an explanation: 30 for an octet of the component, which may be a line at the greatest depth, and 175 of its last line
abbrev pub octet_most : ℕ
octet_most = 30

abbrev pub said_most : ℕ
said_most = 175

abbrev pub explanation_most : ℕ
explanation_most = octet_most * component_most + said_most

-- "Lowest number first"
unfoldable pub explained_in : List ℕ → ℕ → Made
explained_in s size =
    first
    (test (ltb size explanation_most) ShortOutput
    ∷ test (ltb component_most (length s)) LongComponent
    ∷ [])
    not_made
    (made (explained s))

-- what `explain` promises: the refusal, how many octets the explanation has, and every octet of the output
pub record Explains (s xs : List ℕ) (r : Result ℕ Refusal) (ys : List ℕ) : Type 0 where
  pub told : handling_told r ≡ (explained_in s (length xs)).told
  pub count : written_count r ≡ length (explained_in s (length xs)).octets
  pub lent : ys ≡ over xs 0 (explained_in s (length xs)).octets
