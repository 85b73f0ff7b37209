-- The listing of a night sheet: "prints `form 1 last 2 count 1` then `cfb 0 1 u 24680 -`: procedure, number index, service, u or p with
-- type (p1), digits, subaddress in lowercase hex or -. Otherwise `refused 9`." (document 01, "Samples")
use Rattle.std.specs.Prelude.{ℕ, zero, suc, ◌+◌, ◌*◌, ◌≡◌, Bool, true, false, not, List, [], ◌∷◌, ◌++◌, length, ltb, Result}
use Rattle.laws.specs.Pick.{pick}
use Rattle.laws.specs.Tests.{test, first}
use Rattle.laws.specs.Got.{Got, got, wrong}
use Rattle.laws.specs.Over.{over}
use Rattle.refusals.specs.Refusal.{refusal_no}
use Rattle.refusals.specs.declared.refusal.Refusal.{Refusal}
use Rattle.refusals.specs.declared.refusal.Refusal.TheVariants.{ShortOutput, BadSheet}
use Rattle.texts.specs.Word.{decimal, procedure_name, kind_text, sub_text, ended_by}
use Rattle.numbers.specs.Number.{digits_of}
use Rattle.numbers.specs.declared.address.Address.{Address}
use Rattle.forms.specs.Form.{form1}
use Rattle.forms.specs.declared.form.Form.{Form}
use Rattle.instances.specs.declared.instance.Instance.{Instance}
use Rattle.forms.specs.Sheet.{Sheet, sheet_in}
use Rattle.refusals.specs.Handling.{handling_told, written_count, Made, not_made, made}

-- ---- lines

-- words with a space between each two, and a newline at the end
unfoldable pub line_of : List (List ℕ) → List ℕ
line_of [] = 10 ∷ []
line_of (word ∷ []) = ended_by word 10
line_of (word ∷ next ∷ words) = ended_by word 32 ++ line_of (next ∷ words)

-- "form", "last" and "count"
abbrev pub form_word : List ℕ
form_word = 102 ∷ 111 ∷ 114 ∷ 109 ∷ []

abbrev pub last_word : List ℕ
last_word = 108 ∷ 97 ∷ 115 ∷ 116 ∷ []

abbrev pub count_word : List ℕ
count_word = 99 ∷ 111 ∷ 117 ∷ 110 ∷ 116 ∷ []

-- "form 1 last 2 count 1": the form's code, the last handled identifier, the number of instances
unfoldable pub header_line : ℕ → ℕ → ℕ → List ℕ
header_line code last count =
    line_of (form_word ∷ decimal code ∷ last_word ∷ decimal last ∷ count_word ∷ decimal count ∷ [])

-- "cfb 0 1 u 24680 -"
abbrev pub address_words : Address → List (List ℕ)
address_words a =
    kind_text a.number.form a.number.kind ∷ digits_of a.number ∷ sub_text a.subcount a.sub ∷ []

unfoldable pub instance_line : Instance → List ℕ
instance_line i =
    line_of (procedure_name i.procedure ∷ decimal i.number ∷ decimal i.service ∷ address_words i.address)

unfoldable pub instance_lines : List Instance → List ℕ
instance_lines [] = []
instance_lines (i ∷ is) = instance_line i ++ instance_lines is

unfoldable pub listing : Form → Sheet → List ℕ
listing f sheet = header_line f.code sheet.last (length sheet.instances) ++ instance_lines sheet.instances

-- the most octets of an instance's line: 71 beside its procedure's name
abbrev pub line_most : ℕ → ℕ
line_most procedure = 71 + length (procedure_name procedure)

-- of the lines of the procedures below n, over how many there are of each
abbrev pub lines_most : (ℕ → ℕ) → ℕ → ℕ
lines_most count zero = 0
lines_most count (suc n) = lines_most count n + count n * line_most n

abbrev pub header_most : ℕ
header_most = 27

-- of a listing over its form: 1,811 for form 1
abbrev pub listing_most : Form → ℕ
listing_most f = header_most + lines_most (λ _. f.perprocedure) f.procedures

-- ---- a sheet is listed

-- whether it is a sheet, and its listing
abbrev pub is_sheet : Got Sheet → Bool
is_sheet (got sheet next) = true
is_sheet wrong = false

abbrev pub listing_in : Got Sheet → List ℕ
listing_in (got sheet next) = listing form1 sheet
listing_in wrong = []

-- "Lowest number first"
unfoldable pub listed_sheet : List ℕ → ℕ → Made
listed_sheet s size =
    first
    (test (ltb size (listing_most form1)) ShortOutput
    ∷ test (not (is_sheet (sheet_in form1 s))) BadSheet
    ∷ [])
    not_made
    (made (listing_in (sheet_in form1 s)))

-- what `list_sheet` promises: the refusal, how many octets the listing has, and every octet of the output
pub record ListsSheet (s xs : List ℕ) (r : Result ℕ Refusal) (ys : List ℕ) : Type 0 where
  pub told : handling_told r ≡ (listed_sheet s (length xs)).told
  pub count : written_count r ≡ length (listed_sheet s (length xs)).octets
  pub lent : ys ≡ over xs 0 (listed_sheet s (length xs)).octets

-- ---- what the listing program prints

-- "Otherwise `refused 9`"
unfoldable pub refused_line : List ℕ
refused_line = line_of ((114 ∷ 101 ∷ 102 ∷ 117 ∷ 115 ∷ 101 ∷ 100 ∷ []) ∷ decimal (refusal_no BadSheet) ∷ [])

abbrev pub printed_as : Got Sheet → List ℕ
printed_as (got sheet next) = listing form1 sheet
printed_as wrong = refused_line

-- nothing where the output has no room for the longest listing
unfoldable pub printed_sheet : List ℕ → ℕ → List ℕ
printed_sheet s size = pick (ltb size (listing_most form1)) [] (printed_as (sheet_in form1 s))

-- what `print_sheet` promises: how many octets it prints, and every octet of the output
pub record PrintsSheet (s xs : List ℕ) (r : ℕ) (ys : List ℕ) : Type 0 where
  pub count : r ≡ length (printed_sheet s (length xs))
  pub lent : ys ≡ over xs 0 (printed_sheet s (length xs))
