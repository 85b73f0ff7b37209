-- Laws of the lines of a listing: their words one after the other, how long they are, and what their writers leave. Assumes nothing.
use Prim.Native.Nat.{ℕ, suc, ◌+◌, ◌≤◌, ◌<◌}
use mathlib.Core.Path.{◌≡◌, refl, ap, ◌∙◌}
use mathlib.Core.List.{List, [], ◌∷◌, ◌++◌}
use native.Mathlib.Numerals.{add-one}
use native.Mathlib.Omega.{arith}
use lib.ListN.{length, drop, get_or, length-append, length-take, drop_of_length-le}
use lib.Seq.{drop-cons}
use Rattle.numbers.specs.Number.{digits_of}
use Rattle.numbers.specs.declared.address.Address.{Address}
use Rattle.instances.specs.declared.instance.Instance.{Instance}
use Rattle.forms.specs.Form.{form1}
use Rattle.forms.proofs.Readers.{service_few}
use Rattle.forms.proofs.Fits.{FieldsFit, Small, held_small}
use Rattle.texts.specs.Word.{decimal, procedure_name, kind_text, sub_text, ended_by}
use Rattle.texts.specs.Pen.{Penned}
use Rattle.texts.proofs.Pens.{Going, pen_then, going_next as pen_next}
use Rattle.texts.proofs.Words.{decimal_one, decimal_most, kind_short, sub_short}
use Rattle.listings.specs.Listing.{line_of, header_line, header_most, instance_line, instance_lines, line_most}

-- ---- words, one after the other

line_last : (w : List ℕ) → line_of (w ∷ []) ≡ ended_by w 10
unfolding line_of
line_last w = refl

line_more : (w v : List ℕ) (ws : List (List ℕ)) → line_of (w ∷ v ∷ ws) ≡ ended_by w 32 ++ line_of (v ∷ ws)
unfolding line_of
line_more w v ws = refl

-- ---- the line of an instance

module _ (i : Instance) where
  abbrev a : Address
  a = i.address

  abbrev name : List ℕ
  name = procedure_name i.procedure

  abbrev number : List ℕ
  number = decimal i.number

  abbrev service : List ℕ
  service = decimal i.service

  abbrev kind : List ℕ
  kind = kind_text a.number.form a.number.kind

  abbrev digits : List ℕ
  digits = digits_of a.number

  abbrev sub : List ℕ
  sub = sub_text a.subcount a.sub

  pub line_words : instance_line i ≡ line_of (name ∷ number ∷ service ∷ kind ∷ digits ∷ sub ∷ [])
  unfolding instance_line
  line_words = refl

  -- its words were written, one after the other
  pub instance_wrote :
      {xs ys zs us vs ws rs : List ℕ} {at p q k m t n : ℕ} →
      Penned xs at (ended_by name 32) p ys → Penned ys p (ended_by number 32) q zs → Penned zs q (ended_by service 32) k us →
      Penned us k (ended_by kind 32) m vs → Penned vs m (ended_by digits 32) t ws → Penned ws t (ended_by sub 10) n rs →
      Penned xs at (instance_line i) n rs
  unfolding instance_line line_of
  instance_wrote w1 w2 w3 w4 w5 w6 = pen_then w1 (pen_then w2 (pen_then w3 (pen_then w4 (pen_then w5 w6))))

  -- a line has at most 71 octets beside its procedure's name
  module _ (b : FieldsFit form1 i) where
    small : Small a
    small = held_small a b.address

    kind_most : length kind ≤ 2
    kind_most = kind_short a.number.form a.number.kind (omega (arith, small.kind))

    sub_most : length sub ≤ 40
    sub_most = sub_short a.subcount a.sub small.sub

    pub line_most_lem : length (instance_line i) ≤ line_most i.procedure
    line_most_lem =
        omega (
          arith,
          ap length line_words,
          ap length (line_more name number (service ∷ kind ∷ digits ∷ sub ∷ [])),
          length-append (ended_by name 32) (line_of (number ∷ service ∷ kind ∷ digits ∷ sub ∷ [])),
          length-append name (32 ∷ []),
          ap length (line_more number service (kind ∷ digits ∷ sub ∷ [])),
          length-append (ended_by number 32) (line_of (service ∷ kind ∷ digits ∷ sub ∷ [])),
          length-append number (32 ∷ []),
          ap length (line_more service kind (digits ∷ sub ∷ [])),
          length-append (ended_by service 32) (line_of (kind ∷ digits ∷ sub ∷ [])),
          length-append service (32 ∷ []),
          ap length (line_more kind digits (sub ∷ [])),
          length-append (ended_by kind 32) (line_of (digits ∷ sub ∷ [])),
          length-append kind (32 ∷ []),
          ap length (line_more digits sub []),
          length-append (ended_by digits 32) (line_of (sub ∷ [])),
          length-append digits (32 ∷ []),
          ap length (line_last sub),
          length-append sub (10 ∷ []),
          decimal_most 0 i.number (omega (arith, b.number)),
          decimal_most 1 i.service (omega (arith, service_few i.service b.service)),
          kind_most,
          length-take a.number.count a.number.digits,
          small.digits,
          sub_most,
        )

-- ---- the lines of instances

pub lines_none : instance_lines [] ≡ []
unfolding instance_lines
lines_none = refl

pub lines_more : (i : Instance) (is : List Instance) → instance_lines (i ∷ is) ≡ instance_line i ++ instance_lines is
unfolding instance_lines
lines_more i is = refl

-- a writer of lines has come to the i-th instance: its line is written after the others
module _ (is : List Instance) (i : ℕ) (none : Instance) (more : i < length is) where
  lines_step : instance_lines (drop i is) ≡ instance_line (get_or is i none) ++ instance_lines (drop (i + 1) is)
  lines_step = rw (add-one i) (ap instance_lines (drop-cons is i none more) ∙ lines_more (get_or is i none) (drop (suc i) is))

  pub going_next :
      {xs ys zs : List ℕ} {at p q : ℕ} → Going xs at (instance_lines is) ys p (instance_lines (drop i is)) →
      Penned ys p (instance_line (get_or is i none)) q zs → Going xs at (instance_lines is) zs q (instance_lines (drop (i + 1) is))
  going_next so line = pen_next so _ _ lines_step line

-- it has come past the last
pub lines_past : (is : List Instance) (i : ℕ) → length is ≤ i → instance_lines (drop i is) ≡ []
lines_past is i h = ap instance_lines (drop_of_length-le is h) ∙ lines_none

-- ---- the header

-- "form 1 last " and "count "
abbrev form_text : List ℕ
form_text = 102 ∷ 111 ∷ 114 ∷ 109 ∷ 32 ∷ 49 ∷ 32 ∷ 108 ∷ 97 ∷ 115 ∷ 116 ∷ 32 ∷ []

abbrev count_text : List ℕ
count_text = 99 ∷ 111 ∷ 117 ∷ 110 ∷ 116 ∷ 32 ∷ []

module _ (last count : ℕ) where
  abbrev last_part : List ℕ
  last_part = ended_by (decimal last) 32

  abbrev count_part : List ℕ
  count_part = ended_by (decimal count) 10

  pub header_text : header_line 1 last count ≡ form_text ++ (last_part ++ (count_text ++ count_part))
  unfolding header_line line_of
  header_text = rw (decimal_one 1 (omega arith))

  -- it has at most 27 octets
  pub header_most_lem : last ≤ 32767 → count < 100 → length (header_line 1 last count) ≤ header_most
  header_most_lem few small =
      omega (
        arith,
        ap length header_text,
        length-append form_text (last_part ++ (count_text ++ count_part)),
        length-append last_part (count_text ++ count_part),
        length-append count_text count_part,
        length-append (decimal last) (32 ∷ []),
        length-append (decimal count) (10 ∷ []),
        decimal_most 4 last (omega arith),
        decimal_most 1 count (omega arith),
      )
