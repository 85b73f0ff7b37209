-- An element: a tag octet, length octets, contents, all of it within its container (document 01, "Reading a component").
use Rattle.std.specs.Prelude.{ℕ, ◌+◌, ◌%◌, ◌≡◌, List, [], ◌∷◌, length, get_or, ltb, leb, eqb, Option, Some, None}
use Rattle.laws.specs.Pick.{pick}
use Rattle.laws.specs.Tests.{any}
use Rattle.octets.specs.Word.{word_at}
use Rattle.octets.specs.declared.head.Span.{Span}
use Rattle.octets.specs.declared.head.Head.{Head}

-- n octets from `start` on, if they end by `end`
unfoldable pub span_of : ℕ → ℕ → ℕ → Option Span
span_of start n end = pick (leb (start + n) end) (Some (record { start = start; stop = start + n })) None

-- "Lengths: below 128 in one octet, or 81 or 82 and one or two octets, also for small values. 80 and 83 upward are badly
-- built." Contents that would begin past `end`, because length octets are missing, do not end by it.
unfoldable pub length_at : List ℕ → ℕ → ℕ → Option Span
length_at s at end =
    pick (ltb (get_or s at 0) 0x80) (span_of (at + 1) (get_or s at 0) end)
    (pick (eqb (get_or s at 0) 0x81) (span_of (at + 2) (word_at 1 s (at + 1)) end)
    (pick (eqb (get_or s at 0) 0x82) (span_of (at + 3) (word_at 2 s (at + 1)) end) None))

-- what follows an element begins where its contents end
abbrev pub tagged : ℕ → Option Span → Option Head
tagged tag (Some span) = Some (record { tag = tag; start = span.start; stop = span.stop; next = span.stop })
tagged tag None = None

-- The element at `at`, of the octets of s before `end`. "Identifier tags with low five bits all ones are refused."
-- `depth` is how many elements deep it may go, itself counted.
unfoldable pub head_at : ℕ → List ℕ → ℕ → ℕ → Option Head
head_at depth s at end =
    pick (any (eqb depth 0 ∷ ltb (length s) end ∷ leb end at ∷ eqb (get_or s at 0 % 32) 31 ∷ []))
    None
    (tagged (get_or s at 0) (length_at s (at + 1) end))

-- an element: its tag, where its contents start and stop, and the place after it
abbrev pub is_head : ℕ → ℕ → ℕ → ℕ → Option Head
is_head tag start stop next = Some (record { tag = tag; start = start; stop = stop; next = next })

-- what `head_at` promises
abbrev pub HeadAt : ℕ → List ℕ → ℕ → ℕ → Option Head → Type 0
HeadAt depth s at end r = r ≡ head_at depth s at end
