-- The words of an explanation, as characters.
use Rattle.std.specs.Prelude.{ℕ, min, ◌+◌, List, [], ◌∷◌, ◌++◌, ℤ, pos, negsuc, take, eqb}
use Prim.Native.Char.{code}
use Prim.Native.String.{String, [] as end, ◌∷◌ as ◌then◌}
use Rattle.laws.specs.Pick.{pick}
use Rattle.codes.specs.Codes.{activation, deactivation}
use Rattle.texts.specs.Word.{decimal, procedure_name, kind_text, hex_text, ended_by}
use Rattle.numbers.specs.Number.{most, other}
use Rattle.numbers.specs.declared.number.Number.{Number}
use Rattle.numbers.specs.declared.address.Forwarded.{Forwarded}
use Rattle.requests.specs.declared.request.Request.{Request}
use Rattle.requests.specs.declared.request.Served.{Served}

-- the characters of a text
abbrev pub chars : String → List ℕ
chars end = []
chars (c then s) = code c ∷ chars s

-- a number with its sign
unfoldable pub signed_text : ℤ → List ℕ
signed_text (pos n) = decimal n
signed_text (negsuc n) = chars "-" ++ decimal (n + 1)

-- ---- a request, with the words of a listing

-- the first `count` of the places of a number's or a subaddress's record, which are at most 20
abbrev pub counted_places : ℕ → List ℕ → List ℕ
counted_places count places = take (min count most) places

-- "u 24680", "p1 24680"; "other kinds: whole, contents not read"
unfoldable pub number_text : Number → List ℕ
number_text n =
    pick (eqb n.form other) (chars "a number of another kind")
    (ended_by (kind_text n.form n.kind) 32 ++ counted_places n.count n.digits)

unfoldable pub served_text : Served → List ℕ
served_text served = pick (eqb served.all 1) (chars "all numbers") (number_text served.number)

-- "an octet string (tag 04) of 1 to 20", in hexadecimal or -
unfoldable pub octets_word : ℕ → List ℕ → List ℕ
octets_word count octets = pick (eqb count 0) (chars "-") (hex_text (counted_places count octets))

-- "or a user-specified one"
unfoldable pub sub_word : Forwarded → List ℕ
sub_word to = pick (eqb to.user 1) (chars "user-specified") (octets_word to.address.subcount to.address.sub)

-- an activation alone has a forwarded-to address
unfoldable pub to_text : ℕ → Forwarded → List ℕ
to_text operation to =
    pick (eqb operation activation) (chars " to " ++ number_text to.address.number ++ chars " " ++ sub_word to) []

unfoldable pub operation_text : ℕ → List ℕ
operation_text operation =
    pick (eqb operation activation) (chars "activation of ")
    (pick (eqb operation deactivation) (chars "deactivation of ") (chars "interrogation of "))

-- what is asked for: "cfb service 1 for all numbers to u 24680 -"
unfoldable pub argument_text : ℕ → Request → List ℕ
argument_text operation r =
    ended_by (procedure_name r.procedure) 32 ++ chars "service " ++ decimal r.service ++ chars " for "
    ++ served_text r.served ++ to_text operation r.to

unfoldable pub request_line : ℤ → ℕ → Request → List ℕ
request_line identifier operation r =
    chars "invoke " ++ signed_text identifier ++ chars ": " ++ operation_text operation ++ argument_text operation r ++ chars "\n"
