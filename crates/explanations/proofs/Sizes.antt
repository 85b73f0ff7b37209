-- How long the last line of an explanation is: at most 175 octets. Assumes nothing.
use Prim.Native.Nat.{ℕ, min, ◌+◌, ◌≤◌}
use mathlib.Core.Path.{ap}
use mathlib.Core.List.{List, [], ◌∷◌, ◌++◌}
use native.Mathlib.Omega.{arith}
use lib.IntN.{ℤ, pos, negsuc}
use lib.ListN.{length, length-append, length-take}
use lib.Dec.{eqb}
use borrow.Author.Tests.{eqb-true, eqb-false}
use Rattle.laws.specs.Got.{Got, got, wrong}
use Rattle.laws.proofs.Picks.{by_bool, pick_ind}
use Rattle.octets.specs.Head.{head_at}
use Rattle.octets.specs.declared.head.Head.{Head}
use Rattle.std.specs.Prelude.{Option, Some, None}
use Rattle.values.specs.Ident.{ident_at}
use Rattle.skip.specs.Depth.{component_depth, inside_depth}
use Rattle.codes.specs.Codes.{activation, deactivation}
use Rattle.numbers.specs.Number.{most, other}
use Rattle.numbers.specs.declared.number.Number.{Number}
use Rattle.numbers.specs.declared.address.Forwarded.{Forwarded}
use Rattle.requests.specs.Heard.{heard}
use Rattle.requests.specs.Request.{argument_at}
use Rattle.requests.specs.declared.heard.Heard.{Heard}
use Rattle.requests.specs.declared.heard.Heard.TheVariants.{NotOne, Silent, OtherTag, NoIdentifier, NoOperation, Asks}
use Rattle.requests.specs.declared.heard.Operation.{Operation}
use Rattle.requests.specs.declared.request.Request.{Request}
use Rattle.requests.specs.declared.request.Served.{Served}
use Rattle.texts.specs.Word.{decimal, procedure_name, kind_text, hex_text, ended_by}
use Rattle.texts.proofs.Words.{decimal_ten, hex_length, kind_unknown, kind_public, name_cfu, name_cfb, name_cfnr}
use Rattle.explanations.specs.Text.{chars, signed_text, counted_places, number_text, served_text, octets_word, sub_word}
use Rattle.explanations.specs.Text.{to_text, operation_text, argument_text, request_line}
use Rattle.explanations.specs.Explained.{reply_word, value_word, value_text, own_text, reply_text, reply_found, reply_of, reply_line}
use Rattle.explanations.specs.Explained.{row_five, row_seven, row_eight, row_line, operation_no, is_operation, argued_text, asked_text}
use Rattle.explanations.specs.Explained.{said_text, said, said_most}

-- ---- words

signed_most : (z : ℤ) → length (signed_text z) ≤ 11
unfolding signed_text
signed_most (pos n) = omega (arith, decimal_ten n)
signed_most (negsuc n) = omega (arith, decimal_ten (n + 1))

held_most : (count : ℕ) (places : List ℕ) → length (counted_places count places) ≤ most
held_most count places = omega (arith, length-take (min count most) places)

kind_most : (form kind : ℕ) → length (ended_by (kind_text form kind) 32) ≤ 12
kind_most form kind =
    by_bool (length (ended_by (kind_text form kind) 32) ≤ 12) (eqb form 0)
    (λ e. omega (arith, ap length (kind_unknown form kind (eqb-true form 0 e))))
    (λ e.
    omega (
      arith,
      length-append (kind_text form kind) (32 ∷ []),
      ap length (kind_public form kind (eqb-false form 0 e)),
      decimal_ten kind,
    ))

name_most : (procedure : ℕ) → length (ended_by (procedure_name procedure) 32) ≤ 5
name_most procedure =
    by_bool (length (ended_by (procedure_name procedure) 32) ≤ 5) (eqb procedure 0)
    (λ e. omega (arith, ap length (name_cfu procedure (eqb-true procedure 0 e))))
    (λ e.
    by_bool (length (ended_by (procedure_name procedure) 32) ≤ 5) (eqb procedure 1)
    (λ f. omega (arith, ap length (name_cfb procedure (eqb-false procedure 0 e) (eqb-true procedure 1 f))))
    (λ f. omega (arith, ap length (name_cfnr procedure (eqb-false procedure 0 e) (eqb-false procedure 1 f)))))

-- ---- a request

number_most : (n : Number) → length (number_text n) ≤ 32
unfolding number_text
number_most n =
    let kind : List ℕ = ended_by (kind_text n.form n.kind) 32 in
    pick_ind (λ ws. length ws ≤ 32)
    (eqb n.form other) {x = chars "a number of another kind"} {y = kind ++ counted_places n.count n.digits}
    (λ _. omega arith)
    (λ _.
    omega (
      arith,
      length-append kind (counted_places n.count n.digits),
      kind_most n.form n.kind,
      held_most n.count n.digits,
    ))

served_most : (v : Served) → length (served_text v) ≤ 32
unfolding served_text
served_most v =
    pick_ind (λ ws. length ws ≤ 32) (eqb v.all 1) {x = chars "all numbers"} {y = number_text v.number}
    (λ _. omega arith) (λ _. number_most v.number)

octets_most : (count : ℕ) (octets : List ℕ) → length (octets_word count octets) ≤ 40
unfolding octets_word
octets_most count octets =
    pick_ind (λ ws. length ws ≤ 40) (eqb count 0) {x = chars "-"} {y = hex_text (counted_places count octets)}
    (λ _. omega arith) (λ _. omega (arith, hex_length (counted_places count octets), held_most count octets))

sub_most : (to : Forwarded) → length (sub_word to) ≤ 40
unfolding sub_word
sub_most to =
    pick_ind (λ ws. length ws ≤ 40)
    (eqb to.user 1) {x = chars "user-specified"} {y = octets_word to.address.subcount to.address.sub}
    (λ _. omega arith) (λ _. octets_most to.address.subcount to.address.sub)

to_most : (operation : ℕ) (to : Forwarded) → length (to_text operation to) ≤ 77
unfolding to_text
to_most operation to =
    let number : List ℕ = number_text to.address.number in
    let text : List ℕ = chars " to " ++ number ++ chars " " ++ sub_word to in
    pick_ind (λ ws. length ws ≤ 77) (eqb operation activation) {x = text} {y = []}
    (λ _.
    omega (
      arith,
      length-append (chars " to " ++ number ++ chars " ") (sub_word to),
      length-append (chars " to " ++ number) (chars " "),
      length-append (chars " to ") number,
      number_most to.address.number,
      sub_most to,
    ))
    (λ _. omega arith)

operation_most : (operation : ℕ) → length (operation_text operation) ≤ 17
unfolding operation_text
operation_most operation =
    pick_ind (λ ws. length ws ≤ 17) (eqb operation activation) {x = chars "activation of "} (λ _. omega arith) (λ _.
    pick_ind (λ ws. length ws ≤ 17) (eqb operation deactivation) {x = chars "deactivation of "} {y = chars "interrogation of "}
    (λ _. omega arith) (λ _. omega arith))

argument_most : (operation : ℕ) (r : Request) → length (argument_text operation r) ≤ 137
unfolding argument_text
argument_most operation r =
    let name : List ℕ = ended_by (procedure_name r.procedure) 32 in
    let service : List ℕ = decimal r.service in
    let served : List ℕ = served_text r.served in
    omega (
      arith,
      length-append (name ++ chars "service " ++ service ++ chars " for " ++ served) (to_text operation r.to),
      length-append (name ++ chars "service " ++ service ++ chars " for ") served,
      length-append (name ++ chars "service " ++ service) (chars " for "),
      length-append (name ++ chars "service ") service,
      length-append name (chars "service "),
      name_most r.procedure,
      decimal_ten r.service,
      served_most r.served,
      to_most operation r.to,
    )

request_most : (identifier : ℤ) (operation : ℕ) (r : Request) → length (request_line identifier operation r) ≤ said_most
unfolding request_line
request_most identifier operation r =
    let id : List ℕ = signed_text identifier in
    let word : List ℕ = operation_text operation in
    let argument : List ℕ = argument_text operation r in
    omega (
      arith,
      length-append (chars "invoke " ++ id ++ chars ": " ++ word ++ argument) (chars "\n"),
      length-append (chars "invoke " ++ id ++ chars ": " ++ word) argument,
      length-append (chars "invoke " ++ id ++ chars ": ") word,
      length-append (chars "invoke " ++ id) (chars ": "),
      length-append (chars "invoke ") id,
      signed_most identifier,
      operation_most operation,
      argument_most operation r,
    )

-- ---- a reply

word_most_lem : (tag : ℕ) → length (reply_word tag) ≤ 6
unfolding reply_word
word_most_lem tag =
    pick_ind (λ ws. length ws ≤ 6) (eqb tag 0xA2) {x = chars "result"} (λ _. omega arith) (λ _.
    pick_ind (λ ws. length ws ≤ 6) (eqb tag 0xA3) {x = chars "error"} {y = chars "reject"} (λ _. omega arith) (λ _. omega arith))

value_word_most : (x : Got ℤ) → length (value_word x) ≤ 19
value_word_most (got value next) = omega (arith, length-append (chars ", value ") (signed_text value), signed_most value)
value_word_most wrong = omega arith

value_most : (tag : ℕ) (s : List ℕ) (at end : ℕ) → length (value_text tag s at end) ≤ 19
unfolding value_text
value_most tag s at end =
    pick_ind (λ ws. length ws ≤ 19) (eqb tag 0xA3) {x = value_word (ident_at inside_depth s at end)} {y = []}
    (λ _. value_word_most (ident_at inside_depth s at end)) (λ _. omega arith)

own_most : (tag : ℕ) (s : List ℕ) (end : ℕ) (x : Got ℤ) → length (own_text tag s end x) ≤ 43
own_most tag s end (got value next) =
    omega (
      arith,
      length-append (chars ", identifier " ++ signed_text value) (value_text tag s next end),
      length-append (chars ", identifier ") (signed_text value),
      signed_most value,
      value_most tag s next end,
    )
own_most tag s end wrong = omega arith

reply_most : (tag : ℕ) (s : List ℕ) (at end : ℕ) → length (reply_text tag s at end) ≤ 49
unfolding reply_text
reply_most tag s at end =
    let own : List ℕ = own_text tag s end (ident_at inside_depth s at end) in
    omega (arith, length-append (reply_word tag) own, word_most_lem tag, own_most tag s end (ident_at inside_depth s at end))

reply_in_most : (s : List ℕ) (x : Option Head) → length (reply_found s x) ≤ 49
reply_in_most s (Some h) = reply_most h.tag s h.start h.stop
reply_in_most s None = omega arith

reply_of_most : (s : List ℕ) → length (reply_of s) ≤ 49
unfolding reply_of
reply_of_most s = reply_in_most s (head_at component_depth s 0 (length s))

line_most_lem : (s : List ℕ) → length (reply_line s) ≤ said_most
line_most_lem s =
    omega (
      arith,
      length-append (chars "row 2: " ++ reply_of s) (chars ": answered by silence\n"),
      length-append (chars "row 2: ") (reply_of s),
      reply_of_most s,
    )

-- ---- the rows

row_most : (words : List ℕ) (identifier : ℤ) → length words ≤ 150 → length (row_line words identifier) ≤ said_most
row_most words identifier h =
    omega (
      arith,
      length-append (words ++ signed_text identifier) (chars "\n"),
      length-append words (signed_text identifier),
      signed_most identifier,
    )

argued_most : (identifier : ℤ) (operation : ℕ) (g : Got Request) → length (argued_text identifier operation g) ≤ said_most
argued_most identifier operation (got request next) = request_most identifier operation request
argued_most identifier operation wrong = row_most row_eight identifier (omega arith)

asked_most :
    (s : List ℕ) (identifier : ℤ) (operation : Operation) (at end : ℕ) → length (asked_text s identifier operation at end) ≤ said_most
unfolding asked_text
asked_most s identifier operation at end =
    let number : ℕ = operation_no operation.value in
    let argument : Got Request = argument_at operation s at end in
    pick_ind (λ ws. length ws ≤ said_most) (is_operation number) {x = argued_text identifier number argument} {y = row_line row_seven identifier}
    (λ _. argued_most identifier number argument)
    (λ _. row_most row_seven identifier (omega arith))

said_of_most : (s : List ℕ) (h : Heard) → length (said_text s h) ≤ said_most
said_of_most s NotOne = omega arith
said_of_most s Silent = line_most_lem s
said_of_most s OtherTag = omega arith
said_of_most s NoIdentifier = omega arith
said_of_most s (NoOperation identifier) = row_most row_five identifier (omega arith)
said_of_most s (Asks identifier operation at end) = asked_most s identifier operation at end

pub said_most_lem : (s : List ℕ) → length (said s) ≤ said_most
unfolding said
said_most_lem s = said_of_most s (heard s)
