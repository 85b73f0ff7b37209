-- Laws of the words that a listing and an explanation share: what they are, and how long. Assumes nothing.
use Prim.Native.Nat.{ℕ, zero, suc, min, ◌+◌, ◌*◌, ◌/◌, ◌%◌, ◌^◌, ◌≤◌, ◌<◌}
use mathlib.Core.Path.{◌≡◌, refl, sym, ap, ◌∙◌}
use mathlib.Core.List.{List, [], ◌∷◌, ◌++◌, append_assoc}
use native.Mathlib.Numerals.{add-one}
use native.Mathlib.Omega.{arith}
use lib.ListN.{length, take, drop, get_or, length-append, length-take, take-append-drop}
use lib.Seq.{take-suc, drop-cons, take-length, length-take-le}
use lib.Dec.{ltb, eqb}
use Rattle.laws.specs.Pick.{pick}
use borrow.Author.Tests.{lt-ltb, le-ltb, eq-eqb, ne_eqb, eqb-true, eqb-false}
use Rattle.std.proofs.lemmas.List.{take_min}
use Rattle.laws.proofs.Picks.{by_bool, pick_ind}
use Rattle.numbers.specs.Number.{unknown}
use Rattle.texts.specs.Word.{decimal_in, decimal, procedure_name, kind_text, hex_of, hex_text, sub_text, ended_by}

-- ---- numbers

pub decimal_one : (n : ℕ) → n < 10 → decimal n ≡ (48 + n) ∷ []
unfolding decimal decimal_in
decimal_one n h = rw (lt-ltb n 10 h)

-- where digits are enough, one more changes nothing
enough : (k n : ℕ) → n < 10 ^ suc k → decimal_in (suc (suc k)) n ≡ decimal_in (suc k) n
unfolding decimal_in
enough zero n h = rw (lt-ltb n 10 (omega arith))
enough (suc k) n h =
    ap (λ (ws : List ℕ). pick (ltb n 10) ((48 + n) ∷ []) (ws ++ ((48 + n % 10) ∷ []))) (enough k (n / 10) (omega arith))

first : (k n : ℕ) → 10 ≤ n → decimal_in (suc k) n ≡ decimal_in k (n / 10) ++ ((48 + n % 10) ∷ [])
unfolding decimal_in
first k n ten = rw (le-ltb n 10 ten)

pub decimal_more : (n : ℕ) → 10 ≤ n → n < 2 ^ 32 → decimal n ≡ ended_by (decimal (n / 10)) (48 + n % 10)
unfolding decimal
decimal_more n ten small =
    first 9 n ten ∙ ap (λ (ws : List ℕ). ws ++ ((48 + n % 10) ∷ [])) (sym (enough 8 (n / 10) (omega arith)))

-- a number below 10 to the k-th has at most k digits
few : (j k n : ℕ) → n < 10 ^ suc k → length (decimal_in j n) ≤ suc k
unfolding decimal_in
few zero k n h = omega arith
few (suc j) zero n h = rw (lt-ltb n 10 (omega arith)) (omega arith)
few (suc j) (suc k) n h =
    let more : length (decimal_in j (n / 10) ++ ((48 + n % 10) ∷ [])) ≤ suc (suc k) =
    omega (arith, few j k (n / 10) (omega arith), length-append (decimal_in j (n / 10)) ((48 + n % 10) ∷ [])) in
    pick_ind (λ ws. length ws ≤ suc (suc k)) (ltb n 10) {x = (48 + n) ∷ []} (λ _. omega arith) (λ _. more)

pub decimal_most : (k n : ℕ) → n < 10 ^ suc k → length (decimal n) ≤ suc k
unfolding decimal
decimal_most k n h = few 10 k n h

-- and never more than ten
within : (j n : ℕ) → length (decimal_in j n) ≤ j
unfolding decimal_in
within zero n = omega arith
within (suc j) n =
    let more : length (decimal_in j (n / 10) ++ ((48 + n % 10) ∷ [])) ≤ suc j =
    omega (arith, within j (n / 10), length-append (decimal_in j (n / 10)) ((48 + n % 10) ∷ [])) in
    pick_ind (λ ws. length ws ≤ suc j) (ltb n 10) {x = (48 + n) ∷ []} (λ _. omega arith) (λ _. more)

pub decimal_ten : (n : ℕ) → length (decimal n) ≤ 10
unfolding decimal
decimal_ten n = within 10 n

-- ---- words

module _ (procedure : ℕ) where
  pub name_cfu : procedure ≡ 0 → ended_by (procedure_name procedure) 32 ≡ 99 ∷ 102 ∷ 117 ∷ 32 ∷ []
  unfolding procedure_name
  name_cfu zero_is = rw (eq-eqb procedure 0 zero_is)

  pub name_cfb :
      (procedure ≡ 0 → ⊥) → procedure ≡ 1 → ended_by (procedure_name procedure) 32 ≡ 99 ∷ 102 ∷ 98 ∷ 32 ∷ []
  unfolding procedure_name
  name_cfb some one = rw (ne_eqb procedure 0 some, eq-eqb procedure 1 one)

  pub name_cfnr :
      (procedure ≡ 0 → ⊥) → (procedure ≡ 1 → ⊥) →
      ended_by (procedure_name procedure) 32 ≡ 99 ∷ 102 ∷ 110 ∷ 114 ∷ 32 ∷ []
  unfolding procedure_name
  name_cfnr some more = rw (ne_eqb procedure 0 some, ne_eqb procedure 1 more)

pub name_lengths :
    (length (procedure_name 0) ≡ 3) × (length (procedure_name 1) ≡ 3) × (length (procedure_name 2) ≡ 4)
unfolding procedure_name
name_lengths = (refl, refl, refl)

module _ (form kind : ℕ) where
  pub kind_unknown : form ≡ 0 → ended_by (kind_text form kind) 32 ≡ 117 ∷ 32 ∷ []
  unfolding kind_text
  kind_unknown none = rw (eq-eqb form 0 none)

  pub kind_public : (form ≡ 0 → ⊥) → kind_text form kind ≡ 112 ∷ decimal kind
  unfolding kind_text
  kind_public some = rw (ne_eqb form 0 some)

-- a type of one digit
pub kind_short : (form kind : ℕ) → kind < 10 → length (kind_text form kind) ≤ 2
unfolding kind_text
kind_short form kind small =
    pick_ind (λ ws. length ws ≤ 2) (eqb form unknown) {x = 117 ∷ []} {y = 112 ∷ decimal kind}
    (λ _. omega arith) (λ _. omega (arith, decimal_most 0 kind (omega arith)))

-- ---- octets in hexadecimal

abbrev pub pair_of : ℕ → List ℕ
pair_of o = hex_of (o / 16) ∷ hex_of o ∷ []

pub hex_none : hex_text [] ≡ []
unfolding hex_text
hex_none = refl

-- one octet
pub hex_one : (o : ℕ) → hex_text (o ∷ []) ≡ pair_of o
unfolding hex_text
hex_one o = refl

pub hex_more : (o : ℕ) (os : List ℕ) → hex_text (o ∷ os) ≡ pair_of o ++ hex_text os
unfolding hex_text
hex_more o os = refl

pub hex_length : (os : List ℕ) → length (hex_text os) ≡ 2 * length os
unfolding hex_text
hex_length [] = refl
hex_length (o ∷ os) = omega (arith, hex_length os)

pub hex_both : (os us : List ℕ) → hex_text (os ++ us) ≡ hex_text os ++ hex_text us
unfolding hex_text
hex_both [] us = refl
hex_both (o ∷ os) us = rw (hex_both os us)

module _ (os : List ℕ) (i : ℕ) (more : i < length os) where
  abbrev o : ℕ
  o = get_or os i 0

  -- one octet more
  pub hex_next : hex_text (take (i + 1) os) ≡ hex_text (take i os) ++ pair_of o
  hex_next =
      rw (add-one i, take-suc os i 0 more) (hex_both (take i os) (o ∷ []) ∙ rw (hex_more o [], hex_none))

  -- cut between the two digits of an octet
  pub hex_cut : hex_text os ≡ hex_text (take i os) ++ (hex_of (o / 16) ∷ []) ++ (hex_of o ∷ hex_text (drop (suc i) os))
  hex_cut =
      ap hex_text (sym (take-append-drop i os))
      ∙ hex_both (take i os) (drop i os)
      ∙ ap (λ (us : List ℕ). hex_text (take i os) ++ hex_text us) (drop-cons os i 0 more)
      ∙ ap (λ (ws : List ℕ). hex_text (take i os) ++ ws) (hex_more o (drop (suc i) os))
      ∙ sym (append_assoc (hex_text (take i os)) (hex_of (o / 16) ∷ []) (hex_of o ∷ hex_text (drop (suc i) os)))

-- ---- an array of which so many places are counted, and no more than there are

pub counted : {A : Type 0} (count : ℕ) (l : List A) {few size : ℕ} → length l ≡ size → few ≡ min count size → take few l ≡ take count l
counted count l long is = ap (λ (k : ℕ). take k l) (is ∙ ap (min count) (sym long)) ∙ take_min count l

-- ---- a subaddress

module _ (count : ℕ) (sub : List ℕ) where
  pub sub_none : count ≡ 0 → sub_text count sub ≡ 45 ∷ []
  unfolding sub_text
  sub_none none = rw (eq-eqb count 0 none)

  pub sub_some : (count ≡ 0 → ⊥) → sub_text count sub ≡ hex_text (take count sub)
  unfolding sub_text
  sub_some some = rw (ne_eqb count 0 some)

-- of all its octets
pub sub_all : (sub : List ℕ) → (length sub ≡ 0 → ⊥) → sub_text (length sub) sub ≡ hex_text sub
sub_all sub some = sub_some (length sub) sub some ∙ ap hex_text (take-length sub)

-- of those of an array that are counted
pub sub_counted :
    (count : ℕ) (sub : List ℕ) {few size : ℕ} → length sub ≡ size → 0 < size → few ≡ min count size →
    sub_text (length (take few sub)) (take few sub) ≡ sub_text count sub
sub_counted count sub {few} long some is =
    let taken : length (take few sub) ≡ few = length-take-le few sub (omega arith) in
    by_bool (sub_text (length (take few sub)) (take few sub) ≡ sub_text count sub) (eqb count 0)
    (λ e.
    let none : count ≡ 0 = eqb-true count 0 e in
    sub_none (length (take few sub)) (take few sub) (omega arith) ∙ sym (sub_none count sub none))
    (λ e.
    let more : count ≡ 0 → ⊥ = eqb-false count 0 e in
    sub_all (take few sub) (λ z. more (omega arith)) ∙ ap hex_text (counted count sub long is) ∙ sym (sub_some count sub more))

pub sub_short : (count : ℕ) (sub : List ℕ) → count ≤ 20 → length (sub_text count sub) ≤ 40
unfolding sub_text
sub_short count sub small =
    let octets : List ℕ = take count sub in
    pick_ind (λ ws. length ws ≤ 40) (eqb count 0) {x = 45 ∷ []} {y = hex_text octets}
    (λ _. omega arith) (λ _. omega (arith, hex_length octets, length-take count sub))
