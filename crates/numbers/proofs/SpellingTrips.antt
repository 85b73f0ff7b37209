-- Whatever spells a number or an address, shortest or not, reads back as its record. Assumes nothing.
use Prim.Native.Nat.{ℕ, suc, ◌+◌, ◌-◌, ◌%◌, ◌≤◌}
use mathlib.Core.Path.{◌≡◌, ap}
use mathlib.Core.Bool.{true, false≢true}
use mathlib.Core.List.{List, ◌++◌}
use mathlib.Core.Logic.{⊎_elim}
use native.Mathlib.Omega.{arith}
use lib.ListN.{length, length-append}
use borrow.Author.Tests.{eq-eqb, ne_eqb}
use Rattle.laws.specs.Got.{got}
use Rattle.laws.specs.Stands.{Stands}
use Rattle.laws.proofs.Stands.{stands_left, stands_right, slice_stands}
use Rattle.octets.specs.Spelt.{Spells}
use Rattle.octets.proofs.Spellings.{spells_length, spells_back, spells_contents}
use Rattle.values.proofs.Enumerateds.{enumerated_spells_back}
use Rattle.numbers.specs.Number.{unknown, public, digits_good, number_of, digits_in, string_at, public_in, other_tag, number_at}
use Rattle.numbers.specs.Address.{octets_in, sub_at, address_at}
use Rattle.numbers.specs.Spelt.{UnknownSpelt, PublicSpelt, OtherSpelt, NumberSpelt, NoneSpelt, StringSpelt, UserSpelt, SubSpelt, AddressSpelt}
use Rattle.numbers.specs.declared.number.Number.{Number}
use Rattle.numbers.specs.declared.address.Sub.{Sub}
use Rattle.numbers.specs.declared.address.Forwarded.{Forwarded}

-- ---- numbers

-- good digits that stand there are read as them
digits_back :
    (form kind : ℕ) (s : List ℕ) (start next : ℕ) (ws : List ℕ) → digits_good ws ≡ true → Stands s start ws →
    start + length ws ≤ length s →
    digits_in form kind s start (start + length ws) next ≡ got (number_of form kind ws) next
unfolding digits_in
digits_back form kind s start next ws good st room = rw (slice_stands s start ws st room, good)

-- unknown form
unknown_back :
    (depth : ℕ) {n : Number} {ws : List ℕ} (s : List ℕ) (at end : ℕ) (sp : UnknownSpelt n ws) → (depth ≡ 0 → ⊥) →
    Stands s at ws → at + length ws ≤ end → end ≤ length s →
    number_at depth s at end ≡ got n (at + length ws)
unfolding number_at
unknown_back depth {n} {ws} s at end sp deep st fit in-s =
    let start : ℕ = at + suc (suc sp.spells.k) in
    let all : at + length ws ≡ start + length sp.digits = omega (arith, spells_length sp.spells) in
    rw (spells_back depth s at end sp.spells deep (λ e. omega arith) st fit in-s, all, sp.is)
    (digits_back unknown 0 s start (start + length sp.digits) sp.digits sp.good (spells_contents s at sp.spells st)
    (omega arith))

-- a numeric string that ends where the public number's contents end
string_back :
    (depth kind : ℕ) {digits ws : List ℕ} (s : List ℕ) (at end after : ℕ) (sp : Spells 0x12 digits ws) →
    digits_good digits ≡ true → (depth ≡ 0 → ⊥) → Stands s at ws → at + length ws ≡ end → end ≤ length s →
    string_at depth kind s at end after ≡ got (number_of public kind digits) after
unfolding string_at
string_back depth kind {digits} {ws} s at end after sp good deep st fit in-s =
    let start : ℕ = at + suc (suc sp.k) in
    let all : at + length ws ≡ start + length digits = omega (arith, spells_length sp) in
    rw (spells_back depth s at end sp deep (λ e. omega arith) st (omega arith) in-s, eq-eqb (at + length ws) end fit, all)
    (digits_back public kind s start after digits good (spells_contents s at sp st) (omega arith))

-- the contents of a public number
type_back :
    (depth : ℕ) {n : Number} {ws : List ℕ} (s : List ℕ) (at end after : ℕ) (sp : PublicSpelt n ws) → (depth ≡ 0 → ⊥) →
    Stands s at (sp.type ++ sp.string) → at + length (sp.type ++ sp.string) ≡ end → end ≤ length s →
    public_in depth s at end after ≡ got (number_of public sp.kind sp.digits) after
unfolding public_in
type_back depth s at end after sp deep st fit in-s =
    let l = length-append sp.type sp.string in
    rw (
      enumerated_spells_back depth sp.kind s at end sp.first deep (stands_left s at sp.type sp.string st)
          (omega arith) in-s,
      sp.kinds,
    )
    (string_back depth sp.kind s (at + length sp.type) end after sp.second sp.good deep
    (stands_right s at sp.type sp.string st) (omega arith) in-s)

-- public form
public_back :
    (depth : ℕ) {n : Number} {ws : List ℕ} (s : List ℕ) (at end : ℕ) (sp : PublicSpelt n ws) → 2 ≤ depth →
    Stands s at ws → at + length ws ≤ end → end ≤ length s →
    number_at depth s at end ≡ got n (at + length ws)
unfolding number_at
public_back depth {n} {ws} s at end sp deep st fit in-s =
    let start : ℕ = at + suc (suc sp.spells.k) in
    let all : start + length (sp.type ++ sp.string) ≡ at + length ws = omega (arith, spells_length sp.spells) in
    rw (spells_back depth s at end sp.spells (λ e. omega arith) (λ e. omega arith) st fit in-s, sp.is)
    (type_back (depth - 1) s start (at + length ws) (at + length ws) sp (λ e. omega arith)
    (spells_contents s at sp.spells st) all (omega arith))

-- a tag of the other kinds: its low five bits are not all ones, and it is none of the two forms'
record Others (tag : ℕ) : Type 0 where
  low : tag % 32 ≡ 31 → ⊥
  not_unknown : tag ≡ 0x80 → ⊥
  not_public : tag ≡ 0xA1 → ⊥

other_tags : (tag : ℕ) → other_tag tag ≡ true → Others tag
unfolding other_tag
other_tags tag h = record {
  low = λ e.
      false≢true
      (rw (
        ne_eqb tag 0x82 (λ f. omega arith),
        ne_eqb tag 0x83 (λ f. omega arith),
        ne_eqb tag 0x84 (λ f. omega arith),
        ne_eqb tag 0xA5 (λ f. omega arith),
        ne_eqb tag 0x88 (λ f. omega arith),
      ) at h);
  not_unknown = λ e. false≢true (rw e at h);
  not_public = λ e. false≢true (rw e at h);
}

other_back :
    (depth : ℕ) {n : Number} {ws : List ℕ} (s : List ℕ) (at end : ℕ) (sp : OtherSpelt n ws) → (depth ≡ 0 → ⊥) →
    Stands s at ws → at + length ws ≤ end → end ≤ length s →
    number_at depth s at end ≡ got n (at + length ws)
unfolding number_at
other_back depth {n} {ws} s at end sp deep st fit in-s =
    let o : Others sp.tag = other_tags sp.tag sp.kinds in
    rw (
      spells_back depth s at end sp.spells deep o.low st fit in-s,
      ne_eqb sp.tag 0x80 o.not_unknown,
      ne_eqb sp.tag 0xA1 o.not_public,
      sp.kinds,
      sp.is,
    )

-- whatever spells a number reads back as its record
pub number_spelt_back :
    (depth : ℕ) {n : Number} {ws : List ℕ} (s : List ℕ) (at end : ℕ) → NumberSpelt n ws → 2 ≤ depth →
    Stands s at ws → at + length ws ≤ end → end ≤ length s →
    number_at depth s at end ≡ got n (at + length ws)
number_spelt_back depth s at end sp deep st fit in-s =
    let some : depth ≡ 0 → ⊥ = λ e. omega arith in
    ⊎_elim (λ u. unknown_back depth s at end u some st fit in-s)
    (⊎_elim (λ u. public_back depth s at end u deep st fit in-s) (λ u. other_back depth s at end u some st fit in-s)) sp

-- ---- addresses

-- a subaddress of octets that ends where the address's contents end
octets_back :
    (depth : ℕ) {sub : Sub} {ws : List ℕ} (s : List ℕ) (at end : ℕ) (sp : StringSpelt sub ws) → (depth ≡ 0 → ⊥) →
    Stands s at ws → at + length ws ≡ end → end ≤ length s → sub_at depth s at end ≡ got sub end
unfolding sub_at octets_in
octets_back depth {sub} {ws} s at end sp deep st fit in-s =
    let n : ℕ = length sp.octets in
    let start : ℕ = at + suc (suc sp.spells.k) in
    let long = spells_length sp.spells in
    let all : end ≡ start + n = omega (arith, long) in
    let count : start + n - start ≡ n = omega arith in
    rw (
      ne_eqb at end (λ e. omega (arith, long)),
      spells_back depth s at end sp.spells deep (λ e. omega arith) st (omega arith) in-s,
      eq-eqb (at + length ws) end fit,
      fit,
      all,
      count,
      sp.good,
      slice_stands s start sp.octets (spells_contents s at sp.spells st) (omega arith),
      sp.is,
    )

-- a user-specified one
user_back :
    (depth : ℕ) {sub : Sub} {ws : List ℕ} (s : List ℕ) (at end : ℕ) (sp : UserSpelt sub ws) → (depth ≡ 0 → ⊥) →
    Stands s at ws → at + length ws ≡ end → end ≤ length s → sub_at depth s at end ≡ got sub end
unfolding sub_at
user_back depth {sub} {ws} s at end sp deep st fit in-s =
    rw (
      ne_eqb at end (λ e. omega (arith, spells_length sp.spells)),
      spells_back depth s at end sp.spells deep (λ e. omega arith) st (omega arith) in-s,
      eq-eqb (at + length ws) end fit,
      fit,
      sp.is,
    )

none_back :
    (depth : ℕ) {sub : Sub} {ws : List ℕ} (s : List ℕ) (at end : ℕ) → NoneSpelt sub ws → at + length ws ≡ end →
    sub_at depth s at end ≡ got sub end
unfolding sub_at
none_back depth s at end sp fit =
    let same : at ≡ end = omega (arith, fit, ap length sp.none) in
    rw (eq-eqb at end same, sp.is)

-- whatever spells a subaddress, or none, reads back where the address ends
pub sub_spelt_back :
    (depth : ℕ) {sub : Sub} {ws : List ℕ} (s : List ℕ) (at end : ℕ) → SubSpelt sub ws → (depth ≡ 0 → ⊥) →
    Stands s at ws → at + length ws ≡ end → end ≤ length s →
    sub_at depth s at end ≡ got sub end
sub_spelt_back depth s at end sp deep st fit in-s =
    ⊎_elim (λ u. none_back depth s at end u fit)
    (⊎_elim (λ u. octets_back depth s at end u deep st fit in-s) (λ u. user_back depth s at end u deep st fit in-s)) sp

-- whatever spells an address reads back as its record
pub address_spelt_back :
    (depth : ℕ) {to : Forwarded} {ws : List ℕ} (s : List ℕ) (at end : ℕ) → AddressSpelt to ws → 3 ≤ depth →
    Stands s at ws → at + length ws ≤ end → end ≤ length s →
    address_at depth s at end ≡ got to (at + length ws)
unfolding address_at
address_spelt_back depth {to} {ws} s at end sp deep st fit in-s =
    let a : List ℕ = sp.first in
    let b : List ℕ = sp.second in
    let start : ℕ = at + suc (suc sp.spells.k) in
    let stop : ℕ = at + length ws in
    let inner : Stands s start (a ++ b) = spells_contents s at sp.spells st in
    let all : start + length a + length b ≡ stop = omega (arith, spells_length sp.spells, length-append a b) in
    rw (
      spells_back depth s at end sp.spells (λ e. omega arith) (λ e. omega arith) st fit in-s,
      number_spelt_back (depth - 1) s start stop sp.numbers (omega arith) (stands_left s start a b inner) (omega arith) (omega arith),
      sub_spelt_back (depth - 1) s (start + length a) stop sp.subs (λ e. omega arith) (stands_right s start a b inner) all (omega arith),
      sp.is,
    )
