-- Whatever spells an argument is read as its request: its parts, the known elements with what follows them, and the argument's element.
-- Assumes nothing.
use Prim.Native.Nat.{ℕ, suc, ◌+◌, ◌≤◌}
use mathlib.Core.Path.{◌≡◌, refl, sym, ap, ◌∙◌}
use mathlib.Core.Bool.{Bool}
use mathlib.Core.List.{List, [], ◌∷◌, ◌++◌}
use mathlib.Core.Logic.{⊎_elim}
use native.Mathlib.Omega.{arith}
use lib.IntN.{pos}
use lib.ListN.{length, get_or, length-append}
use lib.Dec.{ltb, eqb}
use borrow.Author.Tests.{lt-ltb, eq-eqb, ne_eqb, eqb-true}
use Rattle.laws.specs.Tests.{all}
use Rattle.laws.specs.Got.{got, and_then, only_if}
use Rattle.laws.specs.Stands.{Stands}
use Rattle.laws.proofs.Picks.{pick_ind}
use Rattle.laws.proofs.Tests.{both_hold}
use Rattle.laws.proofs.Stands.{stands_left, stands_right}
use Rattle.octets.specs.Head.{head_at}
use Rattle.octets.specs.Spelt.{Spells}
use Rattle.octets.specs.Part.{part_of}
use Rattle.octets.specs.declared.head.Head.{Head}
use Rattle.std.specs.Prelude.{Option, Some, None}
use Rattle.octets.proofs.Spellings.{spells_length, spells_back}
use Rattle.octets.proofs.Firsts.{spells_first}
use Rattle.values.specs.Enumerated.{enumerated_tag}
use Rattle.values.proofs.Enumerateds.{enumerated_spells_back}
use Rattle.skip.specs.Depth.{argument_depth, inside_depth}
use Rattle.codes.specs.Codes.{procedure_code, service_code, activation, deactivation, interrogation}
use Rattle.numbers.specs.Number.{number_at}
use Rattle.numbers.specs.Spelt.{AddressSpelt}
use Rattle.numbers.specs.declared.number.Number.{Number}
use Rattle.numbers.specs.declared.address.Forwarded.{Forwarded}
use Rattle.numbers.proofs.Trips.{NotNull, number_not_null}
use Rattle.numbers.proofs.SpellingTrips.{number_spelt_back, address_spelt_back}
use Rattle.numbers.proofs.Firsts.{number_first}
use Rattle.requests.specs.Heard.{local}
use Rattle.requests.specs.Request.{code_at, service_at, individual, served_in, served_at}
use Rattle.requests.specs.Request.{privates, no_forwarded, request_of}
use Rattle.requests.specs.Request.{last_in, activation_in, deactivation_in, interrogation_in, contents_in, argument_at}
use Rattle.requests.specs.Spelt.{Known, activation_is, deactivation_is, interrogation_is}
use Rattle.requests.specs.Spelt.{CodeSpelt, ServiceSpelt, ToSpelt, ServedSpelt, KnownSpelt}
use Rattle.requests.specs.declared.request.Served.{Served}
use Rattle.requests.specs.declared.request.Request.{Request}

-- ---- codes

-- a code that is let in
pub code_back :
    (good : ℕ → Bool) (depth code : ℕ) {ws : List ℕ} (s : List ℕ) (at end : ℕ) → CodeSpelt good code ws →
    (depth ≡ 0 → ⊥) → Stands s at ws → at + length ws ≤ end → end ≤ length s →
    code_at good depth s at end ≡ got code (at + length ws)
unfolding code_at
code_back good depth code s at end c deep st fit in-s =
    rw (enumerated_spells_back depth code s at end c.spells deep st fit in-s, c.lets)

-- a service that an interrogation names is read as any other code
service_there :
    (depth code : ℕ) {ws : List ℕ} (s : List ℕ) (at end : ℕ) → CodeSpelt service_code code ws → Stands s at ws →
    at + length ws ≤ end → service_at depth s at end ≡ code_at service_code depth s at end
unfolding service_at
service_there depth code s at end c st fit =
    rw (lt-ltb at end (omega (arith, spells_length c.spells)), spells_first s at c.spells st)

-- where the next tag is not that of an enumerated value, it is left out
pub service_absent :
    (depth : ℕ) (s : List ℕ) (at end : ℕ) → (get_or s at 0 ≡ enumerated_tag → ⊥) → service_at depth s at end ≡ got 0 at
unfolding service_at
service_absent depth s at end other =
    pick_ind (λ g. g ≡ got 0 at) (all (ltb at end ∷ eqb (get_or s at 0) enumerated_tag ∷ []))
    (λ e. absurd (other (eqb-true (get_or s at 0) enumerated_tag (both_hold (ltb at end) _ e).1))) (λ _. refl)

-- ---- served numbers

-- what is read as a number is that number
one_back :
    (depth : ℕ) (s : List ℕ) (at end : ℕ) {n : Number} {next : ℕ} → number_at depth s at end ≡ got n next →
    served_at depth s at end ≡ got (individual n) next
unfolding served_at
one_back depth s at end {n} {next} h = in_head (head_at depth s at end) (number_not_null depth s at end h)
  where
    in_head : (x : Option Head) → NotNull x → and_then (part_of x) (served_in depth s at end) ≡ got (individual n) next
    in_head (Some x) other = rw (ne_eqb x.tag 0x05 other, h)
    in_head None other = absurd other

-- whatever spells a served number is read as it
pub served_back :
    (depth : ℕ) {v : Served} {ws : List ℕ} (s : List ℕ) (at end : ℕ) → ServedSpelt v ws → 2 ≤ depth →
    Stands s at ws → at + length ws ≤ end → end ≤ length s →
    served_at depth s at end ≡ got v (at + length ws)
unfolding served_at
served_back depth {v} {ws} s at end sp deep st fit in-s =
    ⊎_elim
    (λ u.
    let empty : at + suc (suc u.spells.k) ≡ at + length ws = omega (arith, spells_length u.spells) in
    rw (
      spells_back depth s at end u.spells (λ e. omega arith) (λ e. omega arith) st fit in-s,
      eq-eqb (at + suc (suc u.spells.k)) (at + length ws) empty,
      u.is,
    ))
    (λ u. rw u.is (one_back depth s at end (number_spelt_back depth s at end u.numbers deep st fit in-s)))
    sp

-- none begins like an enumerated value
served_first :
    {v : Served} {ws : List ℕ} (s : List ℕ) (at : ℕ) → ServedSpelt v ws → Stands s at ws → get_or s at 0 ≡ enumerated_tag → ⊥
served_first s at sp st e =
    ⊎_elim (λ u. omega (arith, spells_first s at u.spells st)) (λ u. number_first s at u.numbers st e) sp

-- so that an interrogation's service, or that it has none, is found before a served number
service_back :
    (depth operation : ℕ) {service : ℕ} {v : Served} (q ws s : List ℕ) (at end : ℕ) → ServiceSpelt operation service q →
    ServedSpelt v ws → (depth ≡ 0 → ⊥) → Stands s at (q ++ ws) → at + length q ≤ end → end ≤ length s →
    service_at depth s at end ≡ got service (at + length q)
service_back depth operation {service} q ws s at end sp served deep st fit in-s =
    ⊎_elim
    (λ c.
    let here = stands_left s at q ws st in
    service_there depth service s at end c here fit ∙ code_back service_code depth service s at end c deep here fit in-s)
    (λ o.
    let none : at + length q ≡ at = omega (arith, ap length o.none) in
    rw (none, o.means) (service_absent depth s at end (served_first s at served (rw none at (stands_right s at q ws st)))))
    sp

-- ---- the known elements

-- the served number is the last of them: what follows it decides
last_back :
    (procedure service : ℕ) (to : Forwarded) {v : Served} {ws : List ℕ} (s : List ℕ) (at end : ℕ) → ServedSpelt v ws →
    Stands s at ws → at + length ws ≤ end → end ≤ length s →
    last_in procedure service to s at end
    ≡ only_if (privates s (at + length ws) end) (got (request_of procedure service to v) end)
unfolding last_in
last_back procedure service to s at end sp st fit in-s =
    rw (served_back argument_depth s at end sp (omega arith) st fit in-s)

-- which parts an operation has

given_service :
    (operation : ℕ) {service : ℕ} {ws : List ℕ} → (operation ≡ interrogation → ⊥) → ServiceSpelt operation service ws →
    CodeSpelt service_code service ws
given_service operation other sp = ⊎_elim (λ c. c) (λ o. absurd (other o.asks)) sp

given_address :
    (operation : ℕ) {to : Forwarded} {ws : List ℕ} → operation ≡ activation → ToSpelt operation to ws → AddressSpelt to ws
given_address operation e sp = ⊎_elim (λ a. a.address) (λ n. absurd (n.asks e)) sp

given_nowhere :
    (operation : ℕ) {to : Forwarded} {ws : List ℕ} → (operation ≡ activation → ⊥) → ToSpelt operation to ws →
    (to ≡ no_forwarded) × (ws ≡ [])
given_nowhere operation other sp = ⊎_elim (λ a. absurd (other a.asks)) (λ n. (n.is, n.none)) sp

-- where they stand
record Laid (s : List ℕ) (at : ℕ) (p q t v : List ℕ) : Type 0 where
  first : Stands s at p
  second : Stands s (at + length p) (q ++ (t ++ v))
  third : Stands s (at + length p + length q) t
  fourth : Stands s (at + length p + length q + length t) v

laid : (s : List ℕ) (at : ℕ) (p q t v : List ℕ) → Stands s at (p ++ (q ++ (t ++ v))) → Laid s at p q t v
laid s at p q t v st =
    let second = stands_right s at p (q ++ (t ++ v)) st in
    let third = stands_right s (at + length p) q (t ++ v) second in
    record {
      first = stands_left s at p (q ++ (t ++ v)) st;
      second = second;
      third = stands_left s (at + length p + length q) t v third;
      fourth = stands_right s (at + length p + length q) t v third;
    }

module _ (operation : ℕ) (r : Request) (s : List ℕ) (at end : ℕ) {ws : List ℕ} (k : KnownSpelt operation r ws)
    (l : Laid s at k.procedure k.service k.to k.served) (in-s : end ≤ length s) where
  -- the places after the procedure, the service and the address
  abbrev a : ℕ
  a = at + length k.procedure

  abbrev b : ℕ
  b = a + length k.service

  abbrev c : ℕ
  c = b + length k.to

  abbrev after : ℕ
  after = c + length k.served

  module _ (fits : after ≤ end) where
    procedure_read : code_at procedure_code argument_depth s at end ≡ got r.procedure a
    procedure_read =
        code_back procedure_code argument_depth r.procedure s at end k.procedures (λ e. omega arith) l.first (omega arith) in-s

    last_read :
        (to : Forwarded) →
        last_in r.procedure r.service to s c end
        ≡ only_if (privates s after end) (got (request_of r.procedure r.service to r.served) end)
    last_read to = last_back r.procedure r.service to s c end k.serveds l.fourth fits in-s

    -- a service that must be there
    given_read : (operation ≡ interrogation → ⊥) → code_at service_code argument_depth s a end ≡ got r.service b
    given_read other =
        code_back service_code argument_depth r.service s a end (given_service operation other k.services) (λ e. omega arith)
        (stands_left s a k.service (k.to ++ k.served) l.second) (omega arith) in-s

    -- where no address stands, the served number follows the codes
    last_here :
        (operation ≡ activation → ⊥) →
        last_in r.procedure r.service no_forwarded s b end ≡ only_if (privates s after end) (got r end)
    last_here other =
        let none = given_nowhere operation other k.tos in
        let here : c ≡ b = omega (arith, ap length none.1) in
        ap (λ (x : ℕ). last_in r.procedure r.service no_forwarded s x end) (sym here)
        ∙ last_read no_forwarded
        ∙ ap (λ (to : Forwarded). only_if (privates s after end) (got (request_of r.procedure r.service to r.served) end))
        (sym none.0)

    contents_by : Known operation → contents_in operation s at end ≡ only_if (privates s after end) (got r end)
    unfolding contents_in activation_in deactivation_in interrogation_in
    contents_by (activation_is e) =
        rw (
          eq-eqb operation activation e,
          procedure_read,
          given_read (λ z. omega arith),
          address_spelt_back argument_depth s b end (given_address operation e k.tos) (omega arith) l.third (omega arith) in-s,
        )
        (last_read r.to)
    contents_by (deactivation_is e) =
        let other : operation ≡ activation → ⊥ = λ z. omega arith in
        rw (
          ne_eqb operation activation other,
          eq-eqb operation deactivation e,
          procedure_read,
          given_read (λ z. omega arith),
        )
        (last_here other)
    contents_by (interrogation_is e) =
        let other : operation ≡ activation → ⊥ = λ z. omega arith in
        let before : k.to ++ k.served ≡ k.served =
        ap (λ (ws : List ℕ). ws ++ k.served) (given_nowhere operation other k.tos).1 in
        rw (
          ne_eqb operation activation other,
          ne_eqb operation deactivation (λ z. omega arith),
          eq-eqb operation interrogation e,
          procedure_read,
          service_back argument_depth operation k.service k.served s a end k.services k.serveds (λ z. omega arith)
              (rw before at l.second) (omega arith) in-s,
        )
        (last_here other)

-- The known elements of an argument, and then octets up to `end`: private elements among these are skipped, "After the last known
-- element of an argument, elements with a private-class tag are skipped (house)", and nothing else may follow.
pub contents_then :
    (operation : ℕ) (r : Request) (s : List ℕ) (at end : ℕ) {ws : List ℕ} → Known operation → KnownSpelt operation r ws →
    Stands s at ws → at + length ws ≤ end → end ≤ length s →
    contents_in operation s at end ≡ only_if (privates s (at + length ws) end) (got r end)
contents_then operation r s at end {ws} known k st fit in-s =
    let p : List ℕ = k.procedure in
    let q : List ℕ = k.service in
    let t : List ℕ = k.to in
    let v : List ℕ = k.served in
    let long : at + length p + length q + length t + length v ≡ at + length ws =
    omega (arith, ap length k.is, length-append p (q ++ (t ++ v)), length-append q (t ++ v), length-append t v) in
    rw long at
    (contents_by operation r s at end k (laid s at p q t v (rw k.is at st)) in-s (omega arith) known)

-- ---- the argument

-- the element of an argument that ends its component: its contents are read by the operation
pub argument_back :
    (operation : ℕ) {contents ws : List ℕ} (s : List ℕ) (at end : ℕ) (sp : Spells 0x30 contents ws) → Stands s at ws →
    at + length ws ≡ end → end ≤ length s →
    argument_at (local (pos operation)) s at end ≡ contents_in operation s (at + suc (suc sp.k)) end
unfolding argument_at
argument_back operation s at end sp st fit in-s =
    rw (
      spells_back inside_depth s at end sp (λ e. omega arith) (λ e. omega arith) st (omega arith) in-s,
      fit,
      eq-eqb end end refl,
    )
