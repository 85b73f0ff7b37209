-- Of all that spells a request whose service is there, what is written for it is the shortest: so what is accepted is what is written,
-- needless lengths, an omitted service and private elements aside. Assumes nothing.
use Prim.Native.Nat.{ℕ, ◌<◌}
use mathlib.Core.Path.{◌≡◌, ap}
use mathlib.Core.Bool.{Bool, true}
use mathlib.Core.List.{List, [], ◌∷◌, ◌++◌, append-nil}
use mathlib.Core.Logic.{⊎_elim}
use native.Mathlib.Omega.{arith}
use lib.IntN.{ℤ, pos}
use Rattle.octets.specs.Element.{element}
use Rattle.octets.specs.Spelt.{Shortest}
use Rattle.octets.proofs.Spellings.{shortest_same, shortest_join, spells_shortest}
use Rattle.values.specs.Enumerated.{enumerated_octets}
use Rattle.values.specs.Ident.{ident_fewest, ident_with, ident_octets}
use Rattle.codes.specs.Codes.{procedure_code, service_code}
use Rattle.numbers.specs.Number.{other, number_good}
use Rattle.numbers.specs.declared.number.Number.{Number}
use Rattle.numbers.specs.declared.address.Forwarded.{Forwarded}
use Rattle.numbers.proofs.Goods.{good_number, good_address}
use Rattle.numbers.proofs.Shortests.{number_shortest, address_shortest}
use Rattle.requests.specs.Sent.{served_good, served_octets, to_octets, contents_octets, request_octets}
use Rattle.requests.specs.Spelt.{SignedSpelt, CodeSpelt, ServiceSpelt, ToSpelt, ServedSpelt, KnownSpelt, RequestSpelt}
use Rattle.requests.specs.declared.request.Served.{Served}
use Rattle.requests.specs.declared.request.Request.{Request}
use Rattle.requests.proofs.Goods.{good_served, good_to, ToFits, Readable}
use Rattle.requests.proofs.Sizes.{all_octets, one_octets, to_octets_lem, to_none}

-- ---- the parts

signed_shortest : (z : ℤ) {ws : List ℕ} → SignedSpelt z ws → Shortest (ident_octets z) ws
signed_shortest z v =
    let cs : List ℕ = ident_with (ident_fewest z) z in
    spells_shortest cs v.spells (shortest_same cs)

code_shortest : (good : ℕ → Bool) (code : ℕ) {ws : List ℕ} → CodeSpelt good code ws → Shortest (enumerated_octets code) ws
code_shortest good code c = spells_shortest (code ∷ []) c.spells (shortest_same (code ∷ []))

-- a service that is there
service_shortest :
    (operation service : ℕ) {ws : List ℕ} → ServiceSpelt operation service ws → (ws ≡ [] → ⊥) →
    Shortest (enumerated_octets service) ws
service_shortest operation service sp there =
    ⊎_elim (λ c. code_shortest service_code service c) (λ o. absurd (there o.none)) sp

-- a number as a table holds it is not of another kind
good_form : (n : Number) → number_good n ≡ true → n.form < other
good_form n h = ⊎_elim (λ u. omega (arith, u.0)) (λ u. omega (arith, u.0)) (good_number n h).shape

served_shortest : (v : Served) {ws : List ℕ} → ServedSpelt v ws → served_good v ≡ true → Shortest (served_octets v) ws
served_shortest v sp good =
    ⊎_elim
    (λ u.
    rw (all_octets v (ap (λ (x : Served). x.all) u.is)) (spells_shortest [] u.spells (shortest_same [])))
    (λ u.
    let one : v.all ≡ 0 = ap (λ (x : Served). x.all) u.is in
    let number : v.number ≡ u.number = ap (λ (x : Served). x.number) u.is in
    let low : v.number.form < other =
    ⊎_elim (λ e. absurd (omega (arith, e, one))) (λ p. good_form v.number p.1) (good_served v good) in
    rw (one_octets v (λ e. omega (arith, one)), number) (number_shortest u.numbers (rw number at low)))
    sp

to_shortest :
    (operation : ℕ) (to : Forwarded) {ws : List ℕ} → ToSpelt operation to ws → ToFits operation to →
    Shortest (to_octets operation to) ws
to_shortest operation to sp fits =
    ⊎_elim
    (λ a.
    let g = good_to to (fits a.asks) in
    rw (to_octets_lem operation to a.asks)
    (address_shortest a.address (good_form to.address.number (good_address to.address g.address).number) g.user))
    (λ n. rw (to_none operation to n.asks, n.none) (shortest_same []))
    sp

-- ---- the whole

-- nothing is shorter than nothing
none_shortest : (ws : List ℕ) → Shortest [] ws
none_shortest [] = shortest_same []
none_shortest (w ∷ ws) = record { least = omega arith; only = λ e. absurd (omega arith) }

known_shortest :
    (operation : ℕ) (r : Request) {ws : List ℕ} (k : KnownSpelt operation r ws) → Readable operation r →
    (k.service ≡ [] → ⊥) → Shortest (contents_octets operation r) ws
known_shortest operation r k g there =
    rw k.is
    (shortest_join (code_shortest procedure_code r.procedure k.procedures)
    (shortest_join (service_shortest operation r.service k.services there)
    (shortest_join (to_shortest operation r.to k.tos g.to) (served_shortest r.served k.serveds g.served))))

pub request_shortest :
    (identifier : ℤ) (operation : ℕ) (r : Request) {ws : List ℕ} (q : RequestSpelt identifier operation r ws) →
    Readable operation r → (q.arguments.inside.knowns.service ≡ [] → ⊥) →
    Shortest (request_octets identifier operation r) ws
unfolding request_octets
request_shortest identifier operation r q g there =
    let c = q.arguments.inside in
    let known : List ℕ = contents_octets operation r in
    let all : Shortest known (c.first ++ c.rest) =
    rw (append-nil known) at (shortest_join (known_shortest operation r c.knowns g there) (none_shortest c.rest)) in
    let argument : Shortest (element 0x30 known) q.third =
    spells_shortest known q.arguments.spells (rw c.is all) in
    spells_shortest (ident_octets identifier ++ (ident_octets (pos operation) ++ element 0x30 known)) q.spells
    (shortest_join (signed_shortest identifier q.identifiers)
    (shortest_join (signed_shortest (pos operation) q.operations) argument))
