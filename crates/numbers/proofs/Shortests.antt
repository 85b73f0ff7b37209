-- Of all that spells a number or an address, what is written for its record is the shortest: so what is accepted is what is written,
-- needless lengths aside. A number of another kind and a user-specified subaddress are never written. Assumes nothing.
use Prim.Native.Nat.{ℕ, ◌<◌}
use mathlib.Core.Path.{◌≡◌, refl, ap, ◌∙◌}
use mathlib.Core.List.{List, [], ◌∷◌, ◌++◌}
use mathlib.Core.Logic.{⊎_elim}
use native.Mathlib.Omega.{arith}
use lib.ListN.{length, take}
use Rattle.octets.specs.Element.{element}
use Rattle.octets.specs.Spelt.{Shortest}
use Rattle.octets.proofs.Spellings.{shortest_same, shortest_join, spells_shortest}
use Rattle.values.specs.Enumerated.{enumerated_octets}
use Rattle.numbers.specs.Number.{unknown, public, other, number_of, number_octets}
use Rattle.numbers.specs.Address.{forwarded_of, sub_octets, address_octets}
use Rattle.numbers.specs.Spelt.{UnknownSpelt, PublicSpelt, NumberSpelt, NoneSpelt, StringSpelt, SubSpelt, AddressSpelt}
use Rattle.numbers.specs.declared.number.Number.{Number}
use Rattle.numbers.specs.declared.address.Sub.{Sub}
use Rattle.numbers.specs.declared.address.Forwarded.{Forwarded}
use Rattle.numbers.proofs.Goods.{fair_some}
use Rattle.numbers.proofs.Sizes.{unknown_octets, public_octets, sub_none, sub_some, address_octets_lem}
use Rattle.numbers.proofs.Spellings.{padded_taken}

-- ---- numbers

unknown_shortest : {n : Number} {ws : List ℕ} → UnknownSpelt n ws → Shortest (number_octets n) ws
unknown_shortest {n} {ws} sp =
    let cs : List ℕ = sp.digits in
    let is : number_octets n ≡ element 0x80 cs =
    ap number_octets sp.is ∙ unknown_octets (number_of unknown 0 cs) refl ∙ ap (element 0x80) (padded_taken cs) in
    rw is (spells_shortest cs sp.spells (shortest_same cs))

public_shortest : {n : Number} {ws : List ℕ} → PublicSpelt n ws → Shortest (number_octets n) ws
public_shortest {n} {ws} sp =
    let cs : List ℕ = sp.digits in
    let type : List ℕ = enumerated_octets sp.kind in
    let is : number_octets n ≡ element 0xA1 (type ++ element 0x12 cs) =
    ap number_octets sp.is
    ∙ public_octets (number_of public sp.kind cs) (λ e. omega arith)
    ∙ ap (λ (ds : List ℕ). element 0xA1 (type ++ element 0x12 ds)) (padded_taken cs) in
    rw is
    (spells_shortest (type ++ element 0x12 cs) sp.spells
    (shortest_join (spells_shortest (sp.kind ∷ []) sp.first (shortest_same (sp.kind ∷ [])))
    (spells_shortest cs sp.second (shortest_same cs))))

-- of a number of unknown or public form
pub number_shortest : {n : Number} {ws : List ℕ} → NumberSpelt n ws → n.form < other → Shortest (number_octets n) ws
number_shortest {n} sp low =
    ⊎_elim unknown_shortest
    (⊎_elim public_shortest (λ u. absurd (omega (arith, low, ap (λ (m : Number). m.form) u.is)))) sp

-- ---- addresses

-- what is written for the octets that a subaddress's record keeps
abbrev sub_written : Sub → List ℕ
sub_written sub = sub_octets (take sub.count sub.octets)

none_shortest : {sub : Sub} {ws : List ℕ} → NoneSpelt sub ws → Shortest (sub_written sub) ws
none_shortest {sub} sp =
    let is : sub_written sub ≡ [] = ap sub_written sp.is ∙ sub_none in
    rw (is, sp.none) (shortest_same [])

string_shortest : {sub : Sub} {ws : List ℕ} → StringSpelt sub ws → Shortest (sub_written sub) ws
string_shortest {sub} sp =
    let os : List ℕ = sp.octets in
    let some : length os ≡ 0 → ⊥ = λ e. omega (arith, fair_some (length os) sp.good) in
    let is : sub_written sub ≡ element 0x04 os = ap sub_written sp.is ∙ ap sub_octets (padded_taken os) ∙ sub_some os some in
    rw is (spells_shortest os sp.spells (shortest_same os))

sub_shortest : {sub : Sub} {ws : List ℕ} → SubSpelt sub ws → sub.user ≡ 0 → Shortest (sub_written sub) ws
sub_shortest sp plain =
    ⊎_elim none_shortest
    (⊎_elim string_shortest (λ u. absurd (omega (arith, plain, ap (λ (x : Sub). x.user) u.is)))) sp

-- of an address whose number is of unknown or public form, and whose subaddress is not user-specified
pub address_shortest :
    {to : Forwarded} {ws : List ℕ} → AddressSpelt to ws → to.address.number.form < other → to.user ≡ 0 →
    Shortest (address_octets to.address) ws
address_shortest {to} sp low plain =
    let whole : List ℕ = number_octets sp.number ++ sub_written sp.sub in
    let is : address_octets to.address ≡ element 0x30 whole =
    ap (λ (x : Forwarded). address_octets x.address) sp.is ∙ address_octets_lem (forwarded_of sp.number sp.sub).address in
    rw is
    (spells_shortest whole sp.spells
    (shortest_join
    (number_shortest sp.numbers (rw (ap (λ (x : Forwarded). x.address.number.form) sp.is) at low))
    (sub_shortest sp.subs (rw (ap (λ (x : Forwarded). x.user) sp.is) at plain))))
