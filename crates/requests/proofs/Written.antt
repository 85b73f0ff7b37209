-- What is written for a request spells it, with zeros where its record carries no meaning. Assumes nothing.
use Prim.Native.Nat.{ℕ, ◌<◌}
use mathlib.Core.Path.{◌≡◌, refl}
use mathlib.Core.Bool.{Bool, true}
use mathlib.Core.List.{[], ◌∷◌}
use mathlib.Core.Logic.{inl, inr, ⊎_elim}
use native.Mathlib.Omega.{arith}
use lib.IntN.{ℤ}
use lib.Signed.{mag}
use lib.Dec.{eqb}
use borrow.Author.Tests.{eq-eqb, ne_eqb, eqb-true, eqb-false}
use Rattle.laws.proofs.Picks.{by_bool}
use Rattle.octets.proofs.Spellings.{element_spells}
use Rattle.values.specs.Enumerated.{enumerated_tag, enumerated_octets}
use Rattle.values.specs.Ident.{ident_tag, ident_fewest, ident_with, ident_octets}
use Rattle.values.proofs.Idents.{fewest_two, length_ident}
use Rattle.codes.specs.Codes.{procedure_code, service_code, activation, interrogation}
use Rattle.numbers.specs.Number.{tidy_number}
use Rattle.numbers.specs.declared.address.Forwarded.{Forwarded}
use Rattle.numbers.proofs.Trips.{number_spells, address_spells}
use Rattle.requests.specs.Sent.{served_good, served_octets, to_octets, contents_octets, tidy_served, tidy_to, tidy_request}
use Rattle.requests.specs.Invoke.{omitted_octets}
use Rattle.requests.specs.Spelt.{SignedSpelt, CodeSpelt, ToSpelt, ServedSpelt, KnownSpelt}
use Rattle.requests.specs.declared.request.Served.{Served}
use Rattle.requests.specs.declared.request.Request.{Request}
use Rattle.requests.proofs.Goods.{good_served, good_to, ToFits, Readable}
use Rattle.requests.proofs.Sizes.{all_octets, one_octets, to_octets_lem, to_none}

-- ---- the parts

pub signed_spells : (z : ℤ) → mag z < 32768 → SignedSpelt z (ident_octets z)
signed_spells z range = record {
  range = range;
  spells =
      element_spells ident_tag (ident_with (ident_fewest z) z)
      (omega (arith, length_ident (ident_fewest z) z, fewest_two z range));
}

code_spells : (good : ℕ → Bool) (code : ℕ) → good code ≡ true → CodeSpelt good code (enumerated_octets code)
code_spells good code h = record { lets = h; spells = element_spells enumerated_tag (code ∷ []) (omega arith) }

served_spells : (v : Served) → served_good v ≡ true → ServedSpelt (tidy_served v) (served_octets v)
served_spells v h =
    ⊎_elim
    (λ e.
    inl (record {
      spells = rw (all_octets v e) (element_spells 0x05 [] (omega arith));
      is = rw (eq-eqb v.all 1 e);
    }))
    (λ p.
    let one : v.all ≡ 1 → ⊥ = λ e. omega (arith, p.0) in
    inr (record {
      number = tidy_number v.number;
      numbers = rw (one_octets v one) (number_spells v.number p.1);
      is = rw (ne_eqb v.all 1 one);
    }))
    (good_served v h)

to_spells : (operation : ℕ) (to : Forwarded) → ToFits operation to → ToSpelt operation (tidy_to operation to) (to_octets operation to)
to_spells operation to fits =
    by_bool (ToSpelt operation (tidy_to operation to) (to_octets operation to)) (eqb operation activation)
    (λ t.
    let e : operation ≡ activation = eqb-true operation activation t in
    rw (to_octets_lem operation to e, t)
    (inl (record { asks = e; address = address_spells to.address (good_to to (fits e)).address })))
    (λ t.
    let other : operation ≡ activation → ⊥ = eqb-false operation activation t in
    rw (to_none operation to other, t) (inr (record { asks = other; is = refl; none = refl })))

-- ---- the known elements

pub contents_spells :
    (operation : ℕ) (r : Request) → Readable operation r →
    KnownSpelt operation (tidy_request operation r) (contents_octets operation r)
contents_spells operation r g = record {
  procedure = enumerated_octets r.procedure;
  service = enumerated_octets r.service;
  to = to_octets operation r.to;
  served = served_octets r.served;
  is = refl;
  procedures = code_spells procedure_code r.procedure g.procedure;
  services = inl (code_spells service_code r.service g.service);
  tos = to_spells operation r.to g.to;
  serveds = served_spells r.served g.served;
}

-- "Interrogation may omit the basic service, meaning 0"
pub omitted_spells :
    (r : Request) → Readable interrogation r → r.service ≡ 0 →
    KnownSpelt interrogation (tidy_request interrogation r) (omitted_octets r)
omitted_spells r g zero = record {
  procedure = enumerated_octets r.procedure;
  service = [];
  to = [];
  served = served_octets r.served;
  is = refl;
  procedures = code_spells procedure_code r.procedure g.procedure;
  services = inr (record { asks = refl; means = zero; none = refl });
  tos = inr (record { asks = λ e. omega arith; is = refl; none = refl });
  serveds = served_spells r.served g.served;
}
