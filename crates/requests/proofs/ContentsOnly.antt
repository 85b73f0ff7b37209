-- Nothing else is read as the contents of an argument than what spells them. Assumes nothing.
use Prim.Native.Nat.{ℕ, ◌<◌, ◌≤◌}
use mathlib.Core.Path.{◌≡◌, refl, sym, ap, ◌∙◌, subst}
use mathlib.Core.Bool.{Bool, true}
use mathlib.Core.List.{List, [], ◌∷◌, ◌++◌}
use mathlib.Core.Logic.{inl, inr}
use native.Mathlib.Omega.{arith}
use lib.ListN.{length, get_or}
use lib.Seq.{slice, slice_empty}
use lib.Dec.{ltb, eqb}
use borrow.Author.Tests.{eqb-true}
use Rattle.laws.specs.Tests.{all}
use Rattle.laws.specs.Got.{Got, got}
use Rattle.laws.proofs.Picks.{pick_ind}
use Rattle.octets.specs.Head.{head_at}
use Rattle.octets.specs.Part.{Part, part_at}
use Rattle.octets.proofs.Slices.{slice_join}
use Rattle.octets.proofs.Spellings.{head_only}
use Rattle.values.specs.Enumerated.{enumerated_tag, enumerated_at}
use Rattle.values.proofs.Enumerateds.{enumerated_within}
use Rattle.values.proofs.Spellings.{enumerated_only}
use Rattle.skip.specs.Depth.{argument_depth}
use Rattle.codes.specs.Codes.{procedure_code, service_code, activation, deactivation, interrogation}
use Rattle.numbers.specs.Number.{number_at}
use Rattle.numbers.specs.Address.{address_at}
use Rattle.numbers.specs.declared.address.Forwarded.{Forwarded}
use Rattle.numbers.proofs.Readers.{number_within, address_within}
use Rattle.numbers.proofs.Spellings.{number_only, address_only}
use Rattle.requests.specs.Request.{code_at, service_at, individual, all_numbers, served_in, served_at}
use Rattle.requests.specs.Request.{privates, no_forwarded, request_of, last_in, activation_in, deactivation_in, interrogation_in, contents_in}
use Rattle.requests.specs.Spelt.{Known, activation_is, deactivation_is, interrogation_is}
use Rattle.requests.specs.Spelt.{CodeSpelt, ServiceSpelt, ToSpelt, ServedSpelt, ContentsSpelt}
use Rattle.requests.specs.declared.request.Served.{Served}
use Rattle.requests.specs.declared.request.Request.{Request}
use Rattle.requests.proofs.Founds.{same_found, both_found, test_found, part_from}
use Rattle.requests.proofs.Privates.{privates_only}

-- what was read from `at` up to `next`, before `end`, is such as P says
record Took (P : List ℕ → Type 0) (s : List ℕ) (at next end : ℕ) : Type 0 where
  spelt : P (slice at next s)
  from : at ≤ next
  by : next ≤ end
  inside : end ≤ length s

module _ (s : List ℕ) (small : (i : ℕ) → get_or s i 0 < 256) where
  -- ---- the parts

  code_only :
      (good : ℕ → Bool) (depth at end : ℕ) {code next : ℕ} → code_at good depth s at end ≡ got code next →
      Took (CodeSpelt good code) s at next end
  unfolding code_at
  code_only good depth at end e =
      let b = both_found (enumerated_at depth s at end) _ e in
      let t = test_found (good b.found) (got b.found b.at) b.second in
      let v = b.first ∙ t.1 in
      let lies = enumerated_within depth s at end v in
      record {
        spelt = record { lets = ap good (sym (same_found t.1).0) ∙ t.0; spells = enumerated_only s small depth at end v };
        from = omega (arith, lies.0);
        by = lies.1;
        inside = lies.2;
      }

  -- an interrogation's service may be left out
  service_only :
      (depth at end : ℕ) {service next : ℕ} → at ≤ end → end ≤ length s → service_at depth s at end ≡ got service next →
      Took (ServiceSpelt interrogation service) s at next end
  unfolding service_at
  service_only depth at end {service} {next} le in-s =
      pick_ind (λ (g : Got ℕ). g ≡ got service next → Took (ServiceSpelt interrogation service) s at next end)
      (all (ltb at end ∷ eqb (get_or s at 0) enumerated_tag ∷ []))
      (λ _ h.
      let c = code_only service_code depth at end h in
      record { spelt = inl c.spelt; from = c.from; by = c.by; inside = c.inside })
      (λ _ h.
      let same : (0 ≡ service) × (at ≡ next) = same_found h in
      rw (← same.1)
      (record {
        spelt = inr (record { asks = refl; means = sym same.0; none = slice_empty at s });
        from = omega arith;
        by = le;
        inside = in-s;
      }))

  served_only :
      (depth at end : ℕ) {v : Served} {next : ℕ} → served_at depth s at end ≡ got v next → Took (ServedSpelt v) s at next end
  unfolding served_at
  served_only depth at end {v} {next} e =
      let b = both_found (part_at depth s at end) (served_in depth s at end) e in
      let part : Part = b.found in
      let h = head_only s small depth at end (part_from (head_at depth s at end) b.first) in
      pick_ind (λ (g : Got Served). g ≡ got v next → Took (ServedSpelt v) s at next end) (eqb part.tag 0x05)
      (λ null k.
      let t = test_found (eqb part.start part.stop) (got all_numbers b.at) k in
      let same = same_found t.1 in
      let empty : slice part.start part.stop s ≡ [] =
      rw (eqb-true part.start part.stop t.0) (slice_empty part.stop s) in
      record {
        spelt =
            inl (record {
              spells = rw (eqb-true part.tag 0x05 null, empty, same.1) at h.spells;
              is = sym same.0;
            });
        from = omega (arith, h.starts, h.stops, h.nexts, same.1);
        by = rw same.1 at h.ends;
        inside = h.inside;
      })
      (λ _ k.
      let n = both_found (number_at depth s at end) _ k in
      let same : (individual n.found ≡ v) × (n.at ≡ next) = same_found n.second in
      let lies = number_within depth s at end n.found n.at n.first in
      rw (← same.1)
      (record {
        spelt =
            inr (record {
              number = n.found;
              numbers = number_only s small depth at end n.first;
              is = sym same.0;
            });
        from = omega (arith, lies.0);
        by = lies.1;
        inside = lies.2;
      }))
      b.second

  to_only :
      (depth at end : ℕ) {to : Forwarded} {next : ℕ} → address_at depth s at end ≡ got to next →
      Took (ToSpelt activation to) s at next end
  to_only depth at end {to} {next} e =
      let lies = address_within depth s at end to next e in
      record {
        spelt = inl (record { asks = refl; address = address_only s small depth at end e });
        from = omega (arith, lies.0);
        by = lies.1;
        inside = lies.2;
      }

  to_none :
      (operation at end : ℕ) → (operation ≡ activation → ⊥) → at ≤ end → end ≤ length s →
      Took (ToSpelt operation no_forwarded) s at at end
  to_none operation at end other le in-s = record {
    spelt = inr (record { asks = other; is = refl; none = slice_empty at s });
    from = omega arith;
    by = le;
    inside = in-s;
  }

  given_only :
      (operation at end : ℕ) {service next : ℕ} → code_at service_code argument_depth s at end ≡ got service next →
      Took (ServiceSpelt operation service) s at next end
  given_only operation at end e =
      let c = code_only service_code argument_depth at end e in
      record { spelt = inl c.spelt; from = c.from; by = c.by; inside = c.inside }

  -- ---- the known elements one after the other, and private ones after them

  module _ (operation : ℕ) {procedure service : ℕ} {to : Forwarded} (at p q t end : ℕ)
      (a : Took (CodeSpelt procedure_code procedure) s at p end) (b : Took (ServiceSpelt operation service) s p q end)
      (c : Took (ToSpelt operation to) s q t end) where
    contents_of :
        {served : Served} {place : ℕ} → Took (ServedSpelt served) s t place end → privates s place end ≡ true →
        ContentsSpelt operation (request_of procedure service to served) (slice at end s)
    contents_of {served} {place} d follows =
        let third : slice q t s ++ slice t place s ≡ slice q place s = slice_join q t place s c.from d.from in
        let second : slice p q s ++ slice q place s ≡ slice p place s =
        slice_join p q place s b.from (omega (arith, c.from, d.from)) in
        let first : slice at p s ++ slice p place s ≡ slice at place s =
        slice_join at p place s a.from (omega (arith, b.from, c.from, d.from)) in
        let before : at ≤ place = omega (arith, a.from, b.from, c.from, d.from) in
        record {
          first = slice at place s;
          rest = slice place end s;
          is = sym (slice_join at place end s before d.by);
          knowns = record {
            procedure = slice at p s;
            service = slice p q s;
            to = slice q t s;
            served = slice t place s;
            is =
                sym (ap (λ (ws : List ℕ). slice at p s ++ (slice p q s ++ ws)) third
                ∙ ap (λ (ws : List ℕ). slice at p s ++ ws) second ∙ first);
            procedures = a.spelt;
            services = b.spelt;
            tos = c.spelt;
            serveds = d.spelt;
          };
          privates = privates_only s small place end d.by d.inside follows;
        }

    last_only :
        {r : Request} {next : ℕ} → last_in procedure service to s t end ≡ got r next →
        ContentsSpelt operation r (slice at end s)
    unfolding last_in
    last_only {r} e =
        let d = both_found (served_at argument_depth s t end) _ e in
        let f = test_found (privates s d.at end) (got (request_of procedure service to d.found) end) d.second in
        subst (λ (x : Request). ContentsSpelt operation x (slice at end s)) (same_found f.1).0
        (contents_of (served_only argument_depth t end d.first) f.0)

  -- ---- each operation's

  module _ (at end : ℕ) {r : Request} {next : ℕ} where
    activation_only : activation_in s at end ≡ got r next → ContentsSpelt activation r (slice at end s)
    unfolding activation_in
    activation_only e =
        let a = both_found (code_at procedure_code argument_depth s at end) _ e in
        let b = both_found (code_at service_code argument_depth s a.at end) _ a.second in
        let c = both_found (address_at argument_depth s b.at end) _ b.second in
        last_only activation at a.at b.at c.at end (code_only procedure_code argument_depth at end a.first)
        (given_only activation a.at end b.first) (to_only argument_depth b.at end c.first) c.second

    deactivation_only : deactivation_in s at end ≡ got r next → ContentsSpelt deactivation r (slice at end s)
    unfolding deactivation_in
    deactivation_only e =
        let a = both_found (code_at procedure_code argument_depth s at end) _ e in
        let b = both_found (code_at service_code argument_depth s a.at end) _ a.second in
        let service = given_only deactivation a.at end b.first in
        last_only deactivation at a.at b.at b.at end (code_only procedure_code argument_depth at end a.first) service
        (to_none deactivation b.at end (λ z. omega arith) service.by service.inside) b.second

    interrogation_only : interrogation_in s at end ≡ got r next → ContentsSpelt interrogation r (slice at end s)
    unfolding interrogation_in
    interrogation_only e =
        let a = both_found (code_at procedure_code argument_depth s at end) _ e in
        let b = both_found (service_at argument_depth s a.at end) _ a.second in
        let procedure = code_only procedure_code argument_depth at end a.first in
        let service = service_only argument_depth a.at end procedure.by procedure.inside b.first in
        last_only interrogation at a.at b.at b.at end procedure service
        (to_none interrogation b.at end (λ z. omega arith) service.by service.inside) b.second

    -- what is read as the contents of an argument spells them, and the operation is one of the three
    pub contents_only :
        (operation : ℕ) → contents_in operation s at end ≡ got r next →
        Known operation × ContentsSpelt operation r (slice at end s)
    unfolding contents_in
    contents_only operation =
        let P : Got Request → Type 0 = λ g. g ≡ got r next → Known operation × ContentsSpelt operation r (slice at end s) in
        pick_ind P (eqb operation activation)
        (λ t h. let e = eqb-true operation activation t in (activation_is e, rw e (activation_only h))) (λ _.
        pick_ind P (eqb operation deactivation)
        (λ t h. let e = eqb-true operation deactivation t in (deactivation_is e, rw e (deactivation_only h))) (λ _ h.
        let k = test_found (eqb operation interrogation) (interrogation_in s at end) h in
        let e = eqb-true operation interrogation k.0 in
        (interrogation_is e, rw e (interrogation_only k.1))))
