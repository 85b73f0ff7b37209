-- Nothing else is accepted as a request than what spells it: what was heard, and the argument that was read. With `request_spelt_back`,
-- reading is proved both ways. Assumes nothing.
use Prim.Native.Nat.{ℕ, ◌<◌, ◌≤◌}
use mathlib.Core.Path.{◌≡◌, refl, sym, ap, ◌∙◌, subst}
use mathlib.Core.List.{List, [], ◌∷◌, ◌++◌}
use native.Mathlib.Omega.{arith}
use lib.IntN.{ℤ, pos, negsuc}
use lib.ListN.{length, get_or}
use lib.Seq.{slice, take-length}
use lib.Dec.{eqb}
use borrow.Author.Tests.{eqb-true}
use Rattle.laws.specs.Tests.{all}
use Rattle.laws.specs.Got.{Got, got, or_else}
use Rattle.laws.proofs.Picks.{pick_ind}
use Rattle.laws.proofs.Tests.{both_hold}
use Rattle.octets.specs.Head.{head_at}
use Rattle.octets.specs.Spelt.{Spells}
use Rattle.octets.specs.Part.{Part, part_at, last_at, tag_is}
use Rattle.octets.proofs.Slices.{slice_join}
use Rattle.octets.proofs.Spellings.{head_only}
use Rattle.values.specs.Ident.{ident_at}
use Rattle.values.proofs.Idents.{ident_within}
use Rattle.skip.specs.Depth.{inside_depth, component_depth}
use Rattle.requests.specs.Heard.{reply_tag, local, operation_at, identifier_at, heard_in, heard}
use Rattle.requests.specs.Request.{argument_in, local_at, argument_at}
use Rattle.requests.specs.Spelt.{SignedSpelt, ArgumentSpelt, RequestSpelt}
use Rattle.requests.specs.declared.heard.Heard.{Heard}
use Rattle.requests.specs.declared.heard.Heard.TheVariants.{NotOne, Silent, OtherTag, NoIdentifier, NoOperation, Asks}
use Rattle.requests.specs.declared.heard.Operation.{Operation}
use Rattle.requests.specs.declared.request.Request.{Request}
use Rattle.requests.proofs.Founds.{same_found, none_found, both_found, test_found, part_from}
use Rattle.requests.proofs.Ranges.{or_else_lem}
use Rattle.requests.proofs.Invokes.{signed_only}
use Rattle.requests.proofs.ContentsOnly.{contents_only}

-- ---- what was heard

-- P holds of what is asked, if anything is
abbrev WhenAsks : (ℤ → Operation → ℕ → ℕ → Type 0) → Heard → Type 0
WhenAsks P NotOne = Unit {0}
WhenAsks P Silent = Unit {0}
WhenAsks P OtherTag = Unit {0}
WhenAsks P NoIdentifier = Unit {0}
WhenAsks P (NoOperation identifier) = Unit {0}
WhenAsks P (Asks identifier operation at end) = P identifier operation at end

when_asks :
    {P Q : ℤ → Operation → ℕ → ℕ → Type 0} →
    ((identifier : ℤ) (operation : Operation) (at end : ℕ) → P identifier operation at end → Q identifier operation at end) →
    (h : Heard) → WhenAsks P h → WhenAsks Q h
when_asks f NotOne p = tt
when_asks f Silent p = tt
when_asks f OtherTag p = tt
when_asks f NoIdentifier p = tt
when_asks f (NoOperation identifier) p = tt
when_asks f (Asks identifier operation at end) p = f identifier operation at end p

-- an identifier from `start` up to `middle`, an operation from there up to `at`, and then octets up to `stop`
record AsksFrom (s : List ℕ) (start stop : ℕ) (identifier : ℤ) (operation : Operation) (at end : ℕ) : Type 0 where
  middle : ℕ
  identifiers : SignedSpelt identifier (slice start middle s)
  operations : SignedSpelt operation.value (slice middle at s)
  first : start ≤ middle
  second : middle ≤ at
  third : at ≤ stop
  ends : stop ≡ end

-- a component that asks: identifier, operation, and from `at` on octets that should be its argument
pub record AsksSpelt (s : List ℕ) (identifier : ℤ) (operation : Operation) (at end : ℕ) : Type 0 where
  pub first : List ℕ
  pub second : List ℕ
  pub identifiers : SignedSpelt identifier first
  pub operations : SignedSpelt operation.value second
  pub spells : Spells 0xA1 (first ++ (second ++ slice at end s)) s

module _ (s : List ℕ) (small : (i : ℕ) → get_or s i 0 < 256) where
  identifier_only : (start stop : ℕ) → WhenAsks (AsksFrom s start stop) (identifier_at s start stop)
  unfolding identifier_at operation_at
  identifier_only start stop =
      let P : Heard → Type 0 = WhenAsks (AsksFrom s start stop) in
      or_else_lem P NoIdentifier (ident_at inside_depth s start stop) _ tt (λ identifier middle e.
      or_else_lem P (NoOperation identifier) (ident_at inside_depth s middle stop) _ tt (λ value at f.
      let lies = ident_within inside_depth s start stop e in
      let follows = ident_within inside_depth s middle stop f in
      record {
        middle = middle;
        identifiers = signed_only s small start stop e;
        operations = signed_only s small middle stop f;
        first = omega (arith, lies.0);
        second = omega (arith, follows.0);
        third = follows.1;
        ends = refl;
      }))

  -- they are the whole contents of the component
  asks_whole :
      (start stop : ℕ) → Spells 0xA1 (slice start stop s) s → (identifier : ℤ) (operation : Operation) (at end : ℕ) →
      AsksFrom s start stop identifier operation at end → AsksSpelt s identifier operation at end
  asks_whole start stop sp identifier operation at end a =
      let m : ℕ = a.middle in
      let parts : slice start stop s ≡ slice start m s ++ (slice m at s ++ slice at stop s) =
      sym (ap (λ (ws : List ℕ). slice start m s ++ ws) (slice_join m at stop s a.second a.third)
      ∙ slice_join start m stop s a.first (omega (arith, a.second, a.third))) in
      record {
        first = slice start m s;
        second = slice m at s;
        identifiers = a.identifiers;
        operations = a.operations;
        spells = rw (← a.ends) (rw parts at sp);
      }

  component_only :
      (component : Part) (next : ℕ) → part_at component_depth s 0 (length s) ≡ got component next → next ≡ length s →
      WhenAsks (AsksSpelt s) (heard_in s component)
  component_only component next e all =
      let P : Heard → Type 0 = WhenAsks (AsksSpelt s) in
      let h = head_only s small component_depth 0 (length s) (part_from (head_at component_depth s 0 (length s)) e) in
      let whole : slice 0 next s ≡ s = rw all (take-length s) in
      pick_ind P (reply_tag component.tag) (λ _. tt) (λ _.
      pick_ind P (eqb component.tag 0xA1)
      (λ t.
      when_asks
      (asks_whole component.start component.stop (rw (eqb-true component.tag 0xA1 t, whole) at h.spells))
      (identifier_at s component.start component.stop) (identifier_only component.start component.stop))
      (λ _. tt))

  heard_if : WhenAsks (AsksSpelt s) (heard s)
  unfolding heard
  heard_if =
      or_else_lem (WhenAsks (AsksSpelt s)) NotOne (part_at component_depth s 0 (length s)) _ tt (λ component next e.
      pick_ind (λ (g : Got Heard). WhenAsks (AsksSpelt s) (or_else NotOne g)) (eqb next (length s))
      (λ all. component_only component next e (eqb-true next (length s) all)) (λ _. tt))

  -- what is heard to ask is spelt so
  pub heard_only :
      {identifier : ℤ} {operation : Operation} {at end : ℕ} → heard s ≡ Asks identifier operation at end →
      AsksSpelt s identifier operation at end
  heard_only e = rw e at heard_if

  -- ---- the argument

  -- an element of this tag that is the last
  last_only :
      (tag at end : ℕ) {part : Part} {next : ℕ} → last_at (tag_is tag) inside_depth s at end ≡ got part next →
      Spells tag (slice part.start part.stop s) (slice at end s)
  last_only tag at end e =
      let p = both_found (part_at inside_depth s at end) _ e in
      let t = test_found (all (eqb p.at end ∷ eqb p.found.tag tag ∷ [])) (got p.found p.at) p.second in
      let tests = both_hold (eqb p.at end) (eqb p.found.tag tag) t.0 in
      let h = head_only s small inside_depth at end (part_from (head_at inside_depth s at end) p.first) in
      subst (λ (x : Part). Spells tag (slice x.start x.stop s) (slice at end s)) (same_found t.1).0
      (rw (eqb-true p.at end tests.0, eqb-true p.found.tag tag tests.1) at h.spells)

  argument_only :
      (operation at end : ℕ) {r : Request} {next : ℕ} → argument_in operation s at end ≡ got r next →
      ArgumentSpelt operation r (slice at end s)
  argument_only operation at end e =
      let a = both_found (last_at (tag_is 0x30) inside_depth s at end) _ e in
      let c = contents_only s small a.found.start a.found.stop operation a.second in
      record {
        known = c.0;
        contents = slice a.found.start a.found.stop s;
        inside = c.1;
        spells = last_only 0x30 at end a.first;
      }

-- ---- the whole

-- an operation that is a number of its own, and octets that spell the request
pub record Accepted (identifier : ℤ) (operation : Operation) (r : Request) (s : List ℕ) : Type 0 where
  pub code : ℕ
  pub is : operation ≡ local (pos code)
  pub spelt : RequestSpelt identifier code r s

accepted :
    (s : List ℕ) → ((i : ℕ) → get_or s i 0 < 256) → (identifier value : ℤ) (at end : ℕ) {r : Request} {next : ℕ} →
    AsksSpelt s identifier (local value) at end → local_at s at end value ≡ got r next → Accepted identifier (local value) r s
accepted s small identifier (pos code) at end a e = record {
  code = code;
  is = refl;
  spelt = record {
    first = a.first;
    second = a.second;
    third = slice at end s;
    identifiers = a.identifiers;
    operations = a.operations;
    arguments = argument_only s small code at end e;
    spells = a.spells;
  };
}
accepted s small identifier (negsuc n) at end a e = absurd (none_found e)

-- what is accepted as a request spells it: nothing else is
pub request_only :
    (s : List ℕ) → ((i : ℕ) → get_or s i 0 < 256) →
    {identifier : ℤ} {operation : Operation} {at end : ℕ} {r : Request} {next : ℕ} →
    heard s ≡ Asks identifier operation at end → argument_at operation s at end ≡ got r next →
    Accepted identifier operation r s
unfolding argument_at
request_only s small {identifier} {operation} {at} {end} e f =
    accepted s small identifier operation.value at end (heard_only s small e) f
