-- Whatever spells a request is heard with its identifier and its operation, and its argument is read as it; what the end writes does.
-- Assumes nothing.
use Prim.Native.Nat.{ℕ, suc, ◌+◌, ◌≤◌, ◌<◌}
use mathlib.Core.Path.{◌≡◌, sym, ap, ◌∙◌}
use mathlib.Core.Bool.{true}
use mathlib.Core.List.{List, [], ◌++◌, append-nil}
use native.Mathlib.Omega.{arith}
use lib.IntN.{ℤ, pos}
use lib.Signed.{mag}
use lib.ListN.{length, length-append}
use Rattle.laws.specs.Got.{got}
use Rattle.laws.specs.Stands.{Stands}
use Rattle.laws.proofs.Stands.{stands_left, stands_right}
use Rattle.octets.specs.Element.{element}
use Rattle.octets.specs.Spelt.{Spells}
use Rattle.octets.proofs.Elements.{length_element, length_most_lem}
use Rattle.octets.proofs.Spellings.{spells_length, spells_contents, element_spells}
use Rattle.values.specs.Ident.{ident_octets}
use Rattle.values.proofs.Idents.{ident_most_lem}
use Rattle.skip.specs.Spelt.{none}
use Rattle.requests.specs.Heard.{local, heard}
use Rattle.requests.specs.Request.{contents_in, argument_at}
use Rattle.requests.specs.Sent.{sendable, contents_octets, request_octets, tidy_request}
use Rattle.requests.specs.Invoke.{invoke_inside, invoke_octets}
use Rattle.requests.specs.Spelt.{SignedSpelt, Known, KnownSpelt, ContentsSpelt, RequestSpelt}
use Rattle.requests.specs.declared.heard.Heard.TheVariants.{Asks}
use Rattle.requests.specs.declared.request.Request.{Request}
use Rattle.requests.proofs.Goods.{known_most, readable}
use Rattle.requests.proofs.Sizes.{inside_most}
use Rattle.requests.proofs.Arguments.{contents_then, argument_back}
use Rattle.requests.proofs.Privates.{privates_back}
use Rattle.requests.proofs.Invokes.{Holds, holds, heard_asks}
use Rattle.requests.proofs.Written.{signed_spells, contents_spells}

-- ---- components that ask, whatever the contents of their argument

-- octets that are heard as an operation with its identifier, and whose argument has these contents
pub record Invoked (identifier : ℤ) (operation : ℕ) (contents s : List ℕ) : Type 0 where
  pub at : ℕ
  pub start : ℕ
  pub hears : heard s ≡ Asks identifier (local (pos operation)) at (length s)
  pub asks : argument_at (local (pos operation)) s at (length s) ≡ contents_in operation s start (length s)
  pub stands : Stands s start contents
  pub fits : start + length contents ≡ length s

-- whatever spells one
pub invoked_spelt :
    (identifier : ℤ) (operation : ℕ) (first second argument : List ℕ) {contents s : List ℕ} → SignedSpelt identifier first →
    SignedSpelt (pos operation) second → Spells 0x30 contents argument → Spells 0xA1 (first ++ (second ++ argument)) s →
    Invoked identifier operation contents s
invoked_spelt identifier operation first second argument {contents} {s} v w arg sp =
    let i : Holds (first ++ (second ++ argument)) s = holds sp in
    let at : ℕ = i.start + length first + length second in
    let after = stands_right s i.start first (second ++ argument) i.stands in
    let here : Stands s at argument = stands_right s (i.start + length first) second argument after in
    let ends : at + length argument ≡ length s =
    omega (arith, i.ends, length-append first (second ++ argument), length-append second argument) in
    record {
      at = at;
      start = at + suc (suc arg.k);
      hears = heard_asks identifier (pos operation) first second argument s v w i;
      asks = argument_back operation s at (length s) arg here ends (omega arith);
      stands = spells_contents s at arg here;
      fits = omega (arith, ends, spells_length arg);
    }

-- what is written as one
pub invoked :
    (identifier : ℤ) (operation : ℕ) (contents : List ℕ) → mag identifier < 32768 → operation < 32768 →
    length (invoke_inside identifier operation contents) < 65536 →
    Invoked identifier operation contents (invoke_octets identifier operation contents)
invoked identifier operation contents range known small =
    let a : List ℕ = ident_octets identifier in
    let b : List ℕ = ident_octets (pos operation) in
    let c : List ℕ = element 0x30 contents in
    let few : length contents < 65536 = omega (arith, length-append a (b ++ c), length-append b c, length_element 0x30 contents) in
    invoked_spelt identifier operation a b c (signed_spells identifier range) (signed_spells (pos operation) known)
    (element_spells 0x30 contents few) (element_spells 0xA1 (a ++ (b ++ c)) small)

-- what stands in it is at most 12 octets more than those contents: a head and two numbers of at most four octets each
pub invoke_most :
    (identifier : ℤ) (operation : ℕ) (contents : List ℕ) → mag identifier < 32768 → operation < 32768 →
    length (invoke_inside identifier operation contents) ≤ length contents + 12
invoke_most identifier operation contents range known =
    omega (
      arith,
      length-append (ident_octets identifier) (ident_octets (pos operation) ++ element 0x30 contents),
      length-append (ident_octets (pos operation)) (element 0x30 contents),
      ident_most_lem identifier range,
      ident_most_lem (pos operation) known,
      length_most_lem 0x30 contents,
    )

-- ---- requests

-- octets that are heard as an operation with its identifier, and whose argument is read as this very request
pub record ReadAs (identifier : ℤ) (operation : ℕ) (r : Request) (s : List ℕ) : Type 0 where
  pub at : ℕ
  pub hears : heard s ≡ Asks identifier (local (pos operation)) at (length s)
  pub asks : argument_at (local (pos operation)) s at (length s) ≡ got r (length s)

-- where the contents of the argument are read as a request, the component is
pub invoked_reads :
    {identifier : ℤ} {operation : ℕ} {contents s : List ℕ} {r : Request} (i : Invoked identifier operation contents s) →
    contents_in operation s i.start (length s) ≡ got r (length s) → ReadAs identifier operation r s
invoked_reads i e = record { at = i.at; hears = i.hears; asks = i.asks ∙ e }

-- and whatever spells those contents is
pub contents_reads :
    {identifier : ℤ} {operation : ℕ} {contents s : List ℕ} {r : Request} → Invoked identifier operation contents s →
    Known operation → ContentsSpelt operation r contents → ReadAs identifier operation r s
contents_reads {identifier} {operation} {contents} {s} {r} i known c =
    let st : Stands s i.start (c.first ++ c.rest) = rw c.is at i.stands in
    let at : ℕ = i.start + length c.first in
    let ends : at + length c.rest ≡ length s =
    omega (arith, i.fits, ap length c.is, length-append c.first c.rest) in
    invoked_reads i
    (contents_then operation r s i.start (length s) known c.knowns (stands_left s i.start c.first c.rest st)
    (omega (arith, ends)) (omega arith)
    ∙ rw (privates_back s c.rest at (length s) c.privates (stands_right s i.start c.first c.rest st) ends (omega arith)))

-- known elements alone are such contents
pub known_alone : {operation : ℕ} {r : Request} {ws : List ℕ} → KnownSpelt operation r ws → ContentsSpelt operation r ws
known_alone {ws = ws} k = record { first = ws; rest = []; is = sym (append-nil ws); knowns = k; privates = none }

-- whatever spells a request is read as it
pub request_spelt_back :
    (identifier : ℤ) (operation : ℕ) (r : Request) (s : List ℕ) → RequestSpelt identifier operation r s →
    ReadAs identifier operation r s
request_spelt_back identifier operation r s q =
    let a = q.arguments in
    contents_reads
    (invoked_spelt identifier operation q.first q.second q.third q.identifiers q.operations a.spells q.spells)
    a.known a.inside

-- ---- requests as the end sends them

-- the request that a component reads back as, with zeros where the record carries no meaning
abbrev pub ReadsBack : ℤ → ℕ → Request → List ℕ → Type 0
ReadsBack identifier operation r s = ReadAs identifier operation (tidy_request operation r) s

-- a request that was written is heard as it, and its argument reads back as it
pub request_back :
    (identifier : ℤ) (operation : ℕ) (r : Request) → mag identifier < 32768 → sendable operation r ≡ true →
    ReadsBack identifier operation r (request_octets identifier operation r)
unfolding request_octets
request_back identifier operation r range h =
    let g = readable operation r h in
    let size = inside_most identifier operation r range h in
    contents_reads (invoked identifier operation (contents_octets operation r) range (omega (arith, known_most g.known)) (omega arith))
    g.known (known_alone (contents_spells operation r g))
