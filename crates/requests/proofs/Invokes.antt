-- What is heard of an invoke component by how it is spelt: its identifier and its operation, or that one cannot be read (document 01,
-- "Replies, in the order checked"). Lengths may be needlessly long. Assumes nothing.
use Prim.Native.Nat.{ℕ, suc, ◌+◌, ◌≤◌, ◌<◌}
use mathlib.Core.Path.{◌≡◌, refl, sym, ap, ◌∙◌}
use mathlib.Core.List.{List, [], ◌++◌}
use native.Mathlib.Nat.{zero-add}
use native.Mathlib.Omega.{arith}
use lib.IntN.{ℤ}
use lib.ListN.{length, get_or, length-append}
use lib.Seq.{slice}
use Rattle.laws.specs.Stands.{Stands}
use Rattle.laws.proofs.Stands.{stands_whole, stands_left, stands_right, slice_stands}
use Rattle.octets.specs.Element.{element}
use Rattle.octets.specs.Spelt.{Spells}
use Rattle.octets.proofs.Slices.{slice_join}
use Rattle.octets.proofs.Spellings.{spells_length, spells_contents, element_spells}
use Rattle.octets.proofs.Firsts.{spells_first}
use Rattle.laws.specs.Got.{Got, got, wrong}
use Rattle.values.specs.Ident.{ident_tag, ident_at}
use Rattle.values.proofs.Idents.{ident_range, ident_within, ident_spells_back}
use Rattle.values.proofs.Spellings.{ident_only}
use Rattle.skip.specs.Depth.{inside_depth}
use Rattle.requests.specs.Heard.{local, reply_tag, operation_at, identifier_at, heard}
use Rattle.requests.specs.Spelt.{SignedSpelt, NoneFirst}
use Rattle.requests.specs.declared.heard.Heard.TheVariants.{NoIdentifier, NoOperation, Asks}
use Rattle.requests.proofs.Heards.{heard_within}

-- ---- a value that stands first, or none

-- one that is spelt is read
signed_back :
    (z : ℤ) (ws s : List ℕ) (at end : ℕ) → SignedSpelt z ws → Stands s at ws → at + length ws ≤ end → end ≤ length s →
    ident_at inside_depth s at end ≡ got z (at + length ws)
signed_back z ws s at end v st fit in-s =
    ident_spells_back inside_depth z s at end v.spells (λ e. omega arith) v.range st fit in-s

-- what is read as one spells it
pub signed_only :
    (s : List ℕ) → ((i : ℕ) → get_or s i 0 < 256) → (at end : ℕ) {z : ℤ} {next : ℕ} →
    ident_at inside_depth s at end ≡ got z next → SignedSpelt z (slice at next s)
signed_only s small at end e = record {
  range = rw e at (ident_range inside_depth s at end);
  spells = ident_only s small inside_depth at end e;
}

-- where none stands first, none is read
none_read :
    (s : List ℕ) → ((i : ℕ) → get_or s i 0 < 256) → (at : ℕ) (ws : List ℕ) → NoneFirst ws → Stands s at ws →
    at + length ws ≤ length s → ident_at inside_depth s at (at + length ws) ≡ wrong
none_read s small at ws none st in-s = by_ident (ident_at inside_depth s at end) refl
  where
    end : ℕ
    end = at + length ws

    by_ident : (x : Got ℤ) → ident_at inside_depth s at end ≡ x → x ≡ wrong
    by_ident (got z next) e =
        let lies = ident_within inside_depth s at end e in
        let parts : ws ≡ slice at next s ++ slice next end s =
        sym (slice_stands s at ws st in-s) ∙ sym (slice_join at next end s (omega (arith, lies.0)) lies.1) in
        absurd (none z (slice at next s) (slice next end s) parts (signed_only s small at end e))
    by_ident wrong e = refl

-- an element of another tag
pub other_first :
    {tag : ℕ} {contents ws : List ℕ} → Spells tag contents ws → (tag ≡ ident_tag → ⊥) → (rest : List ℕ) → NoneFirst (ws ++ rest)
other_first {tag} {contents} {ws} sp other rest z first after same v =
    let s : List ℕ = ws ++ rest in
    let here : get_or s 0 0 ≡ tag = spells_first s 0 sp (stands_left s 0 ws rest (stands_whole s)) in
    let there : get_or (first ++ after) 0 0 ≡ ident_tag =
    spells_first (first ++ after) 0 v.spells (stands_left (first ++ after) 0 first after (stands_whole (first ++ after))) in
    other (sym here ∙ ap (λ (l : List ℕ). get_or l 0 0) same ∙ there)

-- ---- what an invoke component says

-- where its contents stand
pub record Holds (contents s : List ℕ) : Type 0 where
  pub start : ℕ
  pub says : heard s ≡ identifier_at s start (length s)
  pub stands : Stands s start contents
  pub ends : start + length contents ≡ length s

pub holds : {contents s : List ℕ} → Spells 0xA1 contents s → Holds contents s
unfolding reply_tag
holds {contents} {s} sp = record {
  start = suc (suc sp.k);
  says = heard_within sp (λ e. omega arith);
  stands = rw (zero-add (suc (suc sp.k))) at (spells_contents s 0 sp (stands_whole s));
  ends = omega (arith, spells_length sp);
}

-- "identifier unreadable"
pub heard_no_identifier :
    {contents s : List ℕ} → ((i : ℕ) → get_or s i 0 < 256) → Spells 0xA1 contents s → NoneFirst contents →
    heard s ≡ NoIdentifier
unfolding identifier_at
heard_no_identifier {contents} {s} small sp none =
    let i = holds sp in
    i.says ∙ rw (rw i.ends at (none_read s small i.start contents none i.stands (omega (arith, i.ends))))

-- NULL is none
pub heard_null :
    (rest : List ℕ) {s : List ℕ} → ((i : ℕ) → get_or s i 0 < 256) → Spells 0xA1 (element 0x05 [] ++ rest) s →
    heard s ≡ NoIdentifier
heard_null rest small sp =
    heard_no_identifier small sp (other_first (element_spells 0x05 [] (omega arith)) (λ e. omega arith) rest)

module _ (identifier : ℤ) (first rest s : List ℕ) (v : SignedSpelt identifier first) (i : Holds (first ++ rest) s) where
  -- a readable identifier, and what follows it
  after_identifier : heard s ≡ operation_at identifier s (i.start + length first) (length s)
  unfolding identifier_at
  after_identifier =
      i.says
      ∙ rw (signed_back identifier first s i.start (length s) v (stands_left s i.start first rest i.stands)
      (omega (arith, i.ends, length-append first rest)) (omega arith))

  follows : Stands s (i.start + length first) rest
  follows = stands_right s i.start first rest i.stands

  follows_ends : i.start + length first + length rest ≡ length s
  follows_ends = omega (arith, i.ends, length-append first rest)

-- "operation unreadable (a linked identifier too)"
pub heard_no_operation :
    (identifier : ℤ) (first rest : List ℕ) {s : List ℕ} → ((i : ℕ) → get_or s i 0 < 256) → Spells 0xA1 (first ++ rest) s →
    SignedSpelt identifier first → NoneFirst rest → heard s ≡ NoOperation identifier
unfolding operation_at
heard_no_operation identifier first rest {s} small sp v none =
    let i = holds sp in
    let ends = follows_ends identifier first rest s v i in
    after_identifier identifier first rest s v i
    ∙ rw (rw ends at
    (none_read s small (i.start + length first) rest none (follows identifier first rest s v i) (omega (arith, ends))))

-- a linked identifier, tag 80, or any other element where the operation should stand
pub heard_linked :
    (identifier : ℤ) (first second rest : List ℕ) {tag : ℕ} {contents s : List ℕ} → ((i : ℕ) → get_or s i 0 < 256) →
    Spells 0xA1 (first ++ (second ++ rest)) s → SignedSpelt identifier first → Spells tag contents second →
    (tag ≡ ident_tag → ⊥) → heard s ≡ NoOperation identifier
heard_linked identifier first second rest small sp v linked other =
    heard_no_operation identifier first (second ++ rest) small sp v (other_first linked other rest)

-- identifier and operation: they are asked, and what follows is the argument
pub heard_asks :
    (identifier value : ℤ) (first second rest s : List ℕ) → SignedSpelt identifier first → SignedSpelt value second →
    (i : Holds (first ++ (second ++ rest)) s) →
    heard s ≡ Asks identifier (local value) (i.start + length first + length second) (length s)
unfolding operation_at
heard_asks identifier value first second rest s v w i =
    let at : ℕ = i.start + length first in
    after_identifier identifier first (second ++ rest) s v i
    ∙ rw (signed_back value second s at (length s) w
    (stands_left s at second rest (follows identifier first (second ++ rest) s v i))
    (omega (arith, follows_ends identifier first (second ++ rest) s v i, length-append second rest)) (omega arith))
