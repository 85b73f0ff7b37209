-- What is heard of a component by how it is spelt, its outer tag alone: the first three rows of document 01's table ("Replies, in the
-- order checked"). Lengths may be needlessly long. Assumes nothing.
use Prim.Native.Nat.{ℕ, suc, ◌%◌, ◌<◌}
use mathlib.Core.Path.{◌≡◌, refl, sym, ◌∙◌}
use mathlib.Core.Bool.{true, false, false≢true}
use mathlib.Core.List.{List, [], ◌∷◌, ◌++◌}
use native.Mathlib.Nat.{zero-add}
use native.Mathlib.Omega.{arith}
use lib.ListN.{length, get_or, length-append}
use lib.Seq.{slice, take-length}
use lib.Dec.{eqb}
use borrow.Author.Tests.{eq-eqb, ne_eqb, eqb-true, eqb-false}
use Rattle.laws.specs.Stands.{Stands}
use Rattle.laws.proofs.Picks.{by_bool}
use Rattle.laws.proofs.Stands.{stands_whole, stands_left}
use Rattle.octets.specs.Head.{head_at}
use Rattle.octets.specs.Spelt.{Spells}
use Rattle.octets.specs.declared.head.Head.{Head}
use Rattle.std.specs.Prelude.{Option, Some, None}
use Rattle.octets.specs.Head.{is_head}
use Rattle.octets.proofs.Spellings.{head_only, spells_back}
use Rattle.octets.proofs.Bads.{head_past, head_ones}
use Rattle.octets.proofs.Firsts.{spells_first}
use Rattle.skip.specs.Depth.{component_depth}
use Rattle.requests.specs.Heard.{reply_tag, heard_in, heard}
use Rattle.requests.specs.declared.heard.Heard.TheVariants.{NotOne, Silent, OtherTag}
use Rattle.requests.proofs.Tags.{no_reply_tag}

-- ---- "not one element filling the input (empty input too)"

module _ (s : List ℕ) where
  -- no element
  pub heard_bad : head_at component_depth s 0 (length s) ≡ None → heard s ≡ NotOne
  unfolding heard
  heard_bad e = rw e

  -- one that does not fill them
  heard_part :
      {tag start stop next : ℕ} → head_at component_depth s 0 (length s) ≡ is_head tag start stop next →
      (next ≡ length s → ⊥) → heard s ≡ NotOne
  unfolding heard
  heard_part {next = next} e other = rw (e, ne_eqb next (length s) other)

  -- one that does
  heard_filled :
      {tag start stop next : ℕ} → head_at component_depth s 0 (length s) ≡ is_head tag start stop next → next ≡ length s →
      heard s ≡ heard_in s (record { tag = tag; start = start; stop = stop })
  unfolding heard
  heard_filled {next = next} e all = rw (e, eq-eqb next (length s) all)

pub heard_empty : heard [] ≡ NotOne
heard_empty = heard_bad [] (head_past component_depth [] 0 0 (omega arith))

-- octets after an element
pub heard_more :
    {tag : ℕ} {contents ws : List ℕ} → Spells tag contents ws → (o : ℕ) (os : List ℕ) → heard (ws ++ (o ∷ os)) ≡ NotOne
heard_more {tag} {contents} {ws} sp o os =
    let s : List ℕ = ws ++ (o ∷ os) in
    let st : Stands s 0 ws = stands_left s 0 ws (o ∷ os) (stands_whole s) in
    let long = length-append ws (o ∷ os) in
    by_bool (heard s ≡ NotOne) (eqb (tag % 32) 31)
    (λ e. heard_bad s (head_ones component_depth s 0 (length s) (rw (spells_first s 0 sp st) (eqb-true (tag % 32) 31 e))))
    (λ e.
    heard_part s
    (spells_back component_depth s 0 (length s) sp (λ z. omega arith) (eqb-false (tag % 32) 31 e) st (omega arith) (omega arith))
    (λ all. omega arith))

-- whatever is not one element
pub heard_not_one :
    (s : List ℕ) → ((i : ℕ) → get_or s i 0 < 256) →
    ((tag : ℕ) (contents : List ℕ) → (tag % 32 ≡ 31 → ⊥) → Spells tag contents s → ⊥) → heard s ≡ NotOne
heard_not_one s small none = by_head (head_at component_depth s 0 (length s)) refl
  where
    whole : slice 0 (length s) s ≡ s
    whole = take-length s

    by_head : (x : Option Head) → head_at component_depth s 0 (length s) ≡ x → heard s ≡ NotOne
    by_head (Some h) e =
        let found = head_only s small component_depth 0 (length s) e in
        by_bool (heard s ≡ NotOne) (eqb h.next (length s))
        (λ all.
        absurd (none h.tag (slice h.start h.stop s) found.low
        (rw (eqb-true h.next (length s) all, whole) at found.spells)))
        (λ other. heard_part s e (eqb-false h.next (length s) other))
    by_head None e = heard_bad s e

-- ---- the outer tag

module _ {tag : ℕ} {contents s : List ℕ} (sp : Spells tag contents s) where
  -- what is heard of one element is heard in it
  pub heard_within :
      (tag % 32 ≡ 31 → ⊥) →
      heard s ≡ heard_in s (record { tag = tag; start = suc (suc sp.k); stop = length s })
  heard_within low =
      let e = spells_back component_depth s 0 (length s) sp (λ z. omega arith) low (stands_whole s) (omega arith) (omega arith) in
      heard_filled s (rw (zero-add (length s), zero-add (suc (suc sp.k))) at e) refl

  -- "outer tag A2, A3, A4": whatever it holds
  pub heard_silent : reply_tag tag ≡ true → heard s ≡ Silent
  heard_silent reply =
      heard_within
      (λ ones.
      false≢true
      (sym (no_reply_tag tag (λ e. omega arith) (λ e. omega arith) (λ e. omega arith)) ∙ reply))
      ∙ rw reply

  -- "another outer tag but A1"
  pub heard_other : (tag % 32 ≡ 31 → ⊥) → reply_tag tag ≡ false → (tag ≡ 0xA1 → ⊥) → heard s ≡ OtherTag
  heard_other low reply other = heard_within low ∙ rw (reply, ne_eqb tag 0xA1 other)
