-- What is skipped as an element is exactly what spells one that goes no deeper than is allowed. Assumes nothing.
use Prim.Native.Nat.{ℕ, zero, suc, ◌+◌, ◌-◌, ◌/◌, ◌%◌, ◌<◌, ◌≤◌}
use mathlib.Core.Path.{◌≡◌, refl, sym, ◌∙◌}
use mathlib.Core.Bool.{true}
use mathlib.Core.List.{List, [], ◌∷◌}
use native.Mathlib.Omega.{arith}
use lib.ListN.{length, get_or}
use lib.Seq.{slice}
use lib.Dec.{eqb}
use borrow.Author.Tests.{ne_eqb, eqb-false}
use Rattle.std.specs.Prelude.{Option, Some, None}
use Rattle.laws.specs.Tests.{any}
use Rattle.laws.specs.Stands.{Stands}
use Rattle.laws.proofs.Picks.{pick_ind, pick_last, by_bool}
use Rattle.octets.specs.Head.{head_at}
use Rattle.octets.specs.declared.head.Head.{Head}
use Rattle.octets.proofs.Spellings.{head_only, spells_length, spells_back, spells_contents}
use Rattle.skip.specs.Skip.{past_element, skip_element}
use Rattle.skip.specs.Spelt.{Run, SkipSpelt, Skippable}
use Rattle.skip.specs.inner.Skip.{skip_contents}
use Rattle.skip.proofs.Skips.{further, element_step}
use Rattle.skip.proofs.Runs.{run_fills, run_only}
use Rattle.skip.proofs.Depths.{skip_none}

-- ---- what spells such elements is skipped

-- an element of which the contents are good where it is constructed
spelt_back :
    (inside : List ℕ → Type 0) (depth : ℕ) (ws s : List ℕ) (at end : ℕ) → SkipSpelt inside ws →
    ((cs : List ℕ) (start : ℕ) → inside cs → Stands s start cs → start + length cs ≤ length s →
    skip_contents depth s start (start + length cs) ≡ true) →
    Stands s at ws → at + length ws ≤ end → end ≤ length s →
    skip_element (suc depth) s at end ≡ Some (at + length ws)
spelt_back inside depth ws s at end k good st fit in-s =
    let sp = k.spells in
    let start : ℕ = at + suc (suc sp.k) in
    let stop : start + length k.contents ≡ at + length ws = omega (arith, spells_length sp) in
    let less : suc depth - 1 ≡ depth = omega arith in
    element_step (suc depth) s at end
    ∙ rw (spells_back (suc depth) s at end sp (λ e. omega arith) k.low st fit in-s, less)
    (by_bool _ (eqb (k.tag / 32 % 2) 0) (λ e. rw e) (λ e.
    rw (
      e,
      rw stop at
          (good k.contents start (k.holds (omega (arith, eqb-false (k.tag / 32 % 2) 0 e))) (spells_contents s at sp st)
          (omega arith)),
    )))

pub skip_back :
    (depth : ℕ) (ws s : List ℕ) (at end : ℕ) → Skippable depth ws → Stands s at ws → at + length ws ≤ end → end ≤ length s →
    skip_element depth s at end ≡ Some (at + length ws)
unfolding skip_contents
skip_back zero ws s at end k st fit in-s = absurd k
skip_back (suc depth) ws s at end k st fit in-s =
    spelt_back (Run (Skippable depth)) depth ws s at end k
    (λ cs start run here room.
    run_fills (Skippable depth) (λ a. skip_element depth s a (start + length cs)) s (start + length cs)
    (λ a. further depth s a (start + length cs))
    (λ vs a p stands fits. skip_back depth vs s a (start + length cs) p stands fits room) run start here refl)
    st fit in-s

-- it has an octet at least
pub skippable_some : (depth : ℕ) (ws : List ℕ) → Skippable depth ws → 0 < length ws
skippable_some zero ws k = absurd k
skippable_some (suc depth) ws k = omega (arith, spells_length k.spells)

-- ---- and nothing else

-- no place after a wrong element
pub apart : {a : ℕ} → ◌≡◌ {A = Option ℕ} None (Some a) → ⊥
apart e = let z : ◌≡◌ {A = ℕ} 0 1 = cc in omega arith

module _ (s : List ℕ) (small : (i : ℕ) → get_or s i 0 < 256) where
  -- an element whose contents, where it is constructed, were found good
  spelt_only :
      (inside : List ℕ → Type 0) (depth at end : ℕ) →
      ((start stop : ℕ) → start ≤ stop → skip_contents depth s start stop ≡ true → inside (slice start stop s)) →
      (x : Option Head) → head_at (suc depth) s at end ≡ x → (next : ℕ) → past_element (skip_contents depth s) x ≡ Some next →
      SkipSpelt inside (slice at next s)
  spelt_only inside depth at end good (Some found) e next h =
      let tag : ℕ = found.tag in
      let start : ℕ = found.start in
      let stop : ℕ = found.stop in
      pick_ind (λ (x : Option ℕ). x ≡ Some next → SkipSpelt inside (slice at next s))
      (any (eqb (tag / 32 % 2) 0 ∷ skip_contents depth s start stop ∷ []))
      (λ passed same.
      let spelt = head_only s small (suc depth) at end e in
      let place : found.next ≡ next = cc in
      record {
        tag = tag;
        contents = slice start stop s;
        low = spelt.low;
        spells = rw place at spelt.spells;
        holds = λ one. good start stop spelt.stops
            (sym (pick_last (skip_contents depth s start stop))
            ∙ rw (ne_eqb (tag / 32 % 2) 0 (λ zero. omega arith)) at passed);
      })
      (λ _ same. absurd (apart same)) h
  spelt_only inside depth at end good None e next h = absurd (apart h)

  pub skip_only :
      (depth at end next : ℕ) → skip_element depth s at end ≡ Some next → Skippable depth (slice at next s)
  unfolding skip_contents
  skip_only zero at end next h = apart (sym (skip_none s at end) ∙ h)
  skip_only (suc depth) at end next h =
      let less : suc depth - 1 ≡ depth = omega arith in
      spelt_only (Run (Skippable depth)) depth at end
      (λ start stop le good.
      run_only (Skippable depth) (λ a. skip_element depth s a stop) s stop (λ a. further depth s a stop)
      (λ a place e. skip_only depth a stop place e) start le good)
      (head_at (suc depth) s at end) refl next
      (rw less at (sym (element_step (suc depth) s at end) ∙ h))
