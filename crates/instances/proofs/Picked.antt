-- The selected instances of a run by their places, and the list that is written of them. Assumes nothing.
use Prim.Native.Nat.{ℕ, zero, suc, ◌+◌, ◌*◌, ◌-◌, ◌≤◌, ◌<◌}
use mathlib.Core.Path.{◌≡◌, refl, ap, ◌∙◌}
use mathlib.Core.List.{List, [], ◌∷◌, ◌++◌, map, append-nil, map-append}
use native.Mathlib.Omega.{arith}
use lib.ListN.{length, take, get_or, length-append, length-map, get_or-map}
use lib.Seq.{take-nil, take_all, take-append_seam, append_snoc}
use Rattle.laws.specs.Over.{Wrote}
use Rattle.laws.proofs.Over.{then, wrote_none, wrote_length}
use Rattle.laws.proofs.Eaches.{Each, each_so, each_append}
use Rattle.numbers.specs.declared.number.Number.{Number}
use Rattle.lists.specs.Entry.{entry_octets, entry_size}
use Rattle.lists.specs.Entries.{instances_most, entries_in, entries_of, entries_octets}
use Rattle.lists.specs.declared.entry.Entry.{Entry}
use Rattle.lists.proofs.Sizes.{octets_none}
use Rattle.lists.proofs.Measures.{octets_last, octets_next, octets_fewer}
use Rattle.instances.specs.Run.{entry_for}
use Rattle.instances.specs.declared.instance.Instance.{Instance}
use Rattle.instances.proofs.Runs.{outside}

-- the entry of the instance at a place of the array
abbrev pub entry_at : List Number → List Instance → ℕ → Entry
entry_at numbers run j = entry_for numbers (get_or run j outside)

-- The first i instances were met. Of the entries `whole` that are selected in all, `rest` is still to come; the places `ps` are kept,
-- no more than a list may have, and these entries take `size` octets.
pub record Picked (f : ℕ → Entry) (whole rest : List Entry) (i : ℕ) (ps : List ℕ) (size : ℕ) : Type 0 where
  pub few : length ps ≤ instances_most
  pub below : Each (λ p. p < i) ps
  pub come : map f ps ++ take (instances_most - length ps) rest ≡ take instances_most whole
  pub sum : size ≡ length (entries_octets (map f ps))
  pub within : size ≤ entry_size * length ps

-- what holds of each holds of the one at a place
pub each_get : {A : Type 0} (P : A → Type 0) (l : List A) (m : ℕ) (d : A) → Each P l → m < length l → P (get_or l m d)
each_get P [] m d h less = absurd (omega arith)
each_get P (x ∷ l) zero d h less = h.0
each_get P (x ∷ l) (suc m) d h less = each_get P l m d h.1 (omega arith)

module _ (f : ℕ → Entry) (whole : List Entry) where
  pub picked_none : Picked f whole whole 0 [] 0
  picked_none = record { few = omega arith; below = tt; come = refl; sum = rw octets_none refl; within = omega arith }

  module _ {rest : List Entry} {i : ℕ} {ps : List ℕ} {size : ℕ} (so : Picked f whole rest i ps size) where
    later : Each (λ p. p < i + 1) ps
    later = each_so (λ p. p < i) (λ p. p < i + 1) (λ p h. omega arith) ps so.below

    -- one that is not selected, or that there is no place for
    pub picked_skip : (left : List Entry) → rest ≡ left → Picked f whole left (i + 1) ps size
    picked_skip left same = record { few = so.few; below = later; come = rw same at so.come; sum = so.sum; within = so.within }

    pub picked_full : (left : List Entry) → instances_most ≤ length ps → Picked f whole left (i + 1) ps size
    picked_full left full =
        let none : instances_most - length ps ≡ 0 = omega arith in
        record { few = so.few; below = later; come = rw none (rw none at so.come); sum = so.sum; within = so.within }

    -- one that is selected
    pub picked_take :
        (e : Entry) (left : List Entry) (one : ℕ) → length ps < instances_most → rest ≡ e ∷ left → f i ≡ e →
        one ≡ length (entry_octets e) → one ≤ entry_size →
        Picked f whole left (i + 1) (ps ++ i ∷ []) (size + one)
    picked_take e left one more next is size_is small =
        let longer : length (ps ++ i ∷ []) ≡ suc (length ps) = omega (arith, length-append ps (i ∷ [])) in
        let less : instances_most - length ps ≡ suc (instances_most - suc (length ps)) = omega arith in
        let taken : map f (ps ++ i ∷ []) ≡ map f ps ++ (e ∷ []) = rw (map-append f ps (i ∷ []), is) in
        record {
          few = omega arith;
          below = each_append (λ p. p < i + 1) ps (i ∷ []) later (omega arith, tt);
          come =
              rw (taken, longer, append_snoc (map f ps) e (take (instances_most - suc (length ps)) left)) (rw (next, less) at so.come);
          sum =
              rw (taken, octets_last (map f ps) e)
              (omega (arith, so.sum, size_is, length-append (entries_octets (map f ps)) (entry_octets e)));
          within = omega (arith, so.within);
        }

    -- nothing is to come: these are the entries of the list
    pub picked_done : rest ≡ [] → map f ps ≡ take instances_most whole
    picked_done none =
        let come = rw none at so.come in
        rw (take-nil {A = Entry} (instances_most - length ps), append-nil (map f ps)) at come

    -- and this is how many octets they take
    pub picked_size : rest ≡ [] → size ≡ length (entries_octets (take instances_most whole))
    picked_size none = so.sum ∙ ap (λ (es : List Entry). length (entries_octets es)) (picked_done none)

    pub picked_few : size ≤ entry_size * instances_most
    picked_few = omega (arith, so.within, so.few)

-- the record of a list counts the entries that it is made of
pub entries_counted : (es : List Entry) → entries_in (entries_of es) ≡ es
entries_counted es = take-append_seam es _

-- A writer of the entries at the places `ps`, from the place `from` on, has come to the m-th of them and to the place `at`.
pub record Listing (f : ℕ → Entry) (ps : List ℕ) (size : ℕ) (xs : List ℕ) (from m at : ℕ) (ys : List ℕ) : Type 0 where
  pub fits : from + size ≤ length xs
  pub sum : size ≡ length (entries_octets (map f ps))
  pub holds : Wrote xs from (entries_octets (take m (map f ps))) at ys

module _ (f : ℕ → Entry) (ps : List ℕ) (size : ℕ) {xs : List ℕ} {from : ℕ} where
  pub listing_first :
      from + size ≤ length xs → size ≡ length (entries_octets (map f ps)) → Listing f ps size xs from 0 from xs
  listing_first fits sum = record { fits = fits; sum = sum; holds = rw octets_none wrote_none }

  module _ {m at : ℕ} {ys : List ℕ} (so : Listing f ps size xs from m at ys) (more : m < length ps) where
    next_octets : entries_octets (take (m + 1) (map f ps)) ≡ entries_octets (take m (map f ps)) ++ entry_octets (f (get_or ps m 0))
    next_octets = rw (get_or-map f ps m 0) at (octets_next (map f ps) m (f 0) (omega (arith, length-map ps f)))

    -- there is room for the next
    pub listing_room : at + length (entry_octets (f (get_or ps m 0))) ≤ length ys
    listing_room =
        let whole : take (length ps) (map f ps) ≡ map f ps = take_all (length ps) (map f ps) (omega (arith, length-map ps f)) in
        omega (
          arith,
          so.fits,
          so.sum,
          ap length next_octets,
          length-append (entries_octets (take m (map f ps))) (entry_octets (f (get_or ps m 0))),
          rw whole at (octets_fewer (map f ps) (m + 1) (length ps) (omega arith)),
          so.holds.moved,
          wrote_length so.holds,
        )

    -- it is written after them
    pub listing_next :
        {next : ℕ} {ts : List ℕ} → Wrote ys at (entry_octets (f (get_or ps m 0))) next ts → Listing f ps size xs from (m + 1) next ts
    listing_next one = record { fits = so.fits; sum = so.sum; holds = rw next_octets (then so.holds one) }

  -- after the last
  pub listing_all : {m at : ℕ} {ys : List ℕ} → Listing f ps size xs from m at ys → length ps ≤ m → Wrote xs from (entries_octets (map f ps)) at ys
  listing_all {m = m} so end = rw (take_all m (map f ps) (omega (arith, length-map ps f))) at so.holds
