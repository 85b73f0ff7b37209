-- The instances of a list put in order, one after the other. Assumes nothing.
use Prim.Native.Nat.{ℕ, suc, min, ◌+◌, ◌-◌, ◌<◌, ◌≤◌}
use mathlib.Core.Path.{◌≡◌, refl, sym, ap, ◌∙◌}
use mathlib.Core.Bool.{Bool}
use mathlib.Core.List.{List, [], ◌∷◌, ◌++◌, map}
use native.Mathlib.Numerals.{add-one}
use native.Mathlib.Omega.{arith}
use lib.Dec.{leb}
use lib.ListN.{length, take, drop, get_or, set, replicate, length-map, length-drop, length-take, length-replicate, replicate-append-replicate}
use lib.Seq.{set_at, take_at, drop_at, append_snoc, take_all}
use Rattle.laws.proofs.Lefts.{left_none}
use borrow.Author.Tests.{leb-true, leb-false}
use borrow.Rule.Slice.PartMut.{mid_of, put_mid}
use Rattle.std.specs.List.{position_or_len}
use Rattle.laws.proofs.Picks.{by_bool}
use Rattle.profile.specs.declared.profile.Profile.{Profile}
use Rattle.lists.specs.Entry.{entry_of}
use Rattle.lists.specs.Entries.{instances_most, entries_in}
use Rattle.lists.specs.declared.entry.Entry.{Entry}
use Rattle.lists.specs.declared.entries.Entries.{Entries}
use Rattle.instances.specs.Instance.{blank_instance, key_of}
use Rattle.instances.specs.Places.{run_most}
use Rattle.instances.specs.Run.{packed, merged}
use Rattle.instances.specs.declared.instance.Instance.{Instance}
use Rattle.instances.specs.declared.run.Run.{Run}
use Rattle.instances.proofs.Runs.{step, packed_done}
use Rattle.instances.proofs.Merged.{nil_merged, merged_nil, merge_lower, merge_higher, merged_length}
use Rattle.end.specs.Listed.{instance_for, sorted, instances_listed}

-- ---- none is lost

pub sorted_length : (l : List Instance) → length (sorted l) ≡ length l
unfolding sorted
sorted_length [] = refl
sorted_length (x ∷ l) = omega (arith, merged_length (x ∷ []) (sorted l), sorted_length l)

-- ---- one is put in its place

-- not below x
abbrev pub not_below : Instance → Instance → Bool
not_below x y = leb (key_of x) (key_of y)

-- the place of the first that is not below x, or after the last
abbrev pub place_for : Instance → List Instance → ℕ
place_for x l = position_or_len (not_below x) l

pub put_in :
    (x : Instance) (l : List Instance) → merged (x ∷ []) l ≡ take (place_for x l) l ++ x ∷ drop (place_for x l) l
put_in x [] = merged_nil (x ∷ [])
put_in x (y ∷ l) =
    by_bool (merged (x ∷ []) (y ∷ l) ≡ take (place_for x (y ∷ l)) (y ∷ l) ++ x ∷ drop (place_for x (y ∷ l)) (y ∷ l)) (not_below x y)
    (λ h.
    rw h
    (merge_higher (x ∷ []) (y ∷ l) x [] refl y l refl (leb-true (key_of x) (key_of y) h)
    ∙ ap (λ (m : List Instance). x ∷ m) (nil_merged (y ∷ l))))
    (λ h.
    let next : 1 + place_for x l ≡ suc (place_for x l) = omega arith in
    rw (h, next)
    (merge_lower (x ∷ []) (y ∷ l) y l refl x [] refl (leb-false (key_of x) (key_of y) h)
    ∙ ap (λ (m : List Instance). y ∷ m) (put_in x l)))

-- the first of several goes behind those that are below it
pub settled :
    (s : List Instance) (d : Instance) (lower : ℕ) (ys : List Instance) → 0 < length s →
    lower ≡ place_for (get_or s 0 d) (take (length s - 1) (drop 1 s)) →
    ys ≡ drop 1 (take (lower + 1) s) ++ take 1 (take (lower + 1) s) →
    ys ++ drop (lower + 1) s ≡ merged (take 1 s) (drop 1 s)
settled [] d lower ys some at turns = absurd (omega (arith, some))
settled (x ∷ l) d lower ys some at turns =
    let less : length (x ∷ l) - 1 ≡ length l = omega arith in
    let all : take (length l) l ≡ l = take_all (length l) l (omega arith) in
    let place : lower ≡ place_for x l = rw (less, all) at at in
    let turn : ys ≡ take lower l ++ x ∷ [] = rw add-one at turns in
    rw (turn, add-one) (append_snoc (take lower l) x (drop lower l) ∙ rw place (sym (put_in x l)))

-- ---- the array of a list's instances from the place i on

-- what the machine reads past an array of entries
abbrev pub outside_entry : Entry
outside_entry =
    entry_of (record { form = 0; kind = 0; count = 0; digits = [] }) 0 0
    (record { number = record { form = 0; kind = 0; count = 0; digits = [] }; subcount = 0; sub = [] })

abbrev pub sorted_from : Profile → Entries → ℕ → List Instance
sorted_from p list i = sorted (map (instance_for p) (drop i (entries_in list)))

-- blanks stand before them, and after the n of the whole list
abbrev pub array_from : Profile → Entries → ℕ → ℕ → List Instance
array_from p list n i = replicate i blank_instance ++ (sorted_from p list i ++ replicate (run_most - n) blank_instance)

module _ (p : Profile) (list : Entries) (n : ℕ)
    (few : n ≡ min list.count instances_most) (long : length list.entries ≡ instances_most) where
  length_from : (i : ℕ) → length (sorted_from p list i) ≡ n - i
  length_from i =
      let es = drop i (entries_in list) in
      sorted_length (map (instance_for p) es) ∙
      omega (arith, few, long, length-map es (instance_for p), length-drop i (entries_in list), length-take list.count list.entries)

  -- at first there are none
  pub array_none : replicate run_most blank_instance ≡ array_from p list n n
  unfolding sorted
  array_none =
      let none : drop n (entries_in list) ≡ [] = left_none list.count list.entries n (omega (arith, few, long)) in
      let all : n + (run_most - n) ≡ run_most = omega (arith, few) in
      rw none (rw all at (sym (replicate-append-replicate n (run_most - n) blank_instance)))

  -- the entry before them takes the place of the last blank before them, and goes to its own
  pub array_next :
      (i k : ℕ) (array ys : List Instance) (x : Instance) → k ≡ i + 1 → k ≤ n → array ≡ array_from p list n k →
      x ≡ instance_for p (get_or list.entries i outside_entry) →
      ys ≡ merged (take 1 (mid_of i (n - i) (set array i x))) (drop 1 (mid_of i (n - i) (set array i x))) →
      put_mid i (n - i) (set array i x) ys ≡ array_from p list n i
  unfolding sorted
  array_next i k array ys x e h so is settles =
      let before : List Instance = replicate i blank_instance in
      let after : List Instance = sorted_from p list (i + 1) in
      let rest : List Instance = replicate (run_most - n) blank_instance in
      let next = step list.count list.entries i outside_entry (omega arith) (omega arith) in
      let many : length (x ∷ after) ≡ n - i = omega (arith, length_from (i + 1)) in
      let at : length before ≡ i = length-replicate i blank_instance in
      let stood : array ≡ before ++ blank_instance ∷ (after ++ rest) =
      so ∙ rw (e, ← replicate-append-replicate i 1 blank_instance) (append_snoc before blank_instance (after ++ rest)) in
      let stands : set array i x ≡ before ++ ((x ∷ after) ++ rest) = rw stood (set_at before blank_instance (after ++ rest) x i at) in
      let start : drop i (set array i x) ≡ (x ∷ after) ++ rest = rw stands (drop_at before ((x ∷ after) ++ rest) i at) in
      let front : take i (set array i x) ≡ before = rw stands (take_at before ((x ∷ after) ++ rest) i at) in
      let mid : mid_of i (n - i) (set array i x) ≡ x ∷ after = rw start (take_at (x ∷ after) rest (n - i) many) in
      let past : drop (n - i) (drop i (set array i x)) ≡ rest = rw start (drop_at (x ∷ after) rest (n - i) many) in
      let settled_here : ys ≡ sorted_from p list i = rw mid at settles ∙ rw (next, is) in
      rw (front, settled_here, past)

  -- and at last they are all there
  pub array_done :
      (array : List Instance) → array ≡ array_from p list n 0 →
      ◌≡◌ {A = Run} record { count = n; run = array } (packed (instances_listed p (entries_in list)))
  unfolding instances_listed
  array_done array so =
      let many : n ≡ length (sorted_from p list 0) = omega (arith, length_from 0) in
      packed_done (sorted_from p list 0) n array (many, rw (← many) so, omega (arith, many, few))
