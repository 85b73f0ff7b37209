-- What a list does to the end: it is read or not, good or not. Assumes nothing.
use Prim.Native.Nat.{ℕ, ◌-◌, ◌≤◌}
use mathlib.Core.Path.{◌≡◌, refl, sym, ap, ◌∙◌}
use mathlib.Core.Bool.{true, false, false≢true}
use mathlib.Core.List.{List, [], ◌∷◌, map}
use native.Mathlib.Omega.{arith}
use lib.ListN.{length, length-map, length-take, replicate}
use lib.Seq.{take-append_seam}
use Rattle.laws.specs.Got.{Got, got, wrong}
use Rattle.laws.specs.Mark.{known, mark_no}
use Rattle.laws.proofs.Eaches.{Each, each_map}
use Rattle.profile.specs.declared.profile.Profile.{Profile}
use Rattle.lists.specs.Entry.{no_entry}
use Rattle.lists.specs.Entries.{instances_most, entries_in, entries_of, entries_read}
use Rattle.lists.specs.declared.entry.Entry.{Entry}
use Rattle.lists.specs.declared.entries.Entries.{Entries}
use Rattle.std.specs.Prelude.{Option, Some, None, unwrap_or}
use Rattle.lists.proofs.Held.{HoldsAddress}
use Rattle.instances.specs.Places.{run_most}
use Rattle.instances.specs.Run.{instances_of, packed, each_good}
use Rattle.instances.specs.declared.instance.Instance.{Instance}
use Rattle.instances.specs.declared.run.Run.{Run}
use Rattle.instances.proofs.Runs.{packed_all}
use Rattle.instances.proofs.Keys.{each_merged}
use Rattle.instances.proofs.Fits.{goods_all}
use Rattle.end.specs.End.{closed}
use Rattle.end.specs.Listed.{instance_for, sorted, instances_listed, list_good, replaced}
use Rattle.end.specs.Taking.{doubted, learned, learned_by}
use Rattle.end.specs.inner.Listed.{address_held}
use Rattle.end.specs.declared.end.End.{End}
use Rattle.end.proofs.Sorted.{sorted_length}

-- ---- the run that is made of a list's entries

-- what holds of each holds of each in order
sorted_each : (P : Instance → Type 0) (l : List Instance) → Each P l → Each P (sorted l)
unfolding sorted
sorted_each P [] h = tt
sorted_each P (x ∷ l) h = each_merged P (x ∷ []) (sorted l) (h.0, tt) (sorted_each P l h.1)

-- what holds of the instance of each entry holds of each instance of the list
listed_each :
    (P : Instance → Type 0) (p : Profile) (es : List Entry) → Each (λ x. P (instance_for p x)) es → Each P (instances_listed p es)
unfolding instances_listed
listed_each P p es h = sorted_each P (map (instance_for p) es) (each_map P (instance_for p) es h)

module _
    (p : Profile) (list : Entries) (long : length list.entries ≡ instances_most)
    (new : Run) (made : new ≡ packed (instances_listed p (entries_in list)))
  where
    -- there are no more than entries
    few : length (instances_listed p (entries_in list)) ≤ instances_most
    unfolding instances_listed
    few =
        let es = entries_in list in
        let many = sorted_length (map (instance_for p) es) in
        omega (arith, many, length-map es (instance_for p), length-take list.count list.entries, long)

    -- it has room for them all
    new_all : instances_of new ≡ instances_listed p (entries_in list)
    new_all = ap instances_of made ∙ packed_all (instances_listed p (entries_in list)) (omega (arith, few))

    -- and counts them
    pub new_few : new.count ≤ instances_most
    new_few = rw made (omega (arith, few, length-take run_most (instances_listed p (entries_in list))))

    -- the addresses are those of the entries
    pub new_held : Each HoldsAddress (entries_in list) → each_good address_held (instances_of new) ≡ true
    new_held held =
        ap (each_good address_held) new_all
        ∙ goods_all address_held (instances_listed p (entries_in list)) (listed_each (λ x. address_held x ≡ true) p (entries_in list) held)

-- ---- the list

-- a list is not none
some_none : {A : Type 0} {a : A} → Some a ≡ None → ⊥
some_none {A} {a} h = let z : ◌≡◌ {A = ℕ} 0 1 = cc in omega arith

module _ (p : Profile) (e : End) where
  -- no list
  pub learned_wrong :
      (g : Got (List Entry)) (read : Option Entries) → read ≡ entries_read g → read ≡ None → doubted e ≡ learned_by p e g
  learned_wrong (got es next) read is bad = absurd (some_none (sym is ∙ bad))
  learned_wrong wrong read is bad = refl

  -- a list, with its entries
  pub record Entered (g : Got (List Entry)) (list : Entries) : Type 0 where
    pub es : List Entry
    pub by : learned p e es ≡ learned_by p e g
    pub is : list ≡ entries_of es

  pub entered :
      (g : Got (List Entry)) (read : Option Entries) (list : Entries) → read ≡ entries_read g → read ≡ Some list → Entered g list
  entered (got es next) read list is ok = record { es = es; by = refl; is = ap (λ (o : Option Entries). unwrap_or o list) (sym ok ∙ is) }
  entered wrong read list is ok = absurd (some_none (sym ok ∙ is))

  module _
      (es : List Entry) (list : Entries) (is : list ≡ entries_of es) (long : length list.entries ≡ instances_most)
      (new : Run) (made : new ≡ packed (instances_listed p (entries_in list)))
    where
      -- they are those of the entries that were read
      new_is : instances_of new ≡ instances_listed p es
      new_is =
          let all : entries_in list ≡ es = ap entries_in is ∙ take-append_seam es (replicate (instances_most - length es) no_entry) in
          new_all p list long new made ∙ ap (instances_listed p) all

      pub learned_bad :
          list_good instances_most p e.request.procedure (instances_of new) ≡ false → doubted e ≡ learned p e es
      unfolding learned
      learned_bad bad = rw (sym new_is, bad)

      pub learned_good :
          list_good instances_most p e.request.procedure (instances_of new) ≡ true →
          (next : Run) → next ≡ packed (replaced e.request.procedure (instances_of new) (instances_of e.picture)) →
          closed (mark_no known) next e ≡ learned p e es
      unfolding learned
      learned_good good next is-next = rw (sym new_is, good, is-next)
