-- What C is told of a list, from what the reader of its entries answers. Assumes nothing.
use mathlib.Core.Path.{◌≡◌, refl, sym, ap, ◌∙◌}
use Rattle.std.specs.Prelude.{Option, Some, None, unwrap_or}
use Prim.Native.Nat.{ℕ}
use native.Mathlib.Omega.{arith}
use mathlib.Core.List.{List}
use lib.IntN.{pos}
use Rattle.laws.specs.Got.{Got, got, wrong}
use Rattle.lists.specs.Entries.{entries_read}
use Rattle.lists.specs.declared.entry.Entry.{Entry}
use Rattle.lists.specs.declared.entries.Entries.{Entries}
use Rattle.sconcetoad.specs.Replied.{wrong_kind, listed_kind, not_listed, entries_told}
use Rattle.sconcetoad.specs.declared.reply.Replied.{Replied}

-- a list is not none
some_none : {A : Type 0} {a : A} → Some a ≡ None → ⊥
some_none h = let z : ◌≡◌ {A = ℕ} 0 1 = cc in omega arith

-- entries that were read are told
pub told_found :
    (g : Got (List Entry)) (r : Option Entries) (list : Entries) → r ≡ entries_read g → r ≡ Some list →
    ◌≡◌ {A = Replied} record { kind = listed_kind; value = pos 0; list = list } (entries_told g)
told_found (got es next) r list e h =
    ap (λ (x : Entries). record { kind = listed_kind; value = pos 0; list = x }) (ap (λ (o : Option Entries). unwrap_or o list) (sym h ∙ e))
told_found wrong r list e h = absurd (some_none (sym h ∙ e))

-- what is no list is not
pub told_none :
    (g : Got (List Entry)) (r : Option Entries) → r ≡ entries_read g → r ≡ None → not_listed wrong_kind (pos 0) ≡ entries_told g
told_none (got es next) r e h = absurd (some_none (sym e ∙ h))
told_none wrong r e h = refl
