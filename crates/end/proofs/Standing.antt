-- "A local refusal hands the table or picture back unchanged" (document 01, "Local refusals"), of the end that is lent. Assumes nothing.
use Prim.Native.Nat.{ℕ}
use mathlib.Core.Path.{◌≡◌, refl, sym, ◌∙◌}
use mathlib.Core.List.{List}
use Rattle.refusals.specs.Refusal.{refuses}
use Rattle.refusals.specs.Handling.{handling_told}
use Rattle.std.specs.Prelude.{Result}
use Rattle.refusals.specs.declared.refusal.Refusal.{Refusal}
use Rattle.refusals.proofs.Refusals.{refuses_not}
use Rattle.end.specs.Taking.{Takes}
use Rattle.end.specs.declared.end.End.{End}
use Rattle.end.proofs.Steps.{takes_ind}

-- where what arrives is refused, the same end stands there as before
pub refused_standing :
    (access : List ℕ) (e : End) (s : List ℕ) {r : Result (Unit {0}) Refusal} {next : End} (number : ℕ) → Takes access e s r next →
    handling_told r ≡ refuses number → next ≡ e
refused_standing access e s number t refused =
    t.end
    ∙ takes_ind access e s (λ m. refuses number ≡ m.told → m.end ≡ e)
    (λ _ _. refl) (λ _ _ _ h. absurd (refuses_not number tt h))
    (sym refused ∙ t.told)
