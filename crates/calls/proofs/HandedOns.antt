-- The original number handed on, and that it is written. Assumes nothing.
use Prim.Native.Nat.{ℕ}
use mathlib.Core.Path.{◌≡◌, refl, ap, sym, ◌∙◌}
use mathlib.Core.Bool.{true}
use mathlib.Core.List.{List, []}
use native.Mathlib.Omega.{arith}
use lib.ListN.{length}
use Rattle.std.specs.Prelude.{Some, None, Ok, Err}
use Rattle.laws.specs.Over.{Puts}
use Rattle.laws.proofs.Over.{puts_all, wrote_none}
use Rattle.refusals.specs.declared.refusal.Refusal.{Refusal}
use Rattle.profile.specs.Access.{access_read}
use Rattle.exchange.specs.declared.table.Table.{Table}
use Rattle.calls.specs.Call.{call_from}
use Rattle.calls.specs.Divert.{comes}
use Rattle.calls.specs.Coming.{DivertsTo}
use Rattle.calls.specs.Original.{goes_on, handed_on, original_in, PutsOriginal}
use Rattle.calls.specs.declared.diverting.Diversion.{Diversion}
use Rattle.calls.proofs.Comings.{original_none}

pub original_on :
    (access : List ℕ) (t : Table) (s : List ℕ) → goes_on (comes access t s).told ≡ true →
    original_in access t s ≡ handed_on access s (access_read access).profile (call_from s)
unfolding original_in
original_on access t s h = rw h

-- what becomes of a call decides which digits are written
module _ (access : List ℕ) (t : Table) (s xs : List ℕ) where
  -- none where it is refused
  pub puts_refused : (refusal : Refusal) → DivertsTo access t s (Err refusal) → PutsOriginal access t s xs (Err refusal) xs
  puts_refused refusal becomes =
      let none : original_in access t s ≡ [] = original_none access t s (ap goes_on (sym becomes.told)) in
      record { told = becomes.told; digits = rw none refl; lent = rw none (puts_all (omega arith) wrote_none) }

  -- nor where it is not diverted
  pub puts_passed : DivertsTo access t s (Ok None) → PutsOriginal access t s xs (Ok None) xs
  puts_passed becomes =
      let none : original_in access t s ≡ [] = original_none access t s (ap goes_on (sym becomes.told)) in
      record { told = becomes.told; digits = rw none refl; lent = rw none (puts_all (omega arith) wrote_none) }

  -- those of the original number where it is diverted
  pub puts_digits :
      (d : Diversion) → DivertsTo access t s (Ok (Some d)) →
      (ws : List ℕ) → ws ≡ handed_on access s (access_read access).profile (call_from s) →
      (n : ℕ) (ys : List ℕ) → Puts xs 0 ws n ys →
      PutsOriginal access t s xs (Ok (Some (record { reason = d.reason; notice = d.notice; length = length ws; count = n }))) ys
  puts_digits d becomes ws digits n ys lent =
      let is : ws ≡ original_in access t s = digits ∙ sym (original_on access t s (ap goes_on (sym becomes.told))) in
      record { told = becomes.told; digits = ap length is; lent = rw (← is) lent }
