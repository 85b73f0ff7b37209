-- What comes of a call: its refusals, lowest first, and its instance. Assumes nothing.
use Prim.Native.Nat.{ℕ, ◌+◌, ◌-◌, ◌≤◌}
use mathlib.Core.Path.{◌≡◌, refl, ◌∙◌}
use mathlib.Core.Bool.{true, false, not, false≢true}
use mathlib.Core.List.{List, []}
use mathlib.Core.Option.{Option, none, some}
use native.Mathlib.Omega.{arith}
use lib.ListN.{length, take, drop}
use lib.Dec.{ltb}
use borrow.Author.Tests.{eq-eqb, ne_eqb, not-false}
use Rattle.laws.proofs.Picks.{pick_ind}
use Rattle.laws.proofs.Parts.{part_slice}
use Rattle.refusals.specs.declared.refusal.Refusal.TheVariants.{BadProfile, BadTable, BadCall}
use Rattle.numbers.specs.Number.{most}
use Rattle.numbers.specs.declared.address.Address.{Address}
use Rattle.numbers.proofs.Goods.{good_number}
use Rattle.profile.specs.Access.{access_read}
use Rattle.profile.specs.declared.profile.Profile.{Profile}
use Rattle.profile.proofs.Profiles.{good_profile}
use Rattle.profile.proofs.Records.{access_good, access_size_lem}
use Rattle.lists.specs.Entries.{instances_most}
use Rattle.instances.specs.Run.{instances_of}
use Rattle.exchange.specs.Table.{table_good}
use Rattle.exchange.specs.declared.table.Table.{Table}
use Rattle.calls.specs.declared.call.Call.{Call}
use Rattle.calls.specs.Call.{original_at, call_from, call_good}
use Rattle.calls.specs.Divert.{served_of, onward, Comes, call_refused, by_instance, by_call, applying, comes}
use Rattle.calls.specs.Original.{served_digits_at, handed_on, goes_on, original_in}
use Rattle.calls.specs.inner.Original.{GoesOn}
use Rattle.calls.proofs.Records.{good_call}

-- ---- the refusals, lowest first

module _ (access : List ℕ) (t : Table) (s : List ℕ) where
  pub comes_profile : (access_read access).ok ≡ false → comes access t s ≡ call_refused BadProfile
  unfolding comes
  comes_profile bad = rw bad

  module _ (ok : (access_read access).ok ≡ true) where
    pub comes_table :
        table_good instances_most (access_read access).profile t ≡ false → comes access t s ≡ call_refused BadTable
    unfolding comes
    comes_table bad = rw (ok, bad)

    module _ (table : table_good instances_most (access_read access).profile t ≡ true) where
      pub comes_call : call_good (access_read access).profile s ≡ false → comes access t s ≡ call_refused BadCall
      unfolding comes
      comes_call bad = rw (ok, table, bad)

      pub comes_by :
          call_good (access_read access).profile s ≡ true →
          comes access t s ≡ by_call (access_read access).profile t (call_from s)
      unfolding comes
      comes_by good = rw (ok, table, good)

-- ---- where a call goes on

-- it has the served number
redirects :
    (p : Profile) (c : Call) (o : Option Address) → goes_on (by_instance p c o).told ≡ true →
    (by_instance p c o).call.redirecting ≡ served_of p c
unfolding onward
redirects p c none h = absurd (false≢true h)
redirects p c (some called) h =
    pick_ind (λ (x : Comes). goes_on x.told ≡ true → x.call.redirecting ≡ served_of p c) (not (ltb c.counter p.limit))
    (λ _ e. absurd (false≢true e))
    (λ _ _. refl)
    h

-- neither its profile nor its record breaks a rule
pub goes_good :
    (access : List ℕ) (t : Table) (s : List ℕ) → goes_on (comes access t s).told ≡ true →
    GoesOn access s (comes access t s).call.redirecting
unfolding comes
goes_good access t s =
    let p : Profile = (access_read access).profile in
    let P : Comes → Type 0 = λ x. goes_on x.told ≡ true → GoesOn access s x.call.redirecting in
    pick_ind P (not (access_read access).ok) (λ _ h. absurd (false≢true h)) (λ ok.
    pick_ind P (not (table_good instances_most p t)) (λ _ h. absurd (false≢true h)) (λ _.
    pick_ind P (not (call_good p s)) (λ _ h. absurd (false≢true h)) (λ good h. record {
      ok = not-false _ ok;
      good = not-false _ good;
      redirecting = redirects p (call_from s) (applying p (instances_of t.run) (call_from s)) h;
    })))

-- the digits of its number stand within the access record
pub served_within :
    (access s : List ℕ) → (access_read access).ok ≡ true → call_good (access_read access).profile s ≡ true →
    served_digits_at (call_from s).number + (served_of (access_read access).profile (call_from s)).count ≤ length access
unfolding served_of
served_within access s ok good =
    let p : Profile = (access_read access).profile in
    let profile = good_profile p (access_good access ok) in
    let call = good_call p s good in
    let few : (served_of p (call_from s)).count ≤ most =
    (good_number (served_of p (call_from s)) (profile.numbers (call_from s).number call.number)).few in
    omega (arith, few, call.number, profile.few, access_size_lem access ok)

-- ---- the original number handed on

pub original_none :
    (access : List ℕ) (t : Table) (s : List ℕ) → goes_on (comes access t s).told ≡ false → original_in access t s ≡ []
unfolding original_in
original_none access t s h = rw h

module _ (access s : List ℕ) where
  abbrev from : ℕ
  from = served_digits_at (call_from s).number

  abbrev to : ℕ
  to = from + (served_of (access_read access).profile (call_from s)).count

  -- on the first diversion the served number
  pub original_first :
      (call_from s).counter ≡ 0 → take (to - from) (drop from access) ≡ handed_on access s (access_read access).profile (call_from s)
  unfolding handed_on
  original_first h = part_slice from to access ∙ rw (eq-eqb (call_from s).counter 0 h)

  abbrev end : ℕ
  end = original_at + (call_from s).count

  -- later as received
  pub original_later :
      ((call_from s).counter ≡ 0 → ⊥) →
      take (end - original_at) (drop original_at s) ≡ handed_on access s (access_read access).profile (call_from s)
  unfolding handed_on
  original_later h = part_slice original_at end s ∙ rw (ne_eqb (call_from s).counter 0 h)
