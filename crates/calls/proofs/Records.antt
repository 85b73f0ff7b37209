-- What it means that a call's record breaks no rule. Assumes nothing.
use Prim.Native.Nat.{ℕ, ◌+◌, ◌≤◌, ◌<◌}
use mathlib.Core.Path.{◌≡◌, sym, ◌∙◌}
use mathlib.Core.Bool.{Bool, true, not}
use mathlib.Core.List.{List, [], ◌∷◌}
use lib.ListN.{length, get_or}
use lib.Seq.{slice}
use lib.Dec.{ltb, leb, eqb}
use borrow.Author.Tests.{ltb-true, leb-true, eqb-true}
use Rattle.laws.specs.Tests.{all}
use Rattle.laws.proofs.Picks.{pick_then, pick_last}
use Rattle.codes.specs.Codes.{service_code}
use Rattle.numbers.specs.Number.{most}
use Rattle.codes.specs.Digits.{all_digits}
use Rattle.profile.specs.declared.profile.Profile.{Profile}
use Rattle.calls.specs.declared.call.Call.{Call}
use Rattle.calls.specs.Onward.{event_no}
use Rattle.calls.specs.declared.event.Event.TheVariants.{NoReply}
use Rattle.calls.specs.Call.{event_at, original_at, call_size, call_from, names_good, values_good, original_good, call_good}

-- a good record: its size, its number and its digits
pub record GoodCall (p : Profile) (s : List ℕ) : Type 0 where
  pub size : length s ≡ call_size
  pub number : (call_from s).number < p.numbercount
  pub count : (call_from s).count ≤ most

names_number : (p : Profile) (c : Call) → names_good p c ≡ true → c.number < p.numbercount
unfolding names_good
names_number p c h =
    let service : Bool = all (not (eqb c.service 0) ∷ service_code c.service ∷ []) in
    ltb-true c.number p.numbercount (pick_then (ltb c.number p.numbercount) service h).0

original_count : (s : List ℕ) (count : ℕ) → original_good s count ≡ true → count ≤ most
unfolding original_good
original_count s count h =
    leb-true count most (pick_then (leb count most) (all (all_digits (slice original_at (original_at + count) s) ∷ [])) h).0

pub good_call : (p : Profile) (s : List ℕ) → call_good p s ≡ true → GoodCall p s
unfolding call_good
good_call p s h =
    let c : Call = call_from s in
    let original : Bool = original_good s c.count in
    let is_event : Bool = leb (get_or s event_at 0) (event_no NoReply) in
    let size = pick_then (eqb (length s) call_size) (all (is_event ∷ names_good p c ∷ values_good c ∷ original ∷ [])) h in
    let event = pick_then is_event (all (names_good p c ∷ values_good c ∷ original ∷ [])) size.1 in
    let names = pick_then (names_good p c) (all (values_good c ∷ original ∷ [])) event.1 in
    let values = pick_then (values_good c) (all (original ∷ [])) names.1 in
    record {
      size = eqb-true (length s) call_size size.0;
      number = names_number p c names.0;
      count = original_count s c.count (sym (pick_last original) ∙ values.1);
    }
