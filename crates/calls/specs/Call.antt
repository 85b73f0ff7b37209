-- A call as it comes to the access: lent octets at fixed offsets, laid out in docs/RECORDS.md (document 01, "Calls").
use Rattle.std.specs.Prelude.{ℕ, ◌+◌, Bool, not, List, [], ◌∷◌, length, get_or, ltb, leb, eqb}
use Rattle.std.proofs.Math.Seq.{slice}
use Rattle.laws.specs.Tests.{all}
use Rattle.codes.specs.Codes.{service_code}
use Rattle.numbers.specs.Number.{most}
use Rattle.codes.specs.Digits.{all_digits}
use Rattle.profile.specs.declared.profile.Profile.{Profile}
use Rattle.calls.specs.Onward.{event_no, event_in}
use Rattle.calls.specs.declared.event.Event.TheVariants as event
use Rattle.calls.specs.declared.call.Call.{Call}

-- where the event and the digits of the original number stand, and the size of the record
abbrev pub event_at : ℕ
event_at = 2

abbrev pub original_at : ℕ
original_at = 8

abbrev pub call_size : ℕ
call_size = 28

unfoldable pub call_from : List ℕ → Call
call_from s = record {
  number = get_or s 0 0;
  service = get_or s 1 0;
  event = event_in (get_or s event_at 0);
  counter = get_or s 3 0;
  option = get_or s 4 0;
  presentation = get_or s 5 0;
  preference = get_or s 6 0;
  count = get_or s 7 0;
}

-- "names a profile number, a service": one of the sixteen, whether or not it is subscribed
unfoldable pub names_good : Profile → Call → Bool
names_good p c =
    all (ltb c.number p.numbercount ∷ not (eqb c.service 0) ∷ service_code c.service ∷ [])

-- "a counter 0 to 5, the chain's notification option, .. its presentation .. and the preference indicator 0 to 2"
unfoldable pub values_good : Call → Bool
values_good c =
    all
    (leb c.counter 5
    ∷ leb c.option 2
    ∷ leb c.presentation 1
    ∷ leb c.preference 2
    ∷ [])

-- "a digit string over 20 or not digits"; "empty: absent"
unfoldable pub original_good : List ℕ → ℕ → Bool
original_good s count = all (leb count most ∷ all_digits (slice original_at (original_at + count) s) ∷ [])

-- "an event (offered, busy, no reply)"; "Refusal 5: a value outside these"; a record of another size too
unfoldable pub call_good : Profile → List ℕ → Bool
call_good p s =
    all
    (eqb (length s) call_size
    ∷ leb (get_or s event_at 0) (event_no event.NoReply)
    ∷ names_good p (call_from s)
    ∷ values_good (call_from s)
    ∷ original_good s (call_from s).count
    ∷ [])
