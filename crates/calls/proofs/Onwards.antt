-- What a diverted call becomes. Assumes nothing.
use Prim.Native.Nat.{ℕ, ◌+◌}
use mathlib.Core.Path.{◌≡◌}
use lib.ListN.{get_or}
use Rattle.std.specs.Prelude.{Some, Ok}
use Rattle.numbers.specs.declared.number.Number.{Number}
use Rattle.numbers.specs.declared.address.Address.{Address}
use Rattle.profile.specs.Profile.{no_number}
use Rattle.profile.specs.declared.profile.Profile.{Profile}
use Rattle.calls.specs.Onward.{reason_no, reason_of, options_for, option_after, preference_after, original_shown}
use Rattle.calls.specs.declared.call.Call.{Call}
use Rattle.calls.specs.declared.onward.Options.{Options}
use Rattle.calls.specs.declared.onward.Reason.{Reason}
use Rattle.calls.specs.Divert.{notice_no, served_of, noticed, onward, goes}
use Rattle.calls.specs.Coming.{Becomes}
use Rattle.calls.specs.declared.diverting.Notice.{Notice}

-- the parts of a diverted call, as the code finds them one by one
pub goes_on_lem :
    (p : Profile) (c : Call) (called : Address) (reason : Reason) (notice : Notice) (option shown preference : ℕ)
    (own : Options) (number : Number) →
    option ≡ option_after p c →
    reason_no reason ≡ reason_of c.event →
    notice_no notice ≡ option →
    own ≡ options_for p c →
    shown ≡ original_shown p c →
    preference ≡ preference_after c →
    number ≡ noticed option called →
    Becomes (goes p c called)
    (Ok (Some (record {
      reason = reason;
      notice = notice;
      call = record {
        counter = c.counter + 1;
        called = called;
        redirecting = get_or p.numbers c.number no_number;
        redirectingshown = own.release;
        originalshown = shown;
        preference = preference;
        option = option;
        noticed = number;
      };
    })))
unfolding onward served_of
goes_on_lem p c called reason notice option shown preference own number is why told ours original wish shows = record {
  told = rw (why, told, is);
  call = rw (ours, original, wish, shows, is);
}
