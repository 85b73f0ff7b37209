-- What the private functions of a diverted call promise.
use Rattle.std.specs.Prelude.{ℕ, ◌≡◌}
use Rattle.profile.specs.declared.profile.Profile.{Profile}
use Rattle.calls.specs.Onward.{reason_no, reason_of, options_for, option_after, preference_after, original_shown}
use Rattle.calls.specs.declared.call.Call.{Call}
use Rattle.calls.specs.declared.event.Event.{Event}
use Rattle.calls.specs.declared.onward.Options.{Options}
use Rattle.calls.specs.declared.onward.Reason.{Reason}

-- what `Event::reason` promises: the reason by its number
abbrev pub ReasonOf : Event → Reason → Type 0
ReasonOf event r = reason_no r ≡ reason_of event

-- what `options_for` promises
abbrev pub OptionsFor : Profile → Call → Options → Type 0
OptionsFor p c r = r ≡ options_for p c

-- what `option_after` promises
abbrev pub OptionAfter : Profile → Call → ℕ → Type 0
OptionAfter p c r = r ≡ option_after p c

-- what `preference_after` promises
abbrev pub PreferenceAfter : Call → ℕ → Type 0
PreferenceAfter c r = r ≡ preference_after c

-- what `original_shown` promises
abbrev pub OriginalShown : Profile → Call → ℕ → Type 0
OriginalShown p c r = r ≡ original_shown p c
