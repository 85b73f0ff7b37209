use Rattle.calls.proofs.Records.{good_call}
use Rattle.calls.proofs.Options.{options_most}
use Rattle.profile.proofs.Profiles.{good_profile}
use Rattle.profile.proofs.Records.{read_some, access_good}
use native.Mathlib.Omega.{arith}
use mathlib.Core.Path.{sym, ◌∙◌}
use Rattle.calls.proofs.diverting.divert.Goals as goal

pub divert_by-requires : goal.divert_by-requires
divert_by-requires c =
    let read = read_some c.args.access.now _ _ c.read_access.ensures c.in-Some.is in
    let profile = rw read.1 at (access_good _ read.0) in
    let call = good_call _ _ (sym c.call_good.ensures ∙ c.if-not-call_good.false) in
    rw c.call_of.ensures (options_most _ _ _ profile, omega (arith, call.number, (good_profile _ profile).few))
