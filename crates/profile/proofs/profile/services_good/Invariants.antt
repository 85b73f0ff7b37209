use Rattle.profile.specs.Profile.{rising}
use Rattle.std.proofs.Common.{◌≡◌, drop}
use Rattle.profile.proofs.profile.services_good.Given as goal

abbrev pub invariant-loop-code : goal.invariant-loop-code
invariant-loop-code l = rising 0 l.code-items ≡ rising l.below (drop l.code-index l.code-items)
