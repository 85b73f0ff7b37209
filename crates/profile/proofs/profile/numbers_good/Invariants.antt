use Rattle.laws.specs.Places.{every_to}
use Rattle.profile.proofs.Profiles.{number_fits}
use Rattle.std.proofs.Common.{◌≡◌, true}
use Rattle.profile.proofs.profile.numbers_good.Given as goal

abbrev pub invariant-loop-k : goal.invariant-loop-k
invariant-loop-k l = every_to (number_fits l.p l.p.numbercount l.p.numbers) l.k ≡ true
