use Rattle.laws.proofs.Over.{over_one}
use mathlib.Core.Path.{sym}
use mathlib.Core.Path.{refl}
use Rattle.octets.proofs.write.write_octet.Goals as goal

pub returns : goal.returns
returns c = record { moved = refl; holds = sym (over_one c.args.out.now c.args.at c.args.octet) }
