use Rattle.sheets.proofs.Writers.{Come}
use Rattle.sheets.proofs.write.write_above.Given as goal

abbrev pub invariant-loop-octet : goal.invariant-loop-octet
invariant-loop-octet l = Come l.base l.octets l.initial.out l.at l.octet-index l.p l.out
