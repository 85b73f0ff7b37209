use Rattle.forms.proofs.Fields.{Come}
use Rattle.forms.proofs.field.fields_below.Given as goal

abbrev pub invariant-loop-i : goal.invariant-loop-i
invariant-loop-i l = Come l.below l.base l.count l.s l.at l.i l.here l.octets
