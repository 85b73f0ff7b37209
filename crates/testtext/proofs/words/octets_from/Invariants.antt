use Prim.Native.Nat.{◌+◌, ◌*◌}
use Rattle.testtext.proofs.Octets.{Going}
use Rattle.testtext.proofs.words.octets_from.Given as goal

abbrev pub invariant-loop-n : goal.invariant-loop-n
invariant-loop-n l = Going l.s l.at l.initial.out l.n (l.at + 3 * l.n) l.out
