use Rattle.octets.proofs.Lengths.{shortest_most}
use native.Mathlib.Omega.{arith}
use Rattle.octets.proofs.write.head_size.Goals as goal

pub overflow_add-result : goal.overflow_add-result
overflow_add-result c = omega (arith, shortest_most c.args.n, c.length_fewest.ensures)
