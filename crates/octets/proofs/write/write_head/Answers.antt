use Rattle.octets.proofs.Lengths.{length_short, length_long}
use Rattle.octets.specs.Element.{length_with}
use Rattle.laws.proofs.Over.{then}
use native.Mathlib.Omega.{arith}
use Rattle.octets.proofs.write.write_head.Goals as goal

pub overflow_cast-n : goal.overflow_cast-n
overflow_cast-n c =
    let k = c in
    omega (arith, length_short k.args.n (rw c.if-k-eq0.true at k.requires.2))

pub returns-then-k-eq0 : goal.returns-then-k-eq0
unfolding length_with
returns-then-k-eq0 c =
    rw c.if-k-eq0.true
    (then c.write_octet-p.ensures c.write_octet.ensures)

pub returns : goal.returns
returns c =
    let l = c in
    let a = l.args in
    rw (length_long a.k a.n l.if-k-eq0.false)
    (then (then l.write_octet-p.ensures l.write_octet-q.ensures)
    c.write_word.ensures)
