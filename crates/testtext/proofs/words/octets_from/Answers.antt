use Prim.Native.Nat.{◌+◌, ◌*◌}
use mathlib.Core.Path.{◌≡◌}
use native.Mathlib.Omega.{arith}
use lib.ListN.{length}
use lib.Dec.{leb}
use borrow.Author.Tests.{leb-true, leb-false}
use Rattle.laws.proofs.Picks.{by_bool}
use Rattle.testtext.specs.Words.{word_octet}
use Rattle.testtext.proofs.Octets.{going_none, going_next, going_full, going_short}
use Rattle.testtext.proofs.words.octets_from.Goals as goal

pub loop-n-init : goal.loop-n-init
loop-n-init c = let same : c.args.at + 0 ≡ c.args.at = omega arith in rw same (going_none _ _ _)

pub loop-n-preserved : goal.loop-n-preserved
unfolding word_octet
loop-n-preserved c =
    let next : c.args.at + 3 * (c.loop-n.n + 1) ≡ c.args.at + 3 * c.loop-n.n + 3 = omega arith in
    rw (c.octet_of.ensures, next)
    (going_next _ _ _ c.loop-n.invariant (omega (arith, c.loop-n-test.true)) (omega (arith, c.loop-n-test.true)))

pub returns : goal.returns
returns c =
    let done : c.loop-n.n ≡ c.min-count.result = omega arith in
    let xs = c.args.out.now in
    rw (← done)
    (by_bool _ (leb (length xs) c.loop-n.n)
    (λ h. going_full _ _ _ c.loop-n.invariant (leb-true (length xs) c.loop-n.n h))
    (λ h. going_short _ _ _ c.loop-n.invariant (omega (arith, leb-false (length xs) c.loop-n.n h))))
