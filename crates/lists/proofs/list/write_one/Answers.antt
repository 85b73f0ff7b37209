use Rattle.lists.proofs.Writers.{one_wrote}
use native.Mathlib.Omega.{arith}
use Prim.Native.Nat.{◌+◌}
use lib.ListN.{set, length-set}
use Rattle.lists.proofs.list.write_one.Goals as goal

pub bounds-out-at-2 : goal.bounds-out-at-2
bounds-out-at-2 c = omega (arith, c.requires, length-set c.args.out.now c.args.at c.args.tag)

pub bounds-out-at-3 : goal.bounds-out-at-3
bounds-out-at-3 c =
    omega (
      arith,
      c.requires,
      length-set c.args.out.now c.args.at c.args.tag,
      length-set
          (set c.args.out.now c.args.at c.args.tag) (c.args.at + 1) 1,
    )

pub returns : goal.returns
returns c = one_wrote c.args.out.now c.args.at c.args.tag c.args.octet
