use native.Mathlib.Omega.{arith}
use lib.ListN.{length}
use Rattle.refusals.specs.declared.refusal.Refusal.TheVariants.{ShortOutput, BadTable}
use Rattle.components.proofs.Writings.{list_short, list_many, refused_made}
use Rattle.components.proofs.write.write_list.Goals as goal

pub returns-then-out-lt-OUTPUTLEAST : goal.returns-then-out-lt-OUTPUTLEAST
returns-then-out-lt-OUTPUTLEAST c =
    let a = c.args in
    refused_made _ a.out.now ShortOutput (list_short _ a.list (length a.out.now) (omega (arith, c.if-out-lt-OUTPUTLEAST.true)))

pub returns-then-list-gt-INSTANCESMOST : goal.returns-then-list-gt-INSTANCESMOST
returns-then-list-gt-INSTANCESMOST c =
    let a = c.args in
    refused_made _ a.out.now BadTable
    (list_many _ a.list (length a.out.now) (omega (arith, c.if-out-lt-OUTPUTLEAST.false))
    (omega (arith, c.if-list-gt-INSTANCESMOST.true)))
