use borrow.Author.Rules.{rules}
use mathlib.Core.Path.{◌≡◌, ◌∙◌}
use lib.ListN.{take}
use lib.Dec.{eqb}
use Rattle.std.specs.List.{starts_with}
use Rattle.instances.proofs.Runs.{stored_is}
use Rattle.rules.proofs.Begins.{begins_starts}
use Rattle.rules.proofs.prefix.begins_with.Goals as goal

pub returns : goal.returns
returns c =
    let f = c.args.f.now in
    let n = c.args.n.now in
    let prefix = stored_is _ f.count _ f.digits c.stored.ensures (search rules) in
    let digits = stored_is _ n.count _ n.digits c.stored-2.ensures (search rules) in
    let same : starts_with eqb (take c.stored-2.result n.digits) (take c.stored.result f.digits) ≡ starts_with eqb (take n.count n.digits) (take f.count f.digits) =
    rw (prefix, digits) in
    c.starts_with.ensures.value ∙ same ∙ begins_starts _ _
