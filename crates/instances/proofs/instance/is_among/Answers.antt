use borrow.Author.Rules.{rules}
use mathlib.Core.Bool.{true}
use mathlib.Core.Logic.{◌↔◌}
use mathlib.Core.Path.{◌≡◌}
use Rattle.std.proofs.iter.runs.Made.{chains}
use Rattle.std.specs.List.{Contains}
use Rattle.instances.proofs.Choices.{among_contains}
use Rattle.instances.proofs.instance.is_among.Goals as goal

pub returns : goal.returns
returns c =
    let each : (c.any.result ≡ true) ↔ Contains c.args.codes.now c.args.code = search (rules, chains) in
    among_contains c.args.code c.args.codes.now c.any.result each
