use mathlib.Core.Path.{sym, ◌∙◌}
use Rattle.octets.proofs.Founds.{found_got, found_wrong}
use Rattle.values.specs.Enumerated.{enumerated_at}
use Rattle.numbers.specs.Number.{public_in}
use Rattle.numbers.proofs.number.public_in.Goals as goal

pub returns-in_err-kind : goal.returns-in_err-kind
unfolding public_in
returns-in_err-kind c =
    rw (c.from_residual.ensures, found_wrong (enumerated_at _ _ _ _) c.enumerated_at.ensures c.in_err-kind.was)

pub returns-then-not-type_good : goal.returns-then-not-type_good
unfolding public_in
returns-then-not-type_good c =
    rw (
      found_got (enumerated_at _ _ _ _) c.enumerated_at.ensures c.in_ok-kind.was,
      sym c.type_good.ensures ∙ c.if-not-type_good.true,
    )

pub returns : goal.returns
unfolding public_in
returns c =
    rw (
      found_got (enumerated_at _ _ _ _) c.enumerated_at.ensures c.in_ok-kind.was,
      sym c.type_good.ensures ∙ c.if-not-type_good.false,
    )
    c.string_at.ensures
