use Rattle.octets.proofs.Founds.{found_got, found_wrong}
use Rattle.forms.specs.inner.Reading.{any_field}
use Rattle.forms.proofs.Fields.{below_is, below_not, below_none}
use Rattle.forms.proofs.field.field_below.Goals as goal

pub returns-in_err-field : goal.returns-in_err-field
returns-in_err-field c =
    let a = c.args in
    rw (c.from_residual.ensures, below_none a.s.now a.at a.below (found_wrong (any_field _ _) c.field_at.ensures c.in_err-field.was))

pub returns-then-below-field : goal.returns-then-below-field
returns-then-below-field c =
    let a = c.args in
    let found = found_got (any_field _ _) c.field_at.ensures c.in_ok-field.was in
    rw (below_not a.s.now a.at a.below _ _ found c.if-below-field.true)

pub returns : goal.returns
returns c =
    let a = c.args in
    let found = found_got (any_field _ _) c.field_at.ensures c.in_ok-field.was in
    rw (below_is a.s.now a.at a.below _ _ found c.if-below-field.false)
