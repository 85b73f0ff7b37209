use Rattle.octets.proofs.Founds.{found_got, found_wrong}
use Rattle.forms.proofs.Fields.{below_small}
use Rattle.forms.proofs.Readers.{service_none, service_all, service_other, service_found}
use Rattle.forms.specs.inner.Reading.{field_below}
use native.Mathlib.Omega.{arith}
use mathlib.Core.Path.{sym, ◌∙◌}
use Rattle.forms.proofs.read.service_at.Goals as goal

pub returns-in_err-field : goal.returns-in_err-field
returns-in_err-field c =
    let a = c.args in
    let none = found_wrong (field_below _ _ _) c.field_below.ensures c.in_err-field.was in
    rw (c.from_residual.ensures, service_none a.s.now a.at none)

pub overflow_cast-code : goal.overflow_cast-code
overflow_cast-code c =
    let a = c.args in
    let field = found_got (field_below _ _ _) c.field_below.ensures c.in_ok-field.was in
    omega (arith, below_small a.s.now _ 256 _ _ field)

pub returns-then-code-eq0 : goal.returns-then-code-eq0
returns-then-code-eq0 c =
    let a = c.args in
    let field = found_got (field_below _ _ _) c.field_below.ensures c.in_ok-field.was in
    rw (service_all a.s.now a.at _ _ field c.if-code-eq0.true)

pub returns-then-not-service_code : goal.returns-then-not-service_code
returns-then-not-service_code c =
    let a = c.args in
    let field = found_got (field_below _ _ _) c.field_below.ensures c.in_ok-field.was in
    rw (service_other a.s.now a.at _ _ field c.if-code-eq0.false (sym c.service_code.ensures ∙ c.if-not-service_code.true))

pub returns : goal.returns
returns c =
    let a = c.args in
    let field = found_got (field_below _ _ _) c.field_below.ensures c.in_ok-field.was in
    rw (service_found a.s.now a.at _ _ field c.if-code-eq0.false (sym c.service_code.ensures ∙ c.if-not-service_code.false))
