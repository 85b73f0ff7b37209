use Rattle.octets.proofs.Founds.{found_got, found_wrong}
use Rattle.forms.proofs.Fields.{come_first, come_wrong, come_next, come_all, below_small}
use Rattle.forms.specs.inner.Reading.{field_below}
use native.Mathlib.Omega.{arith}
use Rattle.forms.proofs.field.fields_below.Goals as goal

pub loop-i-init : goal.loop-i-init
loop-i-init c = let a = c.args in come_first a.below a.base a.count a.s.now a.at

pub returns-in_err-field : goal.returns-in_err-field
returns-in_err-field c =
    let a = c.args in
    let l = c.loop-i in
    let none = found_wrong (field_below _ _ _) c.field_below.ensures c.in_err-field.was in
    rw (c.from_residual.ensures, come_wrong a.below a.base a.count a.s.now a.at l.i l.here l.octets l.invariant c.loop-i-test.true none)

pub overflow_add-octets : goal.overflow_add-octets
overflow_add-octets c =
    let a = c.args in
    let found = found_got (field_below _ _ _) c.field_below.ensures c.in_ok-field.was in
    omega (arith, below_small a.s.now c.loop-i.here a.below _ _ found, c.requires)

pub overflow_cast-octets : goal.overflow_cast-octets
overflow_cast-octets c =
    let a = c.args in
    let found = found_got (field_below _ _ _) c.field_below.ensures c.in_ok-field.was in
    omega (arith, below_small a.s.now c.loop-i.here a.below _ _ found, c.requires)

pub loop-i-preserved : goal.loop-i-preserved
loop-i-preserved c =
    let a = c.args in
    let l = c.loop-i in
    let found = found_got (field_below _ _ _) c.field_below.ensures c.in_ok-field.was in
    come_next a.below a.base a.count a.s.now a.at l.i l.here l.octets l.invariant c.loop-i-test.true _ _ c.requires.0 found

pub returns : goal.returns
returns c =
    let a = c.args in
    let l = c.loop-i in
    come_all a.below a.base a.count a.s.now a.at l.i l.here l.octets l.invariant c.loop-i-test.false c.requires.0
