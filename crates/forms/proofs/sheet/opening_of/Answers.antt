use Rattle.octets.proofs.Founds.{found_got, found_wrong}
use Rattle.forms.proofs.Fields.{below_small}
use Rattle.forms.proofs.Sheets.{opening_no_form, opening_other, opening_no_last, opening_no_count, opening_is}
use Rattle.forms.specs.inner.Reading.{any_field, field_below}
use Prim.Native.Nat.{◌+◌, ◌<◌}
use native.Mathlib.Omega.{arith}
use borrow.Author.Rules.{rules}
use Rattle.forms.proofs.sheet.opening_of.Goals as goal

pub returns-in_err-form : goal.returns-in_err-form
returns-in_err-form c =
    let a = c.args in
    let none = found_wrong (any_field _ _) c.field_at.ensures c.in_err-form.was in
    rw (c.from_residual.ensures, opening_no_form a.f a.s.now none)

pub returns-then-form-code : goal.returns-then-form-code
returns-then-form-code c =
    let a = c.args in
    let form = found_got (any_field _ _) c.field_at.ensures c.in_ok-form.was in
    rw (opening_other a.f a.s.now _ _ form c.if-form-code.true)

pub returns-in_err-last : goal.returns-in_err-last
returns-in_err-last c =
    let a = c.args in
    let form = found_got (any_field _ _) c.field_at.ensures c.in_ok-form.was in
    let none = found_wrong (field_below _ _ _) c.field_below.ensures c.in_err-last.was in
    rw (c.from_residual-in_err-last.ensures, opening_no_last a.f a.s.now _ _ form c.if-form-code.false none)

pub returns-in_err-count : goal.returns-in_err-count
returns-in_err-count c =
    let a = c.args in
    let form = found_got (any_field _ _) c.field_at.ensures c.in_ok-form.was in
    let last = found_got (field_below _ _ _) c.field_below.ensures c.in_ok-last.was in
    let none = found_wrong (any_field _ _) c.field_at-2.ensures c.in_err-count.was in
    rw (c.from_residual-in_err-count.ensures, opening_no_count a.f a.s.now _ _ form c.if-form-code.false _ _ last none)

pub overflow_cast-result : goal.overflow_cast-result
overflow_cast-result c =
    let a = c.args in
    let last = found_got (field_below _ _ _) c.field_below.ensures c.in_ok-last.was in
    let few : a.f.lastmost < 65536 = search (rules, c.well_formed) in
    omega (arith, few, below_small a.s.now _ (a.f.lastmost + 1) _ _ last)

pub returns : goal.returns
returns c =
    let a = c.args in
    let form = found_got (any_field _ _) c.field_at.ensures c.in_ok-form.was in
    let last = found_got (field_below _ _ _) c.field_below.ensures c.in_ok-last.was in
    let count = found_got (any_field _ _) c.field_at-2.ensures c.in_ok-count.was in
    rw (opening_is a.f a.s.now _ _ form c.if-form-code.false _ _ last _ _ count)
