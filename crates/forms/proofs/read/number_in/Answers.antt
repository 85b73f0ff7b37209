use Rattle.octets.proofs.Founds.{found_got, found_wrong}
use Rattle.forms.proofs.Fields.{below_small}
use Rattle.forms.proofs.Parts.{got_as_got, got_as_wrong}
use Rattle.forms.proofs.Readers.{number_no_form, number_no_kind, number_no_count, number_no_digits, number_refused, number_found}
use Rattle.forms.specs.inner.Reading.{field_below, fields_below, octets_on}
use native.Mathlib.Omega.{arith}
use mathlib.Core.Path.{sym, ◌∙◌}
use Rattle.forms.proofs.read.number_in.Goals as goal

pub returns-in_err-form : goal.returns-in_err-form
returns-in_err-form c =
    let a = c.args in
    let none = found_wrong (field_below _ _ _) c.field_below.ensures c.in_err-form.was in
    rw (c.from_residual.ensures, number_no_form a.s.now a.at none)

pub returns-in_err-kind : goal.returns-in_err-kind
returns-in_err-kind c =
    let a = c.args in
    let form = found_got (field_below _ _ _) c.field_below.ensures c.in_ok-form.was in
    let none = found_wrong (field_below _ _ _) c.field_below-2.ensures c.in_err-kind.was in
    rw (c.from_residual-in_err-kind.ensures, number_no_kind a.s.now a.at _ _ form none)

pub returns-in_err-count : goal.returns-in_err-count
returns-in_err-count c =
    let a = c.args in
    let form = found_got (field_below _ _ _) c.field_below.ensures c.in_ok-form.was in
    let kind = found_got (field_below _ _ _) c.field_below-2.ensures c.in_ok-kind.was in
    let none = found_wrong (field_below _ _ _) c.field_below-3.ensures c.in_err-count.was in
    rw (c.from_residual-in_err-count.ensures, number_no_count a.s.now a.at _ _ form _ _ kind none)

pub fields_below-requires : goal.fields_below-requires
fields_below-requires c =
    let a = c.args in
    let count = found_got (field_below _ _ _) c.field_below-3.ensures c.in_ok-count.was in
    (omega (arith, below_small a.s.now _ 21 _ _ count), omega arith)

pub returns-in_err-fields : goal.returns-in_err-fields
returns-in_err-fields c =
    let a = c.args in
    let form = found_got (field_below _ _ _) c.field_below.ensures c.in_ok-form.was in
    let kind = found_got (field_below _ _ _) c.field_below-2.ensures c.in_ok-kind.was in
    let count = found_got (field_below _ _ _) c.field_below-3.ensures c.in_ok-count.was in
    let none = got_as_wrong (octets_on 48) (fields_below _ _ _ _) c.fields_below.ensures c.in_err-fields.was in
    rw (c.from_residual-in_err-fields.ensures, number_no_digits a.s.now a.at _ _ form _ _ kind _ _ count none)

pub overflow_cast-number : goal.overflow_cast-number
overflow_cast-number c =
    let a = c.args in
    let form = found_got (field_below _ _ _) c.field_below.ensures c.in_ok-form.was in
    omega (arith, below_small a.s.now _ 2 _ _ form)

pub overflow_cast-number-2 : goal.overflow_cast-number-2
overflow_cast-number-2 c =
    let a = c.args in
    let kind = found_got (field_below _ _ _) c.field_below-2.ensures c.in_ok-kind.was in
    omega (arith, below_small a.s.now _ 256 _ _ kind)

pub overflow_cast-number-3 : goal.overflow_cast-number-3
overflow_cast-number-3 c =
    let a = c.args in
    let count = found_got (field_below _ _ _) c.field_below-3.ensures c.in_ok-count.was in
    omega (arith, below_small a.s.now _ 21 _ _ count)

pub returns-then-not-number_good : goal.returns-then-not-number_good
returns-then-not-number_good c =
    let a = c.args in
    let form = found_got (field_below _ _ _) c.field_below.ensures c.in_ok-form.was in
    let kind = found_got (field_below _ _ _) c.field_below-2.ensures c.in_ok-kind.was in
    let count = found_got (field_below _ _ _) c.field_below-3.ensures c.in_ok-count.was in
    let fields = got_as_got (octets_on 48) (fields_below _ _ _ _) c.fields_below.ensures c.in_ok-fields.was in
    rw (number_refused a.s.now a.at _ _ form _ _ kind _ _ count _ fields (sym c.number_good.ensures ∙ c.if-not-number_good.true))

pub returns : goal.returns
returns c =
    let a = c.args in
    let form = found_got (field_below _ _ _) c.field_below.ensures c.in_ok-form.was in
    let kind = found_got (field_below _ _ _) c.field_below-2.ensures c.in_ok-kind.was in
    let count = found_got (field_below _ _ _) c.field_below-3.ensures c.in_ok-count.was in
    let fields = got_as_got (octets_on 48) (fields_below _ _ _ _) c.fields_below.ensures c.in_ok-fields.was in
    rw (number_found a.s.now a.at _ _ form _ _ kind _ _ count _ fields (sym c.number_good.ensures ∙ c.if-not-number_good.false))
