use Rattle.octets.proofs.Founds.{found_got, found_wrong}
use Rattle.forms.proofs.Fields.{below_small}
use Rattle.forms.proofs.Parts.{got_as_got, got_as_wrong}
use Rattle.forms.proofs.Readers.{address_no_number, address_no_count, address_no_octets, address_found}
use Rattle.forms.specs.inner.Reading.{field_below, fields_below, number_from_fields, octets_on}
use native.Mathlib.Omega.{arith}
use Rattle.forms.proofs.read.address_in.Goals as goal

pub returns-in_err-number : goal.returns-in_err-number
returns-in_err-number c =
    let a = c.args in
    let none = found_wrong (number_from_fields _ _) c.number_in.ensures c.in_err-number.was in
    rw (c.from_residual.ensures, address_no_number a.s.now a.at none)

pub returns-in_err-count : goal.returns-in_err-count
returns-in_err-count c =
    let a = c.args in
    let number = found_got (number_from_fields _ _) c.number_in.ensures c.in_ok-number.was in
    let none = found_wrong (field_below _ _ _) c.field_below.ensures c.in_err-count.was in
    rw (c.from_residual-in_err-count.ensures, address_no_count a.s.now a.at _ _ number none)

pub fields_below-requires : goal.fields_below-requires
fields_below-requires c =
    let a = c.args in
    let count = found_got (field_below _ _ _) c.field_below.ensures c.in_ok-count.was in
    (omega (arith, below_small a.s.now _ 21 _ _ count), omega arith)

pub returns-in_err-fields : goal.returns-in_err-fields
returns-in_err-fields c =
    let a = c.args in
    let number = found_got (number_from_fields _ _) c.number_in.ensures c.in_ok-number.was in
    let count = found_got (field_below _ _ _) c.field_below.ensures c.in_ok-count.was in
    let none = got_as_wrong (octets_on 0) (fields_below _ _ _ _) c.fields_below.ensures c.in_err-fields.was in
    rw (c.from_residual-in_err-fields.ensures, address_no_octets a.s.now a.at _ _ number _ _ count none)

pub overflow_cast-result : goal.overflow_cast-result
overflow_cast-result c =
    let a = c.args in
    let count = found_got (field_below _ _ _) c.field_below.ensures c.in_ok-count.was in
    omega (arith, below_small a.s.now _ 21 _ _ count)

pub returns : goal.returns
returns c =
    let a = c.args in
    let number = found_got (number_from_fields _ _) c.number_in.ensures c.in_ok-number.was in
    let count = found_got (field_below _ _ _) c.field_below.ensures c.in_ok-count.was in
    let fields = got_as_got (octets_on 0) (fields_below _ _ _ _) c.fields_below.ensures c.in_ok-fields.was in
    rw (address_found a.s.now a.at _ _ number _ _ count _ fields)
