use Rattle.octets.proofs.Founds.{found_got, found_wrong}
use Rattle.forms.proofs.Fields.{below_small}
use Rattle.forms.proofs.Readers.{service_octet}
use Rattle.forms.specs.Instance.{field_at, service_of, address_from, instance_from}
use Rattle.forms.specs.inner.Reading.{field_below}
use Prim.Native.Nat.{◌<◌}
use native.Mathlib.Omega.{arith}
use borrow.Author.Rules.{rules}
use Rattle.forms.proofs.read.instance_at.Goals as goal

pub overflow_cast-result : goal.overflow_cast-result
overflow_cast-result c =
    let a = c.args in
    let procedure = found_got (field_below _ _ _) c.field_below.ensures c.in_ok-procedure.was in
    let few : a.f.procedures < 256 = search (rules, c.well_formed) in
    omega (arith, few, below_small a.s.now _ a.f.procedures _ _ procedure)

pub overflow_cast-result-2 : goal.overflow_cast-result-2
overflow_cast-result-2 c =
    let a = c.args in
    let number = found_got (field_below _ _ _) c.field_below-2.ensures c.in_ok-number.was in
    let few : a.f.numbers < 256 = search (rules, c.well_formed) in
    omega (arith, few, below_small a.s.now _ a.f.numbers _ _ number)

pub overflow_cast-result-3 : goal.overflow_cast-result-3
overflow_cast-result-3 c =
    let a = c.args in
    let service = found_got (field_at service_of _ _) c.service_at.ensures c.in_ok-service.was in
    omega (arith, service_octet a.s.now _ _ _ service)

pub returns-in_err-procedure : goal.returns-in_err-procedure
unfolding instance_from
returns-in_err-procedure c =
    let none = found_wrong (field_below _ _ _) c.field_below.ensures c.in_err-procedure.was in
    rw (c.from_residual.ensures, none)

pub returns-in_err-number : goal.returns-in_err-number
unfolding instance_from
returns-in_err-number c =
    let procedure = found_got (field_below _ _ _) c.field_below.ensures c.in_ok-procedure.was in
    let none = found_wrong (field_below _ _ _) c.field_below-2.ensures c.in_err-number.was in
    rw (c.from_residual-in_err-number.ensures, procedure, none)

pub returns-in_err-service : goal.returns-in_err-service
unfolding instance_from
returns-in_err-service c =
    let procedure = found_got (field_below _ _ _) c.field_below.ensures c.in_ok-procedure.was in
    let number = found_got (field_below _ _ _) c.field_below-2.ensures c.in_ok-number.was in
    let none = found_wrong (field_at service_of _ _) c.service_at.ensures c.in_err-service.was in
    rw (c.from_residual-in_err-service.ensures, procedure, number, none)

pub returns-in_err-address : goal.returns-in_err-address
unfolding instance_from
returns-in_err-address c =
    let procedure = found_got (field_below _ _ _) c.field_below.ensures c.in_ok-procedure.was in
    let number = found_got (field_below _ _ _) c.field_below-2.ensures c.in_ok-number.was in
    let service = found_got (field_at service_of _ _) c.service_at.ensures c.in_ok-service.was in
    let none = found_wrong (address_from _ _) c.address_in.ensures c.in_err-address.was in
    rw (c.from_residual-in_err-address.ensures, procedure, number, service, none)

pub returns : goal.returns
unfolding instance_from
returns c =
    let procedure = found_got (field_below _ _ _) c.field_below.ensures c.in_ok-procedure.was in
    let number = found_got (field_below _ _ _) c.field_below-2.ensures c.in_ok-number.was in
    let service = found_got (field_at service_of _ _) c.service_at.ensures c.in_ok-service.was in
    let address = found_got (address_from _ _) c.address_in.ensures c.in_ok-address.was in
    rw (procedure, number, service, address)
