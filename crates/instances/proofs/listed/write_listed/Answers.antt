use Rattle.lists.proofs.Writers.{Whole, number_few, address_few, rest_size, entry_wrote}
use Rattle.lists.proofs.Sizes.{fields_size}
use Rattle.lists.specs.Entry.{entry_of}
use native.Mathlib.Omega.{arith}
use borrow.Author.Rules.{rules}
use Rattle.instances.proofs.listed.write_listed.Goals as goal

pub overflow_add-size : goal.overflow_add-size
overflow_add-size c = let a = c.args in
    let e = entry_of a.served a.x.service a.x.procedure a.x.address in
    let whole : Whole e = record {
      own = search (rules, c.well_formed.1.1.0);
      digits = search
          (rules, c.well_formed.1.1.1.0);
      sub = search
          (rules, c.well_formed.1.1.1.0);
    } in
    omega (arith, c.number_size.ensures, number_few e whole)

pub overflow_add-size-2 : goal.overflow_add-size-2
overflow_add-size-2 c = let a = c.args in
    let e = entry_of a.served a.x.service a.x.procedure a.x.address in
    let whole : Whole e = record {
      own = search (rules, c.well_formed.1.1.0);
      digits = search
          (rules, c.well_formed.1.1.1.0);
      sub = search
          (rules, c.well_formed.1.1.1.0);
    } in
    omega (arith, c.number_size.ensures, c.address_size-inner.ensures, number_few e whole, address_few e whole)

pub overflow_cast-size : goal.overflow_cast-size
overflow_cast-size c = let a = c.args in
    let e = entry_of a.served a.x.service a.x.procedure a.x.address in
    let whole : Whole e = record {
      own = search (rules, c.well_formed.1.1.0);
      digits = search
          (rules, c.well_formed.1.1.1.0);
      sub = search
          (rules, c.well_formed.1.1.1.0);
    } in
    omega (arith, c.number_size.ensures, c.address_size-inner.ensures, number_few e whole, address_few e whole)

pub overflow_sub-inner : goal.overflow_sub-inner
overflow_sub-inner c =
    let a = c.args in
    let e = entry_of a.served a.x.service a.x.procedure a.x.address in
    let whole : Whole e = record {
      own = search
          (rules, c.well_formed.1.1.0);
      digits = search (rules, c.well_formed.1.1.1.0);
      sub = search (rules, c.well_formed.1.1.1.0);
    } in
    omega (arith, c.address_size-inner.ensures, rest_size e whole)

pub overflow_cast-inner : goal.overflow_cast-inner
overflow_cast-inner c =
    let a = c.args in
    let e = entry_of a.served a.x.service a.x.procedure a.x.address in
    let whole : Whole e = record {
      own = search
          (rules, c.well_formed.1.1.0);
      digits = search (rules, c.well_formed.1.1.1.0);
      sub = search (rules, c.well_formed.1.1.1.0);
    } in
    omega (arith, c.address_size-inner.ensures, address_few e whole)

pub returns : goal.returns
returns c =
    let a = c.args in
    let e = entry_of a.served a.x.service a.x.procedure a.x.address in
    let whole : Whole e = record {
      own = search
          (rules, c.well_formed.1.1.0);
      digits = search (rules, c.well_formed.1.1.1.0);
      sub = search (rules, c.well_formed.1.1.1.0);
    } in
    entry_wrote e c.requires (omega (arith, c.number_size.ensures, c.address_size-inner.ensures, fields_size e)) (omega (arith, c.address_size-inner.ensures, rest_size e whole))
    c.put_head-p.ensures c.put_number-q.ensures c.put_enumerated-k.ensures c.put_enumerated-m.ensures c.put_head-a.ensures c.put_number-b.ensures c.put_sub.ensures
