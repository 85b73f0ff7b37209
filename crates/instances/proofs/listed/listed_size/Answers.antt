use Rattle.lists.proofs.Writers.{Whole, number_few, address_few, entry_long}
use Rattle.lists.specs.Entry.{entry_of}
use native.Mathlib.Omega.{arith}
use borrow.Author.Rules.{rules}
use Rattle.instances.proofs.listed.listed_size.Goals as goal

pub overflow_add-result : goal.overflow_add-result
overflow_add-result c = let a = c.args in
    let e = entry_of a.served a.x.service a.x.procedure a.x.address in
    let whole : Whole e = record {
      own = search (rules, c.well_formed.0);
      digits = search
          (rules, c.well_formed.1.0);
      sub = search (rules, c.well_formed.1.0);
    } in
    omega (arith, c.number_size.ensures, number_few e whole)

pub overflow_add-result-2 : goal.overflow_add-result-2
overflow_add-result-2 c = let a = c.args in
    let e = entry_of a.served a.x.service a.x.procedure a.x.address in
    let whole : Whole e = record {
      own = search (rules, c.well_formed.0);
      digits = search
          (rules, c.well_formed.1.0);
      sub = search (rules, c.well_formed.1.0);
    } in
    omega (arith, c.address_size.ensures, c.number_size.ensures, number_few e whole, address_few e whole)

pub returns : goal.returns
returns c = let a = c.args in
    let e = entry_of a.served a.x.service a.x.procedure a.x.address in
    let whole : Whole e = record {
      own = search (rules, c.well_formed.0);
      digits = search
          (rules, c.well_formed.1.0);
      sub = search (rules, c.well_formed.1.0);
    } in (
      omega (arith, c.address_size.ensures, c.number_size.ensures, entry_long e whole),
      omega
          (arith, c.address_size.ensures, c.number_size.ensures, number_few e whole, address_few e whole),
    )
