use Rattle.numbers.specs.Address.{address_octets}
use lib.ListN.{length}
use mathlib.Core.Path.{◌≡◌, refl}
use Prim.Native.Nat.{◌+◌, ◌-◌, ◌≤◌}
use Rattle.lists.proofs.Writers.{Whole, address_few, rest_size, rest_room, rest_wrote}
use Rattle.numbers.proofs.Writers.{sub_unwritten}
use Rattle.laws.proofs.Over.{wrote}
use native.Mathlib.Omega.{arith}
use borrow.Author.Rules.{rules}
use Rattle.lists.proofs.list.write_rest.Goals as goal

pub overflow_sub-end-2 : goal.overflow_sub-end-2
overflow_sub-end-2 c = let e = c.args.e in
    let whole : Whole e = record {
      own = search (rules, c.well_formed.1.1.1.0);
      digits = search
          (rules, c.well_formed.1.1.1.0.1.1.1.1.1.0);
      sub = search
          (rules, c.well_formed.1.1.1.0.1.1.1.1.1.0);
    } in
    omega (arith, c.requires.0, rest_size e whole)

pub overflow_cast-end : goal.overflow_cast-end
overflow_cast-end c = let e = c.args.e in
    let whole : Whole e = record {
      own = search (rules, c.well_formed.1.1.1.0);
      digits = search
          (rules, c.well_formed.1.1.1.0.1.1.1.1.1.0);
      sub = search
          (rules, c.well_formed.1.1.1.0.1.1.1.1.1.0);
    } in
    omega (arith, c.requires.0, address_few e whole)

pub write_short-p-requires : goal.write_short-p-requires
write_short-p-requires c = let e = c.args.e in
    let whole : Whole e = record {
      own = search (rules, c.well_formed.1.1.1.0);
      digits = search
          (rules, c.well_formed.1.1.1.0.1.1.1.1.1.0);
      sub = search
          (rules, c.well_formed.1.1.1.0.1.1.1.1.1.0);
    } in
    omega (arith, c.requires.0, c.requires.1, rest_size e whole)

pub returns-then-address-eq0 : goal.returns-then-address-eq0
returns-then-address-eq0 c = let e = c.args.e in
    let whole : Whole e = record {
      own = search
          (rules, c.well_formed.1.1.1.0);
      digits = search (rules, c.well_formed.1.1.1.0.1.1.1.1.1.0);
      sub = search (rules, c.well_formed.1.1.1.0.1.1.1.1.1.0);
    } in
    rest_wrote e whole (omega (
      arith,
      c.requires.0,
      c.requires.1,
    ))
    (omega (
      arith,
      c.requires.0,
      rest_size e whole,
    )) c.write_short-p.ensures
    c.put_number-q.ensures
    (sub_unwritten e.address whole.sub refl (rw c.if-address-eq0.true refl))

pub returns : goal.returns
returns c =
    let a = c.args in
    let e = c.args.e in
    let whole : Whole e = record {
      own = search
          (rules, c.well_formed.1.1.1.0);
      digits = search (rules, c.well_formed.1.1.1.0.1.1.1.1.1.0);
      sub = search (rules, c.well_formed.1.1.1.0.1.1.1.1.1.0);
    } in
    let fits : a.at + length (address_octets e.address) ≤ length a.out.now = omega
    (arith, c.requires.0, c.requires.1) in
    let size : a.end - a.at - 2 + 2 ≡ length (address_octets e.address) = omega
    (arith, c.requires.0, rest_size e whole) in
    rest_wrote e whole fits size c.write_short-p.ensures c.put_number-q.ensures
    (wrote (rest_room e whole fits size
    c.write_short-p.ensures
    c.put_number-q.ensures) c.put_sub.ensures)
