use Rattle.lists.proofs.Writers.{Whole, entry_long, entry_split, start_room, start_wrote}
use Rattle.laws.proofs.Over.{wrote_length}
use Rattle.values.proofs.Enumerateds.{length_enumerated}
use native.Mathlib.Omega.{arith}
use borrow.Author.Rules.{rules}
use Rattle.lists.proofs.list.write_start.Goals as goal

pub overflow_sub-size : goal.overflow_sub-size
overflow_sub-size c = let e = c.args.e in
    let whole : Whole e = record {
      own = search (rules, c.well_formed.1.1.1.0);
      digits = search
          (rules, c.well_formed.1.1.1.0.1.1.1.1.1.0);
      sub = search
          (rules, c.well_formed.1.1.1.0.1.1.1.1.1.0);
    } in
    omega (arith, c.requires.0, entry_long e whole)

pub write_short-p-requires : goal.write_short-p-requires
write_short-p-requires c = let e = c.args.e in
    let whole : Whole e = record {
      own = search (rules, c.well_formed.1.1.1.0);
      digits = search
          (rules, c.well_formed.1.1.1.0.1.1.1.1.1.0);
      sub = search
          (rules, c.well_formed.1.1.1.0.1.1.1.1.1.0);
    } in
    omega (arith, c.requires.0, c.requires.1, entry_long e whole)

pub write_one-k-requires : goal.write_one-k-requires
write_one-k-requires c = let e = c.args.e in
    let whole : Whole e = record {
      own = search
          (rules, c.well_formed.1.1.1.0);
      digits = search
          (rules, c.well_formed.1.1.1.0.1.1.1.1.1.0);
      sub = search (rules, c.well_formed.1.1.1.0.1.1.1.1.1.0);
    } in
    omega (
      arith,
      start_room e whole
          (omega (
            arith,
            c.requires.0,
            c.requires.1,
          ))
          c.write_short-p.ensures c.put_number-q.ensures,
    )

pub write_one-requires : goal.write_one-requires
write_one-requires c =
    let e = c.args.e in
    let whole : Whole e = record {
      own = search
          (rules, c.well_formed.1.1.1.0);
      digits = search (rules, c.well_formed.1.1.1.0.1.1.1.1.1.0);
      sub = search (rules, c.well_formed.1.1.1.0.1.1.1.1.1.0);
    } in
    let one = c.write_one-k.ensures in
    omega (
      arith,
      one.moved,
      wrote_length one,
      length_enumerated e.service,
      start_room e whole
          (omega (arith, c.requires.0, c.requires.1)) c.write_short-p.ensures c.put_number-q.ensures,
    )

pub returns : goal.returns
returns c =
    let e = c.args.e in
    let whole : Whole e = record {
      own = search
          (rules, c.well_formed.1.1.1.0);
      digits = search (rules, c.well_formed.1.1.1.0.1.1.1.1.1.0);
      sub = search (rules, c.well_formed.1.1.1.0.1.1.1.1.1.0);
    } in (
      start_wrote e whole (omega (
        arith,
        c.requires.0,
        c.requires.1,
      )) (omega (arith, c.requires.0, entry_long e whole)) c.write_short-p.ensures c.put_number-q.ensures c.write_one-k.ensures c.write_one.ensures,
      entry_split e whole,
    )
