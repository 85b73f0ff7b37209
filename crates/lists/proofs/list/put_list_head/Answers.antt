use native.Mathlib.Omega.{arith}
use Prim.Native.Nat.{◌+◌, ◌≤◌}
use lib.ListN.{length, length-append}
use lib.IntN.{pos}
use mir.Facts.{to_z-of_z}
use Rattle.values.proofs.Idents.{ident_most_lem, ident_one}
use Rattle.values.specs.Ident.{ident_octets}
use Rattle.octets.proofs.Elements.{head_most}
use Rattle.octets.specs.Element.{head_octets}
use Rattle.codes.specs.Codes.{interrogation}
use Rattle.lists.specs.Listed.{list_opened}
use Rattle.lists.proofs.Heads.{lengths, list_long, head_room, head_wrote, head_large, head_none, head_all}
use Rattle.lists.proofs.list.put_list_head.Goals as goal

pub returns-then-size-gt-ENTRIESSIZE : goal.returns-then-size-gt-ENTRIESSIZE
returns-then-size-gt-ENTRIESSIZE c = head_large c.if-size-gt-ENTRIESSIZE.true

pub overflow_add-sequence : goal.overflow_add-sequence
overflow_add-sequence c = omega (arith, c.if-size-gt-ENTRIESSIZE.false, head_most _ c.head_size.ensures)

pub overflow_add-sequence-2 : goal.overflow_add-sequence-2
overflow_add-sequence-2 c = omega (arith, c.if-size-gt-ENTRIESSIZE.false, head_most _ c.head_size.ensures)

pub overflow_cast-sequence : goal.overflow_cast-sequence
overflow_cast-sequence c = omega (arith, c.if-size-gt-ENTRIESSIZE.false, head_most _ c.head_size.ensures)

pub overflow_add-inside : goal.overflow_add-inside
overflow_add-inside c = let same = to_z-of_z c.ranges.identifier in
    let count = rw same at c.ident_size.ensures in
    omega (
      arith,
      c.if-size-gt-ENTRIESSIZE.false,
      head_most _ c.head_size.ensures,
      count,
      ident_most_lem
          c.args.identifier
          c.ranges.identifier.sfits,
      head_most _ c.head_size-2.ensures,
    )

pub overflow_add-inside-2 : goal.overflow_add-inside-2
overflow_add-inside-2 c = let same = to_z-of_z c.ranges.identifier in
    let count = rw same at c.ident_size.ensures in
    omega (
      arith,
      c.if-size-gt-ENTRIESSIZE.false,
      head_most _ c.head_size.ensures,
      count,
      ident_most_lem
          c.args.identifier
          c.ranges.identifier.sfits,
      head_most _ c.head_size-2.ensures,
    )

pub overflow_cast-inside : goal.overflow_cast-inside
overflow_cast-inside c = let same = to_z-of_z c.ranges.identifier in
    let count = rw same at c.ident_size.ensures in
    omega (
      arith,
      c.if-size-gt-ENTRIESSIZE.false,
      head_most _ c.head_size.ensures,
      count,
      ident_most_lem
          c.args.identifier
          c.ranges.identifier.sfits,
      head_most _ c.head_size-2.ensures,
    )

pub overflow_add-head_size : goal.overflow_add-head_size
overflow_add-head_size c = let same = to_z-of_z c.ranges.identifier in
    let count = rw same at c.ident_size.ensures in
    omega (
      arith,
      c.if-size-gt-ENTRIESSIZE.false,
      head_most _
          c.head_size.ensures,
      count,
      ident_most_lem c.args.identifier
          c.ranges.identifier.sfits,
      head_most _ c.head_size-2.ensures,
      head_most _
          c.head_size-3.ensures,
    )

pub returns-then-out-head_size : goal.returns-then-out-head_size
returns-then-out-head_size c = let same = to_z-of_z c.ranges.identifier in
    let count = rw same at c.ident_size.ensures in
    let known = lengths c.args.identifier
    c.args.size c.head_size.ensures count
    c.head_size-2.ensures in
    let long = list_long c.args.identifier
    c.args.size known c.head_size-3.ensures in
    head_none (omega (arith, c.if-size-gt-ENTRIESSIZE.false)) (omega (arith, long, c.if-out-head_size.true))

pub overflow_cast-inside-2 : goal.overflow_cast-inside-2
overflow_cast-inside-2 c = let same = to_z-of_z c.ranges.identifier in
    let count = rw same at c.ident_size.ensures in
    omega (
      arith,
      c.if-size-gt-ENTRIESSIZE.false,
      head_most _
          c.head_size.ensures,
      count,
      ident_most_lem
          c.args.identifier
          c.ranges.identifier.sfits,
      head_most _
          c.head_size-2.ensures,
    )

pub overflow_cast-sequence-2 : goal.overflow_cast-sequence-2
overflow_cast-sequence-2 c =
    omega (arith, c.if-size-gt-ENTRIESSIZE.false, head_most _ c.head_size.ensures)

pub write_one-m-requires : goal.write_one-m-requires
write_one-m-requires c =
    let same = to_z-of_z c.ranges.identifier in
    let count = rw same at c.ident_size.ensures in
    let known = lengths c.args.identifier c.args.size c.head_size.ensures count c.head_size-2.ensures in
    let long = list_long c.args.identifier c.args.size known c.head_size-3.ensures in
    omega (
      arith,
      ident_one (pos interrogation) (omega arith),
      length-append (ident_octets (pos interrogation))
          (head_octets 0x31 c.args.size),
      head_room c.args.identifier c.args.size known (omega (arith, long, c.if-out-head_size.false)) c.put_head-p.ensures (rw same at c.put_ident-q.ensures) c.put_head-k.ensures,
    )

pub returns : goal.returns
returns c =
    let same = to_z-of_z c.ranges.identifier in
    let count = rw same at c.ident_size.ensures in
    let known = lengths c.args.identifier c.args.size c.head_size.ensures count c.head_size-2.ensures in
    let long = list_long c.args.identifier c.args.size known c.head_size-3.ensures in
    let fits : length (list_opened c.args.identifier c.args.size) + c.args.size ≤ length c.args.out.now = omega (arith, long, c.if-out-head_size.false) in
    head_all (omega (arith, c.if-size-gt-ENTRIESSIZE.false)) fits
    (head_wrote c.args.identifier c.args.size known (omega (arith, fits)) c.put_head-p.ensures (rw same at c.put_ident-q.ensures) c.put_head-k.ensures
    c.write_one-m.ensures c.put_head.ensures)
