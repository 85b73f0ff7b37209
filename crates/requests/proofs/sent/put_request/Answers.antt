use Rattle.requests.specs.Sent.{request_octets}
use Rattle.requests.proofs.Senders.{room_contents, request_wrote, not_sendable, not_room, is_sent_lem}
use Rattle.requests.proofs.Sizes.{operation_size, inside_size, request_size}
use Rattle.values.proofs.Idents.{ident_most_lem}
use mir.Facts.{to_z-of_z, to_z_pos}
use mir.Syntax.{w16}
use lib.ListN.{length}
use mathlib.Core.Path.{sym, ◌∙◌}
use Prim.Native.Nat.{◌≤◌}
use native.Mathlib.Omega.{arith}
use Rattle.requests.proofs.sent.put_request.Goals as goal

pub returns-then-not-is_sendable : goal.returns-then-not-is_sendable
returns-then-not-is_sendable c = not_sendable _ _ _ _ (sym c.is_sendable.ensures ∙ c.if-not-is_sendable.true)

pub overflow_add-inside : goal.overflow_add-inside
overflow_add-inside c = let a = c.args in
    let range = c.ranges.identifier.sfits in
    let good = sym c.is_sendable.ensures ∙ c.if-not-is_sendable.false in
    let same = to_z-of_z c.ranges.identifier in
    let count = rw same at c.ident_size.ensures in
    let size = c.contents_size-size.ensures in
    let three = operation_size a.operation a.r good in
    omega (arith, count, ident_most_lem a.identifier range)

pub overflow_add-inside-2 : goal.overflow_add-inside-2
overflow_add-inside-2 c = let a = c.args in
    let range = c.ranges.identifier.sfits in
    let good = sym c.is_sendable.ensures ∙ c.if-not-is_sendable.false in
    let same = to_z-of_z c.ranges.identifier in
    let count = rw same at c.ident_size.ensures in
    let size = c.contents_size-size.ensures in
    let three = operation_size a.operation a.r good in
    omega (arith, count, ident_most_lem a.identifier range, size.1)

pub overflow_add-inside-3 : goal.overflow_add-inside-3
overflow_add-inside-3 c = let a = c.args in
    let range = c.ranges.identifier.sfits in
    let good = sym c.is_sendable.ensures ∙ c.if-not-is_sendable.false in
    let same = to_z-of_z c.ranges.identifier in
    let count = rw same at c.ident_size.ensures in
    let size = c.contents_size-size.ensures in
    let three = operation_size a.operation a.r good in
    omega (arith, count, ident_most_lem a.identifier range, size.1)

pub returns-then-out-inside : goal.returns-then-out-inside
returns-then-out-inside c = let a = c.args in
    let range = c.ranges.identifier.sfits in
    let good = sym c.is_sendable.ensures ∙ c.if-not-is_sendable.false in
    let same = to_z-of_z c.ranges.identifier in
    let count = rw same at c.ident_size.ensures in
    let size = c.contents_size-size.ensures in
    let three = operation_size a.operation a.r good in
    not_room _ a.identifier a.operation a.r good
    (omega (arith, count, size.0, three, request_size a.identifier a.operation a.r range good))

pub overflow_cast-inside : goal.overflow_cast-inside
overflow_cast-inside c = let a = c.args in
    let range = c.ranges.identifier.sfits in
    let good = sym c.is_sendable.ensures
    ∙ c.if-not-is_sendable.false in
    let same = to_z-of_z c.ranges.identifier in
    let count = rw same at c.ident_size.ensures in
    let size = c.contents_size-size.ensures in
    let three = operation_size a.operation a.r good in
    omega (arith, count, ident_most_lem a.identifier range, size.1)

pub write_contents-requires : goal.write_contents-requires
write_contents-requires c =
    let a = c.args in
    let range = c.ranges.identifier.sfits in
    let good = sym c.is_sendable.ensures
    ∙ c.if-not-is_sendable.false in
    let same = to_z-of_z c.ranges.identifier in
    let count = rw same at c.ident_size.ensures in
    let size = c.contents_size-size.ensures in
    let three = operation_size a.operation a.r good in
    let fits : length (request_octets a.identifier a.operation a.r) ≤ length a.out.now =
    omega (
      arith,
      count,
      size.0,
      three,
      request_size a.identifier a.operation
          a.r range good,
      c.if-out-inside.false,
    ) in
    let is-operation = to_z_pos w16 {n = a.operation}
    (omega (arith, c.ranges.operation)) in
    room_contents a.identifier a.operation a.r fits
    (omega (arith, count, size.0, three, inside_size a.identifier a.operation a.r good)) size.0
    c.put_head-p.ensures
    (rw same at c.put_ident-q.ensures)
    (rw is-operation at c.put_ident-k.ensures)
    c.put_head-m.ensures

pub returns : goal.returns
returns c =
    let a = c.args in
    let range = c.ranges.identifier.sfits in
    let good = sym c.is_sendable.ensures
    ∙ c.if-not-is_sendable.false in
    let same = to_z-of_z c.ranges.identifier in
    let count = rw same at c.ident_size.ensures in
    let size = c.contents_size-size.ensures in
    let three = operation_size a.operation a.r good in
    let fits : length (request_octets a.identifier a.operation a.r) ≤ length a.out.now =
    omega (
      arith,
      count,
      size.0,
      three,
      request_size a.identifier a.operation
          a.r range good,
      c.if-out-inside.false,
    ) in
    let is-operation = to_z_pos w16 {n = a.operation} (omega (arith, c.ranges.operation)) in
    is_sent_lem a.out.now a.identifier a.operation a.r good fits
    (request_wrote a.identifier a.operation a.r fits
    (omega (arith, count, size.0, three, inside_size a.identifier a.operation a.r good)) size.0
    c.put_head-p.ensures (rw same at c.put_ident-q.ensures)
    (rw is-operation at c.put_ident-k.ensures)
    c.put_head-m.ensures c.write_contents.ensures)
