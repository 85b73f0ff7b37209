use Rattle.numbers.proofs.Sizes.{every_contents_most, address_long}
use Rattle.numbers.proofs.Writers.{address_room, address_wrote}
use Rattle.numbers.specs.Number.{most, number_octets}
use Rattle.numbers.specs.Address.{sub_octets_of, sub_octets, address_octets}
use Rattle.octets.proofs.Rooms.{room_here, room_past}
use Rattle.laws.proofs.Over.{room_then, puts_none, puts_all}
use lib.ListN.{length, length-append}
use mathlib.Core.Path.{◌≡◌}
use Prim.Native.Nat.{◌+◌, ◌≤◌}
use native.Mathlib.Omega.{arith}
use borrow.Author.Rules.{rules}
use Rattle.numbers.proofs.write.put_address.Goals as goal

pub overflow_add-need : goal.overflow_add-need
overflow_add-need c = let a = c.args.a in
    let digits : length a.number.digits ≡ most = search (rules, c.well_formed) in
    let sub : length a.sub ≡ most = search (rules, c.well_formed) in
    let few = every_contents_most a digits sub in
    omega (arith, c.contents_size-size.ensures, few)

pub returns-then-not-has_room : goal.returns-then-not-has_room
returns-then-not-has_room c = let a = c.args.a in
    let digits : length a.number.digits ≡ most = search (rules, c.well_formed) in
    let sub : length a.sub ≡ most = search (rules, c.well_formed) in
    let few = every_contents_most a digits sub in
    puts_none (omega (arith, c.contents_size-size.ensures, address_long a few, room_past c.args.out.now c.args.at _ c.if-not-has_room.ensures))

pub overflow_cast-size : goal.overflow_cast-size
overflow_cast-size c = let a = c.args.a in
    let digits : length a.number.digits ≡ most = search (rules, c.well_formed) in
    let sub : length a.sub ≡ most = search (rules, c.well_formed) in
    let few = every_contents_most a digits sub in
    omega (arith, c.contents_size-size.ensures, few)

pub write_number-q-requires : goal.write_number-q-requires
write_number-q-requires c =
    let a = c.args.a in
    let digits : length a.number.digits ≡ most = search (rules, c.well_formed) in
    let sub : length a.sub ≡ most = search (rules, c.well_formed) in
    let few = every_contents_most a digits sub in
    let fits : c.args.at + length (address_octets a) ≤ length c.args.out.now =
    omega (
      arith,
      c.contents_size-size.ensures,
      address_long a few,
      room_here c.args.out.now c.args.at _ c.if-not-has_room.ensures,
    ) in
    let rest = address_room a fits c.contents_size-size.ensures c.put_head-p.ensures in
    omega (arith, rest, length-append (number_octets a.number) (sub_octets (sub_octets_of a)))

pub write_sub-requires : goal.write_sub-requires
write_sub-requires c =
    let a = c.args.a in
    let digits : length a.number.digits ≡ most = search (rules, c.well_formed) in
    let sub : length a.sub ≡ most = search (rules, c.well_formed) in
    let few = every_contents_most a digits sub in
    let fits : c.args.at + length (address_octets a) ≤ length
    c.args.out.now =
    omega (arith, c.contents_size-size.ensures, address_long a few, room_here c.args.out.now c.args.at _ c.if-not-has_room.ensures) in
    let rest =
    address_room a fits c.contents_size-size.ensures
    c.put_head-p.ensures in
    room_then (sub_octets (sub_octets_of a)) rest c.write_number-q.ensures

pub returns : goal.returns
returns c =
    let a = c.args.a in
    let digits : length a.number.digits ≡ most = search (rules, c.well_formed) in
    let sub : length a.sub ≡ most = search (rules, c.well_formed) in
    let few = every_contents_most a digits sub in
    let fits : c.args.at + length (address_octets a) ≤ length
    c.args.out.now =
    omega (arith, c.contents_size-size.ensures, address_long a few, room_here c.args.out.now c.args.at _ c.if-not-has_room.ensures) in
    puts_all fits
    (address_wrote a fits c.contents_size-size.ensures
    c.put_head-p.ensures
    c.write_number-q.ensures c.write_sub.ensures)
