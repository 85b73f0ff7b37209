use Rattle.laws.proofs.Over.{wrote_length}
use Rattle.sheets.proofs.Writers.{digits_above, digits_room, sub_room, address_wrote}
use Rattle.numbers.proofs.Goods.{good_number, good_address}
use native.Mathlib.Omega.{arith}
use Rattle.sheets.proofs.write.write_address.Goals as goal

pub shared_ref_as_front-write_above : goal.shared_ref_as_front-write_above
shared_ref_as_front-write_above c =
    let a = c.args.address in omega (arith, (good_number a.number (good_address a c.requires.0).number).few)

pub shared_ref_as_front-write_above-2 : goal.shared_ref_as_front-write_above-2
shared_ref_as_front-write_above-2 c = omega (arith, (good_address c.args.address c.requires.0).few)

pub write_above-m-requires : goal.write_above-m-requires
write_above-m-requires c =
    let a = c.args.address in
    (digits_above a c.requires.0, digits_room a c.requires.1 c.put_groups-p.ensures c.put_groups-q.ensures c.put_groups-k.ensures)

pub write_above-requires : goal.write_above-requires
write_above-requires c = (
  (λ i lt. omega arith),
  sub_room c.args.address c.requires.1 c.put_groups-p.ensures
      c.put_groups-q.ensures
      c.put_groups-k.ensures
      c.write_above-m.ensures
      c.put_groups-t.ensures,
)

pub returns : goal.returns
returns c =
    address_wrote c.args.address c.requires.1
    c.put_groups-p.ensures
    c.put_groups-q.ensures
    c.put_groups-k.ensures
    c.write_above-m.ensures
    c.put_groups-t.ensures c.write_above.ensures

pub shape_of-out : goal.shape_of-out
shape_of-out c = wrote_length (returns c)
