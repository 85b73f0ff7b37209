use Rattle.laws.proofs.Over.{wrote_length}
use Rattle.numbers.specs.Number.{most}
use Rattle.forms.specs.Size.{instance_most}
use Rattle.forms.specs.Instance.{all_groups, instance_fields}
use Rattle.sheets.proofs.InstanceWriters.{instance_room, instance_wrote}
use Rattle.sheets.proofs.WrittenTables.{writable_most}
use Prim.Native.Nat.{ℕ, ◌≤◌}
use mathlib.Core.Path.{◌≡◌}
use lib.ListN.{length, get_or}
use mir.Val.{Fits}
use mir.Syntax.{w8}
use borrow.Author.Rules.{rules}
use Rattle.sheets.proofs.write.write_instance.Goals as goal

pub write_address-requires : goal.write_address-requires
write_address-requires c = let small : length (all_groups (instance_fields c.args.x)) ≤ instance_most = let x = c.args.x in
    let digits : length x.address.number.digits ≡ most = search (rules, c.well_formed) in
    let sub : length x.address.sub ≡ most = search (rules, c.well_formed) in
    let octet : (i : ℕ) → Fits w8 (get_or x.address.sub i 0) = λ i. search (rules, c.well_formed) in
    writable_most x c.requires.0 record { digits = digits; sub = sub; octets = λ i. (octet i).fits } in (
      c.requires.0.address,
      instance_room c.args.x small c.requires.1 c.put_groups-p.ensures c.put_groups-q.ensures
          c.put_groups-k.ensures,
    )

pub returns : goal.returns
returns c = let small : length (all_groups (instance_fields c.args.x)) ≤ instance_most = let x = c.args.x in
    let digits : length x.address.number.digits ≡ most = search (rules, c.well_formed) in
    let sub : length x.address.sub ≡ most = search (rules, c.well_formed) in
    let octet : (i : ℕ) → Fits w8 (get_or x.address.sub i 0) = λ i. search (rules, c.well_formed) in
    writable_most x c.requires.0 record { digits = digits; sub = sub; octets = λ i. (octet i).fits } in
    instance_wrote c.args.x small c.requires.1 c.put_groups-p.ensures c.put_groups-q.ensures
    c.put_groups-k.ensures
    c.write_address.ensures

pub shape_of-out : goal.shape_of-out
shape_of-out c = wrote_length (returns c).holds
