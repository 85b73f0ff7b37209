use Rattle.numbers.proofs.Writers.{sub_absent, sub_present}
use Rattle.numbers.specs.Number.{most}
use Rattle.numbers.specs.Address.{sub_octets_of, sub_octets}
use Rattle.octets.proofs.Rooms.{room_here, room_past}
use Rattle.laws.proofs.Over.{puts_none, puts_all}
use lib.ListN.{length}
use mathlib.Core.Path.{◌≡◌}
use native.Mathlib.Omega.{arith}
use borrow.Author.Rules.{rules}
use Rattle.numbers.proofs.write.put_sub.Goals as goal
use Rattle.numbers.proofs.write.put_sub.Goals.{then-count-eq0, else-count-eq0}

pub returns-then-not-has_room : goal.returns-then-not-has_room
returns-then-not-has_room c = let a = c.args.a in
    let long : length a.sub ≡ most = search (rules, c.well_formed) in
    let few = c.fewer-count.ensures in
    let need : c.if-count-eq0.need ≡ length (sub_octets (sub_octets_of a)) =
    elim c.if-count-eq0.branch [
      | then-count-eq0 v ↦ omega (arith, v.need-is, sub_absent a long few v.if-count-eq0.true)
      | else-count-eq0 v ↦ omega (arith, v.need-is, sub_present a long few v.if-count-eq0.false)
    ] in
    puts_none (omega (arith, need, room_past c.args.out.now c.args.at _ c.if-not-has_room.ensures))

pub write_sub-requires : goal.write_sub-requires
write_sub-requires c = let a = c.args.a in
    let long : length a.sub ≡ most = search (rules, c.well_formed) in
    let few = c.fewer-count.ensures in
    let need : c.if-count-eq0.need ≡ length (sub_octets (sub_octets_of a)) =
    elim c.if-count-eq0.branch [
      | then-count-eq0 v ↦ omega (arith, v.need-is, sub_absent a long few v.if-count-eq0.true)
      | else-count-eq0 v ↦ omega (arith, v.need-is, sub_present a long few v.if-count-eq0.false)
    ] in
    omega (arith, need, room_here c.args.out.now c.args.at _ c.if-not-has_room.ensures)

pub returns : goal.returns
returns c = let a = c.args.a in
    let long : length a.sub ≡ most = search
    (rules, c.well_formed) in
    let few = c.fewer-count.ensures in
    let need : c.if-count-eq0.need ≡ length (sub_octets (sub_octets_of a)) =
    elim c.if-count-eq0.branch [
      | then-count-eq0 v ↦ omega (arith, v.need-is, sub_absent a long few v.if-count-eq0.true)
      | else-count-eq0 v ↦ omega (arith, v.need-is, sub_present a long few v.if-count-eq0.false)
    ] in
    puts_all (omega (arith, need, room_here c.args.out.now c.args.at _ c.if-not-has_room.ensures)) c.write_sub.ensures
