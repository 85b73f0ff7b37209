use Rattle.std.proofs.Common.{◌≡◌, length-take, arith}
use Rattle.laws.proofs.Over.{wrote_none}
use Rattle.texts.proofs.Words.{hex_none}
use Rattle.texts.proofs.Hexes.{pair_wrote, half_wrote}
use Rattle.texts.proofs.hex.write_hex.Goals as goal

pub loop-octet-init : goal.loop-octet-init
loop-octet-init c = (omega arith, rw hex_none wrote_none)

pub loop-octet-preserved : goal.loop-octet-preserved
loop-octet-preserved c =
    let l = c.loop-octet in (
      omega arith,
      pair_wrote c.args.octets.now c.args.out.now c.args.at c.min-whole.result l.octet-index l.invariant.1 c.loop-octet-test.true
          c.hex_of.ensures c.hex_of-in-loop-octet.ensures,
    )

pub returns : goal.returns
returns c =
    let l = c.loop-octet in
    let few = rw c.saturating_sub-room.ensures at c.min-whole.ensures in
    let here : l.octet-index ≡ c.min-whole.result = omega (arith, length-take c.min-whole.result c.args.octets.now) in
    half_wrote c.args.octets.now c.args.out.now c.args.at c.min-whole.result l.octet-index l.invariant.1 few c.if-whole-octets.false
    here c.hex_of-2.ensures c.pen.ensures
