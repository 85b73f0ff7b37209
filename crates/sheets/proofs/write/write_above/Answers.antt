use Rattle.sheets.proofs.Writers.{come_first, come_next, come_all}
use Rattle.sheets.proofs.write.write_above.Goals as goal

pub loop-octet-init : goal.loop-octet-init
loop-octet-init c = come_first c.args.base c.args.octets.now c.args.out.now c.args.at

pub loop-octet-preserved : goal.loop-octet-preserved
loop-octet-preserved c = come_next _ _ _ _ c.loop-octet.invariant c.loop-octet-test.true c.requires.1 c.put_groups-p.ensures

pub returns : goal.returns
returns c = come_all _ _ _ _ c.loop-octet.invariant c.loop-octet-test.false
