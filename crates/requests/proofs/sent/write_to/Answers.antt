use Rattle.requests.proofs.Sizes.{to_octets_lem, to_none}
use Rattle.laws.proofs.Over.{wrote, wrote_none}
use Rattle.requests.proofs.sent.write_to.Goals as goal

pub returns-then-operation-eq-ACTIVATION : goal.returns-then-operation-eq-ACTIVATION
returns-then-operation-eq-ACTIVATION c =
    let octets = to_octets_lem _ c.args.to
    c.if-operation-eq-ACTIVATION.true in
    rw octets (wrote (rw octets at c.requires)
    c.put_address.ensures)

pub returns : goal.returns
returns c = rw (to_none _ c.args.to c.if-operation-eq-ACTIVATION.false) wrote_none
