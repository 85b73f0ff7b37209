use Rattle.requests.proofs.Sizes.{all_octets, one_octets}
use Rattle.octets.proofs.Elements.{headed}
use Rattle.laws.proofs.Over.{wrote, wrote_none}
use mathlib.Core.Path.{refl}
use Rattle.requests.proofs.sent.write_served.Goals as goal

pub returns-then-served-eq1 : goal.returns-then-served-eq1
returns-then-served-eq1 c =
    let octets = all_octets c.args.served
    c.if-served-eq1.true in
    rw octets (headed (rw octets at c.requires) refl
    c.put_head.ensures (λ h. wrote_none))

pub returns : goal.returns
returns c =
    let octets = one_octets c.args.served
    c.if-served-eq1.false in
    rw octets (wrote (rw octets at c.requires)
    c.put_number.ensures)
