use Rattle.requests.proofs.Sizes.{contents_size}
use native.Mathlib.Omega.{arith}
use Rattle.requests.proofs.sent.contents_size.Goals as goal

pub returns : goal.returns
returns c = let a = c.args in
    let to = c.to_size.ensures in
    let served = c.served_size.ensures in
    (omega (arith, contents_size a.operation a.r, to.0, served.0), omega (arith, to.1, served.1))
