use Rattle.requests.proofs.Sizes.{to_octets_lem, to_none}
use Rattle.numbers.proofs.Sizes.{every_address_most}
use Rattle.numbers.specs.Number.{most}
use lib.ListN.{length}
use mathlib.Core.Path.{◌≡◌, sym, ap, ◌∙◌}
use native.Mathlib.Omega.{arith}
use borrow.Author.Rules.{rules}
use Rattle.requests.proofs.sent.to_size.Goals as goal

pub returns-then-operation-eq-ACTIVATION : goal.returns-then-operation-eq-ACTIVATION
returns-then-operation-eq-ACTIVATION c = let to = c.args.to in
    let digits : length to.address.number.digits ≡ most = search (rules, c.well_formed) in
    let sub : length to.address.sub ≡ most = search (rules, c.well_formed) in (
      c.address_size.ensures ∙ sym (ap length (to_octets_lem _ to c.if-operation-eq-ACTIVATION.true)),
      omega
          (arith, c.address_size.ensures, every_address_most to.address digits sub),
    )

pub returns : goal.returns
returns c = (sym (ap length (to_none _ c.args.to c.if-operation-eq-ACTIVATION.false)), omega arith)
