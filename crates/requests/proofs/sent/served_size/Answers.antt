use Rattle.requests.proofs.Sizes.{all_octets, one_octets}
use Rattle.octets.proofs.Elements.{length_small}
use Rattle.numbers.proofs.Sizes.{every_number_most}
use Rattle.numbers.specs.Number.{most}
use lib.ListN.{length}
use mathlib.Core.List.{[]}
use mathlib.Core.Path.{◌≡◌, sym, ap, ◌∙◌}
use native.Mathlib.Omega.{arith}
use borrow.Author.Rules.{rules}
use Rattle.requests.proofs.sent.served_size.Goals as goal

pub returns-then-served-eq1 : goal.returns-then-served-eq1
returns-then-served-eq1 c = let size = ap length (all_octets c.args.served c.if-served-eq1.true) ∙ length_small 0x05 [] (omega arith) in
    (sym size, omega arith)

pub returns : goal.returns
returns c = let v = c.args.served in
    let long : length v.number.digits ≡ most = search (rules, c.well_formed) in (
      c.number_size.ensures ∙ sym (ap length (one_octets v c.if-served-eq1.false)),
      omega
          (arith, c.number_size.ensures, every_number_most v.number long),
    )
