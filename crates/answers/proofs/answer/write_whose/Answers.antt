use Rattle.octets.proofs.Elements.{headed}
use Rattle.laws.proofs.Over.{wrote, wrote_none}
use mir.Facts.{to_z-of_z}
use mir.Val.{SFits}
use mir.Syntax.{w16}
use mathlib.Core.Path.{refl}
use borrow.Author.Rules.{rules}
use Rattle.answers.proofs.answer.write_whose.Goals as goal

pub returns-in-Null : goal.returns-in-Null
returns-in-Null c = let null = c.in-Null.is in
    rw null (headed (rw null at c.requires) refl
    c.put_head.ensures (λ h. wrote_none))

pub returns-in-Own : goal.returns-in-Own
returns-in-Own c = let own = c.in-Own.is in
    let id : SFits w16 c.in-Own.identifier = search rules in
    rw own (wrote (rw own at c.requires)
    (rw (to_z-of_z id) at c.put_ident.ensures))
