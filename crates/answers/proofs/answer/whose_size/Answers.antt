use Rattle.values.proofs.Idents.{ident_most_lem}
use Rattle.octets.proofs.Elements.{length_small}
use mir.Facts.{to_z-of_z}
use mir.Val.{SFits}
use mir.Syntax.{w16}
use mathlib.Core.List.{[]}
use mathlib.Core.Path.{sym}
use native.Mathlib.Omega.{arith}
use borrow.Author.Rules.{rules}
use Rattle.answers.proofs.answer.whose_size.Goals as goal

pub returns-in-Null : goal.returns-in-Null
returns-in-Null c = (rw c.in-Null.is (sym (length_small 0x05 [] (omega arith))), omega arith)

pub returns-in-Own : goal.returns-in-Own
returns-in-Own c = let id : SFits w16 c.in-Own.identifier = search rules in
    let size = rw (to_z-of_z id) at c.ident_size.ensures in
    (rw c.in-Own.is size, omega (arith, size, ident_most_lem c.in-Own.identifier id.sfits))
