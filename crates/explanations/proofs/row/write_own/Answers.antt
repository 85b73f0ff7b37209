use Rattle.octets.proofs.Founds.{found_got, found_wrong}
use Rattle.values.specs.Ident.{ident_at}
use Rattle.skip.specs.Depth.{inside_depth}
use mathlib.Core.Path.{sym, ◌∙◌}
use mir.Facts.{to_z-of_z}
use mir.Val.{SFits}
use mir.Syntax.{w16}
use Rattle.texts.proofs.Pens.{pen_then}
use borrow.Author.Rules.{rules}
use Rattle.explanations.proofs.row.write_own.Goals as goal

pub returns : goal.returns
returns c =
    let id : SFits w16 c.in-Some.identifier.value = search rules in
    let found = found_got (ident_at inside_depth c.args.s.now c.args.at c.args.end) c.ident_at.ensures c.in-Some.is in
    rw found (pen_then c.write_text-q.ensures
    (pen_then (rw
    (to_z-of_z id) at c.write_signed-k.ensures) c.write_value.ensures))

pub returns-in_default : goal.returns-in_default
returns-in_default c =
    rw (found_wrong (ident_at inside_depth c.args.s.now c.args.at c.args.end) c.ident_at.ensures c.in_default.is) c.write_text.ensures
