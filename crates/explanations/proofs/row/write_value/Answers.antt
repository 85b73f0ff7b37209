use Rattle.octets.proofs.Founds.{found_got, found_wrong}
use Rattle.values.specs.Ident.{ident_at}
use Rattle.skip.specs.Depth.{inside_depth}
use mathlib.Core.Path.{sym, ◌∙◌}
use mir.Facts.{to_z-of_z}
use mir.Val.{SFits}
use mir.Syntax.{w16}
use Rattle.explanations.specs.Explained.{value_text}
use borrow.Author.Tests.{eq-eqb, ne_eqb}
use Rattle.texts.proofs.Pens.{pen_none, pen_then}
use borrow.Author.Rules.{rules}
use Rattle.explanations.proofs.row.write_value.Goals as goal

pub returns-then-tag-ne163 : goal.returns-then-tag-ne163
unfolding value_text
returns-then-tag-ne163 c = rw (ne_eqb _ _ c.if-tag-ne163.true) pen_none

pub returns : goal.returns
unfolding value_text
returns c =
    let id : SFits w16 c.in-Some.value.value = search
    rules in
    let found = found_got (ident_at inside_depth c.args.s.now c.args.at c.args.end) c.ident_at.ensures c.in-Some.is in
    rw (
      eq-eqb _ _ c.if-tag-ne163.false,
      found,
    )
    (pen_then c.write_text-q.ensures (rw (to_z-of_z id) at
    c.write_signed.ensures))

pub returns-in_default : goal.returns-in_default
unfolding value_text
returns-in_default c =
    let found = found_wrong (ident_at inside_depth c.args.s.now c.args.at c.args.end) c.ident_at.ensures c.in_default.is in
    rw (eq-eqb _ _ c.if-tag-ne163.false, found)
    c.write_text.ensures
