use mir.Val.{SFits}
use mir.Syntax.{w16}
use mir.Facts.{to_z-of_z}
use lib.IntN.{pos}
use Rattle.end.proofs.Movings.{took_idle, took_reply}
use native.Mathlib.Omega.{arith}
use mathlib.Core.Path.{◌∙◌}
use mathlib.Core.Logic.{⊎_elim}
use Rattle.end.proofs.take.took.Goals as goal

pub returns-then-e-ne1 : goal.returns-then-e-ne1
returns-then-e-ne1 c = let a = c.args in took_idle a.p a.e a.s.now c.if-e-ne1.true

pub overflow_cast-e : goal.overflow_cast-e
overflow_cast-e c = omega (arith, c.requires)

pub returns-in-Dropped : goal.returns-in-Dropped
returns-in-Dropped c =
    let id : SFits w16 (pos c.args.e.used) = omega (arith, c.requires) in
    took_reply c.args.p c.args.e c.args.s.now _ _ c.if-e-ne1.false
    (rw (to_z-of_z id) at c.reply_to.ensures) c.in-Dropped.is

pub returns-in-Rejected : goal.returns-in-Rejected
returns-in-Rejected c =
    let id : SFits w16 (pos c.args.e.used) = omega (arith, c.requires) in
    let heard = rw (to_z-of_z id) at c.reply_to.ensures in
    c.doubted.ensures
    ∙ ⊎_elim (took_reply c.args.p c.args.e c.args.s.now _ _ c.if-e-ne1.false heard)
    (took_reply c.args.p c.args.e c.args.s.now _ _ c.if-e-ne1.false heard) c.in-Rejected.is

pub returns-in-Failed : goal.returns-in-Failed
returns-in-Failed c =
    let id : SFits w16 (pos c.args.e.used) = omega (arith, c.requires) in
    c.restored.ensures ∙ took_reply c.args.p c.args.e c.args.s.now _ _ c.if-e-ne1.false
    (rw (to_z-of_z id) at c.reply_to.ensures) c.in-Failed.is

pub returns-in-Done : goal.returns-in-Done
returns-in-Done c =
    let id : SFits w16 (pos c.args.e.used) = omega (arith, c.requires) in
    c.applied.ensures ∙ took_reply c.args.p c.args.e c.args.s.now _ _ c.if-e-ne1.false
    (rw (to_z-of_z id) at c.reply_to.ensures) c.in-Done.is

pub returns-in-Listed : goal.returns-in-Listed
returns-in-Listed c =
    let id : SFits w16 (pos c.args.e.used) = omega (arith, c.requires) in
    c.learned.ensures ∙ took_reply c.args.p c.args.e c.args.s.now _ _ c.if-e-ne1.false
    (rw (to_z-of_z id) at c.reply_to.ensures) c.in-Listed.is
