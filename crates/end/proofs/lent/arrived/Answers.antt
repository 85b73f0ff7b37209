use Rattle.std.proofs.Common.{arith, ◌≡◌, ◌≤◌, true, length, refl, sym, ap, ◌∙◌}
use borrow.Author.Tests.{not-true, not-false}
use Rattle.refusals.specs.Refusal.{component_most}
use Rattle.refusals.specs.declared.refusal.Refusal.TheVariants.{LongComponent, BadProfile, BadTable}
use Rattle.profile.specs.Access.{access_read}
use Rattle.profile.proofs.Records.{read_some, read_none}
use Rattle.lists.specs.Entries.{instances_most}
use Rattle.end.proofs.Ends.{used_most_lem}
use Rattle.end.proofs.Movings.{takes_long, takes_profile, takes_end, takes_all, refused_moves, all_moves}
use Rattle.end.proofs.lent.arrived.Goals as goal

pub returns-then-component-gt-COMPONENTMOST : goal.returns-then-component-gt-COMPONENTMOST
returns-then-component-gt-COMPONENTMOST c =
    refused_moves _ c.args.end.now LongComponent _ (takes_long _ _ _ (omega (arith, c.if-component-gt-COMPONENTMOST.true))) refl

pub returns-in_default : goal.returns-in_default
returns-in_default c =
    let fair : length c.args.component.now ≤ component_most = omega (arith, c.if-component-gt-COMPONENTMOST.false) in
    let bad = read_none _ _ c.read_access.ensures c.in_default.is in
    refused_moves _ c.args.end.now BadProfile _ (takes_profile _ _ _ fair bad) refl

pub returns-then-not-end_good : goal.returns-then-not-end_good
returns-then-not-end_good c =
    let fair : length c.args.component.now ≤ component_most = omega (arith, c.if-component-gt-COMPONENTMOST.false) in
    let ok : (access_read c.args.access.now).ok ≡ true = (read_some _ _ _ c.read_access.ensures c.in-Some.is).0 in
    let bad = rw (← (read_some _ _ _ c.read_access.ensures c.in-Some.is).1) at (sym c.end_good.ensures ∙ c.if-not-end_good.true) in
    refused_moves _ c.args.end.now BadTable _ (takes_end _ _ _ fair ok bad) refl

pub took-requires : goal.took-requires
took-requires c = used_most_lem instances_most _ _ (sym c.end_good.ensures ∙ c.if-not-end_good.false)

pub returns : goal.returns
returns c =
    let fair : length c.args.component.now ≤ component_most = omega (arith, c.if-component-gt-COMPONENTMOST.false) in
    let ok : (access_read c.args.access.now).ok ≡ true = (read_some _ _ _ c.read_access.ensures c.in-Some.is).0 in
    let good = rw (← (read_some _ _ _ c.read_access.ensures c.in-Some.is).1) at (sym c.end_good.ensures ∙ c.if-not-end_good.false) in
    all_moves _ _ _ (takes_all _ _ _ fair ok good) (rw (← (read_some _ _ _ c.read_access.ensures c.in-Some.is).1) at c.took.ensures)
