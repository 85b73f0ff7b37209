use mir.Val.{SFits}
use mir.Syntax.{w16}
use mir.Facts.{to_z-of_z}
use lib.IntN.{pos}
use lib.ListN.{length}
use Prim.Native.Nat.{◌<◌, ◌≤◌, ◌+◌}
use native.Mathlib.Numerals.{add-one}
use native.Mathlib.Omega.{arith}
use mathlib.Core.Path.{◌≡◌, sym, ap, ◌∙◌}
use mathlib.Core.Bool.{true}
use borrow.Author.Tests.{not-true, not-false}
use Rattle.refusals.specs.Refusal.{output_least}
use Rattle.refusals.specs.declared.refusal.Refusal.TheVariants.{ShortOutput, BadProfile, BadTable, Outstanding, Exhausted, BadRequest}
use Rattle.profile.specs.Access.{access_read}
use Rattle.profile.proofs.Records.{read_some, read_none}
use Rattle.lists.specs.Entries.{instances_most}
use Rattle.end.specs.End.{used_most}
use Rattle.end.proofs.Ends.{used_most_lem}
use Rattle.end.proofs.Sendings.{sends_short, sends_profile, sends_end, sends_waiting, sends_last, sends_unfit, sends_all}
use Rattle.end.proofs.Sendings.{refused_sends, all_sends, unfit_sends, fit_sends}
use Rattle.end.proofs.send.send.Goals as goal

pub returns-then-out-lt-OUTPUTLEAST : goal.returns-then-out-lt-OUTPUTLEAST
returns-then-out-lt-OUTPUTLEAST c =
    refused_sends _ _ _ ShortOutput (sends_short _ _ _ _ _ (omega (arith, c.if-out-lt-OUTPUTLEAST.true)))

pub returns-in_default : goal.returns-in_default
returns-in_default c =
    let room : output_least ≤ length c.args.out.now = omega (arith, c.if-out-lt-OUTPUTLEAST.false) in
    let bad = read_none _ _ c.read_access.ensures c.in_default.is in
    refused_sends _ _ _ BadProfile (sends_profile _ _ _ _ _ room bad)

pub returns-then-not-end_good : goal.returns-then-not-end_good
returns-then-not-end_good c =
    let room : output_least ≤ length c.args.out.now = omega (arith, c.if-out-lt-OUTPUTLEAST.false) in
    let ok : (access_read c.args.access.now).ok ≡ true = (read_some _ _ _ c.read_access.ensures c.in-Some.is).0 in
    let bad = rw (← (read_some _ _ _ c.read_access.ensures c.in-Some.is).1) at (sym c.end_good.ensures ∙ c.if-not-end_good.true) in
    refused_sends _ _ _ BadTable (sends_end _ _ _ _ _ room ok bad)

pub returns-then-e-eq1 : goal.returns-then-e-eq1
returns-then-e-eq1 c =
    let room : output_least ≤ length c.args.out.now = omega (arith, c.if-out-lt-OUTPUTLEAST.false) in
    let ok : (access_read c.args.access.now).ok ≡ true = (read_some _ _ _ c.read_access.ensures c.in-Some.is).0 in
    let good = rw (← (read_some _ _ _ c.read_access.ensures c.in-Some.is).1) at (sym c.end_good.ensures ∙ c.if-not-end_good.false) in
    refused_sends _ _ _ Outstanding (sends_waiting _ _ _ _ _ room ok good c.if-e-eq1.true)

pub returns-then-e-eq-USEDMOST : goal.returns-then-e-eq-USEDMOST
returns-then-e-eq-USEDMOST c =
    let room : output_least ≤ length c.args.out.now = omega (arith, c.if-out-lt-OUTPUTLEAST.false) in
    let ok : (access_read c.args.access.now).ok ≡ true = (read_some _ _ _ c.read_access.ensures c.in-Some.is).0 in
    let good = rw (← (read_some _ _ _ c.read_access.ensures c.in-Some.is).1) at (sym c.end_good.ensures ∙ c.if-not-end_good.false) in
    refused_sends _ _ _ Exhausted (sends_last _ _ _ _ _ room ok good c.if-e-eq1.false c.if-e-eq-USEDMOST.true)

pub overflow_add-identifier : goal.overflow_add-identifier
overflow_add-identifier c =
    let below : c.args.e.now.used < used_most =
    omega (arith, used_most_lem instances_most _ _ (sym c.end_good.ensures ∙ c.if-not-end_good.false), c.if-e-eq-USEDMOST.false) in
    omega (arith, below)

pub overflow_cast-identifier : goal.overflow_cast-identifier
overflow_cast-identifier c =
    let below : c.args.e.now.used < used_most =
    omega (arith, used_most_lem instances_most _ _ (sym c.end_good.ensures ∙ c.if-not-end_good.false), c.if-e-eq-USEDMOST.false) in
    omega (arith, below)

pub returns-then-count-eq0 : goal.returns-then-count-eq0
returns-then-count-eq0 c =
    let room : output_least ≤ length c.args.out.now = omega (arith, c.if-out-lt-OUTPUTLEAST.false) in
    let ok : (access_read c.args.access.now).ok ≡ true = (read_some _ _ _ c.read_access.ensures c.in-Some.is).0 in
    let good = rw (← (read_some _ _ _ c.read_access.ensures c.in-Some.is).1) at (sym c.end_good.ensures ∙ c.if-not-end_good.false) in
    let below : c.args.e.now.used < used_most =
    omega (arith, used_most_lem instances_most _ _ (sym c.end_good.ensures ∙ c.if-not-end_good.false), c.if-e-eq-USEDMOST.false) in
    let e = c.args.e.now in
    let id : SFits w16 (pos (e.used + 1)) = omega (arith, below) in
    let put = rw (add-one e.used) at (rw (to_z-of_z id) at c.put_request-count.ensures) in
    let unfit = unfit_sends _ _ e _ _ _ below room put c.if-count-eq0.true in
    rw unfit.1
    (refused_sends _ _ _ BadRequest (sends_unfit _ _ _ _ _ room ok good c.if-e-eq1.false c.if-e-eq-USEDMOST.false unfit.0)
    )

pub returns : goal.returns
returns c =
    let room : output_least ≤ length c.args.out.now = omega (arith, c.if-out-lt-OUTPUTLEAST.false) in
    let ok : (access_read c.args.access.now).ok ≡ true = (read_some _ _ _ c.read_access.ensures c.in-Some.is).0 in
    let good = rw (← (read_some _ _ _ c.read_access.ensures c.in-Some.is).1) at (sym c.end_good.ensures ∙ c.if-not-end_good.false) in
    let below : c.args.e.now.used < used_most =
    omega (arith, used_most_lem instances_most _ _ (sym c.end_good.ensures ∙ c.if-not-end_good.false), c.if-e-eq-USEDMOST.false) in
    let e = c.args.e.now in
    let id : SFits w16 (pos (e.used + 1)) = omega (arith, below) in
    let put = rw (add-one e.used) at (rw (to_z-of_z id) at c.put_request-count.ensures) in
    let fit = fit_sends _ _ e _ _ _ below room put c.if-count-eq0.false in
    all_sends _ _ _ _ _ _ _ (sends_all _ _ _ _ _ room ok good c.if-e-eq1.false c.if-e-eq-USEDMOST.false fit) below room fit put
