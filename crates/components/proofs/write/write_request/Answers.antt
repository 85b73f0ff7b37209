use Prim.Native.Nat.{◌≤◌}
use mathlib.Core.Path.{sym, ◌∙◌}
use mir.Facts.{to_z-of_z}
use native.Mathlib.Omega.{arith}
use lib.ListN.{length}
use Rattle.refusals.specs.Refusal.{output_least}
use Rattle.refusals.specs.declared.refusal.Refusal.TheVariants.{ShortOutput, BadRequest}
use Rattle.components.proofs.Writings.{request_short, request_unfit, request_fit, refused_made, written_made, request_put}
use Rattle.components.proofs.write.write_request.Goals as goal

pub returns-then-out-lt-OUTPUTLEAST : goal.returns-then-out-lt-OUTPUTLEAST
returns-then-out-lt-OUTPUTLEAST c =
    let a = c.args in
    refused_made _ a.out.now ShortOutput
    (request_short _ a.operation a.r (length a.out.now) (omega (arith, c.if-out-lt-OUTPUTLEAST.true)))

pub returns-then-not-is_sendable : goal.returns-then-not-is_sendable
returns-then-not-is_sendable c =
    let a = c.args in
    refused_made _ a.out.now BadRequest
    (request_unfit _ a.operation a.r (length a.out.now) (omega (arith, c.if-out-lt-OUTPUTLEAST.false))
    (sym c.is_sendable.ensures ∙ c.if-not-is_sendable.true))

pub returns : goal.returns
returns c =
    let a = c.args in
    let range = c.ranges.identifier in
    let enough : output_least ≤ length a.out.now = omega (arith, c.if-out-lt-OUTPUTLEAST.false) in
    let fit = sym c.is_sendable.ensures ∙ c.if-not-is_sendable.false in
    written_made _ a.out.now _ _ _ (request_fit _ a.operation a.r (length a.out.now) enough fit)
    (request_put a.out.now _ a.operation a.r _ _ range.sfits enough fit
    (rw (to_z-of_z range) at c.put_request.ensures))
