use mathlib.Core.Path.{sym, ◌∙◌}
use native.Mathlib.Omega.{arith}
use Rattle.octets.proofs.Within.{within}
use Rattle.skip.specs.Depth.{inside_depth}
use Rattle.requests.proofs.argument.argument_at.Goals as goal

pub activation_in-requires : goal.activation_in-requires
activation_in-requires c =
    let a = c.args in
    let found = sym c.head_at.ensures ∙ c.in_ok-argument.was in
    omega (arith, rw found at (within inside_depth a.s.now a.at a.end))

pub deactivation_in-requires : goal.deactivation_in-requires
deactivation_in-requires c =
    let a = c.args in
    let found = sym c.head_at.ensures ∙ c.in_ok-argument.was in
    omega (arith, rw found at (within inside_depth a.s.now a.at a.end))

pub interrogation_in-requires : goal.interrogation_in-requires
interrogation_in-requires c =
    let a = c.args in
    let found = sym c.head_at.ensures ∙ c.in_ok-argument.was in
    omega (arith, rw found at (within inside_depth a.s.now a.at a.end))
