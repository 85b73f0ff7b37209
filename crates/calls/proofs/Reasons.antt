-- The number of a reason names it, and goes by the procedure that applies. Assumes nothing.
use Prim.Native.Nat.{ℕ, ◌+◌, ◌<◌}
use mathlib.Core.Path.{◌≡◌, refl, sym, ap, ◌∙◌}
use native.Mathlib.Omega.{arith}
use lib.Dec.{eqb}
use Rattle.laws.specs.Pick.{pick}
use Rattle.calls.specs.Onward.{reason_no, reason_of}
use Rattle.calls.specs.Divert.{procedure_of}
use Rattle.calls.specs.declared.event.Event.{Event}
use Rattle.calls.specs.declared.event.Event.TheVariants.{Offered, Busy, NoReply}
use Rattle.calls.specs.declared.onward.Reason.{Reason}
use Rattle.calls.specs.declared.onward.Reason.TheVariants.{Cfu, Cfb, Cfnr}

-- the reason that a number names
abbrev pub reason_by : ℕ → Reason
reason_by n = pick (eqb n 1) Cfu (pick (eqb n 2) Cfb Cfnr)

pub reason_by_lem : (a : Reason) → a ≡ reason_by (reason_no a)
reason_by_lem Cfu = refl
reason_by_lem Cfb = refl
reason_by_lem Cfnr = refl

-- two reasons of the same number are the same
pub reason_same : (a b : Reason) → reason_no a ≡ reason_no b → a ≡ b
reason_same a b h = reason_by_lem a ∙ ap reason_by h ∙ sym (reason_by_lem b)

-- "Offered looks at cfu, busy at cfb, no reply at cfnr", and "reason cfu 1, cfb 2, cfnr 3": one more than the procedure's number
pub reason_procedure : (event : Event) → reason_of event ≡ procedure_of event + 1
unfolding reason_of procedure_of
reason_procedure Offered = refl
reason_procedure Busy = refl
reason_procedure NoReply = refl

-- an event looks at one of the three procedures
pub procedure_below : (event : Event) → procedure_of event < 3
unfolding procedure_of
procedure_below Offered = omega arith
procedure_below Busy = omega arith
procedure_below NoReply = omega arith
