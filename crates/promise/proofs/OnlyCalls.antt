-- Each promise of the crate calls admits one answer, and one lent output afterwards. Assumes nothing.
use Prim.Native.Nat.{ℕ}
use mathlib.Core.Path.{◌≡◌}
use mathlib.Core.List.{List}
use Rattle.std.specs.Prelude.{Option, Result}
use Rattle.laws.proofs.Picks.{both}
use Rattle.laws.proofs.Over.{only_puts}
use Rattle.refusals.specs.declared.refusal.Refusal.{Refusal}
use Rattle.exchange.specs.declared.table.Table.{Table}
use Rattle.calls.specs.Onward.{EventIn, ReasonNo}
use Rattle.calls.specs.Divert.{NoticeNo}
use Rattle.calls.specs.Coming.{DivertsTo}
use Rattle.calls.specs.Original.{PutsOriginal}
use Rattle.calls.specs.declared.event.Event.{Event}
use Rattle.calls.specs.declared.onward.Reason.{Reason}
use Rattle.calls.specs.declared.diverting.Notice.{Notice}
use Rattle.calls.specs.declared.diverting.Diversion.{Diversion}
use Rattle.calls.specs.declared.originals.Handed.{Handed}
use Rattle.calls.proofs.Courses.{diversion_same, handed_same}

pub only_u8_as_event : (octet : ℕ) {a b : Event} → EventIn octet a → EventIn octet b → a ≡ b
only_u8_as_event octet = both

pub only_reason_as_u8 : (reason : Reason) {a b : ℕ} → ReasonNo reason a → ReasonNo reason b → a ≡ b
only_reason_as_u8 reason = both

pub only_notice_as_u8 : (notice : Notice) {a b : ℕ} → NoticeNo notice a → NoticeNo notice b → a ≡ b
only_notice_as_u8 notice = both

pub only_divert :
    (access : List ℕ) (t : Table) (s : List ℕ) {d e : Result (Option Diversion) Refusal} → DivertsTo access t s d →
    DivertsTo access t s e →
    d ≡ e
only_divert access t s {d} {e} a b = diversion_same d e (both a.told b.told) (both a.call b.call)

pub only_original :
    (access : List ℕ) (t : Table) (s xs : List ℕ) {r q : Result (Option Handed) Refusal} {ys zs : List ℕ} →
    PutsOriginal access t s xs r ys →
    PutsOriginal access t s xs q zs →
    (r ≡ q) × (ys ≡ zs)
only_original access t s xs {r} {q} a b =
    let lent = only_puts a.lent b.lent in
    (handed_same r q (both a.told b.told) (both a.digits b.digits) lent.0, lent.1)
