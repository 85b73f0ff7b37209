-- The numbers of what is told of a call name it. Assumes nothing.
use Prim.Native.Nat.{ℕ}
use mathlib.Core.Path.{◌≡◌, refl, sym, ap, ◌∙◌}
use lib.Dec.{eqb}
use Rattle.std.specs.Prelude.{Option, Some, None, Result, Ok, Err}
use Rattle.laws.specs.Pick.{pick}
use Rattle.refusals.proofs.Refusals.{refusal_same, refuses_same, tells_same, refuses_not}
use Rattle.refusals.specs.declared.refusal.Refusal.{Refusal}
use Rattle.calls.specs.Onward.{reason_no}
use Rattle.calls.specs.declared.onward.Reason.{Reason}
use Rattle.calls.proofs.Reasons.{reason_by, reason_by_lem}
use Rattle.calls.specs.Divert.{notice_no, Course, passes, diverts}
use Rattle.calls.specs.Coming.{Coming, coming_told, diversion_coming, onward_in}
use Rattle.calls.specs.Original.{handed_coming, handed_length, handed_count}
use Rattle.calls.specs.declared.diverting.Notice.{Notice}
use Rattle.calls.specs.declared.diverting.Notice.TheVariants.{Silent, Diverting, DivertingTo}
use Rattle.calls.specs.declared.diverting.Onward.{Onward}
use Rattle.calls.specs.declared.diverting.Diversion.{Diversion}
use Rattle.calls.specs.declared.originals.Handed.{Handed}

-- the notice that a number names
abbrev notice_by : ℕ → Notice
notice_by n = pick (eqb n 0) Silent (pick (eqb n 1) Diverting DivertingTo)

notice_by_lem : (a : Notice) → a ≡ notice_by (notice_no a)
notice_by_lem Silent = refl
notice_by_lem Diverting = refl
notice_by_lem DivertingTo = refl

-- what becomes of a call that is not refused
abbrev coming_by : Course → Option (Reason × Notice)
coming_by passes = None
coming_by (diverts r n) = Some (reason_by r, notice_by n)

coming_by_lem : (r : Reason) (n : Notice) → ◌≡◌ {A = Option (Reason × Notice)} (Some (r, n)) (coming_by (diverts (reason_no r) (notice_no n)))
coming_by_lem r n =
    ap (λ (x : Reason). Some (x, n)) (reason_by_lem r) ∙ ap (λ (x : Notice). Some (reason_by (reason_no r), x)) (notice_by_lem n)

-- two of which the same is told are the same
pub coming_same : (a b : Coming) → coming_told a ≡ coming_told b → a ≡ b
coming_same (Err x) (Err y) h = ap Err (refusal_same x y (refuses_same _ _ h))
coming_same (Err x) (Ok None) h = absurd (refuses_not _ _ h)
coming_same (Err x) (Ok (Some (r, n))) h = absurd (refuses_not _ _ h)
coming_same (Ok None) (Err y) h = absurd (refuses_not _ _ (sym h))
coming_same (Ok None) (Ok None) h = refl
coming_same (Ok None) (Ok (Some (r, n))) h = ap Ok (ap coming_by (tells_same _ _ h) ∙ sym (coming_by_lem r n))
coming_same (Ok (Some (q, m))) (Err y) h = absurd (refuses_not _ _ (sym h))
coming_same (Ok (Some (q, m))) (Ok None) h = ap Ok (coming_by_lem q m ∙ ap coming_by (tells_same _ _ h))
coming_same (Ok (Some (q, m))) (Ok (Some (r, n))) h = ap Ok (coming_by_lem q m ∙ ap coming_by (tells_same _ _ h) ∙ sym (coming_by_lem r n))

-- ---- with what stands beside the reason and the notice

abbrev diversion_by : Coming → Onward → Result (Option Diversion) Refusal
diversion_by (Err refusal) call = Err refusal
diversion_by (Ok None) call = Ok None
diversion_by (Ok (Some (r, n))) call = Ok (Some (record { reason = r; notice = n; call = call }))

diversion_by_lem : (a : Result (Option Diversion) Refusal) → a ≡ diversion_by (diversion_coming a) (onward_in a)
diversion_by_lem (Err refusal) = refl
diversion_by_lem (Ok None) = refl
diversion_by_lem (Ok (Some d)) = refl

-- two of which the same is told, and whose calls go on alike, are the same
pub diversion_same :
    (a b : Result (Option Diversion) Refusal) → coming_told (diversion_coming a) ≡ coming_told (diversion_coming b) →
    onward_in a ≡ onward_in b →
    a ≡ b
diversion_same a b told call =
    let same : diversion_coming a ≡ diversion_coming b = coming_same _ _ told in
    diversion_by_lem a ∙ rw (same, call) (sym (diversion_by_lem b))

abbrev handed_by : Coming → ℕ → ℕ → Result (Option Handed) Refusal
handed_by (Err refusal) digits count = Err refusal
handed_by (Ok None) digits count = Ok None
handed_by (Ok (Some (r, n))) digits count = Ok (Some (record { reason = r; notice = n; length = digits; count = count }))

handed_by_lem : (a : Result (Option Handed) Refusal) → a ≡ handed_by (handed_coming a) (handed_length a) (handed_count a)
handed_by_lem (Err refusal) = refl
handed_by_lem (Ok None) = refl
handed_by_lem (Ok (Some h)) = refl

-- two of which the same is told, and that hand on and write as many digits, are the same
pub handed_same :
    (a b : Result (Option Handed) Refusal) → coming_told (handed_coming a) ≡ coming_told (handed_coming b) →
    handed_length a ≡ handed_length b → handed_count a ≡ handed_count b →
    a ≡ b
handed_same a b told digits count =
    let same : handed_coming a ≡ handed_coming b = coming_same _ _ told in
    handed_by_lem a ∙ rw (same, digits, count) (sym (handed_by_lem b))
