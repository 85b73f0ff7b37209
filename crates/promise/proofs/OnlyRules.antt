-- Each promise of the crate rules admits one answer. Assumes nothing.
use Rattle.std.specs.Prelude.{Result}
use Prim.Native.Nat.{ℕ}
use mathlib.Core.Path.{◌≡◌}
use mathlib.Core.Bool.{Bool}
use Rattle.laws.proofs.Picks.{both}
use Rattle.profile.specs.declared.profile.Profile.{Profile}
use Rattle.requests.specs.declared.request.Request.{Request}
use Rattle.instances.specs.declared.instance.Selection.{Selection}
use Rattle.instances.specs.declared.run.Run.{Run}
use Rattle.rules.specs.Selection.{SelectionOf}
use Rattle.rules.specs.Error.{ErrorNo}
use Rattle.rules.specs.Judge.{JudgeRequest, ApplyRequest, RenewRequest}
use Rattle.rules.specs.declared.error.RequestError.{RequestError}
use Rattle.rules.proofs.Judges.{verdict_same}

pub only_selection_of : (p : Profile) (r : Request) {a b : Selection} → SelectionOf p r a → SelectionOf p r b → a ≡ b
only_selection_of p r = both

pub only_requesterror_as_u8 : (error : RequestError) {a b : ℕ} → ErrorNo error a → ErrorNo error b → a ≡ b
only_requesterror_as_u8 error = both

pub only_judge_request :
    (p : Profile) (operation : ℕ) (r : Request) (run : Run) {a b : Result Bool RequestError} → JudgeRequest p operation r run a →
    JudgeRequest p operation r run b →
    a ≡ b
only_judge_request p operation r run {a = a} {b = b} h k = verdict_same a b h k

pub only_apply_request :
    (p : Profile) (operation : ℕ) (r : Request) (run : Run) {a b : Run} → ApplyRequest p operation r run a →
    ApplyRequest p operation r run b →
    a ≡ b
only_apply_request p operation r run = both

pub only_renew_request :
    (p : Profile) (r : Request) (run : Run) {a b : Run} → RenewRequest p r run a → RenewRequest p r run b → a ≡ b
only_renew_request p r run = both
