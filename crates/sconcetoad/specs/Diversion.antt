-- What becomes of a call, as C is told.
use Rattle.std.specs.Prelude.{ℕ, ◌≡◌, List, length}
use Rattle.laws.specs.Over.{Puts}
use Rattle.refusals.specs.Refusal.{Told, refuses, tells, refusal_in}
use Rattle.exchange.specs.declared.table.Table.{Table}
use Rattle.calls.specs.Divert.{Course, passes, diverts, comes}
use Rattle.calls.specs.Original.{original_in}
use Rattle.sconcetoad.specs.declared.diversion.Diverted.{Diverted}
use Rattle.sconcetoad.specs.declared.diversion.HandedOn.{HandedOn}

-- the numbers of a reason and of a notice, each 0 where there is none
abbrev pub reason_in : Told Course → ℕ
reason_in (refuses number) = 0
reason_in (tells passes) = 0
reason_in (tells (diverts reasonNumber noticeNumber)) = reasonNumber

abbrev pub notice_in : Told Course → ℕ
notice_in (refuses number) = 0
notice_in (tells passes) = 0
notice_in (tells (diverts reasonNumber noticeNumber)) = noticeNumber

-- what `sconcetoad_divert` promises
pub record DivertedBy (access : List ℕ) (t : Table) (s : List ℕ) (r : Diverted) : Type 0 where
  pub refusal : r.refusal ≡ refusal_in (comes access t s).told
  pub reason : r.reason ≡ reason_in (comes access t s).told
  pub notice : r.notice ≡ notice_in (comes access t s).told
  pub call : r.call ≡ (comes access t s).call

-- what `sconcetoad_original` promises: what becomes of the call, how many digits are handed on, and each octet of the output, which has all of them
-- or, where there is no room, none
pub record HandsOn (access : List ℕ) (t : Table) (s xs : List ℕ) (r : HandedOn) (ys : List ℕ) : Type 0 where
  pub refusal : r.refusal ≡ refusal_in (comes access t s).told
  pub reason : r.reason ≡ reason_in (comes access t s).told
  pub digits : r.length ≡ length (original_in access t s)
  pub lent : Puts xs 0 (original_in access t s) r.count ys
