use Rattle.answers.specs.Answer.{answer_octets}
use Rattle.laws.proofs.Over.{wrote_none, puts_all}
use Rattle.lists.proofs.Heads.{list_empty}
use mir.Facts.{to_z-of_z}
use mir.Val.{SFits}
use mir.Syntax.{w16}
use native.Mathlib.Omega.{arith}
use borrow.Author.Rules.{rules}
use Rattle.answers.proofs.answer.put_answer.Goals as goal

pub returns-in-Silence : goal.returns-in-Silence
unfolding answer_octets
returns-in-Silence c = rw c.in-Silence.is (puts_all (omega arith) wrote_none)

pub returns-in-Reject : goal.returns-in-Reject
unfolding answer_octets
returns-in-Reject c = rw c.in-Reject.is c.put_reject.ensures

pub returns-in-Error : goal.returns-in-Error
unfolding answer_octets
returns-in-Error c = let id : SFits w16 c.in-Error.identifier = search rules in
    rw c.in-Error.is (rw (to_z-of_z id) at c.put_error.ensures)

pub returns-in-Result : goal.returns-in-Result
unfolding answer_octets
returns-in-Result c = let id : SFits w16 c.in-Result.identifier = search rules in
    rw c.in-Result.is (rw (to_z-of_z id) at c.put_result.ensures)

pub returns-in-Listing : goal.returns-in-Listing
unfolding answer_octets
returns-in-Listing c = let id : SFits w16 c.in-Listing.identifier = search rules in
    rw c.in-Listing.is
    (list_empty _ (rw (to_z-of_z id) at c.put_list_head.ensures))
