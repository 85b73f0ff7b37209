use Rattle.calls.proofs.HandedOns.{puts_refused, puts_passed, puts_digits}
use Rattle.std.proofs.lemmas.Result.{err_from_is_err_and}
use Rattle.calls.proofs.originals.original.Goals as goal

pub returns-in_err-d : goal.returns-in_err-d
returns-in_err-d c =
    let a = c.args in
    let p = err_from_is_err_and c.from_residual.result c.from_residual.ensures.1 in
    rw (p.1, p.2) (puts_refused a.access.now a.table a.call.now a.out.now _ c.in_err-d.ensures)

pub returns-in_default : goal.returns-in_default
returns-in_default c =
    let a = c.args in
    puts_passed a.access.now a.table a.call.now a.out.now (rw c.in_default.is at c.in_ok-d.ensures)

pub returns : goal.returns
returns c =
    let a = c.args in
    puts_digits a.access.now a.table a.call.now a.out.now c.in-Some.d (rw c.in-Some.is at c.in_ok-d.ensures) _
    c.handed_on-digits.ensures _ _ c.put_all-count.ensures
