use Rattle.octets.proofs.Elements.{headed}
use Rattle.laws.proofs.Over.{wrote}
use mathlib.Core.Path.{refl}
use Rattle.answers.proofs.answer.write_problem.Goals as goal

pub returns-in-General : goal.returns-in-General
returns-in-General c = let is = c.in-General.is in
    rw is (headed (rw is at c.requires) refl
    c.put_head-p.ensures (λ h. wrote h c.put_all.ensures))

pub returns-in-Invoke : goal.returns-in-Invoke
returns-in-Invoke c = let is = c.in-Invoke.is in
    rw is (headed (rw is at c.requires) refl
    c.put_head-p-in-Invoke.ensures (λ h. wrote h c.put_all-in-Invoke.ensures))
