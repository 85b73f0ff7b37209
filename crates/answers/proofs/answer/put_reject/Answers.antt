use Rattle.answers.specs.Answer.{problem_no, problem_value}
use Rattle.answers.specs.Answer.{whose_octets, problem_octets}
use Rattle.octets.proofs.Elements.{length_small, headed, room_headed}
use Rattle.octets.specs.Element.{element}
use Rattle.laws.proofs.Over.{then, puts_all, puts_none, room_then}
use lib.ListN.{length, length-append}
use mathlib.Core.List.{[], ◌∷◌, ◌++◌}
use mathlib.Core.Path.{◌≡◌}
use Prim.Native.Nat.{◌+◌, ◌≤◌}
use native.Mathlib.Omega.{arith}
use Rattle.answers.proofs.answer.put_reject.Goals as goal

pub returns-then-out-size : goal.returns-then-out-size
returns-then-out-size c = let a = c.args in
    let whose = whose_octets a.whose in
    let problem = problem_octets a.problem in
    let three = length_small (problem_no a.problem) (problem_value a.problem ∷ []) (omega arith) in
    let size = c.whose_size-size.ensures in
    let inside : c.whose_size-size.result + 3 ≡ length (whose ++ problem) = omega
    (arith, length-append whose problem, size.0, three) in
    let long = length_small 0xA4 (whose ++ problem) (omega (arith, inside, size.1)) in
    puts_none (omega (arith, inside, long))

pub write_whose-q-requires : goal.write_whose-q-requires
write_whose-q-requires c = let a = c.args in
    let whose = whose_octets a.whose in
    let problem = problem_octets a.problem in
    let three = length_small (problem_no a.problem) (problem_value a.problem ∷ []) (omega arith) in
    let size = c.whose_size-size.ensures in
    let inside : c.whose_size-size.result + 3 ≡ length (whose ++ problem) = omega
    (arith, length-append whose problem, size.0, three) in
    let long = length_small 0xA4 (whose ++ problem) (omega (arith, inside, size.1)) in
    let fits : 0 + length (element 0xA4 (whose ++ problem)) ≤ length a.out.now = omega
    (arith, inside, long, c.if-out-size.false) in
    omega (arith, room_headed (whose ++ problem) fits inside c.put_head-p.ensures, length-append whose problem)

pub write_problem-requires : goal.write_problem-requires
write_problem-requires c =
    let a = c.args in
    let whose = whose_octets a.whose in
    let problem = problem_octets a.problem in
    let three = length_small (problem_no a.problem) (problem_value a.problem ∷ []) (omega arith) in
    let size = c.whose_size-size.ensures in
    let inside : c.whose_size-size.result + 3 ≡ length
    (whose ++ problem) =
    omega (arith, length-append whose problem, size.0, three) in
    let long = length_small 0xA4 (whose ++ problem) (omega (arith, inside, size.1)) in
    let fits : 0 + length (element 0xA4 (whose ++ problem)) ≤ length a.out.now =
    omega (arith, inside, long, c.if-out-size.false) in
    room_then problem (room_headed (whose ++ problem) fits inside
    c.put_head-p.ensures) c.write_whose-q.ensures

pub returns : goal.returns
returns c =
    let a = c.args
    in
    let whose = whose_octets a.whose in
    let problem = problem_octets a.problem in
    let three = length_small (problem_no a.problem) (problem_value a.problem ∷ []) (omega arith) in
    let size = c.whose_size-size.ensures in
    let inside : c.whose_size-size.result + 3 ≡ length (whose ++ problem) =
    omega (arith, length-append whose problem, size.0, three) in
    let long = length_small 0xA4 (whose ++ problem) (omega (arith, inside, size.1)) in
    let fits : 0 + length (element 0xA4 (whose ++ problem)) ≤ length a.out.now =
    omega (arith, inside, long, c.if-out-size.false) in
    puts_all fits (headed fits inside c.put_head-p.ensures
    (λ h. then c.write_whose-q.ensures c.write_problem.ensures))
