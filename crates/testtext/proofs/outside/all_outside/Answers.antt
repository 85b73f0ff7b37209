use Rattle.std.proofs.Common.{rules, ◌≡◌, ◌+◌, ℕ, Bool, ◌∙◌, length, get_or}
use borrow.Author.Tests.{tests}
use native.Mathlib.Nat.{zero-add}
use Rattle.std.specs.List.{list_all, enumerate_from}
use Rattle.std.proofs.lemmas.Iterator.{YieldsList-from_slice}
use Rattle.std.proofs.lemmas.Iterator.Consumers.{YieldsList-from_enumerate}
use Rattle.std.proofs.lemmas.Iterator.Search.{all_from_yields_List}
use Rattle.laws.specs.Places.{every_to}
use Rattle.laws.proofs.Walks.{every_none}
use Rattle.testtext.specs.Outside.{octet_passes}
use Rattle.testtext.proofs.Outsides.{every_placed}
use Rattle.testtext.proofs.outside.all_outside.Goals as goal

pub returns : goal.returns
returns c =
    let s = c.args.s.now in
    let passes : ℕ × ℕ → Bool = λ p. octet_passes p.0 p.1 c.args.from c.args.to c.args.octet in
    let placed : list_all passes (enumerate_from 0 s) ≡ every_to (λ i. passes (i, get_or s i 0)) (0 + length s) =
    every_placed passes (λ i. passes (i, get_or s i 0)) 0 s (every_none _) (λ i lt. rw zero-add)
    in
    all_from_yields_List passes _ _ c.all.result c.all.ensures.ran (YieldsList-from_enumerate (YieldsList-from_slice s cc) cc)
    (λ x b q k. search (rules, tests))
    ∙ rw zero-add at placed
