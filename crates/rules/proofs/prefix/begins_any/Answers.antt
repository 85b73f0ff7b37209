use borrow.Author.Rules.{rules}
use mathlib.Core.Path.{sym, ◌∙◌}
use native.Mathlib.Omega.{arith}
use lib.ListN.{take}
use Rattle.laws.proofs.Parts.{unmapped}
use Rattle.numbers.specs.Number.{digits_of}
use Rattle.profile.specs.Profile.{no_prefix}
use Rattle.instances.proofs.Runs.{next_of, none_of, stored_is}
use Rattle.rules.proofs.Begins.{any_here, any_on, any_none}
use Rattle.rules.proofs.prefix.begins_any.Goals as goal

pub returns-then-p-eq0 : goal.returns-then-p-eq0
returns-then-p-eq0 c =
    let p = c.args.p in
    sym (any_none (digits_of c.args.n) _ (rw c.if-p-eq0.true))

pub returns-then-begins_with : goal.returns-then-begins_with
returns-then-begins_with c =
    let l = c.loop-f in
    let p = c.args.p in
    let on = next_of (take c.stored.result p.prefixes) l.f-index no_prefix (omega arith) in
    let here = any_here (digits_of c.args.n) _ _ _ on (sym c.begins_with.ensures ∙ c.if-begins_with.true) in
    let barred = stored_is _ p.prefixcount _ p.prefixes c.stored.ensures (search (unmapped, rules)) in
    rw (← barred) (sym (l.invariant ∙ here))

pub loop-f-preserved : goal.loop-f-preserved
loop-f-preserved c =
    let l = c.loop-f in
    let on = next_of (take c.stored.result c.args.p.prefixes) l.f-index no_prefix (omega arith) in
    l.invariant ∙ any_on (digits_of c.args.n) _ _ _ on (sym c.begins_with.ensures ∙ c.if-begins_with.false)

pub returns : goal.returns
returns c =
    let l = c.loop-f in
    let p = c.args.p in
    let none = any_none (digits_of c.args.n) _ (none_of (take c.stored.result p.prefixes) l.f-index (omega arith)) in
    let barred = stored_is _ p.prefixcount _ p.prefixes c.stored.ensures (search (unmapped, rules)) in
    rw (← barred) (sym (l.invariant ∙ none))
