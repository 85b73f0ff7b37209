use Prim.Native.Nat.{ℕ, ◌/◌}
use mathlib.Core.Path.{ap, ◌∙◌}
use native.Mathlib.Omega.{arith}
use borrow.Author.Rules.{sfits_of}
use mir.Syntax.{w16}
use mir.Facts.{to_z-of_z}
use Rattle.octets.specs.Found.{found}
use Rattle.octets.proofs.Words.{word_whole}
use Rattle.values.specs.Ident.{half}
use Rattle.values.proofs.Idents.{ident_none, ident_many, ident_not_shortest, ident_read}
use Rattle.values.proofs.ident.ident_in.Goals as goal
use Rattle.values.proofs.ident.ident_in.Goals.{then-w-eq0-via-then-w-eq0, then-w-eq0-via-else-w-eq0+then-w-gt-IDENTMOST}

pub returns-then-w-eq0 : goal.returns-then-w-eq0
returns-then-w-eq0 c =
    let a = c.args in
    elim c.then-w-eq0.branch [
      | then-w-eq0-via-then-w-eq0 w ↦ ap found (ident_none a.w a.s.now a.start a.next w.if-w-eq0.true)
      | then-w-eq0-via-else-w-eq0+then-w-gt-IDENTMOST w ↦
          ap found (ident_many a.w a.s.now a.start a.next w.if-w-gt-IDENTMOST.true)
    ]

pub returns-then-m-fewer : goal.returns-then-m-fewer
unfolding half
returns-then-m-fewer c = let a = c.args in
    let word = c.word_in-u.ensures.is ∙ word_whole a.w a.s.now a.start (omega arith) (omega arith) in
    let fewer = ap (λ (n : ℕ). n / 2) c.numbers_of-fewer.ensures.0 in
    ap found
    (ident_not_shortest a.w a.s.now a.start a.next _ _ _ c.if-w-eq0.false c.if-w-gt-IDENTMOST.false
    word c.word_in-u.ensures.small c.magnitude-m.ensures fewer c.if-m-fewer.true)

pub returns : goal.returns
unfolding half
returns c = let a = c.args in
    let word = c.word_in-u.ensures.is ∙ word_whole a.w a.s.now a.start (omega arith) (omega arith) in
    let fewer = ap (λ (n : ℕ). n / 2) c.numbers_of-fewer.ensures.0 in
    let sign = to_z-of_z {w = w16} (sfits_of c.signed-value.type_inv) ∙ c.signed-value.ensures in
    rw sign
    (ap found
    (ident_read a.w a.s.now a.start a.next _ _ _ c.if-w-eq0.false c.if-w-gt-IDENTMOST.false
    word c.word_in-u.ensures.small c.magnitude-m.ensures fewer c.if-m-fewer.false))
