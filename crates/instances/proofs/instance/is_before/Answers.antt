use borrow.Author.Rules.{rules}
use Rattle.instances.proofs.Keys.{before_procedure, before_number, before_service}
use Rattle.instances.proofs.instance.is_before.Goals as goal

pub returns-then-x-key : goal.returns-then-x-key
returns-then-x-key c =
    before_procedure _ _ _ _ _ _ (search rules) (search rules) (search rules) (search rules) c.if-x-key.true

pub returns-then-x-key-2 : goal.returns-then-x-key-2
returns-then-x-key-2 c =
    before_number _ _ _ _ _ _ (search rules) (search rules) (search rules) (search rules) c.if-x-key.false
    c.if-x-key-2.true

pub returns : goal.returns
returns c =
    before_service _ _ _ _ _ _ (search rules) (search rules) (search rules) (search rules) c.if-x-key.false
    c.if-x-key-2.false
