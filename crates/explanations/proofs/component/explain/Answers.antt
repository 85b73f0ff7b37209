use Rattle.explanations.proofs.Components.{explains_all}
use Rattle.explanations.proofs.component.explain.Goals as goal

pub returns : goal.returns
returns c =
    let a = c.args in
    explains_all a.component.now a.out.now c.if-out-lt-EXPLANATIONMOST.false
    c.if-component-gt-COMPONENTMOST.false
    c.write_elements-p.ensures c.write_said-count.ensures
