use Rattle.octets.proofs.Elements.{element_small}
use Rattle.values.specs.Enumerated.{enumerated_tag}
use mathlib.Core.List.{[], ◌∷◌}
use native.Mathlib.Omega.{arith}
use Rattle.values.proofs.enumerated.put_enumerated.Goals as goal

pub returns : goal.returns
returns c = let a = c.args in
    rw (element_small enumerated_tag (a.value ∷ []) (omega arith)) c.put_all.ensures
