-- The things that a record of a few counts.
use Rattle.std.specs.Prelude.{ℕ, List, take}
use Rattle.instances.specs.declared.few.Few.{Few}

abbrev pub items_in : {T : Type 0} {N : ℕ} → Few T N → List T
items_in few = take few.count few.items
