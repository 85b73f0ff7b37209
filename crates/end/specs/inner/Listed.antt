-- What is known of a list's instances before they are judged: what `list_good` may count on; and of a run that is made instance by instance.
use Rattle.std.specs.Prelude.{◌≡◌, Bool}
use Rattle.numbers.specs.Address.{address_good}
use Rattle.instances.specs.Run.{instances_of, packed}
use Rattle.instances.specs.declared.instance.Instance.{Instance}
use Rattle.instances.specs.declared.run.Run.{Run}

-- an address that a table holds: entries with others are not read
abbrev pub address_held : Instance → Bool
address_held x = address_good x.address

-- blanks stand after its instances
abbrev pub Packed : Run → Type 0
Packed run = run ≡ packed (instances_of run)
