-- What the private functions under `list_sheet` and `print_sheet` write.
use Rattle.std.specs.Prelude.{ℕ}
use Rattle.instances.specs.Run.{instances_of}
use Rattle.instances.specs.declared.run.Run.{Run}
use Rattle.forms.specs.Sheet.{Sheet}

-- the sheet that holds an identifier and the instances of a run
abbrev pub sheet_of : ℕ → Run → Sheet
sheet_of last run = record { last = last; instances = instances_of run }
