-- A night sheet by the rules of its form alone, without a profile (document 01, "Night sheet"; "Samples": the listing program): what is
-- told of it.
use Rattle.std.specs.Prelude.{◌≡◌, List, ℕ, Option, Some, None}
use Rattle.laws.specs.Got.{Got, got, wrong}
use Rattle.instances.specs.Run.{packed}
use Rattle.forms.specs.Form.{form1}
use Rattle.forms.specs.Sheet.{Sheet, sheet_in}
use Rattle.forms.specs.declared.sheet.FormRead.{FormRead}

-- the last handled identifier and the instances; nothing where it is no sheet
abbrev pub form_read : Got Sheet → Option FormRead
form_read (got sheet next) = Some (record { last = sheet.last; run = packed sheet.instances })
form_read wrong = None

-- what `read_form` promises
abbrev pub ReadForm : List ℕ → Option FormRead → Type 0
ReadForm s r = r ≡ form_read (sheet_in form1 s)
