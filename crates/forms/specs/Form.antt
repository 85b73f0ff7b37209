-- The forms of a night sheet: what its fields may be (document 01, "Night sheet"). A later form is another record, not another reader.
use Rattle.std.specs.Prelude.{◌≡◌}
use Rattle.forms.specs.declared.form.Form.{Form}

-- "Form 1"; identifiers to 32,767, cfu to cfnr, "number index 0 to 3", at most 8 for each procedure
abbrev pub form1 : Form
form1 = record { code = 1; lastmost = 32767; procedures = 3; numbers = 4; perprocedure = 8 }

-- what `form_one` promises
abbrev pub FormOne : Form → Type 0
FormOne r = r ≡ form1
