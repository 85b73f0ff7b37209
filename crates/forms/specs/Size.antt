-- How many octets a night sheet has at most (document 01, "Night sheet").
use Rattle.std.specs.Prelude.{ℕ, ◌+◌, ◌*◌}
use Rattle.forms.specs.declared.form.Form.{Form}

-- the most octets of an instance, and of a sheet over its form: "under .. 1,613 (sheet)"
abbrev pub instance_most : ℕ
instance_most = 67

abbrev pub sheet_most : Form → ℕ
sheet_most f = instance_most * (f.procedures * f.perprocedure) + 5
