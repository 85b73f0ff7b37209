-- Each promise of the crate forms admits one answer. Assumes nothing.
use Prim.Native.Nat.{ℕ}
use mathlib.Core.List.{List}
use mathlib.Core.Path.{◌≡◌}
use Rattle.std.specs.Prelude.{Option}
use Rattle.laws.proofs.Picks.{both}
use Rattle.forms.specs.Form.{FormOne}
use Rattle.forms.specs.Formed.{ReadForm}
use Rattle.forms.specs.declared.form.Form.{Form}
use Rattle.forms.specs.declared.sheet.FormRead.{FormRead}

pub only_form_one : {a b : Form} → FormOne a → FormOne b → a ≡ b
only_form_one = both

pub only_read_form : (s : List ℕ) {a b : Option FormRead} → ReadForm s a → ReadForm s b → a ≡ b
only_read_form s = both
