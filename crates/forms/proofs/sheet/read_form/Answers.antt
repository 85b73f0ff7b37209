use mathlib.Core.Path.{refl}
use Rattle.forms.proofs.sheet.read_form.Goals as goal

pub form_in-requires : goal.form_in-requires
form_in-requires c = rw c.form_one-f.ensures (refl, refl)

pub returns : goal.returns
returns c = rw c.form_one-f.ensures at c.form_in.ensures
