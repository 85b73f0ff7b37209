-- What the private functions that read a night sheet's parts answer.
use Rattle.std.specs.Prelude.{ℕ, ◌+◌, ◌≡◌, true, List, map, ltb, leb, eqb}
use Rattle.laws.specs.Got.{Got, got, and_then}
use Rattle.numbers.specs.Number.{padded, fair, number_of}
use Rattle.numbers.specs.declared.number.Number.{Number}
use Rattle.lists.specs.Entries.{instances_most}
use Rattle.instances.specs.Instance.{procedures}
use Rattle.forms.specs.Instance.{field_at, fields_at, kind_good}
use Rattle.forms.specs.declared.form.Form.{Form}
use Rattle.forms.specs.declared.sheet.Opening.{Opening}

-- ---- fields

-- a field of any number, and one below a bound
abbrev pub any_field : List ℕ → ℕ → Got ℕ
any_field = field_at (λ n. true)

abbrev pub field_below : ℕ → List ℕ → ℕ → Got ℕ
field_below below = field_at (λ n. ltb n below)

abbrev pub fields_below : ℕ → ℕ → List ℕ → ℕ → Got (List ℕ)
fields_below below = fields_at (λ n. ltb n below)

-- a thing that was found, as its reader keeps it
abbrev pub got_as : {A B : Type 0} → (A → B) → Got A → Got B
got_as f g = and_then g (λ a next. got (f a) next)

-- fields in an array, each with `base` on top
abbrev pub octets_on : ℕ → List ℕ → List ℕ
octets_on base ns = padded (map (λ n. base + n) ns)

-- ---- addresses

-- the number with which an address begins
unfoldable pub number_from_fields : List ℕ → ℕ → Got Number
number_from_fields s at =
    and_then (field_at (λ form. ltb form 2) s at) (λ form p.
    and_then (field_at (kind_good form) s p) (λ kind q.
    and_then (field_at fair s q) (λ count a.
    and_then (fields_at (λ d. ltb d 10) count s a) (λ ds next. got (number_of form kind (map (λ d. 48 + d) ds)) next))))

-- ---- what stands before the instances: "Form 1; last handled; instance count"

unfoldable pub opening_in : Form → List ℕ → Got Opening
opening_in f s =
    and_then (field_at (eqb f.code) s 0) (λ _ p.
    and_then (field_at (λ n. leb n f.lastmost) s p) (λ last q.
    and_then (field_at (λ n. true) s q) (λ count next. got (record { last = last; count = count }) next)))

-- ---- the whole

-- a form whose instances a run has room for
abbrev pub Fitting : Form → Type 0
Fitting f = (f.procedures ≡ procedures) × (f.perprocedure ≡ instances_most)
