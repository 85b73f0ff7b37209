-- What the private functions under `write_sheet` ask and promise.
use Rattle.std.specs.Prelude.{ℕ, ◌+◌, ◌-◌, ◌*◌, ◌<◌, ◌≤◌, ◌≡◌, true, List, [], ◌∷◌, map, length, get_or}
use Rattle.laws.specs.Over.{Wrote}
use Rattle.numbers.specs.Address.{address_good}
use Rattle.instances.specs.declared.instance.Instance.{Instance}
use Rattle.forms.specs.Form.{form1}
use Rattle.forms.specs.Size.{instance_most}
use Rattle.forms.specs.Instance.{service_of}
use Rattle.forms.specs.Sheet.{instances_octets}

-- ---- fields

-- xs has room for ws at `at`
abbrev pub Room : List ℕ → ℕ → List ℕ → Type 0
Room xs at ws = at + length ws ≤ length xs

-- octets, each by how far it is above `base`; none of them is below it
abbrev pub above : ℕ → List ℕ → List ℕ
above base octets = map (λ c. c - base) octets

abbrev pub NoneBelow : ℕ → List ℕ → Type 0
NoneBelow base octets = (i : ℕ) → i < length octets → base ≤ get_or octets i 0

-- ---- instances

-- xs has room for instances at `at`, however long they are
abbrev pub Space : List ℕ → ℕ → List Instance → Type 0
Space xs at is = at + instance_most * length is ≤ length xs

-- ys is xs with instances written at `at`, and `next` is the place after them
pub record WroteInstances (xs : List ℕ) (at : ℕ) (is : List Instance) (next : ℕ) (ys : List ℕ) : Type 0 where
  pub holds : Wrote xs at (instances_octets is) next ys
  pub within : next ≤ at + instance_most * length is

-- an instance that a sheet may hold, with an address as a table holds it
pub record Writable (x : Instance) : Type 0 where
  pub procedure : x.procedure < form1.procedures
  pub number : x.number < form1.numbers
  pub service : service_of x.service ≡ true
  pub address : address_good x.address ≡ true

abbrev pub AllWritable : List Instance → Type 0
AllWritable [] = Unit {0}
AllWritable (x ∷ xs) = Writable x × AllWritable xs
