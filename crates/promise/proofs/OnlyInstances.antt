-- Each promise of the crate instances admits one answer, and one lent output afterwards. Assumes nothing.
use Rattle.std.specs.Prelude.{Option}
use Prim.Native.Nat.{ℕ}
use mathlib.Core.Path.{◌≡◌, ap, ◌∙◌}
use mathlib.Core.Bool.{Bool}
use mathlib.Core.List.{List}
use lib.IntN.{ℤ}
use Rattle.laws.proofs.Picks.{both}
use Rattle.laws.proofs.Over.{only_puts}
use Rattle.numbers.specs.declared.address.Address.{Address}
use Rattle.profile.specs.declared.profile.Profile.{Profile}
use Rattle.lists.specs.declared.entries.Entries.{Entries}
use Rattle.instances.specs.Instance.{KeyFor, KeyOf, BlankInstance, IsNamed}
use Rattle.instances.specs.Places.{Stored}
use Rattle.instances.specs.Run.{FreshRun, FindsAddress, ChosenCount, Clear, Ordered, RunGood, Put, Renew, CountAfter, EntriesOf, PutListed}
use Rattle.instances.specs.declared.instance.Instance.{Instance}
use Rattle.instances.specs.declared.instance.Key.{Key}
use Rattle.instances.specs.declared.instance.Selection.{Selection}
use Rattle.instances.specs.declared.run.Run.{Run}
use Rattle.instances.specs.declared.run.After.{After}

pub only_blank_instance : {a b : Instance} → BlankInstance a → BlankInstance b → a ≡ b
only_blank_instance = both

pub only_fresh_run : {a b : Run} → FreshRun a → FreshRun b → a ≡ b
only_fresh_run = both

pub only_instances_find :
    (key : Key) (run : Run) {a b : Option Address} → FindsAddress key run a → FindsAddress key run b → a ≡ b
only_instances_find key run = both

pub only_chosen_count : (sel : Selection) (run : Run) {a b : ℕ} → ChosenCount sel run a → ChosenCount sel run b → a ≡ b
only_chosen_count sel run = both

pub only_clear : (sel : Selection) (run : Run) {a b : Run} → Clear sel run a → Clear sel run b → a ≡ b
only_clear sel run = both

pub only_ordered : (most : ℕ) (run : Run) {a b : Bool} → Ordered most run a → Ordered most run b → a ≡ b
only_ordered most run = both

pub only_instances_good : (p : Profile) (run : Run) {a b : Bool} → RunGood p run a → RunGood p run b → a ≡ b
only_instances_good p run = both

pub only_put :
    (p : Profile) (sel : Selection) (address : Address) (run : Run) {a b : Run} → Put p sel address run a →
    Put p sel address run b →
    a ≡ b
only_put p sel address run = both

pub only_renew :
    (sel : Selection) (address : Address) (run : Run) {a b : Run} → Renew sel address run a → Renew sel address run b → a ≡ b
only_renew sel address run = both

abbrev after_of : ℕ → Bool → After
after_of count renews = record { count = count; renews = renews }

pub only_count_after :
    (p : Profile) (sel : Selection) (run : Run) {a b : After} → CountAfter p sel run a → CountAfter p sel run b → a ≡ b
only_count_after p sel run {a = a} {b = b} h k =
    ap (λ (n : ℕ). after_of n a.renews) (both h.count k.count)
    ∙ ap (λ (only : Bool). after_of b.count only) (both h.renews k.renews)

pub only_entries :
    (p : Profile) (sel : Selection) (run : Run) {a b : Entries} → EntriesOf p sel run a → EntriesOf p sel run b → a ≡ b
only_entries p sel run = both

pub only_put_listed :
    (xs : List ℕ) (identifier : ℤ) (p : Profile) (sel : Selection) (run : Run) {m n : ℕ} {ys zs : List ℕ} →
    PutListed xs identifier p sel run m ys →
    PutListed xs identifier p sel run n zs →
    (m ≡ n) × (ys ≡ zs)
only_put_listed xs identifier p sel run = only_puts

pub only_key : (x : Instance) {a b : Key} → KeyFor x a → KeyFor x b → a ≡ b
only_key x = both

pub only_key_of : (key : Key) {a b : ℕ} → KeyOf key a → KeyOf key b → a ≡ b
only_key_of key = both

pub only_is_named : (every asked is : ℕ) {a b : Bool} → IsNamed every asked is a → IsNamed every asked is b → a ≡ b
only_is_named every asked is = both

pub only_stored : (count size : ℕ) {a b : ℕ} → Stored count size a → Stored count size b → a ≡ b
only_stored count size = both
