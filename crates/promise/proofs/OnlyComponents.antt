-- Each promise of the crate components admits one answer, and one lent output afterwards. Assumes nothing.
use Prim.Native.Nat.{ℕ}
use mathlib.Core.Path.{◌≡◌}
use mathlib.Core.List.{List}
use lib.IntN.{ℤ}
use Rattle.std.specs.Prelude.{Result}
use Rattle.laws.proofs.Picks.{both}
use Rattle.laws.proofs.Over.{only_puts}
use Rattle.refusals.specs.Handling.{Made}
use Rattle.refusals.specs.declared.refusal.Refusal.{Refusal}
use Rattle.refusals.proofs.Handlings.{written_same}
use Rattle.requests.specs.declared.request.Request.{Request}
use Rattle.lists.specs.declared.entries.Entries.{Entries}
use Rattle.components.specs.Written.{MadeIn, WritesRequest, WritesList}

made_once :
    (m : Made) (xs : List ℕ) {r q : Result ℕ Refusal} {ys zs : List ℕ} → MadeIn m xs r ys → MadeIn m xs q zs → (r ≡ q) × (ys ≡ zs)
made_once m xs {r} {q} a b =
    let lent = only_puts a.lent b.lent in
    (written_same r q (both a.told b.told) lent.0, lent.1)

pub only_write_request :
    (identifier : ℤ) (operation : ℕ) (r : Request) (xs : List ℕ) {v w : Result ℕ Refusal} {ys zs : List ℕ} →
    WritesRequest identifier operation r xs v ys → WritesRequest identifier operation r xs w zs →
    (v ≡ w) × (ys ≡ zs)
only_write_request identifier operation r xs = made_once _ xs

pub only_write_list :
    (identifier : ℤ) (list : Entries) (xs : List ℕ) {v w : Result ℕ Refusal} {ys zs : List ℕ} →
    WritesList identifier list xs v ys → WritesList identifier list xs w zs →
    (v ≡ w) × (ys ≡ zs)
only_write_list identifier list xs = made_once _ xs
