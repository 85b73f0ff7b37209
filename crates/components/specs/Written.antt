-- A request and the list of an interrogation, each a component by itself in lent output (document 01, "Local refusals").
use Rattle.std.specs.Prelude.{ℕ, ◌≡◌, not, List, [], ◌∷◌, ℤ, length, ltb, Result}
use Rattle.laws.specs.Tests.{first, test}
use Rattle.laws.specs.Over.{Puts}
use Rattle.refusals.specs.Refusal.{output_least}
use Rattle.refusals.specs.Handling.{handling_told, written_count, Made, not_made, made}
use Rattle.refusals.specs.declared.refusal.Refusal.TheVariants.{ShortOutput, BadTable, BadRequest}
use Rattle.refusals.specs.declared.refusal.Refusal.{Refusal}
use Rattle.requests.specs.Sent.{sendable, request_octets}
use Rattle.requests.specs.declared.request.Request.{Request}
use Rattle.lists.specs.Entries.{instances_most, entries_in}
use Rattle.lists.specs.Listed.{list_octets}
use Rattle.lists.specs.declared.entries.Entries.{Entries}

-- "lent output under 707 octets (any component)"; a request that may not be sent is refusal 10
unfoldable pub wrote_request : ℤ → ℕ → Request → ℕ → Made
wrote_request identifier operation r size =
    first
    (test (ltb size output_least) ShortOutput
    ∷ test (not (sendable operation r)) BadRequest
    ∷ [])
    not_made
    (made (request_octets identifier operation r))

-- "at most 8 for each procedure": a record that counts more is refusal 4
unfoldable pub wrote_list : ℤ → Entries → ℕ → Made
wrote_list identifier list size =
    first
    (test (ltb size output_least) ShortOutput
    ∷ test (ltb instances_most list.count) BadTable
    ∷ [])
    not_made
    (made (list_octets identifier (entries_in list)))

-- what is told, how many octets were written, and every octet of the output; all of them or none, where there is no room
pub record MadeIn (m : Made) (xs : List ℕ) (r : Result ℕ Refusal) (ys : List ℕ) : Type 0 where
  pub told : handling_told r ≡ m.told
  pub lent : Puts xs 0 m.octets (written_count r) ys

-- what `write_request` promises
abbrev pub WritesRequest : ℤ → ℕ → Request → List ℕ → Result ℕ Refusal → List ℕ → Type 0
WritesRequest identifier operation r xs w ys = MadeIn (wrote_request identifier operation r (length xs)) xs w ys

-- what `write_list` promises
abbrev pub WritesList : ℤ → Entries → List ℕ → Result ℕ Refusal → List ℕ → Type 0
WritesList identifier list xs w ys = MadeIn (wrote_list identifier list (length xs)) xs w ys
