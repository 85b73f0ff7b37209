-- Each promise of this crate admits one answer, and one lent output afterwards. Assumes nothing.
use Prim.Native.Nat.{ℕ}
use mathlib.Core.Path.{◌≡◌, ap, ◌∙◌}
use mathlib.Core.List.{List}
use lib.IntN.{ℤ}
use Rattle.std.specs.Prelude.{Result}
use Rattle.laws.proofs.Over.{only_puts}
use Rattle.laws.proofs.Picks.{both}
use Rattle.refusals.specs.Handling.{Made}
use Rattle.refusals.specs.declared.refusal.Refusal.{Refusal}
use Rattle.requests.specs.declared.request.Request.{Request}
use Rattle.lists.specs.declared.entries.Entries.{Entries}
use Rattle.sconcetoad.specs.Said.{SaidBy}
use Rattle.sconcetoad.specs.Replied.{RepliedBy}
use Rattle.sconcetoad.specs.Written.{MadeBy, OctetsTold, RequestWrittenBy, ListWrittenBy}
use Rattle.sconcetoad.specs.Arrival.{ArrivedBy}
use Rattle.sconcetoad.specs.declared.said.Said.{Said}
use Rattle.sconcetoad.specs.declared.reply.Replied.{Replied}
use Rattle.sconcetoad.specs.declared.written.Octets.{Octets}
use Rattle.sconcetoad.specs.declared.arrival.Arrival.{Arrival}
use Rattle.sconcetoad.specs.Diversion.{DivertedBy, HandsOn}
use Rattle.sconcetoad.specs.declared.diversion.Diverted.{Diverted}
use Rattle.sconcetoad.specs.declared.diversion.HandedOn.{HandedOn}
use Rattle.sconcetoad.specs.Sheets.{SheetWrittenBy, SheetTakenBy, SheetListedBy}
use Rattle.sconcetoad.specs.declared.night.SheetTaken.{SheetTaken}
use Rattle.calls.specs.declared.diverting.Onward.{Onward}
use Rattle.exchange.specs.Table.{FreshTable}
use Rattle.exchange.specs.declared.table.Table.{Table}

pub only_sconcetoad_said : (s : List ℕ) {a b : Said} → SaidBy s a → SaidBy s b → a ≡ b
only_sconcetoad_said s = both

pub only_sconcetoad_reply :
    (s : List ℕ) (identifier : ℤ) (operation : ℕ) {a b : Replied} → RepliedBy s identifier operation a →
    RepliedBy s identifier operation b →
    a ≡ b
only_sconcetoad_reply s identifier operation = both

abbrev octets_of : ℕ → ℕ → Octets
octets_of refusal count = record { refusal = refusal; count = count }

-- what is told of octets that are written is its parts
octets_same : (r q : Octets) → r.refusal ≡ q.refusal → r.count ≡ q.count → r ≡ q
octets_same r q refusal count = ap (λ (n : ℕ). octets_of n r.count) refusal ∙ ap (octets_of q.refusal) count

pub only_result_as_octets :
    (outcome : Result ℕ Refusal) {a b : Octets} → OctetsTold outcome a → OctetsTold outcome b → a ≡ b
only_result_as_octets outcome = both

made_once :
    (m : Made) (xs : List ℕ) {r q : Octets} {ys zs : List ℕ} → MadeBy m xs r ys → MadeBy m xs q zs → (r ≡ q) × (ys ≡ zs)
made_once m xs {r} {q} a b =
    let lent = only_puts a.lent b.lent in
    (octets_same r q (both a.refusal b.refusal) lent.0, lent.1)

pub only_sconcetoad_put_request :
    (identifier : ℤ) (operation : ℕ) (r : Request) (xs : List ℕ) {a b : Octets} {ys zs : List ℕ} →
    RequestWrittenBy identifier operation r xs a ys → RequestWrittenBy identifier operation r xs b zs →
    (a ≡ b) × (ys ≡ zs)
only_sconcetoad_put_request identifier operation r xs = made_once _ xs

pub only_sconcetoad_put_list :
    (identifier : ℤ) (list : Entries) (xs : List ℕ) {a b : Octets} {ys zs : List ℕ} →
    ListWrittenBy identifier list xs a ys → ListWrittenBy identifier list xs b zs →
    (a ≡ b) × (ys ≡ zs)
only_sconcetoad_put_list identifier list xs = made_once _ xs

pub only_sconcetoad_fresh_table : {a b : Table} → FreshTable a → FreshTable b → a ≡ b
only_sconcetoad_fresh_table = both

abbrev arrival_of : ℕ → ℕ → Table → Arrival
arrival_of refusal count table = record { refusal = refusal; count = count; table = table }

-- an arrival is its parts
arrival_same : (r q : Arrival) → r.refusal ≡ q.refusal → r.count ≡ q.count → r.table ≡ q.table → r ≡ q
arrival_same r q refusal count table =
    ap (λ (n : ℕ). arrival_of n r.count r.table) refusal
    ∙ ap (λ (n : ℕ). arrival_of q.refusal n r.table) count
    ∙ ap (arrival_of q.refusal q.count) table

pub only_sconcetoad_arrive :
    (access : List ℕ) (t : Table) (s xs : List ℕ) {r q : Arrival} {ys zs : List ℕ} → ArrivedBy access t s xs r ys →
    ArrivedBy access t s xs q zs →
    (r ≡ q) × (ys ≡ zs)
only_sconcetoad_arrive access t s xs {r} {q} a b = (
  arrival_same r q (both a.refusal b.refusal) (both a.count b.count) (both a.table b.table),
  both a.lent b.lent,
)

abbrev diverted_of : ℕ → ℕ → ℕ → Onward → Diverted
diverted_of refusal reason notice call = record { refusal = refusal; reason = reason; notice = notice; call = call }

-- what becomes of a call is its parts
diverted_same :
    (r q : Diverted) → r.refusal ≡ q.refusal → r.reason ≡ q.reason → r.notice ≡ q.notice → r.call ≡ q.call → r ≡ q
diverted_same r q refusal reason notice call =
    ap (λ (n : ℕ). diverted_of n r.reason r.notice r.call) refusal
    ∙ ap (λ (n : ℕ). diverted_of q.refusal n r.notice r.call) reason
    ∙ ap (λ (n : ℕ). diverted_of q.refusal q.reason n r.call) notice
    ∙ ap (diverted_of q.refusal q.reason q.notice) call

pub only_sconcetoad_divert :
    (access : List ℕ) (t : Table) (s : List ℕ) {r q : Diverted} → DivertedBy access t s r → DivertedBy access t s q → r ≡ q
only_sconcetoad_divert access t s {r} {q} a b =
    diverted_same r q (both a.refusal b.refusal) (both a.reason b.reason) (both a.notice b.notice)
    (both a.call b.call)

abbrev handed_of : ℕ → ℕ → ℕ → ℕ → HandedOn
handed_of refusal reason digits count = record { refusal = refusal; reason = reason; length = digits; count = count }

-- what is told of an original number is its parts
handed_same :
    (r q : HandedOn) → r.refusal ≡ q.refusal → r.reason ≡ q.reason → r.length ≡ q.length → r.count ≡ q.count → r ≡ q
handed_same r q refusal reason digits count =
    ap (λ (n : ℕ). handed_of n r.reason r.length r.count) refusal
    ∙ ap (λ (n : ℕ). handed_of q.refusal n r.length r.count) reason
    ∙ ap (λ (n : ℕ). handed_of q.refusal q.reason n r.count) digits
    ∙ ap (handed_of q.refusal q.reason q.length) count

pub only_sconcetoad_original :
    (access : List ℕ) (t : Table) (s xs : List ℕ) {r q : HandedOn} {ys zs : List ℕ} → HandsOn access t s xs r ys →
    HandsOn access t s xs q zs →
    (r ≡ q) × (ys ≡ zs)
only_sconcetoad_original access t s xs {r} {q} a b =
    let lent = only_puts a.lent b.lent in
    (handed_same r q (both a.refusal b.refusal) (both a.reason b.reason) (both a.digits b.digits) lent.0, lent.1)

pub only_sconcetoad_write_sheet :
    (access : List ℕ) (t : Table) (xs : List ℕ) {r q : Octets} {ys zs : List ℕ} → SheetWrittenBy access t xs r ys →
    SheetWrittenBy access t xs q zs →
    (r ≡ q) × (ys ≡ zs)
only_sconcetoad_write_sheet access t xs {r} {q} a b = (
  octets_same r q (both a.refusal b.refusal) (both a.count b.count),
  both a.lent b.lent,
)

pub only_sconcetoad_list_sheet :
    (s xs : List ℕ) {r q : Octets} {ys zs : List ℕ} → SheetListedBy s xs r ys → SheetListedBy s xs q zs →
    (r ≡ q) × (ys ≡ zs)
only_sconcetoad_list_sheet s xs {r} {q} a b = (
  octets_same r q (both a.refusal b.refusal) (both a.count b.count),
  both a.lent b.lent,
)

abbrev sheet_taken_of : ℕ → Table → SheetTaken
sheet_taken_of refusal table = record { refusal = refusal; table = table }

pub only_sconcetoad_read_sheet :
    (access s : List ℕ) {r q : SheetTaken} → SheetTakenBy access s r → SheetTakenBy access s q → r ≡ q
only_sconcetoad_read_sheet access s {r} {q} a b =
    ap (λ (n : ℕ). sheet_taken_of n r.table) (both a.refusal b.refusal)
    ∙ ap (sheet_taken_of q.refusal) (both a.table b.table)
