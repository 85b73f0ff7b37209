-- Each promise of the customer end at the border admits one answer, and one lent output afterwards. Assumes nothing.
use Prim.Native.Nat.{ℕ}
use mathlib.Core.Path.{◌≡◌, ap, ◌∙◌}
use mathlib.Core.List.{List}
use Rattle.laws.proofs.Picks.{both}
use Rattle.requests.specs.declared.request.Request.{Request}
use Rattle.lists.specs.declared.entry.Entry.{Entry}
use Rattle.end.specs.End.{FreshEnd}
use Rattle.end.specs.Sending.{Sends}
use Rattle.end.specs.Taking.{Moves}
use Rattle.end.specs.declared.end.End.{End}
use Rattle.sconcetoad.specs.Desk.{SentTo, ActivatedBy, DeactivatedBy, InterrogatedBy, MovedTo, TakenBy, GivenUpBy, PageBy, PageEntryBy}
use Rattle.sconcetoad.specs.declared.desk.Sending.{Sending}
use Rattle.sconcetoad.specs.declared.desk.Moving.{Moving}
use Rattle.sconcetoad.specs.declared.desk.Page.{Page}
use Rattle.sconcetoad.specs.declared.desk.PageEntry.{PageEntry}

pub only_sconcetoad_fresh_end : {a b : End} → FreshEnd a → FreshEnd b → a ≡ b
only_sconcetoad_fresh_end = both

abbrev sending_of : ℕ → ℕ → End → Sending
sending_of refusal count end = record { refusal = refusal; count = count; end = end }

-- what is answered to a request that is to be sent is its parts
sent_same :
    (done : Sends) (xs : List ℕ) {r q : Sending} {ys zs : List ℕ} → SentTo done xs r ys → SentTo done xs q zs →
    (r ≡ q) × (ys ≡ zs)
sent_same done xs {r} {q} a b = (
  ap (λ (n : ℕ). sending_of n r.count r.end) (both a.refusal b.refusal)
      ∙ ap (λ (n : ℕ). sending_of q.refusal n r.end) (both a.count b.count)
      ∙ ap (sending_of q.refusal q.count) (both a.end b.end),
  both a.lent b.lent,
)

pub only_sconcetoad_activate :
    (access : List ℕ) (request : Request) (e : End) (xs : List ℕ) {r q : Sending} {ys zs : List ℕ} →
    ActivatedBy access request e xs r ys → ActivatedBy access request e xs q zs →
    (r ≡ q) × (ys ≡ zs)
only_sconcetoad_activate access request e xs = sent_same _ xs

pub only_sconcetoad_deactivate :
    (access : List ℕ) (request : Request) (e : End) (xs : List ℕ) {r q : Sending} {ys zs : List ℕ} →
    DeactivatedBy access request e xs r ys → DeactivatedBy access request e xs q zs →
    (r ≡ q) × (ys ≡ zs)
only_sconcetoad_deactivate access request e xs = sent_same _ xs

pub only_sconcetoad_interrogate :
    (access : List ℕ) (procedure : ℕ) (e : End) (xs : List ℕ) {r q : Sending} {ys zs : List ℕ} →
    InterrogatedBy access procedure e xs r ys → InterrogatedBy access procedure e xs q zs →
    (r ≡ q) × (ys ≡ zs)
only_sconcetoad_interrogate access procedure e xs = sent_same _ xs

pub only_sconcetoad_arrived :
    (access : List ℕ) (e : End) (s : List ℕ) {r q : ℕ} {next other : End} →
    TakenBy access e s r next → TakenBy access e s q other →
    (r ≡ q) × (next ≡ other)
only_sconcetoad_arrived access e s a b = (both a.refusal b.refusal, both a.end b.end)

abbrev moving_of : ℕ → End → Moving
moving_of refusal end = record { refusal = refusal; end = end }

moved_same : (done : Moves) {r q : Moving} → MovedTo done r → MovedTo done q → r ≡ q
moved_same done {r} {q} a b =
    ap (λ (n : ℕ). moving_of n r.end) (both a.refusal b.refusal)
    ∙ ap (moving_of q.refusal) (both a.end b.end)

pub only_sconcetoad_give_up :
    (access : List ℕ) (e : End) {r q : Moving} → GivenUpBy access e r → GivenUpBy access e q → r ≡ q
only_sconcetoad_give_up access e = moved_same _

pub only_sconcetoad_shown :
    (access : List ℕ) (e : End) (procedure : ℕ) {r q : Page} → PageBy access e procedure r → PageBy access e procedure q →
    r ≡ q
only_sconcetoad_shown access e procedure = both

abbrev page_entry_of : Page → Entry → PageEntry
page_entry_of page entry = record { page = page; entry = entry }

pub only_sconcetoad_entry :
    (access : List ℕ) (e : End) (procedure i : ℕ) {r q : PageEntry} → PageEntryBy access e procedure i r →
    PageEntryBy access e procedure i q →
    r ≡ q
only_sconcetoad_entry access e procedure i {r} {q} a b =
    ap (λ (p : Page). page_entry_of p r.entry) (both a.page b.page)
    ∙ ap (page_entry_of q.page) (both a.entry b.entry)
