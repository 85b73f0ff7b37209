-- Each promise of the crate end admits one answer, and one lent output afterwards. Assumes nothing.
use Prim.Native.Nat.{ℕ}
use mathlib.Core.Path.{◌≡◌, ap, ◌∙◌}
use mathlib.Core.Bool.{Bool}
use mathlib.Core.List.{List}
use Rattle.laws.proofs.Picks.{both}
use Rattle.std.specs.Prelude.{Result}
use Rattle.refusals.specs.declared.refusal.Refusal.{Refusal}
use Rattle.refusals.proofs.Handlings.{handling_same, written_same}
use Rattle.profile.specs.declared.profile.Profile.{Profile}
use Rattle.requests.specs.declared.request.Request.{Request}
use Rattle.lists.specs.declared.entry.Entry.{Entry}
use Rattle.end.specs.End.{FreshEnd, EndGood}
use Rattle.end.specs.Sending.{Sends, SendsBy, Activates, Deactivates, Interrogates}
use Rattle.end.specs.Taking.{Moves, MovesBy, Takes, GivesUp}
use Rattle.end.specs.Shown.{Shows, ShowsEntry}
use Rattle.end.specs.declared.end.End.{End}
use Rattle.end.specs.declared.send.Sent.{Sent}
use Rattle.end.specs.declared.take.Moved.{Moved}
use Rattle.end.specs.declared.show.Shown.{Shown}
use Rattle.end.specs.declared.show.EntryShown.{EntryShown}
use Rattle.end.proofs.Tolds.{shown_same}

pub only_fresh_end : {a b : End} → FreshEnd a → FreshEnd b → a ≡ b
only_fresh_end = both

pub only_end_good : (p : Profile) (e : End) {a b : Bool} → EndGood p e a → EndGood p e b → a ≡ b
only_end_good p e = both

abbrev sent_of : End → Result ℕ Refusal → Sent
sent_of end outcome = record { end = end; outcome = outcome }

-- what is answered to a request that is to be sent is its parts
sends_same :
    (done : Sends) (xs : List ℕ) {r q : Sent} {ys zs : List ℕ} → SendsBy done xs r ys → SendsBy done xs q zs →
    (r ≡ q) × (ys ≡ zs)
sends_same done xs {r} {q} a b = (
  ap (λ (e : End). sent_of e r.outcome) (both a.end b.end)
      ∙ ap (sent_of q.end) (written_same r.outcome q.outcome (both a.told b.told) (both a.count b.count)),
  both a.lent b.lent,
)

pub only_activate :
    (access : List ℕ) (request : Request) (e : End) (xs : List ℕ) {r q : Sent} {ys zs : List ℕ} →
    Activates access request e xs r ys → Activates access request e xs q zs →
    (r ≡ q) × (ys ≡ zs)
only_activate access request e xs = sends_same _ xs

pub only_deactivate :
    (access : List ℕ) (request : Request) (e : End) (xs : List ℕ) {r q : Sent} {ys zs : List ℕ} →
    Deactivates access request e xs r ys → Deactivates access request e xs q zs →
    (r ≡ q) × (ys ≡ zs)
only_deactivate access request e xs = sends_same _ xs

pub only_interrogate :
    (access : List ℕ) (procedure : ℕ) (e : End) (xs : List ℕ) {r q : Sent} {ys zs : List ℕ} →
    Interrogates access procedure e xs r ys → Interrogates access procedure e xs q zs →
    (r ≡ q) × (ys ≡ zs)
only_interrogate access procedure e xs = sends_same _ xs

pub only_arrived :
    (access : List ℕ) (e : End) (s : List ℕ) {r q : Result (Unit {0}) Refusal} {next other : End} →
    Takes access e s r next → Takes access e s q other →
    (r ≡ q) × (next ≡ other)
only_arrived access e s {r} {q} a b = (handling_same r q (both a.told b.told), both a.end b.end)

abbrev moved_of : End → Result (Unit {0}) Refusal → Moved
moved_of end outcome = record { end = end; outcome = outcome }

moves_same : (done : Moves) {r q : Moved} → MovesBy done r → MovesBy done q → r ≡ q
moves_same done {r} {q} a b =
    ap (λ (e : End). moved_of e r.outcome) (both a.end b.end)
    ∙ ap (moved_of q.end) (handling_same r.outcome q.outcome (both a.told b.told))

pub only_give_up : (access : List ℕ) (e : End) {r q : Moved} → GivesUp access e r → GivesUp access e q → r ≡ q
only_give_up access e = moves_same _

pub only_shown :
    (access : List ℕ) (e : End) (procedure : ℕ) {r q : Result Shown Refusal} → Shows access e procedure r → Shows access e procedure q →
    r ≡ q
only_shown access e procedure {r} {q} a b = shown_same r q (both a b)

abbrev entry_shown_of : Result Shown Refusal → Entry → EntryShown
entry_shown_of shown entry = record { shown = shown; entry = entry }

pub only_entry :
    (access : List ℕ) (e : End) (procedure i : ℕ) {r q : EntryShown} → ShowsEntry access e procedure i r →
    ShowsEntry access e procedure i q →
    r ≡ q
only_entry access e procedure i {r} {q} a b =
    ap (λ (s : Result Shown Refusal). entry_shown_of s r.entry) (shown_same r.shown q.shown (both a.told b.told))
    ∙ ap (entry_shown_of q.shown) (both a.entry b.entry)
