-- What the customer end does and shows, as C is told.
use Rattle.std.specs.Prelude.{ℕ, ◌≡◌, List, length, get_or}
use Rattle.laws.specs.Over.{over}
use Rattle.laws.specs.Mark.{doubt, mark_no}
use Rattle.refusals.specs.Refusal.{Told, refuses, tells, refusal_in}
use Rattle.codes.specs.Codes.{activation, deactivation, interrogation}
use Rattle.requests.specs.declared.request.Request.{Request}
use Rattle.lists.specs.Entry.{no_entry}
use Rattle.end.specs.Sending.{interrogation_of, Sends, sends}
use Rattle.end.specs.Taking.{Moves, takes, gives_up}
use Rattle.end.specs.Shown.{Seen, shown, entries_out}
use Rattle.end.specs.declared.end.End.{End}
use Rattle.sconcetoad.specs.Replied.{no_count}
use Rattle.sconcetoad.specs.declared.desk.Sending.{Sending}
use Rattle.sconcetoad.specs.declared.desk.Moving.{Moving}
use Rattle.sconcetoad.specs.declared.desk.Page.{Page}
use Rattle.sconcetoad.specs.declared.desk.PageEntry.{PageEntry}

-- the refusal, how many octets the component has, the next end, and every octet of the output
pub record SentTo (done : Sends) (xs : List ℕ) (r : Sending) (ys : List ℕ) : Type 0 where
  pub refusal : r.refusal ≡ refusal_in done.told
  pub count : r.count ≡ length done.octets
  pub end : r.end ≡ done.end
  pub lent : ys ≡ over xs 0 done.octets

-- what `sconcetoad_activate`, `sconcetoad_deactivate` and `sconcetoad_interrogate` promise
abbrev pub ActivatedBy : List ℕ → Request → End → List ℕ → Sending → List ℕ → Type 0
ActivatedBy access q e xs r ys = SentTo (sends access activation q e (length xs)) xs r ys

abbrev pub DeactivatedBy : List ℕ → Request → End → List ℕ → Sending → List ℕ → Type 0
DeactivatedBy access q e xs r ys = SentTo (sends access deactivation q e (length xs)) xs r ys

abbrev pub InterrogatedBy : List ℕ → ℕ → End → List ℕ → Sending → List ℕ → Type 0
InterrogatedBy access procedure e xs r ys =
    SentTo (sends access interrogation (interrogation_of procedure) e (length xs)) xs r ys

-- the refusal, and the next end
pub record MovedTo (done : Moves) (r : Moving) : Type 0 where
  pub refusal : r.refusal ≡ refusal_in done.told
  pub end : r.end ≡ done.end

-- what `sconcetoad_arrived` promises: the refusal, and the next end where the end stood
abbrev pub TakenBy : List ℕ → End → List ℕ → ℕ → End → Type 0
TakenBy access e s r next = MovedTo (takes access e s) (record { refusal = r; end = next })

-- what `sconcetoad_give_up` promises
abbrev pub GivenUpBy : List ℕ → End → Moving → Type 0
GivenUpBy access e r = MovedTo (gives_up access e) r

-- the refusal, the mark, and the count of a procedure that is known
abbrev pub page_of : Told Seen → Page
page_of (refuses number) = record { refusal = number; mark = mark_no doubt; count = no_count }
page_of (tells seen) = record { refusal = 0; mark = seen.mark; count = get_or seen.values 0 no_count }

-- what `sconcetoad_shown` promises
abbrev pub PageBy : List ℕ → End → ℕ → Page → Type 0
PageBy access e procedure r = r ≡ page_of (shown access e procedure)

-- what `sconcetoad_entry` promises: the same, and the entry
pub record PageEntryBy (access : List ℕ) (e : End) (procedure i : ℕ) (r : PageEntry) : Type 0 where
  pub page : r.page ≡ page_of (shown access e procedure)
  pub entry : r.entry ≡ get_or (entries_out access e procedure) i no_entry
