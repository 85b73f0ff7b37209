-- What arrives at the end, and giving up (document 01, "The customer end", "Local refusals").
use Rattle.std.specs.Prelude.{ℕ, ◌≡◌, not, List, [], ◌∷◌, pos, length, ltb, eqb, Result}
use Rattle.std.proofs.Math.Option.{Option, none, some}
use Rattle.laws.specs.Pick.{pick}
use Rattle.laws.specs.Got.{Got, got, wrong}
use Rattle.laws.specs.Tests.{test, first}
use Rattle.laws.specs.Mark.{known, doubt, mark_no}
use Rattle.refusals.specs.Refusal.{refusal_no, Told, refuses, tells, component_most}
use Rattle.refusals.specs.Handling.{handling_told}
use Rattle.refusals.specs.declared.refusal.Refusal.{Refusal}
use Rattle.refusals.specs.declared.refusal.Refusal.TheVariants.{LongComponent, BadProfile, BadTable}
use Rattle.profile.specs.Access.{access_read}
use Rattle.profile.specs.declared.profile.Profile.{Profile}
use Rattle.lists.specs.Entries.{instances_most, entries_from}
use Rattle.lists.specs.declared.entry.Entry.{Entry}
use Rattle.answers.specs.Reply.{reply}
use Rattle.answers.specs.declared.reply.Reply.{Reply}
use Rattle.answers.specs.declared.reply.Reply.TheVariants.{Dropped, Rejected, Failed, Done, Listed, Wrong}
use Rattle.instances.specs.Run.{instances_of, packed}
use Rattle.rules.specs.Judge.{judge, applied}
use Rattle.end.specs.End.{closed, end_good}
use Rattle.end.specs.Listed.{instances_listed, list_good, replaced}
use Rattle.end.specs.declared.end.End.{End}
use Rattle.end.specs.declared.take.Moved.{Moved}

-- "reject gives doubt", and so does whatever else is of the wrong shape or cannot be: the instances stay as they were
abbrev pub doubted : End → End
doubted e = closed (mark_no doubt) e.picture e

-- "error restores the mark from before sending"
abbrev pub restored : End → End
restored e = closed e.before e.picture e

-- "result of 7 or 8 applies the request by the rules above, and the mark from before (where those rules give an error on the picture: no
-- change, and doubt)"
abbrev pub applied_by : Profile → End → Option ℕ → End
applied_by p e none = closed e.before (applied p e.operation e.request e.picture) e
applied_by p e (some error) = doubted e

-- "a good list replaces the picture and makes it known"
unfoldable pub learned : Profile → End → List Entry → End
learned p e es =
    pick (list_good instances_most p e.request.procedure (instances_listed p es))
    (closed (mark_no known) (packed (replaced e.request.procedure (instances_listed p es) (instances_of e.picture))) e)
    (doubted e)

abbrev pub learned_by : Profile → End → Got (List Entry) → End
learned_by p e (got es next) = learned p e es
learned_by p e wrong = doubted e

-- what a reply for the outstanding identifier does; "Anything else that arrives is dropped."
abbrev pub took_by : Profile → End → List ℕ → Reply → End
took_by p e s Dropped = e
took_by p e s Rejected = doubted e
took_by p e s (Failed value) = restored e
took_by p e s Done = applied_by p e (judge instances_most p e.operation e.request (instances_of e.picture))
took_by p e s (Listed at end) = learned_by p e (entries_from instances_most s at end)
took_by p e s Wrong = doubted e

unfoldable pub took : Profile → End → List ℕ → End
took p e s = pick (eqb e.outstanding 1) (took_by p e s (reply (pos e.used) e.operation s)) e

-- "So does giving up, with doubt; with none outstanding it changes nothing."
unfoldable pub gave_up : End → End
gave_up e = pick (eqb e.outstanding 1) (doubted e) e

-- ---- with the refusals

-- the next end, and what is told
pub record Moves : Type 0 where
  pub end : End
  pub told : Told (Unit {0})

abbrev pub moved : End → Moves
moved e = record { end = e; told = tells tt }

-- "A local refusal hands the .. picture back unchanged"
abbrev pub not_moved : End → Refusal → Moves
not_moved e refusal = record { end = e; told = refuses (refusal_no refusal) }

unfoldable pub takes : List ℕ → End → List ℕ → Moves
takes access e s =
    first
    (test (ltb component_most (length s)) LongComponent
    ∷ test (not (access_read access).ok) BadProfile
    ∷ test (not (end_good instances_most (access_read access).profile e)) BadTable
    ∷ [])
    (not_moved e)
    (moved (took (access_read access).profile e s))

unfoldable pub gives_up : List ℕ → End → Moves
gives_up access e =
    first
    (test (not (access_read access).ok) BadProfile
    ∷ test (not (end_good instances_most (access_read access).profile e)) BadTable
    ∷ [])
    (not_moved e)
    (moved (gave_up e))

-- the next end, and the refusal
pub record MovesBy (done : Moves) (r : Moved) : Type 0 where
  pub end : r.end ≡ done.end
  pub told : handling_told r.outcome ≡ done.told

-- what `arrived` promises: what is told, and that the next end, no more and no less, stands where the end stood
abbrev pub Takes : List ℕ → End → List ℕ → Result (Unit {0}) Refusal → End → Type 0
Takes access e s r next = MovesBy (takes access e s) (record { end = next; outcome = r })

-- what `give_up` promises
abbrev pub GivesUp : List ℕ → End → Moved → Type 0
GivesUp access e r = MovesBy (gives_up access e) r
