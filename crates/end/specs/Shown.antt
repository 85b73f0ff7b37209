-- What the subscriber's page reads (document 01, "The customer end", "Local refusals").
use Rattle.std.specs.Prelude.{ℕ, ◌≡◌, Bool, not, List, [], ◌∷◌, map, length, get_or, eqb, Result, Ok, Err}
use Rattle.laws.specs.Pick.{pick}
use Rattle.laws.specs.Tests.{test, first}
use Rattle.laws.specs.Mark.{known, doubt, mark_no}
use Rattle.refusals.specs.Refusal.{refusal_no, Told, refuses, tells}
use Rattle.refusals.specs.declared.refusal.Refusal.{Refusal}
use Rattle.refusals.specs.declared.refusal.Refusal.TheVariants.{BadProfile, BadTable, BadRequest}
use Rattle.codes.specs.Codes.{procedure_code}
use Rattle.profile.specs.Access.{access_read}
use Rattle.profile.specs.declared.profile.Profile.{Profile}
use Rattle.lists.specs.Entry.{no_entry}
use Rattle.lists.specs.Entries.{instances_most}
use Rattle.lists.specs.declared.entry.Entry.{Entry}
use Rattle.instances.specs.Run.{instances_of, listed, entry_for}
use Rattle.end.specs.End.{mark_at, end_good}
use Rattle.end.specs.Listed.{every_of}
use Rattle.end.specs.declared.end.End.{End}
use Rattle.end.specs.declared.show.Shown.{Shown}
use Rattle.end.specs.declared.show.Shown.TheVariants.{Known, Doubt}
use Rattle.end.specs.declared.show.EntryShown.{EntryShown}

-- a procedure on the page, by numbers: its mark and, where it is known, how many instances it has
pub record Seen : Type 0 where
  pub mark : ℕ
  pub values : List ℕ

abbrev pub seen_known : ℕ → Seen
seen_known count = record { mark = mark_no known; values = count ∷ [] }

abbrev pub seen_doubt : Seen
seen_doubt = record { mark = mark_no doubt; values = [] }

abbrev pub shown_no : Result Shown Refusal → Told Seen
shown_no (Err refusal) = refuses (refusal_no refusal)
shown_no (Ok (Known count)) = tells (seen_known count)
shown_no (Ok Doubt) = tells seen_doubt

-- the entries of a procedure in the picture, as an interrogation's result would have them
abbrev pub entries_shown : Profile → End → ℕ → List Entry
entries_shown p e procedure = map (entry_for p.numbers) (listed (every_of procedure) (instances_of e.picture))

abbrev pub is_known : End → ℕ → Bool
is_known e procedure = eqb (mark_at procedure e.marks) (mark_no known)

abbrev pub not_shown : Refusal → Told Seen
not_shown refusal = refuses (refusal_no refusal)

unfoldable pub shown : List ℕ → End → ℕ → Told Seen
shown access e procedure =
    first
    (test (not (access_read access).ok) BadProfile
    ∷ test (not (end_good instances_most (access_read access).profile e)) BadTable
    ∷ test (not (procedure_code procedure)) BadRequest
    ∷ [])
    not_shown
    (tells
    (pick (is_known e procedure) (seen_known (length (entries_shown (access_read access).profile e procedure))) seen_doubt))

-- the entries that are handed out: of a procedure in doubt none
abbrev pub handed_out : Told Seen → List Entry → List Entry
handed_out (refuses number) es = []
handed_out (tells seen) es = pick (eqb seen.mark (mark_no known)) es []

abbrev pub entries_out : List ℕ → End → ℕ → List Entry
entries_out access e procedure =
    handed_out (shown access e procedure) (entries_shown (access_read access).profile e procedure)

-- what `shown` promises
abbrev pub Shows : List ℕ → End → ℕ → Result Shown Refusal → Type 0
Shows access e procedure r = shown_no r ≡ shown access e procedure

-- what `entry` promises: the same, and the entry
pub record ShowsEntry (access : List ℕ) (e : End) (procedure i : ℕ) (r : EntryShown) : Type 0 where
  pub told : shown_no r.shown ≡ shown access e procedure
  pub entry : r.entry ≡ get_or (entries_out access e procedure) i no_entry
