-- What a component says to the end whose request is outstanding, as C is told.
use Rattle.std.specs.Prelude.{ℕ, ◌≡◌, List, [], ℤ, pos}
use Rattle.laws.specs.Got.{Got, got, wrong}
use Rattle.lists.specs.Entries.{instances_most, entries_of, entries_from}
use Rattle.lists.specs.declared.entry.Entry.{Entry}
use Rattle.answers.specs.Reply.{reply}
use Rattle.answers.specs.declared.reply.Reply.{Reply}
use Rattle.answers.specs.declared.reply.Reply.TheVariants.{Dropped, Rejected, Failed, Done, Listed, Wrong}
use Rattle.sconcetoad.specs.declared.reply.Replied.{Replied}

-- the kinds: nobody's or late, of the wrong shape, a reject, an error, a result, a list
abbrev pub dropped_kind : ℕ
dropped_kind = 0

abbrev pub wrong_kind : ℕ
wrong_kind = 1

abbrev pub rejected_kind : ℕ
rejected_kind = 2

abbrev pub failed_kind : ℕ
failed_kind = 3

abbrev pub done_kind : ℕ
done_kind = 4

abbrev pub listed_kind : ℕ
listed_kind = 5

-- what stands for a count where there is none: no list has so many entries, and no procedure so many instances
abbrev pub no_count : ℕ
no_count = 255

-- no list, and no empty one stands there
abbrev pub not_listed : ℕ → ℤ → Replied
not_listed kind value = record { kind = kind; value = value; list = record { count = no_count; entries = (entries_of []).entries } }

abbrev pub entries_told : Got (List Entry) → Replied
entries_told (got es next) = record { kind = listed_kind; value = pos 0; list = entries_of es }
entries_told wrong = not_listed wrong_kind (pos 0)

abbrev pub reply_told : List ℕ → Reply → Replied
reply_told s Dropped = not_listed dropped_kind (pos 0)
reply_told s Rejected = not_listed rejected_kind (pos 0)
reply_told s (Failed value) = not_listed failed_kind value
reply_told s Done = not_listed done_kind (pos 0)
reply_told s (Listed at end) = entries_told (entries_from instances_most s at end)
reply_told s Wrong = not_listed wrong_kind (pos 0)

-- what `sconcetoad_reply` promises
abbrev pub RepliedBy : List ℕ → ℤ → ℕ → Replied → Type 0
RepliedBy s identifier operation r = r ≡ reply_told s (reply identifier operation s)
