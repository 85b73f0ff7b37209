-- What the exchange writes is, to the end whose request it answers, that answer (document 01, "Replies, in the order checked", "The
-- customer end").
use Rattle.std.specs.Prelude.{ℕ, ◌<◌, ◌≡◌, List, ◌⊎◌, ℤ, pos}
use Rattle.laws.specs.Got.{got}
use Rattle.refusals.specs.Refusal.{tells}
use Rattle.codes.specs.Codes.{activation, deactivation, interrogation}
use Rattle.profile.specs.Access.{access_read}
use Rattle.requests.specs.Sent.{tidy_request}
use Rattle.lists.specs.Entries.{instances_most, tidy_entries, entries_from}
use Rattle.lists.specs.declared.entry.Entry.{Entry}
use Rattle.answers.specs.Answer.{answered_by}
use Rattle.answers.specs.Reply.{reply}
use Rattle.answers.specs.declared.answer.Answer.{Answer}
use Rattle.answers.specs.declared.answer.Answer.TheVariants as answer
use Rattle.answers.specs.declared.answer.Whose.TheVariants as whose
use Rattle.answers.specs.declared.reply.Reply.TheVariants.{Rejected, Failed, Done, Listed}
use Rattle.exchange.specs.Step.{handled, step}
use Rattle.exchange.specs.Arrive.{done}
use Rattle.exchange.specs.declared.table.Table.{Table}
use Rattle.end.specs.declared.end.End.{End}

-- the octets s are a list to the request of this identifier and operation, and its entries, read as the end reads them, are es, with zeros
-- where a record carries no meaning
pub record ListSaid (identifier : ℤ) (operation : ℕ) (s : List ℕ) (es : List Entry) : Type 0 where
  pub at : ℕ
  pub end : ℕ
  pub is : reply identifier operation s ≡ Listed at end
  pub entries : entries_from instances_most s at end ≡ got (tidy_entries es) end

-- The octets s, written for an answer and its entries, say that answer to the end that waits with this identifier and operation: it is
-- for its own identifier, and the end reads it as what it is.
abbrev pub SaysBack : ℤ → ℕ → List ℕ → Answer → List Entry → Type 0
-- "outer tag A2, A3, A4", "silence": a request is never met by silence
SaysBack identifier operation s answer.Silence es = ⊥
-- "identifier NULL": nor by a reject that is nobody's
SaysBack identifier operation s (answer.Reject whose.Null problem) es = ⊥
-- "reject, invoke 0 (duplicate)", "invoke 1", "invoke 2", with the request's own identifier: "reject gives doubt"
SaysBack identifier operation s (answer.Reject (whose.Own own) problem) es =
    (own ≡ identifier) × (reply identifier operation s ≡ Rejected)
-- "error 3" and the like: "error restores the mark from before sending"
SaysBack identifier operation s (answer.Error own value) es =
    (own ≡ identifier) × (reply identifier operation s ≡ Failed (pos value))
-- "result without contents", and to an activation or a deactivation alone: "result of 7 or 8 applies the request"
SaysBack identifier operation s (answer.Result own) es =
    (own ≡ identifier) × ((operation ≡ activation) ⊎ (operation ≡ deactivation)) × (reply identifier operation s ≡ Done)
-- "result with every active selected instance", and to an interrogation alone: "a good list replaces the picture"
SaysBack identifier operation s (answer.Listing own) es =
    (own ≡ identifier) × (operation ≡ interrogation) × ListSaid identifier operation s es

-- the exchange answers the end e, which waits, when the octets s arrive that it sent
pub record AnswersEnd (access : List ℕ) (t : Table) (size : ℕ) (e : End) (s : List ℕ) : Type 0 where
  -- they are not refused
  pub told : (done access t s size).told ≡ tells (answered_by (step (access_read access).profile t s).answer)
  -- the octets that are written say the answer to it
  pub back :
      SaysBack (pos e.used) e.operation (done access t s size).octets
      (step (access_read access).profile t s).answer
      (step (access_read access).profile t s).entries
  -- and where its identifier is above the last handled one, the answer is that to its request, with zeros where that carries no meaning
  pub judged :
      t.last < e.used →
      step (access_read access).profile t s
      ≡ handled (access_read access).profile t (pos e.used) e.operation (tidy_request e.operation e.request)
