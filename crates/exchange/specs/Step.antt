-- What the exchange does with a component that is not refused (document 01, "Replies, in the order checked").
use Rattle.std.specs.Prelude.{ℕ, List, [], map, ℤ, pos, negsuc, eqb}
use Rattle.std.proofs.Math.Option.{Option, none, some}
use Rattle.laws.specs.Pick.{pick}
use Rattle.codes.specs.Codes.{interrogation}
use Rattle.profile.specs.declared.profile.Profile.{Profile}
use Rattle.requests.specs.declared.request.Request.{Request}
use Rattle.lists.specs.Entries.{instances_most}
use Rattle.lists.specs.declared.entry.Entry.{Entry}
use Rattle.instances.specs.Run.{instances_of, listed, entry_for}
use Rattle.rules.specs.Selection.{selection_of}
use Rattle.rules.specs.Judge.{judge, applied}
use Rattle.answers.specs.declared.answer.Answer.{Answer}
use Rattle.answers.specs.declared.answer.Answer.TheVariants as answer
use Rattle.exchange.specs.Table.{table_of}
use Rattle.exchange.specs.Question.{Question, says, asks, question}
use Rattle.exchange.specs.declared.table.Table.{Table}

-- what the exchange does: the next table, its answer, and the entries of a list
pub record Step : Type 0 where
  pub next : Table
  pub answer : Answer
  pub entries : List Entry

abbrev pub stays : Table → Answer → Step
stays t a = record { next = t; answer = a; entries = [] }

-- "Only a result or an error on a counted end moves the last handled identifier": to the request's own. A negative one is never above
-- the last, so none is handled on a counted end.
unfoldable pub last_after : Profile → ℤ → ℕ → ℕ
last_after p (pos n) last = pick (eqb p.counted 1) n last
last_after p (negsuc n) last = last

-- a result: with a list for an interrogation, else the instances are changed
unfoldable pub result_of : Profile → Table → ℤ → ℕ → Request → Step
result_of p t identifier operation r =
    pick (eqb operation interrogation)
    (record {
      next = table_of (last_after p identifier t.last) t.run;
      answer = answer.Listing identifier;
      entries = map (entry_for p.numbers) (listed (selection_of p r) (instances_of t.run));
    })
    (stays (table_of (last_after p identifier t.last) (applied p operation r t.run)) (answer.Result identifier))

-- an error, and the table stays but for the last handled identifier; or a result
abbrev pub verdict_of : Profile → Table → ℤ → ℕ → Request → Option ℕ → Step
verdict_of p t identifier operation r none = result_of p t identifier operation r
verdict_of p t identifier operation r (some error) =
    stays (table_of (last_after p identifier t.last) t.run) (answer.Error identifier error)

-- a request is judged by the instances of the table, and changes them or not
unfoldable pub handled : Profile → Table → ℤ → ℕ → Request → Step
handled p t identifier operation r =
    verdict_of p t identifier operation r (judge instances_most p operation r (instances_of t.run))

-- what asks for nothing gets its answer, and nothing changes
abbrev pub step_of : Profile → Table → Question → Step
step_of p t (says a) = stays t a
step_of p t (asks identifier operation r) = handled p t identifier operation r

unfoldable pub step : Profile → Table → List ℕ → Step
step p t s = step_of p t (question p t.last s)
