-- What the exchange does with a component that is not refused, over a table in the first layout (document 01, "Replies, in the order
-- checked").
use Rattle.std.specs.Prelude.{ℕ, List, [], eqb, ℤ}
use Rattle.std.proofs.Math.Option.{Option, none, some}
use Rattle.std.specs.Int.Signed.{mag}
use Rattle.laws.specs.Pick.{pick}
use Rattle.codes.specs.Codes.{interrogation}
use Rattle.requests.specs.declared.request.Request.{Request}
use Rattle.profile.specs.declared.profile.Profile.{Profile}
use Rattle.lists.specs.Entries.{instances_most}
use Rattle.lists.specs.declared.entry.Entry.{Entry}
use Rattle.answers.specs.declared.answer.Answer.{Answer}
use Rattle.answers.specs.declared.answer.Answer.TheVariants as answer
use Rattle.exchange.specs.Question.{Question, asks, question, says}
use Rattle.grid.specs.Grid.{row_at}
use Rattle.grid.specs.Judge.{grid_applied, grid_judge}
use Rattle.grid.specs.Row.{grid_entries}
use Rattle.grid.specs.Selection.{cell_places}
use Rattle.grid.specs.Table.{GridTable, grid_with_last, grid_with_row}

-- what the exchange does: the next table, its answer, and the entries of a list
pub record GridStep : Type 0 where
  pub next : GridTable
  pub answer : Answer
  pub entries : List Entry

-- an answer without a list, and the table with it: what is said at once leaves the table as it is
abbrev pub grid_says : GridTable → Answer → GridStep
grid_says t a = record { next = t; answer = a; entries = [] }

-- "Only a result or an error on a counted end moves the last handled identifier."
unfoldable pub grid_moved : Profile → ℤ → GridTable → GridTable
grid_moved p identifier t = pick (eqb p.counted 1) (grid_with_last (mag identifier) t) t

-- a result: with a list for an interrogation, else the table is changed
unfoldable pub grid_result : Profile → GridTable → ℤ → ℕ → Request → GridStep
grid_result p t identifier operation r =
    pick (eqb operation interrogation)
    (record {
      next = grid_moved p identifier t;
      answer = answer.Listing identifier;
      entries = grid_entries p r.procedure (cell_places p r) (row_at t.grid r.procedure);
    })
    (grid_says
    (grid_moved p identifier (grid_with_row r.procedure (grid_applied operation r (cell_places p r) (row_at t.grid r.procedure)) t))
    (answer.Result identifier))

-- an error, and the table stays but for the last handled identifier; or a result
abbrev pub grid_verdict : Profile → GridTable → ℤ → ℕ → Request → Option ℕ → GridStep
grid_verdict p t identifier operation r none = grid_result p t identifier operation r
grid_verdict p t identifier operation r (some error) = grid_says (grid_moved p identifier t) (answer.Error identifier error)

-- what is asked: the request is judged
unfoldable pub grid_asks : Profile → GridTable → ℤ → ℕ → Request → GridStep
grid_asks p t identifier operation r =
    grid_verdict p t identifier operation r (grid_judge instances_most p operation r (cell_places p r) (row_at t.grid r.procedure))

-- the step of a question: what asks for nothing gets its answer, and nothing changes
abbrev pub grid_step_of : Profile → GridTable → Question → GridStep
grid_step_of p t (says a) = grid_says t a
grid_step_of p t (asks identifier operation r) = grid_asks p t identifier operation r

unfoldable pub grid_step : Profile → GridTable → List ℕ → GridStep
grid_step p t s = grid_step_of p t (question p t.last s)
