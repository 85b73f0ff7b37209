-- "Each arriving component turns a table into the next table and a reply", over a table in the first layout (document 01, "Replies",
-- "Local refusals").
use Rattle.std.specs.Prelude.{ℕ, not, List, [], ◌∷◌, ltb, length}
use Rattle.laws.specs.Tests.{first, test}
use Rattle.refusals.specs.Refusal.{Told, refusal_no, refuses, tells, output_least, component_most}
use Rattle.refusals.specs.declared.refusal.Refusal.{Refusal}
use Rattle.refusals.specs.declared.refusal.Refusal.TheVariants.{BadProfile, BadTable, LongComponent, ShortOutput}
use Rattle.profile.specs.Access.{access_read}
use Rattle.lists.specs.Entries.{instances_most}
use Rattle.answers.specs.Answer.{Answered, answer_octets, answered_by}
use Rattle.grid.specs.Step.{GridStep, grid_step}
use Rattle.grid.specs.Table.{GridTable, grid_table_good}

-- what the exchange does with an arriving component
pub record GridDone : Type 0 where
  pub table : GridTable
  pub told : Told Answered
  pub octets : List ℕ

-- "A local refusal hands the table .. back unchanged, writes nothing"
abbrev pub grid_refused : GridTable → Refusal → GridDone
grid_refused t refusal = record { table = t; told = refuses (refusal_no refusal); octets = [] }

abbrev pub grid_answered : GridStep → GridDone
grid_answered x = record {
  table = x.next;
  told = tells (answered_by x.answer);
  octets = answer_octets x.answer x.entries;
}

-- "Lowest number first"
unfoldable pub grid_done : List ℕ → GridTable → List ℕ → ℕ → GridDone
grid_done access t s size =
    first
    (test (ltb size output_least) ShortOutput
    ∷ test (ltb component_most (length s)) LongComponent
    ∷ test (not (access_read access).ok) BadProfile
    ∷ test (not (grid_table_good instances_most (access_read access).profile t)) BadTable
    ∷ [])
    (grid_refused t)
    (grid_answered (grid_step (access_read access).profile t s))
