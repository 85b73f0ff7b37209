-- "Each arriving component turns a table into the next table and a reply" (document 01, "Replies", "Local refusals").
use Rattle.std.specs.Prelude.{ℕ, ◌≡◌, not, List, [], ◌∷◌, length, ltb, Result, Ok, Err}
use Rattle.laws.specs.Tests.{test, first}
use Rattle.laws.specs.Over.{over}
use Rattle.refusals.specs.Refusal.{refusal_no, Told, refuses, tells, output_least, component_most}
use Rattle.refusals.specs.declared.refusal.Refusal.{Refusal}
use Rattle.refusals.specs.declared.refusal.Refusal.TheVariants.{ShortOutput, LongComponent, BadProfile, BadTable}
use Rattle.profile.specs.Access.{access_read}
use Rattle.lists.specs.Entries.{instances_most}
use Rattle.answers.specs.Answer.{answer_octets, Answered, answered_by}
use Rattle.exchange.specs.Table.{table_good}
use Rattle.exchange.specs.Step.{Step, step}
use Rattle.exchange.specs.declared.table.Table.{Table}
use Rattle.exchange.specs.declared.arrive.Answered as arrive
use Rattle.exchange.specs.declared.arrive.Arrived.{Arrived}

-- what is told of an arriving component
abbrev pub arriving_told : Result arrive.Answered Refusal → Told Answered
arriving_told (Err refusal) = refuses (refusal_no refusal)
arriving_told (Ok a) = tells (answered_by a.answer)

-- how many octets the reply has; a refusal writes none
abbrev pub arriving_count : Result arrive.Answered Refusal → ℕ
arriving_count (Err _) = 0
arriving_count (Ok a) = a.count

-- what the exchange does with an arriving component
pub record Done : Type 0 where
  pub table : Table
  pub told : Told Answered
  pub octets : List ℕ

-- "A local refusal hands the table .. back unchanged, writes nothing"
abbrev pub refused : Table → Refusal → Done
refused t refusal = record { table = t; told = refuses (refusal_no refusal); octets = [] }

abbrev pub answered : Step → Done
answered x = record {
  table = x.next;
  told = tells (answered_by x.answer);
  octets = answer_octets x.answer x.entries;
}

-- "Lowest number first"
unfoldable pub done : List ℕ → Table → List ℕ → ℕ → Done
done access t s size =
    first
    (test (ltb size output_least) ShortOutput
    ∷ test (ltb component_most (length s)) LongComponent
    ∷ test (not (access_read access).ok) BadProfile
    ∷ test (not (table_good instances_most (access_read access).profile t)) BadTable
    ∷ [])
    (refused t)
    (answered (step (access_read access).profile t s))

-- what `arrive` promises: the next table, the answer or the refusal by its numbers, how many octets the reply has, and every octet
-- of the output
pub record Arrives (access : List ℕ) (t : Table) (s xs : List ℕ) (r : Arrived) (ys : List ℕ) : Type 0 where
  pub table : r.table ≡ (done access t s (length xs)).table
  pub told : arriving_told r.outcome ≡ (done access t s (length xs)).told
  pub count : arriving_count r.outcome ≡ length (done access t s (length xs)).octets
  pub lent : ys ≡ over xs 0 (done access t s (length xs)).octets
