-- What arrives is answered alike by a grid and a run that hold the same, and they hold the same afterwards: for one component and for any
-- sequence of them (document 02, R-10). Assumes nothing.
use Prim.Native.Nat.{◌≤◌, ℕ}
use mathlib.Core.Bool.{false, false≢true, true}
use mathlib.Core.List.{List, [], ◌∷◌}
use mathlib.Core.Logic.{inl, ⊎_elim}
use mathlib.Core.Path.{◌∙◌, ◌≡◌, ap, refl, sym}
use lib.Dec.{ltb}
use lib.ListN.{length}
use borrow.Author.Tests.{ltb-false, ltb-true}
use Rattle.laws.proofs.Picks.{by_bool}
use Rattle.refusals.specs.Refusal.{component_most, output_least, tells}
use Rattle.refusals.specs.declared.refusal.Refusal.{Refusal}
use Rattle.refusals.specs.declared.refusal.Refusal.TheVariants.{BadProfile, BadTable, LongComponent, ShortOutput}
use Rattle.profile.specs.Access.{access_read}
use Rattle.profile.specs.declared.profile.Profile.{Profile}
use Rattle.lists.specs.Entries.{instances_most}
use Rattle.answers.specs.Answer.{answer_octets, answered_by}
use Rattle.exchange.specs.Arrive.{Done, answered, done, refused}
use Rattle.exchange.specs.Step.{step}
use Rattle.exchange.specs.Table.{table_good}
use Rattle.exchange.specs.declared.table.Table.{Table}
use Rattle.exchange.proofs.Arrivals as run
use Rattle.exchange.proofs.Nexts.{next_good}
use Rattle.grid.specs.Arrive.{GridDone, grid_done, grid_refused}
use Rattle.grid.specs.Equal.{BothBreak, Component, DoneSame, HoldSame, SameTable, grid_after, grid_replies, run_after, run_replies}
use Rattle.grid.specs.Step.{grid_step}
use Rattle.grid.specs.Table.{GridTable}
use Rattle.grid.proofs.Arrivals.{done_answers, done_long, done_profile, done_short, done_table}
use Rattle.grid.proofs.Nexts.{step_good, step_shaped}
use Rattle.grid.proofs.ProfilePlaces.{access_whole}
use Rattle.grid.proofs.SameSteps.{steps_same}

-- ---- one component

module _ (access : List ℕ) (g : GridTable) (t : Table) (s : List ℕ) (size : ℕ) where
  abbrev p : Profile
  p = (access_read access).profile

  -- both refuse alike, or the tables decide
  data Course : Type 0 where
    refuse : (refusal : Refusal) → grid_done access g s size ≡ grid_refused g refusal → done access t s size ≡ refused t refusal → Course
    heed : output_least ≤ size → length s ≤ component_most → (access_read access).ok ≡ true → Course

  course : Course
  course =
      by_bool Course (ltb size output_least)
      (λ e.
      let short = ltb-true size output_least e in
      refuse ShortOutput (done_short access g s size short) (run.done_short access t s size short))
      (λ e.
      let room = ltb-false size output_least e in
      by_bool Course (ltb component_most (length s))
      (λ f.
      let long = ltb-true component_most (length s) f in
      refuse LongComponent (done_long access g s size room long) (run.done_long access t s size room long))
      (λ f.
      let fair = ltb-false component_most (length s) f in
      by_bool Course (access_read access).ok (heed room fair) (λ bad.
      refuse BadProfile (done_profile access g s size room fair bad) (run.done_profile access t s size room fair bad))))

  -- a refusal of both hands both tables back
  both_refuse :
      SameTable p g t → (refusal : Refusal) → grid_done access g s size ≡ grid_refused g refusal → done access t s size ≡ refused t refusal →
      DoneSame p (grid_done access g s size) (done access t s size)
  both_refuse so refusal a b = rw (a, b) (record { told = refl; octets = refl; tables = so })

  module _ (room : output_least ≤ size) (fair : length s ≤ component_most) (ok : (access_read access).ok ≡ true) (so : HoldSame p g t) where
    is : done access t s size ≡ answered (step p t s)
    is = run.done_answers access t s size room fair ok so.run_good_lem

    right : table_good instances_most p (step p t s).next ≡ true
    right =
        ap (λ (d : Done). table_good instances_most p d.table) (sym is)
        ∙ next_good access t s size (answered_by (step p t s).answer) (ap (λ (d : Done). d.told) is)

    both_answer : DoneSame p (grid_done access g s size) (done access t s size)
    both_answer =
        let whole = access_whole access ok in
        let same = steps_same p whole g t so s in
        rw (done_answers access g s size room fair ok so.grid_good_lem, is)
        (record {
          told = ap (λ a. tells (answered_by a)) same.answer;
          octets =
              ap (λ a. answer_octets a (grid_step p g s).entries) same.answer
              ∙ ap (answer_octets (step p t s).answer) same.entries;
          tables = inl (record {
            shaped = step_shaped p g s so.shaped;
            grid_good_lem = step_good p g s whole.good whole.services so.shaped so.grid_good_lem;
            run_good_lem = right;
            last = same.last;
            held = same.held;
          });
        })

  by_course : SameTable p g t → Course → DoneSame p (grid_done access g s size) (done access t s size)
  by_course so (refuse refusal a b) = both_refuse so refusal a b
  by_course so (heed room fair ok) =
      ⊎_elim (both_answer room fair ok)
      (λ (broken : BothBreak p g t).
      both_refuse so BadTable (done_table access g s size room fair ok broken.grid_bad)
      (run.done_table access t s size room fair ok broken.run_bad))
      so

  -- the same reply or refusal, the same octets, and the same table
  pub done_same : SameTable p g t → DoneSame p (grid_done access g s size) (done access t s size)
  done_same so = by_course so course

  -- where the profile breaks a rule any two tables are refused alike, and handed back
  pub record Unheeded : Type 0 where
    pub told : (grid_done access g s size).told ≡ (done access t s size).told
    pub octets : (grid_done access g s size).octets ≡ (done access t s size).octets
    pub grid : (grid_done access g s size).table ≡ g
    pub table : (done access t s size).table ≡ t

  unheeded : (access_read access).ok ≡ false → Course → Unheeded
  unheeded bad (refuse refusal a b) = record {
    told = rw (a, b);
    octets = rw (a, b);
    grid = ap (λ (d : GridDone). d.table) a;
    table = ap (λ (d : Done). d.table) b;
  }
  unheeded bad (heed room fair ok) = absurd (false≢true (sym bad ∙ ok))

  pub profile_refused : (access_read access).ok ≡ false → Unheeded
  profile_refused bad = unheeded bad course

-- ---- any sequence

-- from tables that are the same every sequence of components gets the same replies, octet for octet, and leaves the same table
pub sequence_same :
    (access : List ℕ) (cs : List Component) (g : GridTable) (t : Table) → SameTable (access_read access).profile g t →
    (grid_replies access g cs ≡ run_replies access t cs) × SameTable (access_read access).profile (grid_after access g cs)
    (run_after access t cs)
unfolding grid_replies run_replies grid_after run_after
sequence_same access [] g t so = (refl, so)
sequence_same access (c ∷ cs) g t so =
    let one = done_same access g t c.octets c.size so in
    let rest = sequence_same access cs (grid_done access g c.octets c.size).table (done access t c.octets c.size).table
    one.tables in
    (rw (one.told, one.octets, rest.0), rest.1)
