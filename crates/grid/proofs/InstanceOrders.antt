-- The instances of a table that breaks no rule ascend: "strictly ascending by the first three". Assumes nothing.
use Prim.Native.Nat.{◌<◌, suc, zero, ℕ}
use mathlib.Core.Bool.{true}
use mathlib.Core.List.{List, [], ◌++◌, ◌∷◌}
use mathlib.Core.Logic.{⊎_elim}
use mathlib.Core.Path.{◌≡◌}
use native.Mathlib.Nat.{eq-or-lt_of_le}
use native.Mathlib.Omega.{arith}
use lib.ListN.{get_or, length, length-take}
use lib.Seq.{get_or-take}
use Rattle.laws.specs.Places.{gathered}
use Rattle.laws.proofs.Eaches.{Each, Up, each_append}
use Rattle.laws.proofs.Picks.{pick_ind}
use Rattle.laws.proofs.Walks.{gathered_ind, gathered_more, gathered_none}
use Rattle.profile.specs.Profile.{profile_good, services_most, subscribed_services}
use Rattle.profile.specs.declared.profile.Profile.{Profile}
use Rattle.profile.proofs.Profiles.{good_profile}
use Rattle.profile.proofs.Rising.{rising_later}
use Rattle.instances.specs.Instance.{key_of}
use Rattle.instances.specs.declared.instance.Instance.{Instance}
use Rattle.instances.proofs.Keys.{key_more, key_number, key_procedure, key_some}
use Rattle.grid.specs.Grid.{grid_procedures, row_at}
use Rattle.grid.specs.Row.{Row, active, cell_at, number_of_place, places, service_of_place}
use Rattle.grid.specs.Holds.{instance_in, holds, place_instances, row_instances}
use Rattle.grid.specs.Table.{GridTable, grid_table_good}
use Rattle.grid.proofs.Cells.{active_some}
use Rattle.grid.proofs.RowInstances.{row_of, rows_all, service_small}
use Rattle.grid.proofs.Rows.{active_rules}
use Rattle.grid.proofs.Tables.{table_row}

-- ---- lists that ascend

-- an instance stands before each of some others, and so does each of some
unfoldable pub Ahead : Instance → List Instance → Type 0
Ahead i [] = Unit {0}
Ahead i (k ∷ ks) = (key_of i < key_of k) × Ahead i ks

unfoldable pub AllAhead : List Instance → List Instance → Type 0
AllAhead [] ks = Unit {0}
AllAhead (i ∷ is) ks = Ahead i ks × AllAhead is ks

-- each stands before all that follow
unfoldable pub Ascending : List Instance → Type 0
Ascending [] = Unit {0}
Ascending (i ∷ is) = Ahead i is × Ascending is

ahead_both : (i : Instance) (ks ls : List Instance) → Ahead i ks → Ahead i ls → Ahead i (ks ++ ls)
unfolding Ahead
ahead_both i [] ls a b = b
ahead_both i (k ∷ ks) ls a b = (a.0, ahead_both i ks ls a.1 b)

all_ahead_both : (is js ks : List Instance) → AllAhead is ks → AllAhead js ks → AllAhead (is ++ js) ks
unfolding AllAhead
all_ahead_both [] js ks a b = b
all_ahead_both (i ∷ is) js ks a b = (a.0, all_ahead_both is js ks a.1 b)

ascending_both : (is ks : List Instance) → Ascending is → Ascending ks → AllAhead is ks → Ascending (is ++ ks)
unfolding Ascending AllAhead
ascending_both [] ks a b across = b
ascending_both (i ∷ is) ks a b across =
    (ahead_both i is ks a.0 across.0, ascending_both is ks a.1 b across.1)

-- the same by each key and the one before it
ahead_each : (i : Instance) (ks : List Instance) → Ahead i ks → Each (λ k. key_of i < key_of k) ks
unfolding Ahead
ahead_each i [] a = tt
ahead_each i (k ∷ ks) a = (a.0, ahead_each i ks a.1)

ascending_up : (below : ℕ) (is : List Instance) → Each (λ i. below < key_of i) is → Ascending is → Up key_of below is
unfolding Ascending
ascending_up below [] low asc = tt
ascending_up below (i ∷ is) low asc = (low.0, ascending_up (key_of i) is (ahead_each i is asc.0) asc.1)

-- what each place gives ascends, and stands before what later places give
ascending_gathered :
    (f : ℕ → List Instance) (n : ℕ) → ((j : ℕ) → j < n → Ascending (f j)) →
    ((i j : ℕ) → i < j → j < n → AllAhead (f i) (f j)) →
    Ascending (gathered f n)
unfolding Ascending AllAhead
ascending_gathered f zero each across = rw (gathered_none f) tt
ascending_gathered f (suc n) each across =
    rw (gathered_more f n)
    (ascending_both (gathered f n) (f n)
    (ascending_gathered f n (λ j lt. each j (omega arith)) (λ i j less lt. across i j less (omega arith)))
    (each n (omega arith))
    (gathered_ind (λ is. AllAhead is (f n)) tt (λ is js. all_ahead_both is js (f n)) f n (λ i lt. across i n lt (omega arith))))

-- ---- instances that stand before others

-- those of a procedure stand before those of a later one
module _ (k m : ℕ) (row later : Row) (less : k < m)
    (small : (j : ℕ) → j < places → active row j ≡ true → (cell_at row j).service < 256) where
  place_ahead : (j : ℕ) → j < places → AllAhead (place_instances k row j) (row_instances m later)
  unfolding AllAhead Ahead
  place_ahead j h =
      pick_ind (λ is. AllAhead is (row_instances m later)) (active row j)
      (λ there. (
        gathered_ind (Ahead (instance_in k row j)) tt (ahead_both (instance_in k row j)) (place_instances m later) places (λ l lt.
            pick_ind (Ahead (instance_in k row j)) (active later l) (λ _. (key_procedure _ _ _ _ _ _ (omega arith) (small j h there) less, tt)) (λ _. tt)),
        tt,
      ))
      (λ _. tt)

  row_ahead : AllAhead (row_instances k row) (row_instances m later)
  unfolding AllAhead
  row_ahead =
      gathered_ind (λ is. AllAhead is (row_instances m later)) tt (λ is js. all_ahead_both is js (row_instances m later))
      (place_instances k row) places place_ahead

-- ---- a table that breaks no rule, over any limit

module _ (most : ℕ) (p : Profile) (t : GridTable) (good : grid_table_good most p t ≡ true) (profile : profile_good p ≡ true)
    (long : length p.services ≡ services_most) where
  -- a later service of the profile has a higher code
  later_service : (a b : ℕ) → a < b → b < p.servicecount → get_or p.services a 0 < get_or p.services b 0
  later_service a b less lt =
      let so = good_profile p profile in
      let inside : b < length (subscribed_services p) = omega (arith, so.services_few, length-take p.servicecount p.services) in
      omega (
        arith,
        rising_later 0 (subscribed_services p) a b so.rises less inside,
        get_or-take p.servicecount p.services a 0 (omega arith),
        get_or-take p.servicecount p.services b 0 lt,
      )

  module _ (k : ℕ) (h : k < grid_procedures) where
    abbrev row : Row
    row = row_at t.grid k

    its_small : (j : ℕ) → j < places → active row j ≡ true → (cell_at row j).service < 256
    its_small j lt there =
        let rules = active_rules most p k row (table_row most p t good k h) j lt there in
        omega (arith, service_small p profile long k j (cell_at row j) rules)

    places_ahead : (i j : ℕ) → i < j → j < places → AllAhead (place_instances k row i) (place_instances k row j)
    unfolding AllAhead Ahead
    places_ahead i j less lt =
        let rules = active_rules most p k row (table_row most p t good k h) in
        pick_ind (λ is. AllAhead is (place_instances k row j)) (active row i)
        (λ here. (
          pick_ind (Ahead (instance_in k row i)) (active row j)
              (λ there. (
                ⊎_elim
                    (λ (same : number_of_place i ≡ number_of_place j).
                    let a = rules i (omega arith) here in
                    let b = rules j lt there in
                    let codes = later_service (service_of_place i) (service_of_place j) (omega arith) b.slot in
                    rw same (key_more _ _ _ _ (omega (arith, codes, a.service, b.service))))
                    (λ (lower : number_of_place i < number_of_place j). key_number _ _ _ _ _ (its_small i (omega arith) here) lower)
                    (eq-or-lt_of_le (omega arith)),
                tt,
              ))
              (λ _. tt),
          tt,
        ))
        (λ _. tt)

    place_ascending : (j : ℕ) → Ascending (place_instances k row j)
    unfolding Ascending Ahead
    place_ascending j = pick_ind Ascending (active row j) (λ _. (tt, tt)) (λ _. tt)

    row_ascending : Ascending (row_instances k row)
    row_ascending = ascending_gathered (place_instances k row) places (λ j lt. place_ascending j) places_ahead

  pub instances_ascend : Ascending (holds t.grid)
  instances_ascend =
      rw (rows_all t.grid)
      (ascending_gathered (row_of t.grid) grid_procedures row_ascending
      (λ k m less lt. row_ahead k m (row_at t.grid k) (row_at t.grid m) less (its_small k (omega arith))))

  -- every key is above 0
  keys_some : Each (λ i. 0 < key_of i) (holds t.grid)
  keys_some =
      let Some : List Instance → Type 0 = Each (λ i. 0 < key_of i) in
      let both = each_append (λ i. 0 < key_of i) in
      rw (rows_all t.grid)
      (gathered_ind Some tt both (row_of t.grid) grid_procedures (λ k _.
      gathered_ind Some tt both (place_instances k (row_at t.grid k)) places (λ j _.
      pick_ind Some (active (row_at t.grid k) j)
      (λ there. (key_some _ _ _ (active_some (row_at t.grid k) j there), tt))
      (λ _. tt))))

  -- so they ascend as a run of instances does
  pub instances_up : Up key_of 0 (holds t.grid)
  instances_up = ascending_up 0 (holds t.grid) keys_some instances_ascend
