-- An end, an exchange and the path between them, over any step functions (demand 3: "a path that loses, repeats, delays,
-- reorders"). What was once sent stays on its way: to deliver is to take any of it, any number of times, in any order; to lose is never
-- to take it.
use Rattle.std.specs.Prelude.{◌≡◌, List, [], ◌∷◌, ◌⊎◌}
use Rattle.std.proofs.Math.Option.{Option, none, some}

abbrev pub In : {A : Type 0} → A → List A → Type 0
In a [] = ⊥
In a (x ∷ xs) = (a ≡ x) ⊎ In a xs

-- `Up` is what the end sends, `Down` what the exchange replies, `Room` the output that is lent to a step. `Elsewhere` is what else may
-- befall the table, `Jolt` what else may befall the end: a plain machine has none of either.
pub record Machine : Type 1 where
  pub Table : Type 0
  pub End : Type 0
  pub Req : Type 0
  pub Up : Type 0
  pub Down : Type 0
  pub Room : Type 0
  pub Elsewhere : Type 0
  pub Jolt : Type 0
  -- the next table, and what goes down, if anything does
  pub handle : Room → Table → Up → Table × Option Down
  -- the next end and what goes up, if anything does
  pub send : Room → End → Req → Option (End × Up)
  pub receive : End → Down → End
  pub give_up : End → End
  pub elsewhere : Table → Elsewhere → Table
  pub jolt : End → Jolt → End

-- a moment: both records, everything ever sent up and everything ever sent down
pub record World (M : Machine) : Type 0 where
  pub table : M.Table
  pub end : M.End
  pub up : List M.Up
  pub down : List M.Down

pub data Happening (M : Machine) (w : World M) : Type 0 where
  sends_up : M.Room → M.Req → Happening M w
  handles : M.Room → (c : M.Up) → In c w.up → Happening M w
  comes_down : (c : M.Down) → In c w.down → Happening M w
  end_gives_up : Happening M w
  moves_elsewhere : M.Elsewhere → Happening M w
  jolted : M.Jolt → Happening M w

unfoldable pub sending : (M : Machine) → World M → Option (M.End × M.Up) → World M
sending M w none = w
sending M w (some s) = record { table = w.table; end = s.0; up = s.1 ∷ w.up; down = w.down }

unfoldable pub replying : (M : Machine) → World M → M.Table → Option M.Down → World M
replying M w t none = record { table = t; end = w.end; up = w.up; down = w.down }
replying M w t (some a) = record { table = t; end = w.end; up = w.up; down = a ∷ w.down }

unfoldable pub ending : (M : Machine) → World M → M.End → World M
ending M w e = record { table = w.table; end = e; up = w.up; down = w.down }

-- the moment after an event
unfoldable pub after : (M : Machine) (w : World M) → Happening M w → World M
after M w (sends_up room r) = sending M w (M.send room w.end r)
after M w (handles room c i) = replying M w (M.handle room w.table c).0 (M.handle room w.table c).1
after M w (comes_down c i) = ending M w (M.receive w.end c)
after M w end_gives_up = ending M w (M.give_up w.end)
after M w (moves_elsewhere o) = replying M w (M.elsewhere w.table o) none
after M w (jolted j) = ending M w (M.jolt w.end j)

unfoldable pub start : (M : Machine) → M.Table → M.End → World M
start M t e = record { table = t; end = e; up = []; down = [] }

-- a run from one moment to another
pub data Trace (M : Machine) (from : World M) : World M → Type 0 where
  still : Trace M from from
  further : {w : World M} → Trace M from w → (v : Happening M w) → Trace M from (after M w v)

-- an event in which the end hears nothing that matches and neither gives up nor is jolted
abbrev pub Calm : (M : Machine) → (M.Down → Type 0) → {w : World M} → Happening M w → Type 0
Calm M Matching (sends_up room r) = Unit {0}
Calm M Matching (handles room c i) = Unit {0}
Calm M Matching (comes_down c i) = ¬ Matching c
Calm M Matching end_gives_up = ⊥
Calm M Matching (moves_elsewhere o) = Unit {0}
Calm M Matching (jolted j) = ⊥

-- a run of such events
abbrev pub Quiet : (M : Machine) → (M.Down → Type 0) → {from to : World M} → Trace M from to → Type 0
Quiet M Matching still = Unit {0}
Quiet M Matching (further q v) = Quiet M Matching q × Calm M Matching v
