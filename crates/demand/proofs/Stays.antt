-- What an event leaves: the end that has heard something; and the moment as it was, where it moves neither record and sends nothing.
-- Assumes nothing.
use mathlib.Core.Path.{◌≡◌, refl, ap, ◌∙◌}
use mathlib.Core.Option.{Option, none}
use Rattle.demand.specs.Machine.{In, Machine, World, sends_up, handles, comes_down, end_gives_up, sending, replying, ending, after}

module _ (M : Machine) (w : World M) where
  none_sent : sending M w none ≡ w
  unfolding sending
  none_sent = refl

  none_replied : replying M w w.table none ≡ w
  unfolding replying
  none_replied = refl

  same_end : ending M w w.end ≡ w
  unfolding ending
  same_end = refl

  pub stays_sent : (room : M.Room) (r : M.Req) → M.send room w.end r ≡ none → after M w (sends_up room r) ≡ w
  unfolding after
  stays_sent room r h = ap (sending M w) h ∙ none_sent

  pub stays_handled :
      (room : M.Room) (c : M.Up) (i : In c w.up) → M.handle room w.table c ≡ (w.table, none) →
      after M w (handles room c i) ≡ w
  unfolding after
  stays_handled room c i h = ap (λ (x : M.Table × Option M.Down). replying M w x.0 x.1) h ∙ none_replied

  pub heard_end : (c : M.Down) (i : In c w.down) → (after M w (comes_down c i)).end ≡ M.receive w.end c
  unfolding after ending
  heard_end c i = refl

  pub stays_heard : (c : M.Down) (i : In c w.down) → M.receive w.end c ≡ w.end → after M w (comes_down c i) ≡ w
  unfolding after
  stays_heard c i h = ap (ending M w) h ∙ same_end

  pub stays_given : M.give_up w.end ≡ w.end → after M w end_gives_up ≡ w
  unfolding after
  stays_given h = ap (ending M w) h ∙ same_end
