-- An event that is refused changes nothing (specs/Demand.antt). Assumes nothing.
use Prim.Native.Nat.{ℕ}
use mathlib.Core.Path.{◌≡◌, refl, sym, ap, ◌∙◌}
use mathlib.Core.List.{List}
use mathlib.Core.Option.{Option, none}
use Rattle.laws.proofs.Picks.{pick_ind}
use Rattle.refusals.specs.Refusal.{refuses}
use Rattle.refusals.proofs.Refusals.{refuses_not}
use Rattle.exchange.specs.Arrive.{done}
use Rattle.exchange.specs.declared.table.Table.{Table}
use Rattle.exchange.proofs.Nexts.{refusal_nothing}
use Rattle.end.specs.Sending.{sends}
use Rattle.end.specs.Taking.{takes, gives_up}
use Rattle.end.specs.declared.end.End.{End}
use Rattle.end.proofs.Steps.{takes_ind, gives_ind}
use Rattle.demand.proofs.Stays.{stays_sent, stays_handled, stays_heard, stays_given}
use Rattle.promise.specs.Demand.{Asking, sized, goes_up, sent_up, goes_down, machine, RefusedStays}

module _ (access : List ℕ) where
  takes_refused : (e : End) (s : List ℕ) (n : ℕ) → (takes access e s).told ≡ refuses n → (takes access e s).end ≡ e
  takes_refused e s n =
      takes_ind access e s (λ m. m.told ≡ refuses n → m.end ≡ e) (λ _ _. refl) (λ _ _ _ h. absurd (refuses_not _ _ (sym h)))

  gives_refused : (e : End) (n : ℕ) → (gives_up access e).told ≡ refuses n → (gives_up access e).end ≡ e
  gives_refused e n =
      gives_ind access e (λ m. m.told ≡ refuses n → m.end ≡ e) (λ _ _. refl) (λ _ _. refl) (λ _ _ _ h. absurd (refuses_not _ _ (sym h)))

  sends_refused :
      (size : ℕ) (e : End) (a : Asking) (n : ℕ) → (sends access a.operation a.request e size).told ≡ refuses n →
      (machine access).send size e a ≡ none
  sends_refused size e a n h =
      let d = sends access a.operation a.request e size in
      pick_ind (λ (o : Option (End × List ℕ)). o ≡ none) (sized a.request) {x = sent_up d} {y = none}
      (λ _. ap (goes_up d.end d.octets) h) (λ _. refl)

  done_refused :
      (size : ℕ) (t : Table) (s : List ℕ) (n : ℕ) → (done access t s size).told ≡ refuses n →
      (machine access).handle size t s ≡ (t, none)
  done_refused size t s n h =
      let d = done access t s size in
      ap (λ (o : Option (List ℕ)). (d.table, o)) (ap (goes_down d.octets) h)
      ∙ ap (λ (u : Table). (u, none)) (refusal_nothing access t s size n h).0

  pub refused_stays : RefusedStays access
  refused_stays = record {
    sending = λ w size a n h. stays_sent (machine access) w size a (sends_refused size w.end a n h);
    handling = λ w size s i n h. stays_handled (machine access) w size s i (done_refused size w.table s n h);
    hearing = λ w s i n h. stays_heard (machine access) w s i (takes_refused w.end s n h);
    giving = λ w n h. stays_given (machine access) w (gives_refused w.end n h);
  }
