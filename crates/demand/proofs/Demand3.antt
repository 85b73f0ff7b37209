-- Demand 3 over messages: what holds at every moment of every run, and the second sentence from any such moment on.
use Prim.Native.Nat.{ℕ, ◌<◌}
use mathlib.Core.Path.{◌≡◌, refl, ap, sym, ◌∙◌, subst}
use mathlib.Core.Option.{Option, none, some}
use mathlib.Core.Bool.{Bool, true, false}
use mathlib.Core.Logic.{inl, inr}
use native.Mathlib.Omega.{arith}
use Rattle.laws.specs.Mark.{Mark, known}
use Rattle.demand.specs.Machine.{In, World, Happening, sends_up, handles, comes_down, end_gives_up, moves_elsewhere, jolted, sending, replying}
use Rattle.demand.specs.Machine.{ending, after}
use Rattle.demand.specs.Machine.{start, Trace, still, further, Calm, Quiet}
use Rattle.demand.specs.Rules.{asks_for, says_list, WasHandled, Waiting, idle, awaiting, Topic, Saying, Exchange, Customer, Hit}
use Rattle.demand.specs.Rules.{ExchangeLaws, CustomerLaws, Fresh, messages, numbered, answering}
use Rattle.demand.proofs.Invariant as I
use Rattle.demand.proofs.Serving as G
use Rattle.demand.proofs.Invariant.{Inv}

module _ (S : Topic) (X : Exchange S) (C : Customer S) where
  abbrev pub Holds : World (messages S X C) → Type 0
  Holds w = Inv S X C w.table w.end w.up w.down

module _ (S : Topic) (X : Exchange S) (C : Customer S) (LX : ExchangeLaws S X) (LC : CustomerLaws S C) where
  sent_holds :
      (w : World (messages S X C)) (room : S.Room) (r : S.Req) → Holds S X C w → (s : Option (C.End × ℕ)) → C.send room w.end r ≡ s →
      Holds S X C (sending (messages S X C) w (numbered r s))
  unfolding sending numbered
  sent_holds w room r v none q = v
  sent_holds w room r v (some s) q =
      G.sends S X C LX LC w.table w.end s.0 w.up w.down s.1 r v (LC.sends room w.end r s v.sound q)
      (LC.send_sound room w.end r s v.sound q)

  handled_holds :
      (w : World (messages S X C)) (c : ℕ × S.Req) → In c w.up → Holds S X C w → (b : Bool) →
      (let x = answering {D = ℕ × Saying S} (λ y. (c.0, y)) b w.table (X.serve w.table c.0 c.1) in
      Holds S X C (replying (messages S X C) w x.0 x.1))
  unfolding replying
  handled_holds w c i h true = G.serves S X C LX LC w.table w.end w.up w.down h c i
  handled_holds w c i h false = h

  pub keeps : (w : World (messages S X C)) (v : Happening (messages S X C) w) → Holds S X C w → Holds S X C (after (messages S X C) w v)
  unfolding after replying ending
  keeps w (sends_up room r) h = sent_holds w room r h (C.send room w.end r) refl
  keeps w (handles room c i) h = handled_holds w c i h (X.enough room)
  keeps w (comes_down c i) h = I.hears S X C LX LC w.table w.end w.up w.down h c i
  keeps w end_gives_up h =
      I.shed S X C LX LC w.table w.end (C.give_up w.end) w.up w.down (LC.give_up_lem w.end h.sound)
      (LC.give_up_sound w.end h.sound) h
  keeps w (moves_elsewhere o) h =
      I.passes S X C LX LC w.table (X.elsewhere w.table o) w.end w.up w.down (LX.else_last w.table o)
      (LX.else_held w.table o) (LX.else_good w.table o h.good) h
  keeps w (jolted j) h =
      I.shed S X C LX LC w.table w.end (C.jolt w.end j) w.up w.down (LC.jolts w.end j h.sound)
      (LC.jolt_sound w.end j h.sound) h

  pub runs : {from to : World (messages S X C)} → Trace (messages S X C) from to → Holds S X C from → Holds S X C to
  runs still h = h
  runs (further {w = w} q v) h = keeps w v (runs q h)

  pub starts : (t : X.Table) (e : C.End) → Fresh S X C t e → Holds S X C (start (messages S X C) t e)
  unfolding start
  starts t e f = I.begins S X C LX LC t e f

  -- What was replied stays under way.
  sent_keeps :
      (w : World (messages S X C)) (s : Option (C.End × (ℕ × S.Req))) (c : ℕ × Saying S) → In c w.down →
      In c (sending (messages S X C) w s).down
  unfolding sending
  sent_keeps w none c i = i
  sent_keeps w (some s) c i = i

  handled_keeps :
      (w : World (messages S X C)) (t : X.Table) (x : Option (ℕ × Saying S)) (c : ℕ × Saying S) → In c w.down →
      In c (replying (messages S X C) w t x).down
  unfolding replying
  handled_keeps w t none c i = i
  handled_keeps w t (some a) c i = inr i

  stays_under_way :
      (w : World (messages S X C)) (v : Happening (messages S X C) w) (c : ℕ × Saying S) → In c w.down →
      In c (after (messages S X C) w v).down
  unfolding after replying ending
  stays_under_way w (sends_up room r) c i = sent_keeps w (numbered r (C.send room w.end r)) c i
  stays_under_way w (handles room d j) c i =
      let x = (messages S X C).handle room w.table d in
      handled_keeps w x.0 x.1 c i
  stays_under_way w (comes_down d j) c i = i
  stays_under_way w end_gives_up c i = i
  stays_under_way w (moves_elsewhere o) c i = i
  stays_under_way w (jolted j) c i = i

  stays_under_ways : {from to : World (messages S X C)} → Trace (messages S X C) from to → (c : ℕ × Saying S) → In c from.down → In c to.down
  stays_under_ways still c i = i
  stays_under_ways (further {w = w} q v) c i = stays_under_way w v c (stays_under_ways q c i)

  -- Through a calm stretch the request stays outstanding.
  abbrev pub Matching : ℕ → ℕ × Saying S → Type 0
  Matching n c = c.0 ≡ n

  sent_waits :
      (w : World (messages S X C)) (room : S.Room) (r : S.Req) (x : Waiting S.Req) → Holds S X C w → ¬ (x ≡ idle) →
      C.waiting w.end ≡ x → (s : Option (C.End × ℕ)) → C.send room w.end r ≡ s →
      C.waiting (sending (messages S X C) w (numbered r s)).end ≡ x
  unfolding sending numbered
  sent_waits w room r x h f p none q = p
  sent_waits w room r x h f p (some s) q = absurd (f (sym p ∙ (LC.sends room w.end r s h.sound q).free))

  handled_end :
      (w : World (messages S X C)) (t : X.Table) (x : Option (ℕ × Saying S)) → (replying (messages S X C) w t x).end ≡ w.end
  unfolding replying
  handled_end w t none = refl
  handled_end w t (some a) = refl

  pub calm :
      (w : World (messages S X C)) (v : Happening (messages S X C) w) (n : ℕ) (r : S.Req) (m : Mark) → Holds S X C w →
      Calm (messages S X C) (Matching n) v → C.waiting w.end ≡ awaiting n r m → C.waiting
      (after (messages S X C) w v).end ≡ awaiting n r m
  unfolding after replying ending
  calm w (sends_up room q) n r m h k p =
      sent_waits w room q (awaiting n r m) h (λ z. let y : ◌≡◌ {A = ℕ} 0 1 = cc in omega arith) p (C.send room w.end q) refl
  calm w (handles room d j) n r m h k p =
      let x = (messages S X C).handle room w.table d in
      ap C.waiting (handled_end w x.0 x.1) ∙ p
  calm w (comes_down d j) n r m h k p =
      let g = h.proper d j in
      rw (LC.hear_drops w.end d.0 d.1 g.0 (record { sound = h.sound; other = λ r' m' p'. k (cc); proper = g.2 })) p
  calm w end_gives_up n r m h k p = absurd k
  calm w (moves_elsewhere o) n r m h k p = p
  calm w (jolted j) n r m h k p = absurd k

  pub calms :
      {from to : World (messages S X C)} (q : Trace (messages S X C) from to) (n : ℕ) (r : S.Req) (m : Mark) → Holds S X C from →
      Quiet (messages S X C) (Matching n) q → C.waiting from.end ≡ awaiting n r m → C.waiting to.end ≡ awaiting n r m
  calms still n r m h k p = p
  calms (further {w = w} q v) n r m h k p = calm w v n r m (runs q h) k.1 (calms q n r m h k.0 p)

  -- At any moment: an answer to the outstanding interrogation, allowed by the profile, makes its procedure known.
  pub told_known :
      (w : World (messages S X C)) → Holds S X C w → (n : ℕ) (r : S.Req) (m : Mark) (P : S.Proc) → C.waiting w.end ≡ awaiting n r m →
      S.about r ≡ asks_for P → S.Allows P →
      (b : Saying S) → In (n, b) w.down → WasHandled b → C.mark (C.hear w.end n b) P ≡ known
  told_known w h n r m P p a g b i y =
      let k = (h.pending n r m p).asking P a in
      let z = k.said_allowed g b i y in
      let j : In (n, says_list z.0) w.down = subst (λ x. In (n, x) w.down) z.1 i in
      let o = h.proper (n, b) i in
      let own : o.0 ≡ r = (h.pending n r m p).one (n, o.0) o.1 refl in
      let fit : S.Proper n r (says_list z.0) = subst (λ q. S.Proper n q (says_list z.0)) own
      (subst (S.Proper n o.0) z.1 o.2) in
      let hit : Hit S C w.end n (says_list z.0) r m = record { sound = h.sound; waits = p; proper = fit } in
      rw z.1 (LC.hear_learns w.end n z.0 r m hit P (X.held w.table P) a (k.said_listed z.0 j))

  -- what the exchange has served is on its way, and the end is as it was
  first_down :
      (w : World (messages S X C)) (n : ℕ) (r : S.Req) (i : In (n, r) w.up) (room : S.Room) → X.enough room ≡ true →
      In (n, (X.serve w.table n r).1) (after (messages S X C) w (handles room (n, r) i)).down
  unfolding after replying
  first_down w n r i room y = rw y (inl refl)

  pub first_waits :
      (w : World (messages S X C)) (n : ℕ) (r : S.Req) (i : In (n, r) w.up) (room : S.Room) →
      C.waiting (after (messages S X C) w (handles room (n, r) i)).end ≡ C.waiting w.end
  unfolding after
  first_waits w n r i room =
      let x = (messages S X C).handle room w.table (n, r) in
      ap C.waiting (handled_end w x.0 x.1)

  -- The second sentence: in w₁ the exchange handles the interrogation n, outstanding at the end; nothing that matches comes to the end
  -- until w₂, and it does not give up; there the exchange's reply comes.
  pub first_reply_from :
      (w₁ : World (messages S X C)) → Holds S X C w₁ → (n : ℕ) (r : S.Req) (m : Mark)
      (P : S.Proc) → S.about r ≡ asks_for P → S.Allows P →
      C.waiting w₁.end ≡ awaiting n r m →
      (i : In (n, r) w₁.up) → X.last w₁.table < n → (room : S.Room) → X.enough room ≡ true →
      {w₂ :
      World (messages S X C)} (q : Trace (messages S X C) (after (messages S X C) w₁ (handles room (n, r) i)) w₂) → Quiet (messages S X C)
      (Matching n) q →
      (j :
      In (n, (X.serve w₁.table n r).1) w₂.down) ×
      (C.mark (after (messages S X C) w₂ (comes_down (n, (X.serve w₁.table n r).1) j)).end P ≡ known)
  unfolding after replying ending
  first_reply_from w₁ h₁ n r m P a g p i l room y {w₂} q k =
      let h : Holds S X C (after (messages S X C) w₁ (handles room (n, r) i)) = keeps w₁ (handles room (n, r) i) h₁ in
      let j : In (n, (X.serve w₁.table n r).1) w₂.down = stays_under_ways q (n, (X.serve w₁.table n r).1)
      (first_down w₁ n r i room y) in
      let z = (LX.serves w₁.table n r h₁.good (h₁.fit (n, r) i) l).on_allowed P a g in (
        j,
        told_known w₂ (runs q h) n r m P (calms q n r m h k (first_waits w₁ n r i room ∙ p)) a g (X.serve w₁.table n r).1 j
            (rw z.1 tt),
      )
