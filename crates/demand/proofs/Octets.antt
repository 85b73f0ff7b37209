-- Demand 3 over octets: each run over octets is a run over messages, written out. Assumes nothing.
use Prim.Native.Nat.{ℕ, ◌<◌}
use mathlib.Core.Path.{◌≡◌, refl, ap, sym, ◌∙◌, subst}
use mathlib.Core.Bool.{Bool, true, false}
use mathlib.Core.List.{List, [], ◌∷◌, map}
use mathlib.Core.Option.{Option, none, some}
use mathlib.Core.Logic.{inl, inr}
use native.Mathlib.Omega.{arith}
use Rattle.laws.specs.Mark.{Mark, known}
use Rattle.demand.specs.Machine.{In, Machine, World, Happening, sends_up, handles, comes_down, end_gives_up, moves_elsewhere, jolted, sending}
use Rattle.demand.specs.Machine.{replying, ending, after, start}
use Rattle.demand.specs.Machine.{Trace, still, further, Calm, Quiet}
use Rattle.demand.specs.Rules.{asks_for, awaiting, Topic, Saying, Exchange, Customer, ExchangeLaws, CustomerLaws, Fresh, messages}
use Rattle.demand.specs.Rules.{numbered, answering}
use Rattle.demand.specs.Codec.{Octets, Wire, octets, written, Wired}
use Rattle.demand.proofs.Demand3 as D
use Rattle.demand.proofs.Demand3.{Holds}

in_map : {A B : Type 0} (f : A → B) (l : List A) (b : B) → In b (map f l) → (a : A) × In a l × (b ≡ f a)
in_map f [] b i = absurd i
in_map f (x ∷ l) b (inl q) = (x, inl refl, q)
in_map f (x ∷ l) b (inr i) = let z = in_map f l b i in (z.0, inr z.1, z.2)

map_in : {A B : Type 0} (f : A → B) (l : List A) (a : A) → In a l → In (f a) (map f l)
map_in f [] a i = absurd i
map_in f (x ∷ l) a (inl q) = inl (ap f q)
map_in f (x ∷ l) a (inr i) = inr (map_in f l a i)

-- one run after another
pub joined : (M : Machine) {a b c : World M} → Trace M a b → Trace M b c → Trace M a c
joined M first still = first
joined M first (further q v) = further (joined M first q) v

module _ (S : Topic) (X : Exchange S) (C : Customer S) (W : Wire S X C) where
  -- a moment, with its messages written out
  unfoldable pub spelt : World (messages S X C) → World (octets S X C W)
  spelt w = record {
    table = w.table;
    end = w.end;
    up = map (λ c. W.request c.0 c.1) w.up;
    down = map (λ c. W.reply c.0 c.1) w.down;
  }

module _
    (S : Topic) (X : Exchange S) (C : Customer S) (W : Wire S X C)
    (LX : ExchangeLaws S X) (LC : CustomerLaws S C) (K : Wired S X C W)
  where
    sent_spelt :
        (w : World (messages S X C)) (r : S.Req) (s : Option (C.End × ℕ)) →
        sending (octets S X C W) (spelt S X C W w) (written W.request r s)
        ≡ spelt S X C W (sending (messages S X C) w (numbered r s))
    unfolding sending numbered spelt
    sent_spelt w r none = refl
    sent_spelt w r (some s) = refl

    handled_spelt :
        (w : World (messages S X C)) (n : ℕ) (b : Bool) (x : X.Table × Saying S) →
        (let y = answering {D = Octets} (W.reply n) b w.table x in
        let z = answering {D = ℕ × Saying S} (λ s. (n, s)) b w.table x in
        replying (octets S X C W) (spelt S X C W w) y.0 y.1 ≡ spelt S X C W (replying (messages S X C) w z.0 z.1))
    unfolding replying spelt
    handled_spelt w n true x = refl
    handled_spelt w n false x = refl

    went :
        (w : World (messages S X C)) (t : X.Table) →
        replying (octets S X C W) (spelt S X C W w) t none ≡ spelt S X C W (replying (messages S X C) w t none)
    unfolding replying spelt
    went w t = refl

    -- each event over octets is an event over messages, and a calm one a calm one where a request is outstanding
    abbrev Calms : (w : World (messages S X C)) (y : World (octets S X C W)) → Happening (octets S X C W) y → Happening (messages S X C) w → Type 0
    Calms w y v u =
        (n : ℕ) (r : S.Req) (m : Mark) → C.waiting w.end ≡ awaiting n r m → Calm (octets S X C W) (W.Matching n r) v →
        Calm (messages S X C) (D.Matching S X C LX LC n) u

    abbrev Follows : (w : World (messages S X C)) (y : World (octets S X C W)) → Happening (octets S X C W) y → Type 0
    Follows w y v =
        (u : Happening (messages S X C) w) × (after (octets S X C W) y v ≡ spelt S X C W (after (messages S X C) w u)) × Calms w y v u

    follows : (w : World (messages S X C)) → Holds S X C w → (v : Happening (octets S X C W) (spelt S X C W w)) → Follows w (spelt S X C W w) v
    unfolding after ending spelt
    follows w h (sends_up room r) = (
      sends_up room r,
      ap (sending (octets S X C W) (spelt S X C W w)) (K.sends room w.end r h.sound) ∙ sent_spelt w r (C.send room w.end r),
      λ n q m p k. k,
    )
    follows w h (handles room c i) =
        let z = in_map (λ c. W.request c.0 c.1) w.up c i in (
          handles room z.0 z.1,
          ap (λ x. replying (octets S X C W) (spelt S X C W w) x.0 x.1)
              (ap (W.handle room w.table) z.2 ∙ K.handles room w.table z.0.0 z.0.1 h.good (h.fit z.0 z.1))
              ∙ handled_spelt w z.0.0 (X.enough room) (X.serve w.table z.0.0 z.0.1),
          λ n q m p k. k,
        )
    follows w h (comes_down c i) =
        let z = in_map (λ c. W.reply c.0 c.1) w.down c i in
        let g = h.proper z.0 z.1 in (
          comes_down z.0 z.1,
          ap (ending (octets S X C W) (spelt S X C W w))
              (ap (W.receive w.end) z.2 ∙ K.receives w.end z.0.0 z.0.1 g.0 h.sound g.2),
          λ n r m p k q.
              let own : g.0 ≡ r = (h.pending n r m p).one (z.0.0, g.0) g.1 q in
              let fit = subst (λ x. S.Proper z.0.0 x z.0.1) own g.2 in
              k (subst (λ x. W.Matching x r c) q (subst (W.Matching z.0.0 r) (sym z.2) (K.matches z.0.0 r z.0.1 fit))),
        )
    follows w h end_gives_up = (end_gives_up, refl, λ n r m p k. k)
    follows w h (moves_elsewhere o) = (moves_elsewhere o, went w (X.elsewhere w.table o), λ n r m p k. k)
    follows w h (jolted j) = (jolted j, refl, λ n r m p k. k)

    follows_at :
        (w : World (messages S X C)) → Holds S X C w → (y : World (octets S X C W)) → y ≡ spelt S X C W w →
        (v : Happening (octets S X C W) y) → Follows w y v
    follows_at w h y q = subst (λ x. (v : Happening (octets S X C W) x) → Follows w x v) (sym q) (follows w h)

    -- so each run is
    abbrev Traced : (w : World (messages S X C)) {from to : World (octets S X C W)} → Trace (octets S X C W) from to → Type 0
    Traced w {from} {to} q =
        (x : World (messages S X C)) × (p : Trace (messages S X C) w x) × (to ≡ spelt S X C W x) ×
        ((n : ℕ) (r : S.Req) (m : Mark) → C.waiting w.end ≡ awaiting n r m → Quiet (octets S X C W) (W.Matching n r) q →
        Quiet (messages S X C) (D.Matching S X C LX LC n) p)

    traced : (w : World (messages S X C)) → Holds S X C w → {to : World (octets S X C W)} (q : Trace (octets S X C W) (spelt S X C W w) to) → Traced w q
    traced w h still = (w, still, refl, λ n r m p k. k)
    traced w h (further {w = y} q v) =
        let z = traced w h q in
        let u = follows_at z.0 (D.runs S X C LX LC z.1 h) y z.2 v in (
          after (messages S X C) z.0 u.0,
          further z.1 u.0,
          u.1,
          λ n r m p k.
              let before = z.3 n r m p k.0 in
              (before, u.2 n r m (D.calms S X C LX LC z.1 n r m h before p) k.1),
        )

    traced_at :
        (w : World (messages S X C)) → Holds S X C w → (from : World (octets S X C W)) → from ≡ spelt S X C W w →
        {to : World (octets S X C W)} (q : Trace (octets S X C W) from to) → Traced w q
    traced_at w h from e {to} = subst (λ x. (q : Trace (octets S X C W) x to) → Traced w q) (sym e) (λ q. traced w h q)

    start_spelt : (t : X.Table) (e : C.End) → start (octets S X C W) t e ≡ spelt S X C W (start (messages S X C) t e)
    unfolding start spelt
    start_spelt t e = refl

    -- what holds of both records at every moment of a run over messages holds of them at every moment of a run over octets
    pub at_every :
        (P : X.Table → C.End → Type 0) →
        ((w : World (messages S X C)) → Holds S X C w → P w.table w.end) →
        (t : X.Table) (e : C.End) → Fresh S X C t e → {w : World (octets S X C W)} →
        Trace (octets S X C W) (start (octets S X C W) t e) w → P w.table w.end
    unfolding spelt
    at_every P so t e f {w} q =
        let h = D.starts S X C LX LC t e f in
        let z = traced_at (start (messages S X C) t e) h (start (octets S X C W) t e) (start_spelt t e) q in
        subst (λ x. P x.table x.end) (sym z.2) (so z.0 (D.runs S X C LX LC z.1 h))

    -- the first sentence of demand 3
    pub known_equals :
        (t : X.Table) (e : C.End) → Fresh S X C t e → {w : World (octets S X C W)} →
        Trace (octets S X C W) (start (octets S X C W) t e) w →
        (P : S.Proc) → C.mark w.end P ≡ known → C.pic w.end P ≡ X.held w.table P
    known_equals t e f q P =
        at_every (λ u d. C.mark d P ≡ known → C.pic d P ≡ X.held u P) (λ w h k. (h.right P k).0) t e f q

    -- and the end and the table break no rule
    pub sound_always :
        (t : X.Table) (e : C.End) → Fresh S X C t e → {w : World (octets S X C W)} →
        Trace (octets S X C W) (start (octets S X C W) t e) w → C.Sound w.end × X.Good w.table
    sound_always t e f q = at_every (λ u d. C.Sound d × X.Good u) (λ w h. (h.sound, h.good)) t e f q

    -- the second sentence, from a moment w₁ at which the exchange handles the interrogation n and replies with a
    abbrev pub Second : World (octets S X C W) → Type 0
    Second w₁ =
        (n : ℕ) (r : S.Req) (m : Mark) (P : S.Proc) → S.about r ≡ asks_for P → S.Allows P → C.waiting w₁.end ≡ awaiting n r m →
        (i : In (W.request n r) w₁.up) → X.last w₁.table < n → (room : S.Room) → X.enough room ≡ true →
        (w₂ : World (octets S X C W)) (q : Trace (octets S X C W) (after (octets S X C W) w₁ (handles room (W.request n r) i)) w₂) →
        Quiet (octets S X C W) (W.Matching n r) q →
        (a : Octets) → (W.handle room w₁.table (W.request n r)).1 ≡ some a →
        (j : In a w₂.down) × (C.mark (after (octets S X C W) w₂ (comes_down a j)).end P ≡ known)

    handled_says :
        (t : X.Table) (n : ℕ) (b : Bool) (x : X.Table × Saying S) (a : Octets) → b ≡ true →
        (answering (W.reply n) b t x).1 ≡ some a → a ≡ W.reply n x.1
    handled_says t n true x a e h = cc
    handled_says t n false x a e h = let z : ◌≡◌ {A = ℕ} 0 1 = cc in absurd (omega arith)

    second : (x : World (messages S X C)) → Holds S X C x → Second (spelt S X C W x)
    unfolding spelt after ending
    second x h n r m P ab al p i l room y w₂ q k a is =
        let c = (h.pending n r m p).mine in
        let b : Saying S = (X.serve x.table n r).1 in
        let e = K.handles room x.table n r h.good (h.fit (n, r) c) in
        let h₁ : Holds S X C (after (messages S X C) x (handles room (n, r) c)) = D.keeps S X C LX LC x (handles room (n, r) c) h in
        let z = traced_at (after (messages S X C) x (handles room (n, r) c)) h₁
        (after (octets S X C W) (spelt S X C W x) (handles room (W.request n r) i))
        (ap (λ s. replying (octets S X C W) (spelt S X C W x) s.0 s.1) e
        ∙ handled_spelt x n (X.enough room) (X.serve x.table n r)) q in
        let f = D.first_reply_from S X C LX LC x h n r m P ab al p c l room y z.1
        (z.3 n r m (D.first_waits S X C LX LC x n r c room ∙ p) k) in
        let g : a ≡ W.reply n b = handled_says x.table n (X.enough room) (X.serve x.table n r) a y (sym (ap (λ s. s.1) e) ∙ is) in
        let h₂ = D.runs S X C LX LC z.1 h₁ in
        let o = h₂.proper (n, b) f.0 in
        rw (z.2, g) (
          map_in (λ c. W.reply c.0 c.1) z.0.down (n, b) f.0,
          rw (K.receives z.0.end n b o.0 h₂.sound o.2) f.1,
        )

    pub first_reply_known :
        (t : X.Table) (e : C.End) → Fresh S X C t e → {w₁ : World (octets S X C W)} →
        Trace (octets S X C W) (start (octets S X C W) t e) w₁ → Second w₁
    first_reply_known t e f q =
        let h = D.starts S X C LX LC t e f in
        let z = traced_at (start (messages S X C) t e) h (start (octets S X C W) t e) (start_spelt t e) q in
        subst Second (sym z.2) (second z.0 (D.runs S X C LX LC z.1 h))
