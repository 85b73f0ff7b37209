-- What holds at every moment between a counted end and its exchange, and that each event keeps it.
use Prim.Native.Nat.{ℕ, ◌≤◌, ◌<◌}
use mathlib.Core.Path.{◌≡◌, refl, ap, sym, ◌∙◌, subst}
use mathlib.Core.List.{List, []}
use mathlib.Core.Option.{some}
use mathlib.Core.Logic.{◌⊎◌, inl, inr}
use native.Mathlib.Omega.{arith}
use native.Mathlib.Decide.{ℕ_discrete}
use Rattle.laws.specs.Mark.{Mark, known}
use Rattle.demand.specs.Machine.{In}
use Rattle.demand.specs.Rules.{changes, asks_for, says_done, says_list, says_error, WasHandled, Waiting, idle, awaiting, Topic}
use Rattle.demand.specs.Rules.{Saying, Exchange}
use Rattle.demand.specs.Rules.{Customer, Shed, Why, was_known, by_error, by_result, by_list, Hit, ExchangeLaws, CustomerLaws, Fresh}

abbrev pub Ups : Topic → Type 0
Ups S = List (ℕ × S.Req)

abbrev pub Downs : Topic → Type 0
Downs S = List (ℕ × Saying S)

-- a reply is to a request that was sent
abbrev pub ProperTo : (S : Topic) → Ups S → ℕ × Saying S → Type 0
ProperTo S up c = (r : S.Req) × In (c.0, r) up × S.Proper c.0 r c.1

module _ (S : Topic) (X : Exchange S) (C : Customer S) where
  -- No change of P that was ever sent can still reach the table.
  abbrev pub Settled : X.Table → Ups S → S.Proc → Type 0
  Settled t up P = (c : ℕ × S.Req) → In c up → S.about c.1 ≡ changes P → c.0 ≤ X.last t

  -- A change n of P is outstanding, and P was known before.
  pub record Changing (t : X.Table) (e : C.End) (up : Ups S) (down : Downs S) (n : ℕ) (r : S.Req) (P : S.Proc) : Type 0 where
    pub unhandled :
        X.last t < n → (C.pic e P ≡ X.held t P) ×
        ((c : ℕ × S.Req) → In c up → S.about c.1 ≡ changes P → (c.0 ≤ X.last t) ⊎ (c.0 ≡ n))
    pub said_failed : (x : ℕ) → In (n, says_error x) down → C.pic e P ≡ X.held t P
    pub said_done : In (n, says_done) down → (T : S.Pic) → S.apply r (C.pic e P) ≡ some T → T ≡ X.held t P

  -- An interrogation n of P is outstanding.
  pub record Asking (t : X.Table) (e : C.End) (down : Downs S) (n : ℕ) (m : Mark) (P : S.Proc) : Type 0 where
    pub before : m ≡ known → C.mark e P ≡ known
    pub said_listed : (l : S.Listing) → In (n, says_list l) down → S.read P l ≡ some (X.held t P)
    pub said_allowed : S.Allows P → (b : Saying S) → In (n, b) down → WasHandled b → (l : S.Listing) × (b ≡ says_list l)

  pub record Pending (t : X.Table) (e : C.End) (up : Ups S) (down : Downs S) (n : ℕ) (r : S.Req) (m : Mark) : Type 0 where
    pub mine : In (n, r) up
    pub top : (c : ℕ × S.Req) → In c up → c.0 ≤ n
    pub one : (c : ℕ × S.Req) → In c up → c.0 ≡ n → c.1 ≡ r
    pub changing : (P : S.Proc) → S.about r ≡ changes P → m ≡ known → Changing t e up down n r P
    pub asking : (P : S.Proc) → S.about r ≡ asks_for P → Asking t e down n m P

  pub record Inv (t : X.Table) (e : C.End) (up : Ups S) (down : Downs S) : Type 0 where
    pub good : X.Good t
    pub sound : C.Sound e
    pub fit : (c : ℕ × S.Req) → In c up → S.Fit c.0 c.1
    pub proper : (c : ℕ × Saying S) → In c down → ProperTo S up c
    pub below : (c : ℕ × S.Req) → In c up → c.0 < C.next e
    pub last_below : X.last t < C.next e
    pub handled : (c : ℕ × Saying S) → In c down → WasHandled c.1 → c.0 ≤ X.last t
    pub right : (P : S.Proc) → C.mark e P ≡ known → (C.pic e P ≡ X.held t P) × Settled t up P
    pub pending : (n : ℕ) (r : S.Req) (m : Mark) → C.waiting e ≡ awaiting n r m → Pending t e up down n r m

module _ (S : Topic) (X : Exchange S) (C : Customer S) (LX : ExchangeLaws S X) (LC : CustomerLaws S C) where
  pub never_busy : {e : C.End} {n : ℕ} {r : S.Req} {m : Mark} → C.waiting e ≡ idle → C.waiting e ≡ awaiting n r m → ⊥
  never_busy p q = let z : ◌≡◌ {A = ℕ} 0 1 = cc in omega arith

  pub begins : (t : X.Table) (e : C.End) → Fresh S X C t e → Inv S X C t e [] []
  begins t e f = record {
    good = f.good;
    sound = f.sound;
    fit = λ c i. absurd i;
    proper = λ c i. absurd i;
    below = λ c i. absurd i;
    last_below = f.above;
    handled = λ c i. absurd i;
    right = λ P k. (f.same P, λ c i. absurd i);
    pending = λ n r m p. absurd (never_busy f.free p);
  }

  -- giving up, a cut
  pub shed :
      (t : X.Table) (e e' : C.End) (up : Ups S) (down : Downs S) → Shed S C e e' → C.Sound e' → Inv S X C t e up down →
      Inv S X C t e' up down
  shed t e e' up down s g v = record {
    good = v.good;
    sound = g;
    fit = v.fit;
    proper = v.proper;
    below = λ c i. omega (arith, v.below c i, s.grows);
    last_below = omega (arith, v.last_below, s.grows);
    handled = v.handled;
    right = λ P k. ((s.stays P k).1 ∙ (v.right P (s.stays P k).0).0, (v.right P (s.stays P k).0).1);
    pending = λ n r m p. absurd (never_busy s.free p);
  }

  -- what befalls the table elsewhere
  pub passes :
      (t t' : X.Table) (e : C.End) (up : Ups S) (down : Downs S) → X.last t' ≡ X.last t → ((P : S.Proc) → X.held t' P ≡ X.held t P) →
      X.Good t' → Inv S X C t e up down → Inv S X C t' e up down
  passes t t' e up down l h g v = record {
    good = g;
    sound = v.sound;
    fit = v.fit;
    proper = v.proper;
    below = v.below;
    last_below = omega (arith, v.last_below);
    handled = λ c i a. omega (arith, v.handled c i a);
    right = λ P k. ((v.right P k).0 ∙ sym (h P), λ c i a. omega (arith, (v.right P k).1 c i a));
    pending = λ n r m p. let u = v.pending n r m p in record {
      mine = u.mine;
      top = u.top;
      one = u.one;
      changing = λ P a k. let x = u.changing P a k in record {
        unhandled = λ q. rw (l, h P) (x.unhandled (rw l at q));
        said_failed = λ y i. x.said_failed y i ∙ sym (h P);
        said_done = λ i T f. x.said_done i T f ∙ sym (h P);
      };
      asking = λ P a. let x = u.asking P a in record {
        before = x.before;
        said_listed = λ b i. rw (h P) (x.said_listed b i);
        said_allowed = x.said_allowed;
      };
    };
  }

  -- a reply is heard
  above :
      (t : X.Table) (e : C.End) (up : Ups S) (down : Downs S) → Inv S X C t e up down → (n : ℕ) (r : S.Req) (m : Mark) →
      C.waiting e ≡ awaiting n r m → n ≤ X.last t → (P : S.Proc) → Settled S X C t up P
  above t e up down v n r m w h P c i a = omega (arith, (v.pending n r m w).top c i)

  why :
      (t : X.Table) (e e' : C.End) (up : Ups S) (down : Downs S) → Inv S X C t e up down → (c : ℕ × Saying S) → In c down →
      (P : S.Proc) →
      Why S C e c.0 c.1 e' P → (C.pic e' P ≡ X.held t P) × Settled S X C t up P
  why t e e' up down v c i P (was_known k s) = (s ∙ (v.right P k).0, (v.right P k).1)
  why t e e' up down v c i P (by_error r x w (inl a) f s) = (
    s ∙ ((v.pending c.0 r known w).changing P a refl).said_failed x (subst (λ b. In (c.0, b) down) f i),
    above t e up down v c.0 r known w (v.handled c i (subst WasHandled (sym f) tt)) P,
  )
  why t e e' up down v c i P (by_error r x w (inr a) f s) =
      let k = ((v.pending c.0 r known w).asking P a).before refl in (s ∙ (v.right P k).0, (v.right P k).1)
  why t e e' up down v c i P (by_result r w a d f) = (
    ((v.pending c.0 r known w).changing P a refl).said_done (subst (λ b. In (c.0, b) down) d i) (C.pic e' P) f,
    above t e up down v c.0 r known w (v.handled c i (subst WasHandled (sym d) tt)) P,
  )
  why t e e' up down v c i P (by_list r m l w a d f) =
      let q = ((v.pending c.0 r m w).asking P a).said_listed l (subst (λ b. In (c.0, b) down) d i) in
      (cc, above t e up down v c.0 r m w (v.handled c i (subst WasHandled (sym d) tt)) P)

  pub hears :
      (t : X.Table) (e : C.End) (up : Ups S) (down : Downs S) → Inv S X C t e up down → (c : ℕ × Saying S) → In c down →
      Inv S X C t (C.hear e c.0 c.1) up down
  hears t e up down v c i = go (C.waiting e) refl
    where
      dropped : ((r : S.Req) (m : Mark) → ¬ (C.waiting e ≡ awaiting c.0 r m)) → Inv S X C t (C.hear e c.0 c.1) up down
      dropped f =
          let g = v.proper c i in
          rw (LC.hear_drops e c.0 c.1 g.0 (record { sound = v.sound; other = f; proper = g.2 })) v

      hit : (r : S.Req) (m : Mark) → C.waiting e ≡ awaiting c.0 r m → Hit S C e c.0 c.1 r m
      hit r m w =
          let g = v.proper c i in
          let same : g.0 ≡ r = (v.pending c.0 r m w).one (c.0, g.0) g.1 refl in
          record { sound = v.sound; waits = w; proper = subst (λ q. S.Proper c.0 q c.1) same g.2 }

      closed : (r : S.Req) (m : Mark) → C.waiting e ≡ awaiting c.0 r m → Inv S X C t (C.hear e c.0 c.1) up down
      closed r m w = record {
        good = v.good;
        sound = LC.hear_sound e c.0 c.1 v.sound;
        fit = v.fit;
        proper = v.proper;
        below = λ d j. omega (arith, v.below d j, LC.hear_grows e c.0 c.1);
        last_below = omega (arith, v.last_below, LC.hear_grows e c.0 c.1);
        handled = v.handled;
        right = λ P k. why t e (C.hear e c.0 c.1) up down v c i P (LC.hear_why e c.0 c.1 r m (hit r m w) P k);
        pending = λ n q b p. absurd (never_busy (LC.hear_closes e c.0 c.1 r m (hit r m w)) p);
      }

      matched : (k : ℕ) (r : S.Req) (m : Mark) → C.waiting e ≡ awaiting k r m → Dec (k ≡ c.0) → Inv S X C t (C.hear e c.0 c.1) up down
      matched k r m w (yes q) = closed r m (w ∙ ap (λ x. awaiting x r m) q)
      matched k r m w (no q) = dropped (λ r' m' w'. q (cc))

      go : (x : Waiting S.Req) → C.waiting e ≡ x → Inv S X C t (C.hear e c.0 c.1) up down
      go idle w = dropped (λ r m w'. never_busy w w')
      go (awaiting k r m) w = matched k r m w (ℕ_discrete k c.0)
