-- That sending and serving keep what holds at every moment between a counted end and its exchange. Assumes nothing.
use Prim.Native.Nat.{ℕ, ◌≤◌, ◌<◌}
use mathlib.Core.Path.{◌≡◌, refl, ap, sym, ◌∙◌, subst}
use mathlib.Core.List.{◌∷◌}
use mathlib.Core.Logic.{◌⊎◌, inl, inr}
use native.Mathlib.Omega.{arith}
use native.Mathlib.Decide.{ℕ_discrete, dec_lt}
use Rattle.laws.specs.Mark.{Mark, known}
use Rattle.demand.specs.Machine.{In}
use Rattle.demand.specs.Rules.{changes, asks_for, says_done, says_list, says_error, says_reject, WasHandled, awaiting, Topic, Saying, Exchange}
use Rattle.demand.specs.Rules.{Customer, Served, Sent, ExchangeLaws, CustomerLaws}
use Rattle.demand.proofs.Invariant.{Ups, Downs, ProperTo, Settled, Changing, Asking, Pending, Inv}

module _ (S : Topic) (X : Exchange S) (C : Customer S) (LX : ExchangeLaws S X) (LC : CustomerLaws S C) where
  -- a repeated request is rejected
  repeated :
      (t : X.Table) (e : C.End) (up : Ups S) (down : Downs S) (k : ℕ) (y : S.Problem) → ProperTo S up (k, says_reject y) →
      Inv S X C t e up down → Inv S X C t e up ((k, says_reject y) ∷ down)
  repeated t e up down k y g v = record {
    good = v.good;
    sound = v.sound;
    fit = v.fit;
    below = v.below;
    last_below = v.last_below;
    right = v.right;
    proper = proper';
    handled = λ c i a. v.handled c (older c a i) a;
    pending = λ n r m p. let u = v.pending n r m p in record {
      mine = u.mine;
      top = u.top;
      one = u.one;
      changing = λ P a k. let x = u.changing P a k in record {
        unhandled = x.unhandled;
        said_failed = λ y i. x.said_failed y (older (n, says_error y) tt i);
        said_done = λ i. x.said_done (older (n, says_done) tt i);
      };
      asking = λ P a. let x = u.asking P a in record {
        before = x.before;
        said_listed = λ l i. x.said_listed l (older (n, says_list l) tt i);
        said_allowed = λ w b i a. x.said_allowed w b (older (n, b) a i) a;
      };
    };
  }
    where
      older : (c : ℕ × Saying S) → WasHandled c.1 → In c ((k, says_reject y) ∷ down) → In c down
      older c a (inl q) = absurd (subst (λ x. WasHandled x.1) q a)
      older c a (inr i) = i

      proper' : (c : ℕ × Saying S) → In c ((k, says_reject y) ∷ down) → ProperTo S up c
      proper' c (inl q) = subst (ProperTo S up) (sym q) g
      proper' c (inr i) = v.proper c i

  -- a request is handled
  module _ (t : X.Table) (e : C.End) (up : Ups S) (down : Downs S) (v : Inv S X C t e up down) (c : ℕ × S.Req) (i : In c up) (h : X.last t < c.0)
      (t' : X.Table) (b : Saying S) (s : Served S X t c.0 c.1 t' b) where
    late : (d : ℕ × Saying S) → WasHandled d.1 → In d ((c.0, b) ∷ down) → c.0 ≤ d.0 → (d.0 ≡ c.0) × (d.1 ≡ b)
    late d a (inl q) l = (ap (λ x. x.0) q, ap (λ x. x.1) q)
    late d a (inr j) l = absurd (omega (arith, v.handled d j a))

    serve_right : (P : S.Proc) → C.mark e P ≡ known → (C.pic e P ≡ X.held t' P) × Settled S X C t' up P
    serve_right P k =
        let x = v.right P k in
        (x.0 ∙ sym (s.others P (λ a. omega (arith, x.1 c i a))), λ d j a. omega (arith, x.1 d j a, s.moves))

    module _ (n : ℕ) (r : S.Req) (m : Mark) (p : C.waiting e ≡ awaiting n r m) where
      serve_changing : (P : S.Proc) → S.about r ≡ changes P → m ≡ known → Changing S X C t' e up ((c.0, b) ∷ down) n r P
      serve_changing P a k = go (ℕ_discrete c.0 n)
        where
          u : Pending S X C t e up down n r m
          u = v.pending n r m p

          x : Changing S X C t e up down n r P
          x = u.changing P a k

          le : c.0 ≤ n
          le = u.top c i

          was : C.pic e P ≡ X.held t P
          was = (x.unhandled (omega (arith, le))).0

          settle : (d : ℕ × S.Req) → (d.0 ≤ X.last t) ⊎ (d.0 ≡ n) → (d.0 ≤ X.last t') ⊎ (d.0 ≡ n)
          settle d (inl q) = inl (omega (arith, s.moves))
          settle d (inr q) = inr q

          not_this : ¬ (c.0 ≡ n) → (c.0 ≤ X.last t) ⊎ (c.0 ≡ n) → ⊥
          not_this f (inl q) = omega arith
          not_this f (inr q) = f q

          go : Dec (c.0 ≡ n) → Changing S X C t' e up ((c.0, b) ∷ down) n r P
          go (yes q) = record {
            unhandled = λ l. absurd (omega (arith, s.moves));
            said_failed = λ y j. was ∙ sym (s.on_failed y (sym (late (n, says_error y) tt j le).1) P);
            said_done = λ j T f. s.on_done (sym (late (n, says_done) tt j le).1) P (rw (u.one c i q) a) T (rw (u.one c i q, ← was) f);
          }
          go (no q) = record {
            unhandled =
                λ l. (
                  was ∙ sym (s.others P (λ y. not_this q ((x.unhandled (omega (arith, le))).1 c i y))),
                  λ d j y. settle d
                      ((x.unhandled (omega (arith, le))).1 d j y),
                );
            said_failed = λ y j. absurd (q (sym (late (n, says_error y) tt j le).0));
            said_done = λ j. absurd (q (sym (late (n, says_done) tt j le).0));
          }

      serve_asking : (P : S.Proc) → S.about r ≡ asks_for P → Asking S X C t' e ((c.0, b) ∷ down) n m P
      serve_asking P a = record {
        before = ((v.pending n r m p).asking P a).before;
        said_listed = λ l j. let q = late (n, says_list l) tt j le in
            rw (s.others P (other q.0)) (s.on_listed l (sym q.1) P (about' q.0));
        said_allowed = λ w d j y. let q = late (n, d) y j le in
            let z = s.on_allowed P (about' q.0) w in (z.0, q.1 ∙ z.1);
      }
        where
          le : c.0 ≤ n
          le = (v.pending n r m p).top c i

          about' : n ≡ c.0 → S.about c.1 ≡ asks_for P
          about' q = rw ((v.pending n r m p).one c i (sym q)) a

          other : n ≡ c.0 → ¬ (S.about c.1 ≡ changes P)
          other q y = let w = about' q in let z : ◌≡◌ {A = ℕ} 0 1 = cc in omega arith

    served : X.Good t' → S.Proper c.0 c.1 b → Inv S X C t' e up ((c.0, b) ∷ down)
    served g f = record {
      good = g;
      sound = v.sound;
      fit = v.fit;
      below = v.below;
      proper = proper';
      last_below = omega (arith, s.moves, v.below c i);
      handled = handled';
      right = serve_right;
      pending = λ n r m p. record {
        mine = (v.pending n r m p).mine;
        top = (v.pending n r m p).top;
        one = (v.pending n r m p).one;
        changing = serve_changing n r m p;
        asking = serve_asking n r m p;
      };
    }
      where
        proper' : (d : ℕ × Saying S) → In d ((c.0, b) ∷ down) → ProperTo S up d
        proper' d (inl q) = subst (ProperTo S up) (sym q) (c.1, i, f)
        proper' d (inr j) = v.proper d j

        handled' : (d : ℕ × Saying S) → In d ((c.0, b) ∷ down) → WasHandled d.1 → d.0 ≤ X.last t'
        handled' d (inl q) a = omega (arith, s.moves, ap (λ x. x.0) q)
        handled' d (inr j) a = omega (arith, s.moves, v.handled d j a)

  pub serves :
      (t : X.Table) (e : C.End) (up : Ups S) (down : Downs S) → Inv S X C t e up down → (c : ℕ × S.Req) → In c up →
      Inv S X C (X.serve t c.0 c.1).0 e up ((c.0, (X.serve t c.0 c.1).1) ∷ down)
  serves t e up down v c i = go (dec_lt (X.last t) c.0)
    where
      go : Dec (X.last t < c.0) → Inv S X C (X.serve t c.0 c.1).0 e up ((c.0, (X.serve t c.0 c.1).1) ∷ down)
      go (yes h) =
          served t e up down v c i h _ _ (LX.serves t c.0 c.1 v.good (v.fit c i) h)
          (LX.serve_good t c.0 c.1 v.good (v.fit c i)) (LX.serve_proper t c.0 c.1 v.good (v.fit c i))
      go (no h) =
          let q = LX.repeats t c.0 c.1 v.good (v.fit c i) (omega arith) in
          let g : S.Proper c.0 c.1 (says_reject q.0) = rw q.1 at (LX.serve_proper t c.0 c.1 v.good (v.fit c i)) in
          rw q.1 (repeated t e up down c.0 q.0 (c.1, i, g) v)

  -- a request is sent
  pub sends :
      (t : X.Table) (e e' : C.End) (up : Ups S) (down : Downs S) (n : ℕ) (r : S.Req) → Inv S X C t e up down → Sent S C e r e' n →
      C.Sound e' → Inv S X C t e' ((n, r) ∷ up) down
  sends t e e' up down n r v s g = record {
    good = v.good;
    sound = g;
    proper = λ c i. let z = v.proper c i in (z.0, inr z.1, z.2);
    handled = v.handled;
    fit = fit';
    below = below';
    last_below = omega (arith, v.last_below, s.new, s.used);
    right = λ P k. (s.pics P ∙ (v.right P (s.stays P k).0).0, settled P k);
    pending = λ k q m p. moved k q m p;
  }
    where
      fit' : (c : ℕ × S.Req) → In c ((n, r) ∷ up) → S.Fit c.0 c.1
      fit' c (inl q) = subst (λ x. S.Fit x.0 x.1) (sym q) s.fits
      fit' c (inr i) = v.fit c i

      below' : (c : ℕ × S.Req) → In c ((n, r) ∷ up) → c.0 < C.next e'
      below' c (inl q) = omega (arith, ap (λ x. x.0) q, s.used)
      below' c (inr i) = omega (arith, v.below c i, s.new, s.used)

      settled : (P : S.Proc) → C.mark e' P ≡ known → Settled S X C t ((n, r) ∷ up) P
      settled P k c (inl q) a = absurd ((s.stays P k).1 (subst (λ x. S.about x.1 ≡ changes P) q a))
      settled P k c (inr i) a = (v.right P (s.stays P k).0).1 c i a

      -- nothing was said of n yet
      silent : (b : Saying S) → WasHandled b → In (n, b) down → ⊥
      silent b a i = omega (arith, v.handled (n, b) i a, v.last_below, s.new)

      waits' :
          (P : S.Proc) → C.mark e P ≡ known → (c : ℕ × S.Req) → In c ((n, r) ∷ up) → S.about c.1 ≡ changes P →
          (c.0 ≤ X.last t) ⊎ (c.0 ≡ n)
      waits' P k c (inl q) a = inr (ap (λ x. x.0) q)
      waits' P k c (inr i) a = inl ((v.right P k).1 c i a)

      top' : (c : ℕ × S.Req) → In c ((n, r) ∷ up) → c.0 ≤ n
      top' c (inl q) = omega (arith, ap (λ x. x.0) q)
      top' c (inr i) = omega (arith, v.below c i, s.new)

      one' : (c : ℕ × S.Req) → In c ((n, r) ∷ up) → c.0 ≡ n → c.1 ≡ r
      one' c (inl q) f = ap (λ x. x.1) q
      one' c (inr i) f = absurd (omega (arith, v.below c i, s.new))

      fresh : Pending S X C t e' ((n, r) ∷ up) down n r s.before
      fresh = record {
        mine = inl refl;
        top = top';
        one = one';
        changing = λ P a k. let k' : C.mark e P ≡ known = sym (s.before_is P (inl a)) ∙ k in record {
          unhandled = λ l. (s.pics P ∙ (v.right P k').0, waits' P k');
          said_failed = λ y i. absurd (silent (says_error y) tt i);
          said_done = λ i. absurd (silent says_done tt i);
        };
        asking = λ P a. record {
          before = λ k. s.asked P a ∙ (sym (s.before_is P (inr a)) ∙ k);
          said_listed = λ l i. absurd (silent (says_list l) tt i);
          said_allowed = λ w b i y. absurd (silent b y i);
        };
      }

      moved : (k : ℕ) (q : S.Req) (m : Mark) → C.waiting e' ≡ awaiting k q m → Pending S X C t e' ((n, r) ∷ up) down k q m
      moved k q m p =
          let w = s.waits in
          let a : k ≡ n = cc in
          let b : q ≡ r = cc in
          let d : m ≡ s.before = cc in
          rw (a, b, d) fresh
