-- The end keeps the laws that demand 3 asks of it (crates/demand). Assumes nothing.
use Prim.Native.Nat.{ℕ, suc, ◌≤◌}
use mathlib.Core.Path.{◌≡◌, refl, sym, ap, ◌∙◌, subst}
use mathlib.Core.Bool.{Bool, true, false}
use mathlib.Core.List.{List}
use mathlib.Core.Option.{none, some}
use mathlib.Core.Logic.{◌⊎◌, inl, inr, ⊎_elim}
use native.Mathlib.Omega.{arith}
use lib.IntN.{pos}
use lib.ListN.{length}
use lib.Dec.{eqb}
use borrow.Author.Tests.{eqb-true, eqb-false}
use Rattle.laws.specs.Pick.{pick}
use Rattle.laws.specs.Mark.{Mark, known}
use Rattle.laws.proofs.Picks.{by_bool}
use Rattle.laws.proofs.Tests.{both_hold}
use Rattle.refusals.specs.Refusal.{Told, refuses, tells}
use Rattle.numbers.specs.Number.{most}
use Rattle.profile.specs.Access.{access_read}
use Rattle.profile.specs.declared.profile.Profile.{Profile}
use Rattle.requests.specs.declared.request.Request.{Request}
use Rattle.lists.specs.Entries.{instances_most, tidy_entries}
use Rattle.lists.specs.declared.entry.Entry.{Entry}
use Rattle.instances.specs.Run.{instances_of}
use Rattle.instances.specs.declared.instance.Instance.{Instance}
use Rattle.instances.specs.declared.run.Run.{Run}
use Rattle.end.specs.End.{mark_at}
use Rattle.end.specs.Listed.{instances_listed, list_good}
use Rattle.end.specs.Sending.{Sends, sends}
use Rattle.end.specs.Taking.{takes, gives_up}
use Rattle.end.specs.declared.end.End.{End}
use Rattle.end.proofs.Marks.{sends_known, sends_doubt, gives_known}
use Rattle.end.proofs.Others.{gives_picture, sends_picture}
use Rattle.end.proofs.Goods as goods
use Rattle.end.proofs.Goods.{reached_good, reached_marks}
use Rattle.end.proofs.Dropped.{dropped_stays, idle_dropped}
use Rattle.end.proofs.Closings.{Closed, takes_closes, gives_closes, list_known, Asks, sends_asks}
use Rattle.demand.specs.Rules as rules
use Rattle.demand.specs.Rules.{says_list, idle, awaiting, Sent, Shed, Why, Hit, Miss, CustomerLaws}
use Rattle.promise.specs.Demand.{Asking, sized}
use Rattle.promise.proofs.DemandLists.{held_of}
use Rattle.rules.proofs.Tidied.{Sized}
use Rattle.promise.proofs.DemandReads.{read_on}
use Rattle.promise.proofs.DemandParts.{asking, about_of, Said, said_octets, Proper, mark_of, waiting_of, number_up, sending, Sound}
use Rattle.promise.proofs.DemandParts.{topic, customer, clash, mark_known, known_mark, asks_is, changes_is, waits_idle, waits_busy}
use Rattle.promise.proofs.DemandParts.{Busy, busy_is}
use Rattle.promise.proofs.DemandReplies.{one_identifier, not_dropped, core_why, core_closes}

-- arrays have their places
pub sizes_of : (r : Request) → sized r ≡ true → Sized r
unfolding sized
sizes_of r h =
    let t = both_hold (eqb (length r.served.number.digits) most) (eqb (length r.to.address.number.digits) most) h in
    (eqb-true _ most t.0, eqb-true _ most t.1)

read_good : (p : Profile) (q : ℕ) (es : List Entry) (T : List Instance) → read_on p q es ≡ some T → list_good instances_most p q (instances_listed p es) ≡ true
unfolding read_on
read_good p q es T h =
    let b : Bool = list_good instances_most p q (instances_listed p es) in
    by_bool (b ≡ true) b (λ e. e) (λ e. absurd (clash {x = none} {y = some T} (λ z. cc) (sym (rw e) ∙ h)))

module _ (access : List ℕ) (ok : (access_read access).ok ≡ true) where
  abbrev p : Profile
  p = (access_read access).profile

  -- ---- hearing

  -- what is outstanding is what was waited for
  module _ (e : End) (n : ℕ) (b : Said) (a : Asking) (m : Mark) (hit : Hit (topic access) (customer access) e n b a m) where
    is : Busy e n a m
    is = busy_is e n a m hit.waits

    fits : Proper e.used (asking e.operation e.request) b
    fits =
        subst (λ k. Proper k (asking e.operation e.request) b) (sym is.used)
        (subst (λ x. Proper n x b) (sym is.asks) hit.proper)

    hear_why : (o : ℕ) → mark_of (mark_at o (takes access e (said_octets n b)).end.marks) ≡ known →
        Why (topic access) (customer access) e n b (takes access e (said_octets n b)).end o
    hear_why o =
        subst
        (λ k. mark_of (mark_at o (takes access e (said_octets k b)).end.marks) ≡ known →
        Why (topic access) (customer access) e k b (takes access e (said_octets k b)).end o)
        is.used (core_why access ok e hit.sound is.waits b fits o)

    hear_closes : waiting_of (takes access e (said_octets n b)).end ≡ idle
    hear_closes =
        subst (λ k. waiting_of (takes access e (said_octets k b)).end ≡ idle) is.used
        (core_closes access ok e hit.sound is.waits b fits)

  hear_learns :
      (e : End) (n : ℕ) (l : List Entry) (a : Asking) (m : Mark) → Hit (topic access) (customer access) e n (says_list l) a m →
      (o : ℕ) (T : List Instance) → about_of a ≡ rules.asks_for o → read_on p o (tidy_entries l) ≡ some T →
      mark_of (mark_at o (takes access e (said_octets n (says_list l))).end.marks) ≡ known
  hear_learns e n l a m hit o T about read =
      let w = is e n (says_list l) a m hit in
      let fit = fits e n (says_list l) a m hit in
      let own : e.request.procedure ≡ o = ap (λ (x : Asking). x.request.procedure) w.asks ∙ (asks_is a o about).1 in
      let back = fit.back.2 in
      let list = read_good p e.request.procedure (tidy_entries l) T (ap (λ k. read_on p k (tidy_entries l)) own ∙ read) in
      let good = reached_good access ok e hit.sound.way in
      subst (λ k. mark_of (mark_at o (takes access e (said_octets k (says_list l))).end.marks) ≡ known) w.used
      (subst (λ q. mark_of (mark_at q (takes access e (said_octets e.used (says_list l))).end.marks) ≡ known) own
      (known_mark _
      (list_known access e ok good w.waits (said_octets e.used (says_list l)) fit.short
      (reached_marks access e hit.sound.way) back.at back.end (tidy_entries l) back.end back.is back.entries list)))

  hear_drops :
      (e : End) (n : ℕ) (b : Said) (a : Asking) → Miss (topic access) (customer access) e n b a → (takes access e (said_octets n b)).end ≡ e
  hear_drops e n b a miss =
      by_bool ((takes access e (said_octets n b)).end ≡ e) (eqb e.outstanding 1)
      (λ t.
      let waits = eqb-true e.outstanding 1 t in
      let other : pos n ≡ pos e.used → ⊥ =
      λ same. miss.other (asking e.operation e.request) (mark_of e.before)
      (waits_busy e waits ∙ ap (λ k. awaiting k (asking e.operation e.request) (mark_of e.before)) (sym (pos_same same))) in
      dropped_stays access e (said_octets n b)
      (one_identifier (pos n) (pos e.used) a.operation e.operation (said_octets n b) other
      (not_dropped n a.operation (said_octets n b) b miss.proper.back)))
      (λ t. idle_dropped access e (said_octets n b) (eqb-false e.outstanding 1 t))
    where
      pos_same : {x y : ℕ} → pos x ≡ pos y → x ≡ y
      pos_same h = cc

  hear_sound : (e : End) (n : ℕ) (b : Said) → Sound access e → Sound access (takes access e (said_octets n b)).end
  hear_sound e n b s = record {
    way = goods.taking e s.way (said_octets n b);
    sizes = λ waits. go waits (takes_closes access e (said_octets n b));
  }
    where
      go :
          (takes access e (said_octets n b)).end.outstanding ≡ 1 →
          ((takes access e (said_octets n b)).end ≡ e) ⊎ Closed e (takes access e (said_octets n b)).end →
          Sized (takes access e (said_octets n b)).end.request
      go waits (inl same) =
          subst (λ (x : End). Sized x.request) (sym same) (s.sizes (sym (ap (λ (x : End). x.outstanding) same) ∙ waits))
      go waits (inr shut) = absurd (omega (arith, waits, shut.free))

  hear_grows : (e : End) (n : ℕ) (b : Said) → suc e.used ≤ suc (takes access e (said_octets n b)).end.used
  hear_grows e n b =
      ⊎_elim (λ same. omega (arith, ap (λ (x : End). x.used) same)) (λ shut. omega (arith, shut.used))
      (takes_closes access e (said_octets n b))

  -- ---- sending

  module _ (size : ℕ) (e : End) (a : Asking) where
    abbrev d : Sends
    d = sends access a.operation a.request e size

    pub record Sends-to (x : End × ℕ) : Type 0 where
      pub sizes : Sized a.request
      pub told : d.told ≡ tells tt
      pub is : (d.end, d.end.used) ≡ x

    pub sends_to : (x : End × ℕ) → sending access size e a ≡ some x → Sends-to x
    unfolding sending
    sends_to x h = go (sized a.request) d.told refl refl h
      where
        go :
            (b : Bool) (t : Told (Unit {0})) → sized a.request ≡ b → d.told ≡ t → pick b (number_up d.end t) none ≡ some x →
            Sends-to x
        go false t y z w = absurd (clash {x = none} {y = some x} (λ z. cc) w)
        go true (refuses number) y z w = absurd (clash {x = none} {y = some x} (λ z. cc) w)
        go true (tells u) y z w = record { sizes = sizes_of a.request y; told = z; is = cc }

    module _ (to : Sends-to (d.end, d.end.used)) where
      asks : Asks a.operation a.request e d
      asks = sends_asks access a.operation a.request e size to.told

      stays :
          (o : ℕ) → mark_of (mark_at o d.end.marks) ≡ known → (mark_of (mark_at o e.marks) ≡ known) × ¬ (about_of a ≡ rules.changes o)
      stays o k =
          let now = mark_known _ k in (
            known_mark _ (sends_known access a.operation a.request e size o now),
            λ h.
                let c = changes_is a o h in
                let put = sends_doubt access a.operation a.request e size c.0 to.told in
                omega (arith, put, ap (λ q. mark_at q d.end.marks) c.1, now),
          )

      sent : Sent (topic access) (customer access) e a d.end d.end.used
      sent = record {
        free = waits_idle e asks.free;
        new = omega (arith, asks.used);
        used = omega arith;
        before = mark_of (mark_at a.request.procedure e.marks);
        waits =
            waits_busy d.end asks.outstanding
            ∙ (ap (λ x. awaiting d.end.used x (mark_of d.end.before))
            (ap (λ o. asking o d.end.request) asks.operation ∙ ap (asking a.operation) asks.request)
            ∙ ap (λ k. awaiting d.end.used a (mark_of k)) asks.before);
        before_is = λ o h. ap (λ q. mark_of (mark_at q e.marks)) (⊎_elim (λ c. (changes_is a o c).1) (λ c. (asks_is a o c).1) h);
        pics = λ o. ap (λ (u : Run). held_of o (instances_of u)) (sends_picture access a.operation a.request e size);
        stays = stays;
        asked = λ o h. ap (λ (l : List ℕ). mark_of (mark_at o l)) (asks.marks (asks_is a o h).0);
        fits = record { high = omega (arith, asks.used, asks.most); goes = asks.sendable; sizes = to.sizes };
      }

      sent_sound : Sound access e → Sound access d.end
      sent_sound s = record {
        way = goods.sending e s.way a.operation a.request size;
        sizes = λ _. subst Sized (sym asks.request) to.sizes;
      }

  -- ---- giving up

  gives : (e : End) → Sound access e → Shed (topic access) (customer access) e (gives_up access e).end
  gives e s =
      let shut = gives_closes access e ok (reached_good access ok e s.way) in
      record {
        free = waits_idle (gives_up access e).end shut.0;
        grows = omega (arith, shut.1);
        stays = λ o k. (
          known_mark _ (gives_known access e o (mark_known _ k)),
          ap (λ (u : Run). held_of o (instances_of u)) (gives_picture access e),
        );
      }

  gives_sound : (e : End) → Sound access e → Sound access (gives_up access e).end
  gives_sound e s = record {
    way = goods.giving e s.way;
    sizes = λ waits. absurd ((gives_closes access e ok (reached_good access ok e s.way)).0 waits);
  }

  pub customer_laws : CustomerLaws (topic access) (customer access)
  customer_laws = record {
    sends = λ size e a x s h.
        let to = sends_to size e a x h in
        subst (λ (y : End × ℕ). Sent (topic access) (customer access) e a y.0 y.1) to.is
        (sent size e a (subst (Sends-to size e a) (sym to.is) to));
    send_sound = λ size e a x s h.
        let to = sends_to size e a x h in
        subst (λ (y : End × ℕ). Sound access y.0) to.is (sent_sound size e a (subst (Sends-to size e a) (sym to.is) to) s);
    hear_why = hear_why;
    hear_grows = hear_grows;
    hear_closes = hear_closes;
    hear_drops = hear_drops;
    hear_learns = hear_learns;
    hear_sound = hear_sound;
    give_up_lem = gives;
    give_up_sound = gives_sound;
    jolts = λ e j. absurd j;
    jolt_sound = λ e j. absurd j;
  }
