-- Demand 3 (specs/Demand.antt). Assumes nothing.
use Prim.Native.Nat.{ℕ, ◌<◌}
use mathlib.Core.Path.{◌≡◌, refl, sym, ap, ◌∙◌}
use mathlib.Core.Bool.{Bool, true, false}
use mathlib.Core.List.{List, map}
use mathlib.Core.Option.{none, some}
use native.Mathlib.Omega.{arith}
use lib.ListN.{length}
use lib.Dec.{leb}
use borrow.Author.Tests.{leb-false}
use Rattle.laws.specs.Pick.{pick}
use Rattle.laws.specs.Those.{those}
use Rattle.laws.proofs.Picks.{by_bool}
use Rattle.refusals.specs.Refusal.{Told, refuses, tells, output_least}
use Rattle.numbers.specs.declared.number.Number.{Number}
use Rattle.profile.specs.Access.{access_read}
use Rattle.profile.specs.declared.profile.Profile.{Profile}
use Rattle.lists.specs.Entry.{tidy_entry}
use Rattle.lists.specs.Entries.{instances_most, tidy_entries}
use Rattle.lists.specs.declared.entry.Entry.{Entry}
use Rattle.instances.specs.Instance.{chosen}
use Rattle.instances.specs.Run.{instances_of, listed, entry_for, is_of}
use Rattle.instances.specs.declared.instance.Instance.{Instance}
use Rattle.instances.proofs.Choices.{chosen_every}
use Rattle.forms.proofs.Fits.{tidy_instance, tidy_twice}
use Rattle.exchange.specs.Table.{fresh_table}
use Rattle.exchange.specs.Arrive.{Done}
use Rattle.exchange.proofs.Tables.{fresh_good}
use Rattle.exchange.proofs.Arrivals.{done_short}
use Rattle.end.specs.End.{fresh_end}
use Rattle.end.specs.Listed.{every_of}
use Rattle.end.specs.Sending.{Sends, sends}
use Rattle.end.specs.Shown.{Seen, entries_shown, handed_out, entries_out}
use Rattle.end.specs.declared.end.End.{End}
use Rattle.end.proofs.Goods.{begins, reached_good}
use Rattle.end.proofs.Marks.{good_rules, sent_three}
use Rattle.end.proofs.Shows.{known_by, shown_known}
use Rattle.end.proofs.Closings.{sends_asks}
use Rattle.demand.specs.Machine.{World, handles, comes_down, after, Trace, further}
use Rattle.demand.specs.Rules.{Fresh}
use Rattle.demand.specs.Codec.{Wired, written}
use Rattle.demand.proofs.Octets as O
use Rattle.demand.proofs.Octets.{joined}
use Rattle.promise.specs.Demand.{Asking, sized, goes_up, sent_up, sent_down, machine, begin, KnownEquals, Handled, asked_by, FirstReply, Demand3}
use Rattle.promise.proofs.DemandLists as L
use Rattle.promise.proofs.DemandLists.{held_of}
use Rattle.promise.proofs.DemandParts.{asking, number_up, sending, octets_asked, mark_of, Sound, topic, exchange, customer, wire}
use Rattle.promise.proofs.DemandParts.{known_mark, mark_known, waits_idle, waits_busy, about_asks, clash}
use Rattle.promise.proofs.DemandReplies.{not_dropped}
use Rattle.promise.proofs.DemandEnds.{customer_laws}
use Rattle.promise.proofs.DemandExchanges as X

-- ---- entries, by what is held

module _ (numbers : List Number) where
  tidy_entry_lem : (x : Instance) → tidy_entry (entry_for numbers (tidy_instance x)) ≡ tidy_entry (entry_for numbers x)
  tidy_entry_lem x =
      ap (λ (y : Instance). tidy_entry_of x y) (tidy_twice x)
    where
      tidy_entry_of : Instance → Instance → Entry
      tidy_entry_of x y = record {
        served = (tidy_entry (entry_for numbers x)).served;
        service = x.service;
        procedure = x.procedure;
        address = y.address;
      }

  -- the entries of a procedure, as they are meant, go by what is held of it
  pub entries_held_lem :
      (q : ℕ) (is : List Instance) →
      tidy_entries (map (entry_for numbers) (listed (every_of q) is)) ≡ map (λ x. tidy_entry (entry_for numbers x)) (held_of q is)
  unfolding held_of
  entries_held_lem q is =
      let own = those (is_of q) is in
      ap (λ l. tidy_entries (map (entry_for numbers) l)) (L.those_same (chosen (every_of q)) (is_of q) (chosen_every (every_of q) refl refl) is)
      ∙ (L.map_map tidy_entry (entry_for numbers) own
      ∙ (L.map_same (λ x. tidy_entry (entry_for numbers x)) (λ x. tidy_entry (entry_for numbers (tidy_instance x))) own
      (L.each_any _ (λ x. sym (tidy_entry_lem x)) own)
      ∙ sym (L.map_map (λ x. tidy_entry (entry_for numbers x)) tidy_instance own)))

module _ (access : List ℕ) (ok : (access_read access).ok ≡ true) (counted : (access_read access).profile.counted ≡ 1) where
  abbrev p : Profile
  p = (access_read access).profile

  -- ---- the octets are those of the messages

  module _ (size : ℕ) (e : End) (a : Asking) where
    abbrev d : Sends
    d = sends access a.operation a.request e size

    told_octets :
        (b : Bool) (t : Told (Unit {0})) → d.told ≡ t →
        pick b (goes_up d.end d.octets t) none ≡ written octets_asked a (pick b (number_up d.end t) none)
    told_octets false t h = refl
    told_octets true (refuses number) h = refl
    told_octets true (tells u) h =
        let asks = sends_asks access a.operation a.request e size h in
        ap (λ (o : List ℕ). some (d.end, o)) (asks.octets ∙ ap (λ k. octets_asked k a) (sym asks.used))

    sends_octets :
        Sound access e →
        pick (sized a.request) (sent_up (sends access a.operation a.request e size)) none
        ≡ written octets_asked a (sending access size e a)
    unfolding sending
    sends_octets s = told_octets (sized a.request) d.told refl

  wired : Wired (topic access) (exchange access) (customer access) (wire access)
  wired = record {
    handles = λ size t n a good fit. X.handles access ok counted t n a good fit size;
    sends = sends_octets;
    receives = λ e n b a s h. refl;
    matches = λ n a b h. not_dropped n a.operation _ b h.back;
  }

  fresh : Fresh (topic access) (exchange access) (customer access) fresh_table fresh_end
  fresh = record {
    good = fresh_good p;
    sound = record { way = begins; sizes = λ h. absurd (omega (arith, h)) };
    free = waits_idle fresh_end (λ h. omega (arith, h));
    above = omega arith;
    same = λ P. refl;
  }

  -- ---- the first sentence

  known_equals : KnownEquals access
  known_equals w run procedure count is =
      let by = known_by access w.end procedure count is in
      let equal =
      O.known_equals (topic access) (exchange access) (customer access) (wire access) (X.exchange_laws access ok counted)
      (customer_laws access ok) wired fresh_table fresh_end fresh run procedure (known_mark _ by.mark) in
      let out : entries_out access w.end procedure ≡ entries_shown p w.end procedure =
      ap (λ (t : Told Seen). handed_out t (entries_shown p w.end procedure)) is in
      ap tidy_entries out
      ∙ (entries_held_lem p.numbers procedure (instances_of w.end.picture)
      ∙ (ap (map (λ x. tidy_entry (entry_for p.numbers x))) equal
      ∙ sym (entries_held_lem p.numbers procedure (instances_of w.table.run))))

  -- ---- the second sentence

  sound_at : (w : World (machine access)) → Trace (machine access) (begin access) w → Sound access w.end
  sound_at w run =
      (O.sound_always (topic access) (exchange access) (customer access) (wire access) (X.exchange_laws access ok counted)
      (customer_laws access ok) wired fresh_table fresh_end fresh run).0

  module _ (w : World (machine access)) (size : ℕ) (a : List ℕ) (h : Handled access w size a) where
    -- a reply goes down, so that the lent output was enough
    room : leb output_least size ≡ true
    room =
        by_bool (leb output_least size ≡ true) (leb output_least size) (λ e. e)
        (λ e.
        let short = done_short access w.table (asked_by w.end) size (leb-false output_least size e) in
        absurd (clash {x = none} {y = some a} (λ z. cc) (sym (ap (λ (d : Done). (sent_down d).1) short) ∙ h.replies)))

    code : Sound access w.end → w.end.request.procedure < 3
    code s =
        let e = w.end in
        sent_three e.operation e.request ((good_rules instances_most p e (reached_good access ok e s.way)).fits h.outstanding).1

  first_reply : FirstReply access
  first_reply w run size a h v q quiet =
      let e = w.end in
      let asked : Asking = asking e.operation e.request in
      let procedure = e.request.procedure in
      let known =
      O.first_reply_known (topic access) (exchange access) (customer access) (wire access) (X.exchange_laws access ok counted)
      (customer_laws access ok) wired fresh_table fresh_end fresh run e.used asked (mark_of e.before) procedure
      (about_asks asked h.interrogates) h.allowed (waits_busy e h.outstanding) h.arrives h.new size (room w size a h)
      v q quiet a h.replies in
      let whole = further (joined (machine access) (further run (handles size (asked_by e) h.arrives)) q) (comes_down a known.0) in
      let now = after (machine access) v (comes_down a known.0) in
      let good = reached_good access ok now.end (sound_at now whole).way in (
        known.0,
        length (entries_shown p now.end procedure),
        shown_known access now.end procedure ok good (code w size a h (sound_at w run)) (mark_known _ known.1),
      )

-- ---- demand 3, of every access record of a counted end

pub demand_3 : (access : List ℕ) → (access_read access).ok ≡ true → (access_read access).profile.counted ≡ 1 → Demand3 access
demand_3 access ok counted = record { equal = known_equals access ok counted; known = first_reply access ok counted }
