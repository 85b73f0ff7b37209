-- Demand 3: "Counted end and exchange, fresh, one profile, a path that loses, repeats, delays, reorders: at every moment each procedure
-- shown as known equals the exchange's table; and a whole interrogation that is handled, whose result is the first matching reply to
-- come, makes its procedure known." Over octets, by the definitions that the promises of `End` and `Table::arrive` cite.
use Rattle.std.specs.Prelude.{ℕ, ◌<◌, ◌≡◌, Bool, true, false, List, [], ◌∷◌, map, ◌⊎◌, pos, length, eqb}
use Rattle.std.proofs.Math.Option.{Option, none, some}
use Rattle.laws.specs.Pick.{pick}
use Rattle.laws.specs.Tests.{all}
use Rattle.refusals.specs.Refusal.{Told, refuses, tells}
use Rattle.codes.specs.Codes.{interrogation}
use Rattle.numbers.specs.Number.{most}
use Rattle.profile.specs.Access.{access_read}
use Rattle.profile.specs.declared.profile.Profile.{Profile}
use Rattle.requests.specs.Sent.{request_octets}
use Rattle.requests.specs.declared.request.Request.{Request}
use Rattle.lists.specs.Entries.{tidy_entries}
use Rattle.lists.specs.declared.entry.Entry.{Entry}
use Rattle.instances.specs.Run.{instances_of, listed, entry_for}
use Rattle.rules.specs.Judge.{not_in_use, is_subscribed, has_all_numbers}
use Rattle.answers.specs.Answer.{Answered}
use Rattle.answers.specs.Reply.{reply}
use Rattle.answers.specs.declared.reply.Reply.TheVariants.{Dropped}
use Rattle.exchange.specs.Table.{fresh_table}
use Rattle.exchange.specs.Arrive.{Done, done}
use Rattle.exchange.specs.declared.table.Table.{Table}
use Rattle.end.specs.End.{fresh_end}
use Rattle.end.specs.Listed.{every_of}
use Rattle.end.specs.Sending.{Sends, sends}
use Rattle.end.specs.Taking.{takes, gives_up}
use Rattle.end.specs.Shown.{seen_known, shown, entries_out}
use Rattle.end.specs.declared.end.End.{End}
use Rattle.demand.specs.Machine as events
use Rattle.demand.specs.Machine.{In, Machine, World, handles, comes_down, after, start, Trace, Quiet}

-- ---- the end, the exchange and the path between them

-- what the end is asked to send
pub record Asking : Type 0 where
  pub operation : ℕ
  pub request : Request

-- a record's arrays of digits have their twenty places, as every record that a program holds
unfoldable pub sized : Request → Bool
sized r = all (eqb (length r.served.number.digits) most ∷ eqb (length r.to.address.number.digits) most ∷ [])

-- what a refusal leaves unwritten does not go up
abbrev pub goes_up : End → List ℕ → Told (Unit {0}) → Option (End × List ℕ)
goes_up e s (refuses number) = none
goes_up e s (tells _) = some (e, s)

abbrev pub sent_up : Sends → Option (End × List ℕ)
sent_up d = goes_up d.end d.octets d.told

-- neither a refusal nor silence goes down
abbrev pub goes_down : List ℕ → Told Answered → Option (List ℕ)
goes_down s (refuses number) = none
goes_down s (tells a) = pick (eqb a.number 0) none (some s)

abbrev pub sent_down : Done → Table × Option (List ℕ)
sent_down d = (d.table, goes_down d.octets d.told)

-- every event is a step of the promised functions, with any output lent to it; what is refused changes nothing
abbrev pub machine : List ℕ → Machine
machine access = record {
  Table = Table;
  End = End;
  Req = Asking;
  Up = List ℕ;
  Down = List ℕ;
  Room = ℕ;
  Elsewhere = ⊥;
  Jolt = ⊥;
  handle = λ size t s. sent_down (done access t s size);
  send = λ size e a. pick (sized a.request) (sent_up (sends access a.operation a.request e size)) none;
  receive = λ e s. (takes access e s).end;
  give_up = λ e. (gives_up access e).end;
  elsewhere = λ t _. t;
  jolt = λ e _. e;
}

abbrev pub begin : (access : List ℕ) → World (machine access)
begin access = start (machine access) fresh_table fresh_end

-- ---- the first sentence

-- the entries of a procedure in a table, as an interrogation's result has them
abbrev pub entries_held : List ℕ → Table → ℕ → List Entry
entries_held access t procedure =
    map (entry_for (access_read access).profile.numbers) (listed (every_of procedure) (instances_of t.run))

-- "at every moment each procedure shown as known equals the exchange's table": the entries handed out are those that the table holds,
-- number, service and address, each as it is meant: with zeros where a record carries no meaning
abbrev pub KnownEquals : List ℕ → Type 0
KnownEquals access =
    (w : World (machine access)) → Trace (machine access) (begin access) w →
    (procedure count : ℕ) → shown access w.end procedure ≡ tells (seen_known count) →
    tidy_entries (entries_out access w.end procedure) ≡ tidy_entries (entries_held access w.table procedure)

-- ---- the second sentence

-- whether the profile allows a whole interrogation: it is "in use", the procedure is subscribed, and MSN is no or the "all numbers"
-- option yes
pub record WholeAllowed (p : Profile) (procedure : ℕ) : Type 0 where
  pub used : not_in_use p ≡ false
  pub subscribed : is_subscribed p procedure ≡ true
  pub whole : (p.msn ≡ 0) ⊎ (has_all_numbers p ≡ true)

-- a component is a reply to what the end waits for: anything else is dropped
abbrev pub Replies : End → List ℕ → Type 0
Replies e s = ¬ (reply (pos e.used) e.operation s ≡ Dropped)

-- the octets of the request that the end waits for
abbrev pub asked_by : End → List ℕ
asked_by e = request_octets (pos e.used) e.operation e.request

-- An interrogation is outstanding at the moment w, for a procedure that the profile allows; what the end wrote arrives at the exchange,
-- which has handled no such identifier yet, and replies with the octets a.
pub record Handled (access : List ℕ) (w : World (machine access)) (size : ℕ) (a : List ℕ) : Type 0 where
  pub outstanding : w.end.outstanding ≡ 1
  pub interrogates : w.end.operation ≡ interrogation
  pub allowed : WholeAllowed (access_read access).profile w.end.request.procedure
  pub arrives : In (asked_by w.end) w.up
  pub new : w.table.last < w.end.used
  pub replies : ((machine access).handle size w.table (asked_by w.end)).1 ≡ some a

-- "a whole interrogation that is handled, whose result is the first matching reply to come, makes its procedure known": after the
-- exchange has handled it the end hears no reply to it and does not give up, and then the octets a arrive
abbrev pub FirstReply : List ℕ → Type 0
FirstReply access =
    (w : World (machine access)) → Trace (machine access) (begin access) w →
    (size : ℕ) (a : List ℕ) (h : Handled access w size a) →
    (v : World (machine access)) (q : Trace (machine access) (after (machine access) w (handles size (asked_by w.end) h.arrives)) v) →
    Quiet (machine access) (Replies w.end) q →
    (j : In a v.down) × (count : ℕ) ×
    (shown access (after (machine access) v (comes_down a j)).end w.end.request.procedure ≡ tells (seen_known count))

-- ---- demand 3

pub record Demand3 (access : List ℕ) : Type 0 where
  pub equal : KnownEquals access
  pub known : FirstReply access

-- ---- "A local refusal hands the table or picture back unchanged, writes nothing"

-- an event that is refused leaves both records and all that is on its way as they were
pub record RefusedStays (access : List ℕ) : Type 0 where
  pub sending :
      (w : World (machine access)) (size : ℕ) (a : Asking) (n : ℕ) →
      (sends access a.operation a.request w.end size).told ≡ refuses n →
      after (machine access) w (events.sends_up size a) ≡ w
  pub handling :
      (w : World (machine access)) (size : ℕ) (s : List ℕ) (i : In s w.up) (n : ℕ) →
      (done access w.table s size).told ≡ refuses n →
      after (machine access) w (handles size s i) ≡ w
  pub hearing :
      (w : World (machine access)) (s : List ℕ) (i : In s w.down) (n : ℕ) →
      (takes access w.end s).told ≡ refuses n →
      after (machine access) w (comes_down s i) ≡ w
  pub giving :
      (w : World (machine access)) (n : ℕ) → (gives_up access w.end).told ≡ refuses n →
      after (machine access) w events.end_gives_up ≡ w
