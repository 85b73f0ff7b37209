-- The end and the exchange of an access record as demand 3 sees them (crates/demand): what is held of a procedure, what a request is about,
-- what a reply says. Assumes nothing.
use Prim.Native.Nat.{ℕ, suc, ◌≤◌}
use mathlib.Core.Path.{◌≡◌, sym, ap, ◌∙◌}
use mathlib.Core.Bool.{true, false}
use mathlib.Core.List.{List, []}
use mathlib.Core.Option.{Option, none, some}
use mathlib.Core.Logic.{◌⊎◌, inl, inr}
use native.Mathlib.Omega.{arith}
use lib.IntN.{pos}
use lib.ListN.{length}
use lib.Dec.{leb, eqb}
use borrow.Author.Tests.{eq-eqb, ne_eqb, eqb-true, eqb-false}
use Rattle.laws.specs.Pick.{pick}
use Rattle.laws.specs.Mark.{Mark, known, doubt, mark_no}
use Rattle.laws.proofs.Picks.{by_bool}
use Rattle.refusals.specs.Refusal.{Told, refuses, tells, output_least, component_most}
use Rattle.codes.specs.Codes.{interrogation}
use Rattle.profile.specs.Access.{access_read}
use Rattle.profile.specs.declared.profile.Profile.{Profile}
use Rattle.requests.specs.Sent.{sendable, request_octets}
use Rattle.requests.specs.declared.request.Request.{Request}
use Rattle.lists.specs.Entries.{instances_most, tidy_entries}
use Rattle.lists.specs.declared.entry.Entry.{Entry}
use Rattle.instances.specs.Run.{instances_of}
use Rattle.instances.specs.declared.instance.Instance.{Instance}
use Rattle.rules.specs.Judge.{judge, changed}
use Rattle.answers.specs.Answer.{answer_octets}
use Rattle.answers.specs.Reply.{reply}
use Rattle.answers.specs.declared.answer.Answer.{Answer}
use Rattle.answers.specs.declared.answer.Answer.TheVariants as answer
use Rattle.answers.specs.declared.answer.Problem.{Problem}
use Rattle.answers.specs.declared.answer.Whose.TheVariants.{Own}
use Rattle.answers.specs.declared.reply.Reply.TheVariants.{Dropped}
use Rattle.exchange.specs.Table.{table_good}
use Rattle.exchange.specs.Step.{Step, step}
use Rattle.exchange.specs.Arrive.{done}
use Rattle.exchange.specs.declared.table.Table.{Table}
use Rattle.end.specs.End.{mark_at}
use Rattle.end.specs.Sending.{sends}
use Rattle.end.specs.Taking.{takes, gives_up}
use Rattle.end.specs.declared.end.End.{End}
use Rattle.end.proofs.Goods.{Reached}
use Rattle.demand.specs.Rules as rules
use Rattle.demand.specs.Rules.{About, Body, says_list, says_error, says_reject, garbled, Waiting, idle, awaiting, Topic, Exchange, Customer}
use Rattle.demand.specs.Codec.{Wire}
use Rattle.promise.specs.AnswerBack.{SaysBack}
use Rattle.promise.specs.Demand.{Asking, sized, sent_up, sent_down, WholeAllowed}
use Rattle.promise.proofs.DemandLists.{held_of}
use Rattle.rules.proofs.Tidied.{Sized}
use Rattle.promise.proofs.DemandReads.{read_on}

-- ---- requests and replies

abbrev pub asking : ℕ → Request → Asking
asking operation r = record { operation = operation; request = r }

abbrev pub about_of : Asking → About ℕ
about_of a = pick (eqb a.operation interrogation) (rules.asks_for a.request.procedure) (rules.changes a.request.procedure)

abbrev granted : {A : Type 0} → Option ℕ → A → Option A
granted none x = some x
granted (some error) x = none

-- a change, on what is held of its procedure
unfoldable pub applied_to : Profile → Asking → List Instance → Option (List Instance)
applied_to p a is =
    granted (judge instances_most p a.operation a.request is)
    (held_of a.request.procedure (changed p a.operation a.request is))

abbrev pub Said : Type 0
Said = Body (List Entry) Problem

-- the answer of the identifier n that says it, and its entries
abbrev pub answer_of : ℕ → Said → Answer
answer_of n rules.says_done = answer.Result (pos n)
answer_of n (says_list es) = answer.Listing (pos n)
answer_of n (says_error value) = answer.Error (pos n) value
answer_of n (says_reject problem) = answer.Reject (Own (pos n)) problem
answer_of n garbled = answer.Silence

abbrev pub entries_said : Said → List Entry
entries_said rules.says_done = []
entries_said (says_list es) = es
entries_said (says_error value) = []
entries_said (says_reject problem) = []
entries_said garbled = []

abbrev pub said_octets : ℕ → Said → List ℕ
said_octets n b = answer_octets (answer_of n b) (entries_said b)

-- and what an answer says
abbrev pub said_by : Answer → List Entry → Said
said_by answer.Silence es = garbled
said_by (answer.Reject whose problem) es = says_reject problem
said_by (answer.Error identifier value) es = says_error value
said_by (answer.Result identifier) es = rules.says_done
said_by (answer.Listing identifier) es = says_list es

-- a request that the end sends under the identifier n
pub record Fit (n : ℕ) (a : Asking) : Type 0 where
  pub high : n ≤ 32767
  pub goes : sendable a.operation a.request ≡ true
  pub sizes : Sized a.request

-- a reply of the exchange to it
pub record Proper (n : ℕ) (a : Asking) (b : Said) : Type 0 where
  pub short : length (said_octets n b) ≤ component_most
  pub back : SaysBack (pos n) a.operation (said_octets n b) (answer_of n b) (entries_said b)

-- ---- the end

abbrev pub mark_of : ℕ → Mark
mark_of mark = pick (eqb mark (mark_no known)) known doubt

unfoldable pub waiting_of : End → Waiting Asking
waiting_of e = pick (eqb e.outstanding 1) (awaiting e.used (asking e.operation e.request) (mark_of e.before)) idle

abbrev pub number_up : End → Told (Unit {0}) → Option (End × ℕ)
number_up e (refuses number) = none
number_up e (tells _) = some (e, e.used)

unfoldable pub sending : List ℕ → ℕ → End → Asking → Option (End × ℕ)
sending access size e a =
    pick (sized a.request)
    (number_up (sends access a.operation a.request e size).end (sends access a.operation a.request e size).told)
    none

-- it was reached from a fresh one, and what is outstanding has arrays of their sizes
pub record Sound (access : List ℕ) (e : End) : Type 0 where
  pub way : Reached access e
  pub sizes : e.outstanding ≡ 1 → Sized e.request

-- ---- both, and their octets

abbrev pub octets_asked : ℕ → Asking → List ℕ
octets_asked n a = request_octets (pos n) a.operation a.request

abbrev pub stepped : List ℕ → Table → ℕ → Asking → Step
stepped access t n a = step (access_read access).profile t (octets_asked n a)

abbrev pub topic : List ℕ → Topic
topic access = record {
  Proc = ℕ;
  Pic = List Instance;
  Req = Asking;
  Listing = List Entry;
  Problem = Problem;
  Room = ℕ;
  about = about_of;
  Allows = WholeAllowed (access_read access).profile;
  apply = applied_to (access_read access).profile;
  read = λ procedure es. read_on (access_read access).profile procedure (tidy_entries es);
  Fit = Fit;
  Proper = Proper;
}

abbrev pub exchange : (access : List ℕ) → Exchange (topic access)
exchange access = record {
  Table = Table;
  Elsewhere = ⊥;
  last = λ t. t.last;
  held = λ t procedure. held_of procedure (instances_of t.run);
  enough = λ size. leb output_least size;
  serve = λ t n a. ((stepped access t n a).next, said_by (stepped access t n a).answer (stepped access t n a).entries);
  elsewhere = λ t o. t;
  Good = λ t. table_good instances_most (access_read access).profile t ≡ true;
}

abbrev pub customer : (access : List ℕ) → Customer (topic access)
customer access = record {
  End = End;
  Jolt = ⊥;
  mark = λ e procedure. mark_of (mark_at procedure e.marks);
  pic = λ e procedure. held_of procedure (instances_of e.picture);
  waiting = waiting_of;
  next = λ e. suc e.used;
  send = sending access;
  hear = λ e n b. (takes access e (said_octets n b)).end;
  give_up = λ e. (gives_up access e).end;
  jolt = λ e j. e;
  Sound = Sound access;
}

abbrev pub wire : (access : List ℕ) → Wire (topic access) (exchange access) (customer access)
wire access = record {
  handle = λ size t s. sent_down (done access t s size);
  send = λ size e a. pick (sized a.request) (sent_up (sends access a.operation a.request e size)) none;
  receive = λ e s. (takes access e s).end;
  request = octets_asked;
  reply = said_octets;
  Matching = λ n a s. ¬ (reply (pos n) a.operation s ≡ Dropped);
}

-- ---- plain facts of them

pub clash : {A : Type 0} {x y : A} → (x ≡ y → ◌≡◌ {A = ℕ} 0 1) → ¬ (x ≡ y)
clash f q = let z = f q in omega arith

-- a mark that says known
pub mark_known : (mark : ℕ) → mark_of mark ≡ known → mark ≡ mark_no known
mark_known mark h =
    by_bool (mark ≡ mark_no known) (eqb mark (mark_no known)) (λ e. eqb-true mark (mark_no known) e)
    (λ e. absurd (clash {x = doubt} {y = known} (λ z. cc) (sym (rw e) ∙ h)))

pub known_mark : (mark : ℕ) → mark ≡ mark_no known → mark_of mark ≡ known
known_mark mark h = rw (eq-eqb mark (mark_no known) h)

module _ (a : Asking) where
  pub about_asks : a.operation ≡ interrogation → about_of a ≡ rules.asks_for a.request.procedure
  about_asks h = rw (eq-eqb a.operation interrogation h)

  pub about_changes : eqb a.operation interrogation ≡ false → about_of a ≡ rules.changes a.request.procedure
  about_changes h = rw h

  pub about_one : (about_of a ≡ rules.changes a.request.procedure) ⊎ (about_of a ≡ rules.asks_for a.request.procedure)
  about_one =
      by_bool _ (eqb a.operation interrogation)
      (λ h. inr (about_asks (eqb-true a.operation interrogation h))) (λ h. inl (about_changes h))

  -- what is about asking is an interrogation, of that procedure
  pub asks_is : (P : ℕ) → about_of a ≡ rules.asks_for P → (a.operation ≡ interrogation) × (a.request.procedure ≡ P)
  asks_is P h =
      by_bool _ (eqb a.operation interrogation)
      (λ e.
      let o = eqb-true a.operation interrogation e in
      let z : rules.asks_for a.request.procedure ≡ rules.asks_for P = sym (about_asks o) ∙ h in
      (o, cc))
      (λ e. absurd (clash {x = rules.changes a.request.procedure} {y = rules.asks_for P} (λ z. cc) (sym (about_changes e) ∙ h)))

  pub changes_is : (P : ℕ) → about_of a ≡ rules.changes P → (a.operation ≡ interrogation → ⊥) × (a.request.procedure ≡ P)
  changes_is P h =
      by_bool _ (eqb a.operation interrogation)
      (λ e.
      let o = eqb-true a.operation interrogation e in
      absurd (clash {x = rules.asks_for a.request.procedure} {y = rules.changes P} (λ z. cc) (sym (about_asks o) ∙ h)))
      (λ e.
      let z : rules.changes a.request.procedure ≡ rules.changes P = sym (about_changes e) ∙ h in
      (eqb-false a.operation interrogation e, cc))

module _ (e : End) where
  pub waits_idle : (e.outstanding ≡ 1 → ⊥) → waiting_of e ≡ idle
  unfolding waiting_of
  waits_idle free = rw (ne_eqb e.outstanding 1 free)

  pub waits_busy : e.outstanding ≡ 1 → waiting_of e ≡ awaiting e.used (asking e.operation e.request) (mark_of e.before)
  unfolding waiting_of
  waits_busy waits = rw (eq-eqb e.outstanding 1 waits)

  pub record Busy (n : ℕ) (a : Asking) (m : Mark) : Type 0 where
    pub waits : e.outstanding ≡ 1
    pub used : e.used ≡ n
    pub asks : asking e.operation e.request ≡ a
    pub before : mark_of e.before ≡ m

  pub busy_is : (n : ℕ) (a : Asking) (m : Mark) → waiting_of e ≡ awaiting n a m → Busy n a m
  busy_is n a m h =
      by_bool (Busy n a m) (eqb e.outstanding 1)
      (λ t.
      let w = eqb-true e.outstanding 1 t in
      let z : awaiting e.used (asking e.operation e.request) (mark_of e.before) ≡ awaiting n a m = sym (waits_busy w) ∙ h in
      record { waits = w; used = cc; asks = ap asked z; before = cc })
      (λ t. absurd (clash {x = idle} {y = awaiting n a m} (λ z. cc) (sym (waits_idle (eqb-false e.outstanding 1 t)) ∙ h)))
    where
      asked : Waiting Asking → Asking
      asked idle = a
      asked (awaiting k x o) = x
