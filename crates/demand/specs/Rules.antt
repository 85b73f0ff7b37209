-- An end and an exchange over messages: what demand 3 asks of their step functions, as records of laws. Assumes nothing.
use Rattle.std.specs.Prelude.{ℕ, ◌≤◌, ◌<◌, ◌≡◌, Bool, true, false, ◌⊎◌}
use Rattle.std.proofs.Math.Option.{Option, none, some}
use Rattle.laws.specs.Mark.{Mark, known}
use Rattle.demand.specs.Machine.{Machine}

-- what a request is about: it changes a procedure (activation, deactivation) or asks for one (interrogation)
pub data About (Proc : Type 0) : Type 0 where
  changes : Proc → About Proc
  asks_for : Proc → About Proc

-- what a reply says: a result without a list, a result with one, an error with its value, a reject with its problem; or nothing that its
-- shape allows
pub data Body (Listing Problem : Type 0) : Type 0 where
  says_done : Body Listing Problem
  says_list : Listing → Body Listing Problem
  says_error : ℕ → Body Listing Problem
  says_reject : Problem → Body Listing Problem
  garbled : Body Listing Problem

-- a result or an error: the request was handled
abbrev pub WasHandled : {L P : Type 0} → Body L P → Type 0
WasHandled says_done = Unit {0}
WasHandled (says_list l) = Unit {0}
WasHandled (says_error x) = Unit {0}
WasHandled (says_reject x) = ⊥
WasHandled garbled = ⊥

-- the end's outstanding request: its identifier, itself, and its procedure's mark from before it was sent
pub data Waiting (Req : Type 0) : Type 0 where
  idle : Waiting Req
  awaiting : ℕ → Req → Mark → Waiting Req

-- What is spoken of: procedures, what is held of one, requests, and what replies carry. `Fit` is what the end sends, `Proper` what the
-- exchange replies to it, under an identifier.
pub record Topic : Type 1 where
  pub Proc : Type 0
  pub Pic : Type 0
  pub Req : Type 0
  pub Listing : Type 0
  pub Problem : Type 0
  pub Room : Type 0
  pub about : Req → About Proc
  pub Allows : Proc → Type 0
  pub apply : Req → Pic → Option Pic
  pub read : Proc → Listing → Option Pic
  pub Fit : ℕ → Req → Type 0
  pub Proper : ℕ → Req → Body Listing Problem → Type 0

abbrev pub Saying : Topic → Type 0
Saying S = Body S.Listing S.Problem

pub record Exchange (S : Topic) : Type 1 where
  pub Table : Type 0
  pub Elsewhere : Type 0
  pub last : Table → ℕ
  pub held : Table → S.Proc → S.Pic
  -- whether the lent output is enough: with less nothing happens
  pub enough : S.Room → Bool
  pub serve : Table → ℕ → S.Req → Table × Saying S
  pub elsewhere : Table → Elsewhere → Table
  pub Good : Table → Type 0

pub record Customer (S : Topic) : Type 1 where
  pub End : Type 0
  pub Jolt : Type 0
  pub mark : End → S.Proc → Mark
  pub pic : End → S.Proc → S.Pic
  pub waiting : End → Waiting S.Req
  pub next : End → ℕ
  pub send : S.Room → End → S.Req → Option (End × ℕ)
  pub hear : End → ℕ → Saying S → End
  pub give_up : End → End
  pub jolt : End → Jolt → End
  pub Sound : End → Type 0

-- the exchange handles a request whose identifier is above the last handled one
pub record Served (S : Topic) (X : Exchange S) (t : X.Table) (n : ℕ) (r : S.Req) (t' : X.Table) (b : Saying S) : Type 0 where
  pub moves : X.last t' ≡ n
  pub others : (P : S.Proc) → ¬ (S.about r ≡ changes P) → X.held t' P ≡ X.held t P
  pub on_failed : (x : ℕ) → b ≡ says_error x → (P : S.Proc) → X.held t' P ≡ X.held t P
  pub on_done :
      b ≡ says_done → (P : S.Proc) → S.about r ≡ changes P → (T : S.Pic) → S.apply r (X.held t P) ≡ some T → T ≡ X.held t' P
  pub on_listed : (l : S.Listing) → b ≡ says_list l → (P : S.Proc) → S.about r ≡ asks_for P → S.read P l ≡ some (X.held t P)
  pub on_allowed : (P : S.Proc) → S.about r ≡ asks_for P → S.Allows P → (l : S.Listing) × (b ≡ says_list l)

-- the end sends a request under the identifier n
pub record Sent (S : Topic) (C : Customer S) (e : C.End) (r : S.Req) (e' : C.End) (n : ℕ) : Type 0 where
  pub free : C.waiting e ≡ idle
  pub new : C.next e ≤ n
  pub used : n < C.next e'
  pub before : Mark
  pub waits : C.waiting e' ≡ awaiting n r before
  pub before_is : (P : S.Proc) → (S.about r ≡ changes P) ⊎ (S.about r ≡ asks_for P) → before ≡ C.mark e P
  pub pics : (P : S.Proc) → C.pic e' P ≡ C.pic e P
  pub stays : (P : S.Proc) → C.mark e' P ≡ known → (C.mark e P ≡ known) × ¬ (S.about r ≡ changes P)
  pub asked : (P : S.Proc) → S.about r ≡ asks_for P → C.mark e' P ≡ C.mark e P
  pub fits : S.Fit n r

-- the end closes what was outstanding and knows no more than before: giving up, a jolt
pub record Shed (S : Topic) (C : Customer S) (e e' : C.End) : Type 0 where
  pub free : C.waiting e' ≡ idle
  pub grows : C.next e ≤ C.next e'
  pub stays : (P : S.Proc) → C.mark e' P ≡ known → (C.mark e P ≡ known) × (C.pic e' P ≡ C.pic e P)

-- why a procedure is known after the reply (n, b)
pub data Why (S : Topic) (C : Customer S) (e : C.End) (n : ℕ) (b : Saying S) (e' : C.End) (P : S.Proc) : Type 0 where
  was_known : C.mark e P ≡ known → C.pic e' P ≡ C.pic e P → Why S C e n b e' P
  by_error :
      (r : S.Req) (x : ℕ) → C.waiting e ≡ awaiting n r known → (S.about r ≡ changes P) ⊎ (S.about r ≡ asks_for P) → b ≡ says_error x →
      C.pic e' P ≡ C.pic e P → Why S C e n b e' P
  by_result :
      (r : S.Req) → C.waiting e ≡ awaiting n r known → S.about r ≡ changes P → b ≡ says_done →
      S.apply r (C.pic e P) ≡ some (C.pic e' P) → Why S C e n b e' P
  by_list :
      (r : S.Req) (m : Mark) (l : S.Listing) → C.waiting e ≡ awaiting n r m → S.about r ≡ asks_for P → b ≡ says_list l →
      S.read P l ≡ some (C.pic e' P) → Why S C e n b e' P

pub record ExchangeLaws (S : Topic) (X : Exchange S) : Type 0 where
  pub repeats :
      (t : X.Table) (n : ℕ) (r : S.Req) → X.Good t → S.Fit n r → n ≤ X.last t →
      (x : S.Problem) × (X.serve t n r ≡ (t, says_reject x))
  pub serves :
      (t : X.Table) (n : ℕ) (r : S.Req) → X.Good t → S.Fit n r → X.last t < n →
      Served S X t n r (X.serve t n r).0 (X.serve t n r).1
  pub serve_good : (t : X.Table) (n : ℕ) (r : S.Req) → X.Good t → S.Fit n r → X.Good (X.serve t n r).0
  pub serve_proper : (t : X.Table) (n : ℕ) (r : S.Req) → X.Good t → S.Fit n r → S.Proper n r (X.serve t n r).1
  pub else_good : (t : X.Table) (o : X.Elsewhere) → X.Good t → X.Good (X.elsewhere t o)
  pub else_last : (t : X.Table) (o : X.Elsewhere) → X.last (X.elsewhere t o) ≡ X.last t
  pub else_held : (t : X.Table) (o : X.Elsewhere) (P : S.Proc) → X.held (X.elsewhere t o) P ≡ X.held t P

-- a reply to the request that is outstanding, and one to any other
module _ (S : Topic) (C : Customer S) (e : C.End) (n : ℕ) (b : Saying S) where
  pub record Hit (r : S.Req) (m : Mark) : Type 0 where
    pub sound : C.Sound e
    pub waits : C.waiting e ≡ awaiting n r m
    pub proper : S.Proper n r b

  pub record Miss (r : S.Req) : Type 0 where
    pub sound : C.Sound e
    pub other : (q : S.Req) (m : Mark) → ¬ (C.waiting e ≡ awaiting n q m)
    pub proper : S.Proper n r b

pub record CustomerLaws (S : Topic) (C : Customer S) : Type 0 where
  pub sends :
      (room : S.Room) (e : C.End) (r : S.Req) (s : C.End × ℕ) → C.Sound e → C.send room e r ≡ some s →
      Sent S C e r s.0 s.1
  pub send_sound :
      (room : S.Room) (e : C.End) (r : S.Req) (s : C.End × ℕ) → C.Sound e → C.send room e r ≡ some s → C.Sound s.0
  pub hear_why :
      (e : C.End) (n : ℕ) (b : Saying S) (r : S.Req) (m : Mark) → Hit S C e n b r m →
      (P : S.Proc) → C.mark (C.hear e n b) P ≡ known → Why S C e n b (C.hear e n b) P
  pub hear_grows : (e : C.End) (n : ℕ) (b : Saying S) → C.next e ≤ C.next (C.hear e n b)
  pub hear_closes : (e : C.End) (n : ℕ) (b : Saying S) (r : S.Req) (m : Mark) → Hit S C e n b r m → C.waiting (C.hear e n b) ≡ idle
  pub hear_drops : (e : C.End) (n : ℕ) (b : Saying S) (r : S.Req) → Miss S C e n b r → C.hear e n b ≡ e
  pub hear_learns :
      (e : C.End) (n : ℕ) (l : S.Listing) (r : S.Req) (m : Mark) → Hit S C e n (says_list l) r m →
      (P : S.Proc) (T : S.Pic) → S.about r ≡ asks_for P → S.read P l ≡ some T → C.mark (C.hear e n (says_list l)) P ≡ known
  pub hear_sound : (e : C.End) (n : ℕ) (b : Saying S) → C.Sound e → C.Sound (C.hear e n b)
  pub give_up_lem : (e : C.End) → C.Sound e → Shed S C e (C.give_up e)
  pub give_up_sound : (e : C.End) → C.Sound e → C.Sound (C.give_up e)
  pub jolts : (e : C.End) (j : C.Jolt) → C.Sound e → Shed S C e (C.jolt e j)
  pub jolt_sound : (e : C.End) (j : C.Jolt) → C.Sound e → C.Sound (C.jolt e j)

-- a fresh end and a fresh exchange
pub record Fresh (S : Topic) (X : Exchange S) (C : Customer S) (t : X.Table) (e : C.End) : Type 0 where
  pub good : X.Good t
  pub sound : C.Sound e
  pub free : C.waiting e ≡ idle
  pub above : X.last t < C.next e
  pub same : (P : S.Proc) → C.pic e P ≡ X.held t P

-- ---- the machine of messages: requests and replies with their identifiers

unfoldable pub numbered : {E R : Type 0} → R → Option (E × ℕ) → Option (E × (ℕ × R))
numbered r none = none
numbered r (some s) = some (s.0, (s.1, r))

-- what was served, where the output is enough, goes down as f writes it
abbrev pub answering : {T B D : Type 0} → (B → D) → Bool → T → T × B → T × Option D
answering f true t x = (x.0, some (f x.1))
answering f false t x = (t, none)

abbrev pub messages : (S : Topic) → Exchange S → Customer S → Machine
messages S X C = record {
  Table = X.Table;
  End = C.End;
  Req = S.Req;
  Up = ℕ × S.Req;
  Down = ℕ × Saying S;
  Room = S.Room;
  Elsewhere = X.Elsewhere;
  Jolt = C.Jolt;
  handle = λ room t c. answering (λ b. (c.0, b)) (X.enough room) t (X.serve t c.0 c.1);
  send = λ room e r. numbered r (C.send room e r);
  receive = λ e c. C.hear e c.0 c.1;
  give_up = C.give_up;
  elsewhere = X.elsewhere;
  jolt = C.jolt;
}
