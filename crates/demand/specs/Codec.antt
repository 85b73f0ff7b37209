-- The same end and exchange over octets: what the coding layer supplies. Assumes nothing: the laws are a record.
use Rattle.std.specs.Prelude.{ℕ, ◌≡◌, List}
use Rattle.std.proofs.Math.Option.{Option, none, some}
use Rattle.demand.specs.Machine.{Machine}
use Rattle.demand.specs.Rules.{Topic, Saying, Exchange, Customer, answering}

abbrev pub Octets : Type 0
Octets = List ℕ

-- the step functions that the contracts cite, on octets
pub record Wire (S : Topic) (X : Exchange S) (C : Customer S) : Type 1 where
  pub handle : S.Room → X.Table → Octets → X.Table × Option Octets
  pub send : S.Room → C.End → S.Req → Option (C.End × Octets)
  pub receive : C.End → Octets → C.End
  -- how a request and a reply are written
  pub request : ℕ → S.Req → Octets
  pub reply : ℕ → Saying S → Octets
  -- what is a reply to the request under the identifier n
  pub Matching : ℕ → S.Req → Octets → Type 0

abbrev pub octets : (S : Topic) (X : Exchange S) (C : Customer S) → Wire S X C → Machine
octets S X C W = record {
  Table = X.Table;
  End = C.End;
  Req = S.Req;
  Up = Octets;
  Down = Octets;
  Room = S.Room;
  Elsewhere = X.Elsewhere;
  Jolt = C.Jolt;
  handle = W.handle;
  send = W.send;
  receive = W.receive;
  give_up = C.give_up;
  elsewhere = X.elsewhere;
  jolt = C.jolt;
}

abbrev pub written : {E R : Type 0} → (ℕ → R → Octets) → R → Option (E × ℕ) → Option (E × Octets)
written f r none = none
written f r (some s) = some (s.0, f s.1 r)

pub record Wired (S : Topic) (X : Exchange S) (C : Customer S) (W : Wire S X C) : Type 0 where
  pub handles :
      (room : S.Room) (t : X.Table) (n : ℕ) (r : S.Req) → X.Good t → S.Fit n r →
      W.handle room t (W.request n r) ≡ answering (W.reply n) (X.enough room) t (X.serve t n r)
  pub sends : (room : S.Room) (e : C.End) (r : S.Req) → C.Sound e → W.send room e r ≡ written W.request r (C.send room e r)
  pub receives :
      (e : C.End) (n : ℕ) (b : Saying S) (r : S.Req) → C.Sound e → S.Proper n r b → W.receive e (W.reply n b) ≡ C.hear e n b
  pub matches : (n : ℕ) (r : S.Req) (b : Saying S) → S.Proper n r b → W.Matching n r (W.reply n b)
