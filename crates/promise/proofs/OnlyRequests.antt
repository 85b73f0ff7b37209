-- Each promise of the crate requests admits one answer. Assumes nothing.
use Prim.Native.Nat.{ℕ}
use mathlib.Core.Path.{◌≡◌}
use mathlib.Core.Bool.{Bool}
use mathlib.Core.List.{List}
use lib.IntN.{ℤ}
use Rattle.laws.proofs.Picks.{both}
use Rattle.requests.proofs.Numbers.{hears_is}
use Rattle.requests.specs.Heard.{Hears, ReplyTag}
use Rattle.requests.specs.Request.{ArgumentAt, BlankRequest}
use Rattle.requests.specs.declared.heard.Heard.{Heard}
use Rattle.requests.specs.declared.heard.Operation.{Operation}
use Rattle.std.specs.Prelude.{Option}
use Rattle.requests.specs.declared.request.Request.{Request}
use Rattle.requests.specs.Sending.{IsSendable, PutRequest}

pub only_hear : (s : List ℕ) {a b : Heard} → Hears s a → Hears s b → a ≡ b
only_hear s a b = both (hears_is a) (hears_is b)

pub only_argument_at :
    (operation : Operation) (s : List ℕ) (at end : ℕ) {a b : Option Request} → ArgumentAt operation s at end a →
    ArgumentAt operation s at end b →
    a ≡ b
only_argument_at operation s at end = both

pub only_reply_tag : (tag : ℕ) {a b : Bool} → ReplyTag tag a → ReplyTag tag b → a ≡ b
only_reply_tag tag = both

pub only_put_request :
    (xs : List ℕ) (identifier : ℤ) (operation : ℕ) (r : Request) {m n : ℕ} {ys zs : List ℕ} →
    PutRequest xs identifier operation r m ys →
    PutRequest xs identifier operation r n zs →
    (m ≡ n) × (ys ≡ zs)
only_put_request xs identifier operation r a b = (both a.counted b.counted, both a.holds b.holds)

pub only_blank_request : {a b : Request} → BlankRequest a → BlankRequest b → a ≡ b
only_blank_request = both

pub only_is_sendable :
    (operation : ℕ) (r : Request) {a b : Bool} → IsSendable operation r a → IsSendable operation r b → a ≡ b
only_is_sendable operation r = both
