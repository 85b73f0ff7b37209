-- An end that has sent waits for the answer to what it wrote. Assumes nothing.
use Prim.Native.Nat.{ℕ, ◌<◌, ◌≤◌}
use mathlib.Core.Path.{◌≡◌, refl, sym, ◌∙◌}
use mathlib.Core.Bool.{true}
use mathlib.Core.List.{List}
use native.Mathlib.Omega.{arith}
use lib.IntN.{pos}
use lib.ListN.{length}
use Rattle.refusals.specs.Refusal.{refusal_no, refuses, tells}
use Rattle.refusals.specs.Handling.{handling_told}
use Rattle.std.specs.Prelude.{Result, Ok, Err}
use Rattle.refusals.specs.declared.refusal.Refusal.{Refusal}
use Rattle.refusals.proofs.Refusals.{refuses_not}
use Rattle.profile.specs.Access.{access_read}
use Rattle.requests.specs.Sent.{sendable, request_octets}
use Rattle.requests.specs.declared.request.Request.{Request}
use Rattle.lists.specs.Entries.{instances_most}
use Rattle.end.specs.End.{used_most, end_good}
use Rattle.end.specs.Sending.{sent, Sends, sends, SendsBy}
use Rattle.end.specs.inner.Sending.{WrittenBy, end_after, IdentifierLeft}
use Rattle.end.specs.declared.end.End.{End}
use Rattle.end.proofs.Ends.{used_most_lem}
use Rattle.end.proofs.Steps.{ours, sends_ind}

-- an end that waits for the answer to a request that may be sent, and the octets of that request
pub record Waits (access : List ℕ) (d : Sends) : Type 0 where
  pub ok : (access_read access).ok ≡ true
  pub outstanding : d.end.outstanding ≡ 1
  pub used : d.end.used ≤ used_most
  pub sendable : sendable d.end.operation d.end.request ≡ true
  pub octets : d.octets ≡ request_octets (pos d.end.used) d.end.operation d.end.request

-- where sending is not refused, that is the end afterwards, and what it wrote
pub sends_waits :
    (access : List ℕ) (operation : ℕ) (r : Request) (e : End) (size : ℕ) →
    (sends access operation r e size).told ≡ tells tt → Waits access (sends access operation r e size)
unfolding sent
sends_waits access operation r e size =
    sends_ind access e operation r size (λ d. d.told ≡ tells tt → Waits access d)
    (λ _ h. absurd (refuses_not _ _ h))
    (λ ok good more fit _. record {
      ok = ok;
      outstanding = refl;
      used = omega (arith, used_most_lem instances_most (ours access) e good, more);
      sendable = fit;
      octets = refl;
    })

-- ---- what is told decides the next end

module _ (access : List ℕ) (operation : ℕ) (r : Request) (e : End) (size : ℕ) where
  told_left :
      (outcome : Result ℕ Refusal) → handling_told outcome ≡ (sends access operation r e size).told → IdentifierLeft e outcome
  told_left (Err refusal) is = tt
  told_left (Ok count) is =
      sends_ind access e operation r size (λ d. tells tt ≡ d.told → e.used < used_most)
      (λ _ h. absurd (refuses_not _ _ (sym h)))
      (λ _ good more _ _. omega (arith, used_most_lem instances_most (ours access) e good, more))
      is

  told_end :
      (outcome : Result ℕ Refusal) → handling_told outcome ≡ (sends access operation r e size).told →
      end_after operation r e outcome ≡ (sends access operation r e size).end
  told_end (Err refusal) =
      sends_ind access e operation r size (λ d. refuses (refusal_no refusal) ≡ d.told → e ≡ d.end)
      (λ _ _. refl)
      (λ _ _ _ _ h. absurd (refuses_not _ _ h))
  told_end (Ok count) =
      sends_ind access e operation r size (λ d. tells tt ≡ d.told → sent operation r e ≡ d.end)
      (λ _ h. absurd (refuses_not _ _ (sym h)))
      (λ _ _ _ _ _. refl)

-- what was written is right of every access that is read as well, and by whose profile the end is judged alike
pub written_for :
    (access other : List ℕ) (operation : ℕ) (r : Request) (e : End) (xs : List ℕ) (w : Result ℕ Refusal) (ys : List ℕ) →
    (access_read other).ok ≡ (access_read access).ok →
    end_good instances_most (access_read other).profile e ≡ end_good instances_most (access_read access).profile e →
    WrittenBy (sends access operation r e (length xs)) xs w ys → WrittenBy (sends other operation r e (length xs)) xs w ys
unfolding sends
written_for access other operation r e xs w ys is judged by = rw (is, judged) by

module _ (access : List ℕ) (operation : ℕ) (r : Request) (e : End) (xs : List ℕ) (w : Result ℕ Refusal) (ys : List ℕ)
    (by : WrittenBy (sends access operation r e (length xs)) xs w ys) where
  -- where it was not refused there is an identifier for the end that waits
  pub written_left : IdentifierLeft e w
  written_left = told_left access operation r e (length xs) w by.told

  -- what was written, with the end after it, is what is sent
  pub written_sends :
      (next : End) → next ≡ end_after operation r e w →
      SendsBy (sends access operation r e (length xs)) xs (record { end = next; outcome = w }) ys
  written_sends next is = record {
    end = is ∙ told_end access operation r e (length xs) w by.told;
    told = by.told;
    count = by.count;
    lent = by.lent;
  }
