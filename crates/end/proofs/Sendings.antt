-- The end sends, or refuses: each refusal by its test. Assumes nothing.
use Prim.Native.Nat.{ℕ, suc, ◌<◌, ◌≤◌}
use mathlib.Core.Path.{◌≡◌, sym, ◌∙◌}
use mathlib.Core.Bool.{true, false}
use mathlib.Core.List.{List}
use native.Mathlib.Nat.{zero-add}
use native.Mathlib.Omega.{arith}
use lib.IntN.{ℤ, pos}
use lib.ListN.{length}
use borrow.Author.Tests.{lt-ltb, le-ltb, eq-eqb, ne_eqb}
use Rattle.laws.proofs.Over.{over_nil}
use Rattle.laws.proofs.Picks.{by_bool}
use Rattle.refusals.specs.Refusal.{tells, output_least}
use Rattle.refusals.specs.declared.refusal.Refusal.{Refusal}
use Rattle.refusals.specs.declared.refusal.Refusal.TheVariants.{ShortOutput, BadProfile, BadTable, Outstanding, Exhausted, BadRequest}
use Rattle.std.specs.Prelude.{Ok, Err}
use Rattle.profile.specs.Access.{access_read}
use Rattle.requests.specs.Sent.{sendable, request_octets}
use Rattle.requests.specs.Sending.{PutRequest}
use Rattle.requests.specs.declared.request.Request.{Request}
use Rattle.requests.proofs.Sizes.{request_most, request_size}
use Rattle.requests.proofs.Senders.{sent_whole, sent_not}
use Rattle.lists.specs.Entries.{instances_most}
use Rattle.end.specs.End.{used_most, end_good}
use Rattle.end.specs.Sending.{sent, Sends, not_sent, sends}
use Rattle.end.specs.inner.Sending.{WrittenBy}
use Rattle.end.specs.declared.end.End.{End}

-- what is not refused
abbrev pub sends_of : ℕ → Request → End → Sends
sends_of operation r e = record {
  end = sent operation r e;
  told = tells tt;
  octets = request_octets (pos (suc e.used)) operation r;
}

module _ (access : List ℕ) (operation : ℕ) (r : Request) (e : End) (size : ℕ) where
  pub sends_short : size < output_least → sends access operation r e size ≡ not_sent e ShortOutput
  unfolding sends
  sends_short short = rw (lt-ltb size output_least short)

  module _ (room : output_least ≤ size) where
    pub sends_profile : (access_read access).ok ≡ false → sends access operation r e size ≡ not_sent e BadProfile
    unfolding sends
    sends_profile bad = rw (le-ltb size output_least room, bad)

    module _ (ok : (access_read access).ok ≡ true) where
      pub sends_end :
          end_good instances_most (access_read access).profile e ≡ false → sends access operation r e size ≡ not_sent e BadTable
      unfolding sends
      sends_end bad = rw (le-ltb size output_least room, ok, bad)

      module _ (good : end_good instances_most (access_read access).profile e ≡ true) where
        pub sends_waiting : e.outstanding ≡ 1 → sends access operation r e size ≡ not_sent e Outstanding
        unfolding sends
        sends_waiting h = rw (le-ltb size output_least room, ok, good, eq-eqb e.outstanding 1 h)

        module _ (free : e.outstanding ≡ 1 → ⊥) where
          pub sends_last : e.used ≡ used_most → sends access operation r e size ≡ not_sent e Exhausted
          unfolding sends
          sends_last h = rw (le-ltb size output_least room, ok, good, ne_eqb e.outstanding 1 free, eq-eqb e.used used_most h)

          module _ (more : e.used ≡ used_most → ⊥) where
            pub sends_unfit : sendable operation r ≡ false → sends access operation r e size ≡ not_sent e BadRequest
            unfolding sends
            sends_unfit bad =
                rw (le-ltb size output_least room, ok, good, ne_eqb e.outstanding 1 free, ne_eqb e.used used_most more, bad)

            pub sends_all : sendable operation r ≡ true → sends access operation r e size ≡ sends_of operation r e
            unfolding sends
            sends_all fit =
                rw (le-ltb size output_least room, ok, good, ne_eqb e.outstanding 1 free, ne_eqb e.used used_most more, fit)

-- what is refused writes nothing
pub refused_sends :
    (d : Sends) (e : End) (xs : List ℕ) (refusal : Refusal) →
    d ≡ not_sent e refusal → WrittenBy d xs (Err refusal) xs
refused_sends d e xs refusal is = record {
  told = rw is;
  count = rw is;
  lent = rw is (sym (over_nil xs 0));
}

-- what is not refused is written whole: a request has at most 95 octets
pub all_sends :
    (d : Sends) (operation : ℕ) (r : Request) (e : End) (xs : List ℕ) (n : ℕ) (ys : List ℕ) →
    d ≡ sends_of operation r e → e.used < used_most → output_least ≤ length xs → sendable operation r ≡ true →
    PutRequest xs (pos (suc e.used)) operation r n ys → WrittenBy d xs (Ok n) ys
all_sends d operation r e xs n ys is below room fit put =
    let identifier = pos (suc e.used) in
    let few = request_most identifier operation r (omega arith) fit in
    let whole = sent_whole xs identifier operation r n ys put fit (omega (arith, room, few)) in
    record {
      told = rw is;
      count = rw is (whole.moved ∙ zero-add _);
      lent = rw is whole.holds;
    }

-- where there is room, nothing is written of a request that may not be sent, and of no other
module _ (operation : ℕ) (r : Request) (e : End) (xs : List ℕ) (n : ℕ) (ys : List ℕ) (below : e.used < used_most) (room : output_least ≤ length xs)
    (put : PutRequest xs (pos (suc e.used)) operation r n ys) where
  abbrev identifier : ℤ
  identifier = pos (suc e.used)

  pub unfit_sends : n ≡ 0 → (sendable operation r ≡ false) × (ys ≡ xs)
  unfit_sends none =
      by_bool ((sendable operation r ≡ false) × (ys ≡ xs)) (sendable operation r)
      (λ fit.
      let few = request_most identifier operation r (omega arith) fit in
      let whole = sent_whole xs identifier operation r n ys put fit (omega (arith, room, few)) in
      absurd (omega (arith, none, whole.moved, request_size identifier operation r (omega arith) fit)))
      (λ unfit. (unfit, (sent_not xs identifier operation r n ys put unfit).1))

  pub fit_sends : (n ≡ 0 → ⊥) → sendable operation r ≡ true
  fit_sends some =
      by_bool (sendable operation r ≡ true) (sendable operation r) (λ fit. fit)
      (λ unfit. absurd (some (sent_not xs identifier operation r n ys put unfit).0))
