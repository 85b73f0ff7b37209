-- Private elements after the last known element of an argument change nothing, and nothing else may follow it: "After the last known
-- element of an argument, elements with a private-class tag are skipped (house)" (document 01, "Reading a component"). Assumes nothing.
use Prim.Native.Nat.{ℕ, ◌+◌, ◌<◌}
use mathlib.Core.Path.{◌≡◌, refl, ◌∙◌}
use mathlib.Core.List.{List, ◌++◌}
use native.Mathlib.Omega.{arith}
use lib.IntN.{ℤ, pos}
use lib.Signed.{mag}
use lib.ListN.{length, get_or, length-append}
use lib.Seq.{slice}
use Rattle.laws.specs.Got.{wrong}
use Rattle.laws.proofs.Picks.{by_bool}
use Rattle.laws.proofs.Stands.{stands_left, stands_right, slice_stands}
use Rattle.requests.specs.Heard.{local, heard}
use Rattle.requests.specs.Request.{privates, argument_at}
use Rattle.requests.specs.Sent.{contents_octets}
use Rattle.requests.specs.Invoke.{invoke_inside, invoke_octets}
use Rattle.requests.specs.Spelt.{Known, KnownSpelt, PrivatesSpelt}
use Rattle.requests.specs.declared.heard.Heard.TheVariants.{Asks}
use Rattle.requests.specs.declared.request.Request.{Request}
use Rattle.requests.proofs.Goods.{Readable, known_most}
use Rattle.requests.proofs.Privates.{privates_only}
use Rattle.requests.proofs.Arguments.{contents_then}
use Rattle.requests.proofs.Written.{contents_spells}
use Rattle.requests.proofs.Trips.{Invoked, invoked, ReadAs, ReadsBack, contents_reads}

-- octets that are heard as an operation with its identifier, and whose argument is none of that operation's
pub record Refused (identifier : ℤ) (operation : ℕ) (s : List ℕ) : Type 0 where
  pub at : ℕ
  pub hears : heard s ≡ Asks identifier (local (pos operation)) at (length s)
  pub refused : argument_at (local (pos operation)) s at (length s) ≡ wrong

-- an argument whose contents are the known elements of a request, and then the octets ps
module _ {identifier : ℤ} {operation : ℕ} {r : Request} {ws : List ℕ} (ps : List ℕ) {s : List ℕ}
    (i : Invoked identifier operation (ws ++ ps) s) (known : Known operation) (k : KnownSpelt operation r ws) where
  pub followed_skipped : PrivatesSpelt ps → ReadAs identifier operation r s
  followed_skipped run =
      contents_reads i known (record { first = ws; rest = ps; is = refl; knowns = k; privates = run })

  pub followed_refused : ((j : ℕ) → get_or s j 0 < 256) → (PrivatesSpelt ps → ⊥) → Refused identifier operation s
  followed_refused small others =
      let at : ℕ = i.start + length ws in
      let ends : at + length ps ≡ length s = omega (arith, i.fits, length-append ws ps) in
      let here : slice at (length s) s ≡ ps =
      rw ends at (slice_stands s at ps (stands_right s i.start ws ps i.stands) (omega (arith, ends))) in
      by_bool (Refused identifier operation s) (privates s at (length s))
      (λ e. absurd (others (rw here at (privates_only s small at (length s) (omega (arith, ends)) (omega arith) e))))
      (λ e. record {
        at = i.at;
        hears = i.hears;
        refused =
            i.asks
            ∙ contents_then operation r s i.start (length s) known k (stands_left s i.start ws ps i.stands)
            (omega (arith, ends)) (omega arith)
            ∙ rw e;
      })

-- ---- requests as they are written, but that the octets ps follow their last known element

module _ (identifier : ℤ) (operation : ℕ) (r : Request) (ps : List ℕ) (range : mag identifier < 32768)
    (g : Readable operation r)
    (fits : length (invoke_inside identifier operation (contents_octets operation r ++ ps)) < 65536) where
  component :
      Invoked identifier operation (contents_octets operation r ++ ps)
      (invoke_octets identifier operation (contents_octets operation r ++ ps))
  component =
      invoked identifier operation (contents_octets operation r ++ ps) range (omega (arith, known_most g.known)) fits

  -- private elements, however many, change nothing
  pub privates_skipped :
      PrivatesSpelt ps →
      ReadsBack identifier operation r (invoke_octets identifier operation (contents_octets operation r ++ ps))
  privates_skipped = followed_skipped ps component g.known (contents_spells operation r g)

  -- anything else makes the argument wrong
  pub privates_refused :
      ((j : ℕ) → get_or (invoke_octets identifier operation (contents_octets operation r ++ ps)) j 0 < 256) →
      (PrivatesSpelt ps → ⊥) →
      Refused identifier operation (invoke_octets identifier operation (contents_octets operation r ++ ps))
  privates_refused = followed_refused ps component g.known (contents_spells operation r g)
