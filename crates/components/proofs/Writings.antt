-- What is written of a request or a list, or why it is refused. Assumes nothing.
use Prim.Native.Nat.{ℕ, ◌<◌, ◌≤◌}
use mathlib.Core.Path.{◌≡◌}
use mathlib.Core.Bool.{true, false}
use mathlib.Core.List.{List}
use native.Mathlib.Omega.{arith}
use lib.IntN.{ℤ}
use lib.Signed.{mag}
use lib.ListN.{length}
use borrow.Author.Tests.{lt-ltb, le-ltb}
use Rattle.std.specs.Prelude.{Ok, Err}
use Rattle.laws.specs.Over.{Puts}
use Rattle.laws.proofs.Over.{wrote_none, puts_all}
use Rattle.refusals.specs.Refusal.{output_least}
use Rattle.refusals.specs.Handling.{Made, not_made, made}
use Rattle.refusals.specs.declared.refusal.Refusal.{Refusal}
use Rattle.refusals.specs.declared.refusal.Refusal.TheVariants.{ShortOutput, BadTable, BadRequest}
use Rattle.requests.specs.Sent.{sendable, request_octets}
use Rattle.requests.specs.Sending.{PutRequest}
use Rattle.requests.specs.declared.request.Request.{Request}
use Rattle.requests.proofs.Sizes.{request_most}
use Rattle.requests.proofs.Senders.{sent_whole}
use Rattle.lists.specs.Entries.{instances_most, entries_in}
use Rattle.lists.specs.Listed.{list_octets}
use Rattle.lists.specs.declared.entries.Entries.{Entries}
use Rattle.components.specs.Written.{wrote_request, wrote_list, MadeIn}

module _ (identifier : ℤ) (operation : ℕ) (r : Request) (size : ℕ) where
  pub request_short : size < output_least → wrote_request identifier operation r size ≡ not_made ShortOutput
  unfolding wrote_request
  request_short short = rw (lt-ltb size output_least short)

  module _ (enough : output_least ≤ size) where
    pub request_unfit : sendable operation r ≡ false → wrote_request identifier operation r size ≡ not_made BadRequest
    unfolding wrote_request
    request_unfit bad = rw (le-ltb size output_least enough, bad)

    pub request_fit :
        sendable operation r ≡ true → wrote_request identifier operation r size ≡ made (request_octets identifier operation r)
    unfolding wrote_request
    request_fit fit = rw (le-ltb size output_least enough, fit)

module _ (identifier : ℤ) (list : Entries) (size : ℕ) where
  pub list_short : size < output_least → wrote_list identifier list size ≡ not_made ShortOutput
  unfolding wrote_list
  list_short short = rw (lt-ltb size output_least short)

  module _ (enough : output_least ≤ size) where
    pub list_many : instances_most < list.count → wrote_list identifier list size ≡ not_made BadTable
    unfolding wrote_list
    list_many many = rw (le-ltb size output_least enough, lt-ltb instances_most list.count many)

    pub list_few : list.count ≤ instances_most → wrote_list identifier list size ≡ made (list_octets identifier (entries_in list))
    unfolding wrote_list
    list_few few = rw (le-ltb size output_least enough, le-ltb instances_most list.count few)

-- what is refused writes nothing
pub refused_made : (m : Made) (xs : List ℕ) (refusal : Refusal) → m ≡ not_made refusal → MadeIn m xs (Err refusal) xs
refused_made m xs refusal is = record { told = rw is; lent = rw is (puts_all (omega arith) wrote_none) }

-- what is put there is what is told
pub written_made :
    (m : Made) (xs ws : List ℕ) (n : ℕ) (ys : List ℕ) → m ≡ made ws → Puts xs 0 ws n ys → MadeIn m xs (Ok n) ys
written_made m xs ws n ys is put = record { told = rw is; lent = rw is put }

-- a request that may be sent is put whole: it has at most 95 octets
pub request_put :
    (xs : List ℕ) (identifier : ℤ) (operation : ℕ) (r : Request) (n : ℕ) (ys : List ℕ) → mag identifier < 32768 →
    output_least ≤ length xs → sendable operation r ≡ true → PutRequest xs identifier operation r n ys →
    Puts xs 0 (request_octets identifier operation r) n ys
request_put xs identifier operation r n ys range enough fit put =
    let few = request_most identifier operation r range fit in
    puts_all (omega (arith, enough, few)) (sent_whole xs identifier operation r n ys put fit (omega (arith, enough, few)))
