-- What C is told, from what the reader of the argument answers. Assumes nothing.
use mathlib.Core.Path.{◌≡◌}
use lib.IntN.{ℤ}
use Rattle.laws.specs.Got.{Got, got, wrong}
use Rattle.octets.proofs.Founds.{Somewhere}
use Rattle.requests.specs.declared.request.Request.{Request}
use Rattle.sconcetoad.specs.Said.{nothing_asked, asked}
use Rattle.sconcetoad.specs.declared.said.Said.{Said}

-- a request that was read is told
pub asked_found :
    (identifier operation : ℤ) (g : Got Request) (request : Request) → Somewhere g request →
    ◌≡◌ {A = Said} record { row = 6; asks = 1; identifier = identifier; operation = operation; request = request }
    (asked 6 identifier operation g)
asked_found identifier operation g request found = rw found.is

-- an argument that is wrong is not
pub asked_none :
    (identifier operation : ℤ) (g : Got Request) → g ≡ wrong → nothing_asked 6 identifier operation ≡ asked 6 identifier operation g
asked_none identifier operation g none = rw none
