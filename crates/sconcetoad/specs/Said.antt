-- What a component asks for, as C is told.
use Rattle.std.specs.Prelude.{ℕ, ◌≡◌, List, ℤ, pos}
use Rattle.laws.specs.Got.{Got, got, wrong}
use Rattle.requests.specs.Heard.{heard, heard_no}
use Rattle.requests.specs.Request.{no_request, argument_at}
use Rattle.requests.specs.declared.heard.Heard.{Heard}
use Rattle.requests.specs.declared.heard.Heard.TheVariants.{NotOne, Silent, OtherTag, NoIdentifier, NoOperation, Asks}
use Rattle.requests.specs.declared.request.Request.{Request}
use Rattle.sconcetoad.specs.declared.said.Said.{Said}

-- no request that can be read: the row at which reading stops, and what was read until then
abbrev pub nothing_asked : ℕ → ℤ → ℤ → Said
nothing_asked row identifier operation = record { row = row; asks = 0; identifier = identifier; operation = operation; request = no_request }

abbrev pub asked : ℕ → ℤ → ℤ → Got Request → Said
asked row identifier operation (got request next) =
    record { row = row; asks = 1; identifier = identifier; operation = operation; request = request }
asked row identifier operation wrong = nothing_asked row identifier operation

abbrev pub said_by : ℕ → List ℕ → Heard → Said
said_by row s NotOne = nothing_asked row (pos 0) (pos 0)
said_by row s Silent = nothing_asked row (pos 0) (pos 0)
said_by row s OtherTag = nothing_asked row (pos 0) (pos 0)
said_by row s NoIdentifier = nothing_asked row (pos 0) (pos 0)
said_by row s (NoOperation identifier) = nothing_asked row identifier (pos 0)
said_by row s (Asks identifier operation at end) = asked row identifier operation.value (argument_at operation s at end)

-- the row is the number of what was heard
abbrev pub said_of : List ℕ → Heard → Said
said_of s h = said_by (heard_no h) s h

-- what `sconcetoad_said` promises
abbrev pub SaidBy : List ℕ → Said → Type 0
SaidBy s r = r ≡ said_of s (heard s)
