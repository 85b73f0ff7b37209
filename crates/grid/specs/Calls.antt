-- Which instance of a grid applies to a call, and what comes of the call: diverted, not diverted or refused, and the original number
-- handed on (document 01, "Calls"; Q.732.2-5, 2.5.2.5.1.2).
use Rattle.std.specs.Prelude.{◌*◌, ◌+◌, ℕ, not, List, [], ◌∷◌, eqb, leb}
use Rattle.std.proofs.Math.Option.{Option, none, some}
use Rattle.laws.specs.Pick.{pick}
use Rattle.laws.specs.Tests.{any, first, test}
use Rattle.refusals.specs.declared.refusal.Refusal.TheVariants.{BadCall, BadProfile, BadTable}
use Rattle.codes.specs.Codes.{place_of}
use Rattle.numbers.specs.declared.address.Address.{Address}
use Rattle.profile.specs.Access.{access_read}
use Rattle.profile.specs.Profile.{services_most, subscribed_services}
use Rattle.profile.specs.declared.profile.Profile.{Profile}
use Rattle.lists.specs.Entries.{instances_most}
use Rattle.calls.specs.Call.{call_from, call_good}
use Rattle.calls.specs.Divert.{Comes, by_instance, call_refused, procedure_of}
use Rattle.calls.specs.Original.{goes_on, handed_on}
use Rattle.calls.specs.declared.call.Call.{Call}
use Rattle.grid.specs.Grid.{Grid, row_at}
use Rattle.grid.specs.Row.{active, cell_at}
use Rattle.grid.specs.Table.{GridTable, grid_table_good}

-- the place of the call's service among those subscribed, and of its number and service in a row
abbrev pub grid_slot_of : Profile → Call → ℕ
grid_slot_of p c = place_of c.service (subscribed_services p)

abbrev pub grid_place_of_call : Profile → Call → ℕ
grid_place_of_call p c = services_most * c.number + grid_slot_of p c

-- "for that number and service. No instance, or the access not in use: not diverted"
unfoldable pub grid_applying : Profile → Grid → Call → Option Address
grid_applying p grid c =
    pick
    (any
    (eqb p.inuse 0
    ∷ leb p.servicecount (grid_slot_of p c)
    ∷ not (active (row_at grid (procedure_of c.event)) (grid_place_of_call p c))
    ∷ []))
    none
    (some (cell_at (row_at grid (procedure_of c.event)) (grid_place_of_call p c)).address)

-- ---- the whole

-- the instance decides
abbrev pub grid_by_call : Profile → GridTable → Call → Comes
grid_by_call p t c = by_instance p c (grid_applying p t.grid c)

-- "Lowest number first, 6 last"
unfoldable pub grid_comes : List ℕ → GridTable → List ℕ → Comes
grid_comes access t s =
    first
    (test (not (access_read access).ok) BadProfile
    ∷ test (not (grid_table_good instances_most (access_read access).profile t)) BadTable
    ∷ test (not (call_good (access_read access).profile s)) BadCall
    ∷ [])
    call_refused
    (grid_by_call (access_read access).profile t (call_from s))

-- the original number handed on: no stretch where no call goes on
unfoldable pub grid_original : List ℕ → GridTable → List ℕ → List ℕ
grid_original access t s =
    pick (goes_on (grid_comes access t s).told) (handed_on access s (access_read access).profile (call_from s)) []
