-- Local refusals and what is told by document 01's numbers (document 01, "Local refusals").
use Rattle.std.specs.Prelude.{ℕ, ◌≡◌}
use Rattle.refusals.specs.declared.refusal.Refusal.{Refusal}
use Rattle.refusals.specs.declared.refusal.Refusal.TheVariants.{ShortOutput, LongComponent, BadProfile, BadTable, BadCall}
use Rattle.refusals.specs.declared.refusal.Refusal.TheVariants.{LimitReached, Outstanding, Exhausted, BadSheet, BadRequest}

-- the numbers of "Local refusals"
abbrev pub refusal_no : Refusal → ℕ
refusal_no ShortOutput = 1
refusal_no LongComponent = 2
refusal_no BadProfile = 3
refusal_no BadTable = 4
refusal_no BadCall = 5
refusal_no LimitReached = 6
refusal_no Outstanding = 7
refusal_no Exhausted = 8
refusal_no BadSheet = 9
refusal_no BadRequest = 10

-- "lent output under 707 octets (any component)", "component over 1,024 octets"
abbrev pub output_least : ℕ
output_least = 707

abbrev pub component_most : ℕ
component_most = 1024

-- what is told, by document 01's numbers: a refusal, or what is answered
pub data Told (A : Type 0) : Type 0 where
  refuses : (number : ℕ) → Told A
  tells : A → Told A

-- the number of the refusal, 0 where it is none
abbrev pub refusal_in : {A : Type 0} → Told A → ℕ
refusal_in (refuses number) = number
refusal_in (tells a) = 0

-- what the number of a refusal promises
abbrev pub RefusalNo : Refusal → ℕ → Type 0
RefusalNo refusal r = r ≡ refusal_no refusal
