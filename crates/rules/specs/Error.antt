-- The numbers of the errors that a request may earn (document 01, "Replies, in the order checked").
use Rattle.std.specs.Prelude.{ℕ, ◌≡◌}
use Rattle.rules.specs.declared.error.RequestError.{RequestError}
use Rattle.rules.specs.declared.error.RequestError.TheVariants.{NotSubscribed, NotAvailable, InvalidServedUserNr, BasicServiceNotProvided}
use Rattle.rules.specs.declared.error.RequestError.TheVariants.{ResourceUnavailable, InvalidDivertedToNr, SpecialServiceNr}
use Rattle.rules.specs.declared.error.RequestError.TheVariants.{DiversionToServedUserNr, NotActivated}

-- "procedure not subscribed" 0, "not in use" 3, "served number invalid" 6, "service given but not subscribed" 8, "user-specified
-- subaddress" and "more than 8 instances" 11, "other number kind" and the like 12, "special prefix" 14, "the same as a selected served
-- number" 15, "error 46 exactly if there's none"
abbrev pub error_no : RequestError → ℕ
error_no NotSubscribed = 0
error_no NotAvailable = 3
error_no InvalidServedUserNr = 6
error_no BasicServiceNotProvided = 8
error_no ResourceUnavailable = 11
error_no InvalidDivertedToNr = 12
error_no SpecialServiceNr = 14
error_no DiversionToServedUserNr = 15
error_no NotActivated = 46

-- what the number of an error promises
abbrev pub ErrorNo : RequestError → ℕ → Type 0
ErrorNo error r = r ≡ error_no error
