-- How a request may be spelt that is read, part by part (document 01, "Reading a component"; EN 300 207-1, clause 7.1). Lengths may be
-- needlessly long: `Spells`. What is written is `request_octets`.
use Rattle.std.specs.Prelude.{ℕ, ◌/◌, ◌<◌, ◌≡◌, Bool, true, List, [], ◌∷◌, ◌++◌, ◌⊎◌, ℤ, pos, get_or}
use Rattle.std.specs.Int.Signed.{mag}
use Rattle.octets.specs.Spelt.{Spells}
use Rattle.values.specs.Enumerated.{enumerated_tag}
use Rattle.values.specs.Ident.{ident_tag, ident_fewest, ident_with}
use Rattle.skip.specs.Skip.{skip_depth}
use Rattle.skip.specs.Spelt.{Run, Skippable}
use Rattle.codes.specs.Codes.{procedure_code, service_code, activation, deactivation, interrogation}
use Rattle.numbers.specs.Spelt.{NumberSpelt, AddressSpelt}
use Rattle.numbers.specs.declared.number.Number.{Number}
use Rattle.numbers.specs.declared.address.Forwarded.{Forwarded}
use Rattle.requests.specs.Request.{individual, all_numbers, no_forwarded}
use Rattle.requests.specs.declared.request.Served.{Served}
use Rattle.requests.specs.declared.request.Request.{Request}

-- ---- identifier and operation

-- an identifier or an operation's value: "from −32,768 to 32,767 in two's complement, shortest form, tag 02, one or two octets"
pub record SignedSpelt (z : ℤ) (ws : List ℕ) : Type 0 where
  pub range : mag z < 32768
  pub spells : Spells ident_tag (ident_with (ident_fewest z) z) ws

-- no such value stands first in ws
abbrev pub NoneFirst : List ℕ → Type 0
NoneFirst ws = (z : ℤ) (first rest : List ℕ) → ws ≡ first ++ rest → SignedSpelt z first → ⊥

-- "Operations: activation 7, deactivation 8, interrogation 11."
pub data Known (operation : ℕ) : Type 0 where
  activation_is : operation ≡ activation → Known operation
  deactivation_is : operation ≡ deactivation → Known operation
  interrogation_is : operation ≡ interrogation → Known operation

-- ---- the known elements of an argument

-- an enumerated code that `good` lets in
pub record CodeSpelt (good : ℕ → Bool) (code : ℕ) (ws : List ℕ) : Type 0 where
  pub lets : good code ≡ true
  pub spells : Spells enumerated_tag (code ∷ []) ws

-- "Interrogation may omit the basic service, meaning 0"
pub record Omitted (operation service : ℕ) (ws : List ℕ) : Type 0 where
  pub asks : operation ≡ interrogation
  pub means : service ≡ 0
  pub none : ws ≡ []

abbrev pub ServiceSpelt : ℕ → ℕ → List ℕ → Type 0
ServiceSpelt operation service ws = CodeSpelt service_code service ws ⊎ Omitted operation service ws

-- an activation's forwarded-to address
pub record ToAddress (operation : ℕ) (to : Forwarded) (ws : List ℕ) : Type 0 where
  pub asks : operation ≡ activation
  pub address : AddressSpelt to ws

-- no other operation has one
pub record ToNowhere (operation : ℕ) (to : Forwarded) (ws : List ℕ) : Type 0 where
  pub asks : operation ≡ activation → ⊥
  pub is : to ≡ no_forwarded
  pub none : ws ≡ []

abbrev pub ToSpelt : ℕ → Forwarded → List ℕ → Type 0
ToSpelt operation to ws = ToAddress operation to ws ⊎ ToNowhere operation to ws

-- all served numbers: NULL
pub record AllSpelt (served : Served) (ws : List ℕ) : Type 0 where
  pub spells : Spells 0x05 [] ws
  pub is : served ≡ all_numbers

-- one of its own
pub record OneSpelt (served : Served) (ws : List ℕ) : Type 0 where
  pub number : Number
  pub numbers : NumberSpelt number ws
  pub is : served ≡ individual number

abbrev pub ServedSpelt : Served → List ℕ → Type 0
ServedSpelt served ws = AllSpelt served ws ⊎ OneSpelt served ws

-- procedure, basicService, forwardedToAddress, servedUserNr
pub record KnownSpelt (operation : ℕ) (r : Request) (ws : List ℕ) : Type 0 where
  pub procedure : List ℕ
  pub service : List ℕ
  pub to : List ℕ
  pub served : List ℕ
  pub is : ws ≡ procedure ++ (service ++ (to ++ served))
  pub procedures : CodeSpelt procedure_code r.procedure procedure
  pub services : ServiceSpelt operation r.service service
  pub tos : ToSpelt operation r.to to
  pub serveds : ServedSpelt r.served served

-- ---- what may follow them

-- "elements with a private-class tag", to the depth of document 01
pub record PrivateSpelt (ws : List ℕ) : Type 0 where
  pub class : get_or ws 0 0 / 64 ≡ 3
  pub skipped : Skippable skip_depth ws

-- any number of them, one after the other
abbrev pub PrivatesSpelt : List ℕ → Type 0
PrivatesSpelt ws = Run PrivateSpelt ws

-- ---- the whole

-- the contents of an argument: the known elements, and then private ones
pub record ContentsSpelt (operation : ℕ) (r : Request) (ws : List ℕ) : Type 0 where
  pub first : List ℕ
  pub rest : List ℕ
  pub is : ws ≡ first ++ rest
  pub knowns : KnownSpelt operation r first
  pub privates : PrivatesSpelt rest

-- the argument: "one last element as in clause 7.1"
pub record ArgumentSpelt (operation : ℕ) (r : Request) (ws : List ℕ) : Type 0 where
  pub known : Known operation
  pub contents : List ℕ
  pub inside : ContentsSpelt operation r contents
  pub spells : Spells 0x30 contents ws

-- an invoke component: identifier, operation, argument
pub record RequestSpelt (identifier : ℤ) (operation : ℕ) (r : Request) (ws : List ℕ) : Type 0 where
  pub first : List ℕ
  pub second : List ℕ
  pub third : List ℕ
  pub identifiers : SignedSpelt identifier first
  pub operations : SignedSpelt (pos operation) second
  pub arguments : ArgumentSpelt operation r third
  pub spells : Spells 0xA1 (first ++ (second ++ third)) ws
