-- What an arriving component asks of the exchange, or the answer that it gets at once: the rows of document 01's table down to
-- "argument" (document 01, "Replies, in the order checked").
use Rattle.std.specs.Prelude.{ℕ, Bool, true, false, List, ℤ, pos, negsuc, leb, eqb}
use Rattle.laws.specs.Pick.{pick}
use Rattle.laws.specs.Got.{Got, got, wrong}
use Rattle.codes.specs.Codes.{activation, deactivation, interrogation}
use Rattle.profile.specs.declared.profile.Profile.{Profile}
use Rattle.requests.specs.Heard.{heard}
use Rattle.requests.specs.Request.{argument_at}
use Rattle.requests.specs.declared.heard.Heard.{Heard}
use Rattle.requests.specs.declared.heard.Heard.TheVariants as heard
use Rattle.requests.specs.declared.heard.Operation.{Operation}
use Rattle.requests.specs.declared.request.Request.{Request}
use Rattle.answers.specs.declared.answer.Answer.{Answer}
use Rattle.answers.specs.declared.answer.Answer.TheVariants as answer
use Rattle.answers.specs.declared.answer.Problem.{Problem}
use Rattle.answers.specs.declared.answer.Problem.TheVariants.{General, Invoke}
use Rattle.answers.specs.declared.answer.Whose.{Whose}
use Rattle.answers.specs.declared.answer.Whose.TheVariants.{Null, Own}

-- what a component asks: nothing, and it gets its answer at once; or a request, with its identifier and operation, that must be judged
pub data Question : Type 0 where
  says : Answer → Question
  asks : (identifier : ℤ) (operation : ℕ) (request : Request) → Question

abbrev pub rejects : Whose → Problem → Question
rejects whose problem = says (answer.Reject whose problem)

-- "identifier not above last handled"
unfoldable pub not_above : ℤ → ℕ → Bool
not_above (pos n) last = leb n last
not_above (negsuc n) last = true

-- "counted end, identifier not above last handled"
unfoldable pub duplicate : Profile → ℕ → ℤ → Bool
duplicate p last identifier = pick (eqb p.counted 1) (not_above identifier last) false

-- "operation not 7, 8, 11"
unfoldable pub known_operation : ℤ → Bool
known_operation (pos n) = pick (eqb n activation) true (pick (eqb n deactivation) true (eqb n interrogation))
known_operation (negsuc n) = false

abbrev pub code_of : ℤ → ℕ
code_of (pos n) = n
code_of (negsuc n) = 0

-- "argument not one last element as in clause 7.1 and the rules above"
abbrev pub argued : ℤ → Operation → Got Request → Question
argued identifier operation (got r place) = asks identifier (code_of operation.value) r
argued identifier operation wrong = rejects (Own identifier) (Invoke 2)

-- "counted end, identifier not above last handled", then "operation not 7, 8, 11", then its argument
unfoldable pub invoked : Profile → ℕ → List ℕ → ℤ → Operation → ℕ → ℕ → Question
invoked p last s identifier operation at end =
    pick (duplicate p last identifier) (rejects (Own identifier) (Invoke 0))
    (pick (known_operation operation.value) (argued identifier operation (argument_at operation s at end))
    (rejects (Own identifier) (Invoke 1)))

abbrev pub question_of : Profile → ℕ → List ℕ → Heard → Question
question_of p last s heard.NotOne = rejects Null (General 2)
question_of p last s heard.Silent = says answer.Silence
question_of p last s heard.OtherTag = rejects Null (General 0)
question_of p last s heard.NoIdentifier = rejects Null (General 1)
question_of p last s (heard.NoOperation identifier) = rejects (Own identifier) (General 1)
question_of p last s (heard.Asks identifier operation at end) = invoked p last s identifier operation at end

-- what the component s asks of an exchange that has handled `last`
unfoldable pub question : Profile → ℕ → List ℕ → Question
question p last s = question_of p last s (heard s)
