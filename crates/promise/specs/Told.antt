-- What an explanation says of a component is what the exchange answers it, or the request that it judges.
use Rattle.std.specs.Prelude.{ℕ, ◌≡◌, List, [], ◌++◌, ℤ}
use Rattle.answers.specs.declared.answer.Answer.{Answer}
use Rattle.answers.specs.declared.answer.Answer.TheVariants.{Silence, Reject, Error, Result, Listing}
use Rattle.answers.specs.declared.answer.Problem.{Problem}
use Rattle.answers.specs.declared.answer.Problem.TheVariants.{General, Invoke}
use Rattle.answers.specs.declared.answer.Whose.{Whose}
use Rattle.answers.specs.declared.answer.Whose.TheVariants.{Null, Own}
use Rattle.exchange.specs.Question.{Question, says, asks, rejects}
use Rattle.texts.specs.Word.{decimal}
use Rattle.explanations.specs.Text.{chars, signed_text, request_line}

abbrev pub problem_words : Problem → List ℕ
problem_words (General n) = chars "general problem " ++ decimal n
problem_words (Invoke n) = chars "invoke problem " ++ decimal n

abbrev pub whose_words : Whose → List ℕ
whose_words Null = chars "NULL"
whose_words (Own identifier) = signed_text identifier

-- the words of an answer at once; the others come after a request is judged
abbrev pub answer_words : Answer → List ℕ
answer_words Silence = chars "by silence\n"
answer_words (Reject whose problem) = chars "by reject, " ++ problem_words problem ++ chars ", identifier " ++ whose_words whose ++ chars "\n"
answer_words (Error identifier value) = []
answer_words (Result identifier) = []
answer_words (Listing identifier) = []

-- a text ends with these words
abbrev pub Ends : List ℕ → List ℕ → Type 0
Ends text words = (before : List ℕ) × (text ≡ before ++ words)

-- a line tells what is answered at once, or the request
abbrev pub Tells : List ℕ → Question → Type 0
Tells line (says a) = Ends line (answer_words a)
Tells line (asks identifier operation r) = line ≡ request_line identifier operation r

-- row 6: "counted end, identifier not above last handled"
abbrev pub RowSix : Question → Type 0
RowSix q = (identifier : ℤ) × (q ≡ rejects (Own identifier) (Invoke 0))
