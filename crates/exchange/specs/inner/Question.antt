-- How the code tells what a component asks.
use Rattle.std.specs.Prelude.{Result, Ok, Err}
use Rattle.answers.specs.declared.answer.Answer.{Answer}
use Rattle.exchange.specs.Question.{Question, says, asks}
use Rattle.exchange.specs.declared.question.Asked.{Asked}

-- what must be judged; or the answer at once
abbrev pub question_read : Question → Result Asked Answer
question_read (says answer) = Err answer
question_read (asks identifier operation r) = Ok (record { identifier = identifier; operation = operation; request = r })
