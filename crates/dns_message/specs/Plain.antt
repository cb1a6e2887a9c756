-- Questions that stand in a message as they are written (RFC 1035, section 4.1.2).
use Rattle.std.specs.Prelude.{ℕ, ◌≡◌, ◌+◌, List, ◌++◌, length, drop}
use Rattle.std.specs.List.{flat_map, AllByRecursion}
use Rattle.dns_message.specs.declared.question.Question.{Question}
use Rattle.dns_message.specs.Msg.{HasName}
use Rattle.dns_message.specs.Wire.{question_octets}
use Rattle.dns_message.specs.Sections.{field, questions_of}

-- from a place up to an end stands a question as it is written: its name is uncompressed
pub record QuestionStands (o : List ℕ) (at end : ℕ) : Type 0 where
  pub question : Question
  pub named : HasName question
  pub written : drop at o ≡ question_octets question ++ drop end o
  pub ends : end ≡ at + length (question_octets question)

-- all questions that the header counts are readable, and stand after it as they are written, up to an end
pub record QuestionsStand (o : List ℕ) (end : ℕ) : Type 0 where
  pub many : length (questions_of o).0 ≡ field 4 o
  pub named : AllByRecursion HasName (questions_of o).0
  pub written : drop 12 o ≡ flat_map question_octets (questions_of o).0 ++ drop end o
  pub ends : end ≡ 12 + length (flat_map question_octets (questions_of o).0)
