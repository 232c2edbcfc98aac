-- Helper definitions for `Answer`. The laws in THEOREM.md don't use them.
use Rattle.std.specs.Prelude.{◌≡◌, ℕ, ◌<◌, ◌^◌, List, codes, ⊤}
use Rattle.serde_json.specs.Data.{Data, number, unsigned, string, array, no_items, item}
use Rattle.nr_rev.specs.declared.answer.Answer.{Answer}
use Rattle.nr_rev.specs.declared.answer.Answer.TheVariants as answers

-- ---- the written form

-- the JSON of a word and a number
abbrev pub counted_data : List ℕ → ℕ → Data
counted_data text n = array (item (string text) (item (number (unsigned n)) no_items))

-- the JSON of an answer
abbrev pub answer_data : Answer → Data
answer_data (answers.Number n) = counted_data (codes "number") n
answer_data (answers.Code c) = counted_data (codes "code") c
answer_data (answers.Got k) = counted_data (codes "got") k
answer_data (answers.Put k) = counted_data (codes "put") k
answer_data answers.Done = string (codes "done")
answer_data answers.Yes = string (codes "yes")
answer_data answers.No = string (codes "no")
answer_data answers.Wait = string (codes "wait")
answer_data answers.Last = string (codes "last")
answer_data answers.NotLast = string (codes "notlast")
answer_data answers.Eof = string (codes "eof")
answer_data answers.Again = string (codes "again")
answer_data answers.Stale = string (codes "stale")
answer_data answers.Pipe = string (codes "pipe")

-- true if the answer's number is in the range of its type
abbrev pub IsAnswerInType : Answer → Type 0
IsAnswerInType (answers.Number n) = n < 2 ^ 32
IsAnswerInType (answers.Code c) = c < 2 ^ 32
IsAnswerInType (answers.Got k) = k < 2 ^ 32
IsAnswerInType (answers.Put k) = k < 2 ^ 32
IsAnswerInType _ = ⊤

-- true if d is the JSON of the answer and the answer's number is in the range of its type
pub record IsAnswer (d : Data) (answer : Answer) : Type 0 where
  pub is : d ≡ answer_data answer
  pub typed : IsAnswerInType answer
