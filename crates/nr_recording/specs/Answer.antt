-- The JSON of a recorded answer: a word, or a word and a number.
use Rattle.std.specs.Prelude.{ℕ, List, Option, Some, None, option_and_then, if◌then◌else◌, codes}
use Rattle.std.specs.Str.{bytes_eq}
use Rattle.serde_json.specs.Data.{Data, string, array, Items, no_items, item}
use Rattle.serde_json.specs.Find.{as_str}
use Rattle.nr_rev.specs.declared.answer.Answer.{Answer}
use Rattle.nr_rev.specs.declared.answer.Answer.TheVariants as answers
use Rattle.nr_recording.specs.Numbers.{u32_of}

-- the answer that a word denotes
abbrev pub worded : List ℕ → Option Answer
worded text = if bytes_eq text (codes "done") then Some answers.Done
    else (if bytes_eq text (codes "yes") then Some answers.Yes
    else (if bytes_eq text (codes "no") then Some answers.No
    else (if bytes_eq text (codes "wait") then Some answers.Wait
    else (if bytes_eq text (codes "last") then Some answers.Last
    else (if bytes_eq text (codes "notlast") then Some answers.NotLast
    else (if bytes_eq text (codes "eof") then Some answers.Eof
    else (if bytes_eq text (codes "again") then Some answers.Again
    else (if bytes_eq text (codes "stale") then Some answers.Stale
    else (if bytes_eq text (codes "pipe") then Some answers.Pipe else None)))))))))

-- the answer that a word and a number denote
abbrev pub counted : List ℕ → ℕ → Option Answer
counted text n = if bytes_eq text (codes "number") then Some (answers.Number n)
    else (if bytes_eq text (codes "code") then Some (answers.Code n)
    else (if bytes_eq text (codes "got") then Some (answers.Got n)
    else (if bytes_eq text (codes "put") then Some (answers.Put n) else None)))

-- the answer that two values denote: a word and an unsigned 32-bit number
abbrev pub counted_of : Items → Option Answer
counted_of (item word (item count no_items)) =
    option_and_then (λ text. option_and_then (counted text) (u32_of count)) (as_str word)
counted_of _ = None

-- the answer that a value denotes: a word, or an array of a word and a number
abbrev pub answer_of : Data → Option Answer
answer_of (string text) = worded text
answer_of (array ds) = counted_of ds
answer_of _ = None
