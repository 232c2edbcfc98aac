-- The meanings of lines.
use Rattle.std.specs.Prelude.{ℕ, ◌^◌, ◌==◌, ◌||◌, ◌&&◌, nat_lt, List, [], ◌∷◌, length, filter, Some, None, ok_or, option_map, Result, Ok, Err, codes, if◌then◌else◌}
use Rattle.std.specs.List.{slice_split, list_all}
use Rattle.std.specs.Str.{bytes_eq}
use Rattle.std.specs.Str.Lines.{strip_carriage_return}
use Rattle.std.specs.Char.{is_ascii_digit}
use Rattle.std.specs.Str.Parse.{digits_value}
use Rattle.std.specs.declared.num.NonZeroU32.{NonZeroU32}
use Rattle.nr_rev.specs.declared.cell.Cell.{Cell}
use Rattle.nr_rev.specs.CellName.{cell_named}
use Rattle.nr_rev.specs.Kind.{kind_named}
use Rattle.nr_rev.specs.declared.sides.Side.TheVariants.{Read, Write}
use Rattle.nr_command.specs.Count.{from_one}
use Rattle.nr_command.specs.declared.parsing.TheConstants.{MAX_LINE}
use Rattle.nr_marks.specs.declared.mark.Break.{Break}
use Rattle.nr_marks.specs.declared.mark.Break.TheVariants as breaks
use Rattle.nr_search.specs.declared.direction.Direction.{Direction}
use Rattle.nr_search.specs.declared.direction.Direction.TheVariants.{Forward, Backward}
use Rattle.nr_command.specs.declared.command.Command.{Command}
use Rattle.nr_command.specs.declared.command.Command.TheVariants as commands
use Rattle.nr_command.specs.declared.command.Query.{Query}
use Rattle.nr_command.specs.declared.command.Query.TheVariants as queries
use Rattle.nr_command.specs.declared.command.Line.{Line}
use Rattle.nr_command.specs.declared.command.Line.TheVariants.{Run, Look, Resume, Quit, Empty}
use Rattle.nr_command.specs.declared.command.LineFault.{LineFault}
use Rattle.nr_command.specs.declared.command.LineFault.TheVariants.{UnknownCommand, BadArgument, TooLong}

infixl 10 ◌>>=◌
-- passes a value on to the next function, or stops at the fault
abbrev pub ◌>>=◌ : {A B : Type 0} → Result A LineFault → (A → Result B LineFault)
    → Result B LineFault
(Ok x) >>= f = f x
(Err e) >>= f = Err e

-- a line without its final carriage return, if it has one
abbrev pub without_return : List ℕ → List ℕ
without_return line = strip_carriage_return line

-- the words of a text: its nonempty parts between spaces
abbrev pub words : List ℕ → List (List ℕ)
words bs = filter (λ word. nat_lt 0 (length word)) (slice_split (λ b. b == 32) bs)

-- a number below 2 ^ 32 in decimal digits, with or without leading zeros
abbrev pub number_of : List ℕ → Result ℕ LineFault
number_of ds =
    if nat_lt 0 (length ds) && list_all is_ascii_digit ds && nat_lt (digits_value 10 ds) (2 ^ 32)
    then Ok (digits_value 10 ds)
    else Err BadArgument

-- a number, which must be at least 1
abbrev pub at_least_one : ℕ → Result NonZeroU32 LineFault
at_least_one n = ok_or (from_one n) BadArgument

-- a count of at least 1; without a word, the count is 1
abbrev pub count_of : List (List ℕ) → Result NonZeroU32 LineFault
count_of [] = at_least_one 1
count_of (word ∷ []) = number_of word >>= at_least_one
count_of _ = Err BadArgument

-- a single number
abbrev pub only_number : List (List ℕ) → Result ℕ LineFault
only_number (word ∷ []) = number_of word
only_number _ = Err BadArgument

-- the direction that this word names
abbrev pub direction_of : List ℕ → Result Direction LineFault
direction_of way =
    if bytes_eq way (codes "forward") then Ok Forward
    else if bytes_eq way (codes "reverse") then Ok Backward
    else Err BadArgument

-- the value of a setting; the only setting is the direction
abbrev pub way_of : List ℕ → List ℕ → Result Direction LineFault
way_of what way =
    if bytes_eq what (codes "exec-direction") then direction_of way else Err BadArgument

-- the direction in `set exec-direction WAY`, from the words after `set`
abbrev pub setting_of : List (List ℕ) → Result Direction LineFault
setting_of (what ∷ way ∷ []) = way_of what way
setting_of _ = Err BadArgument

-- the steps before which a break hits: the step whose number follows @, or each step of the named
-- kind
abbrev pub break_at : List ℕ → Result Break LineFault
break_at [] = Err BadArgument
break_at (b ∷ bs) =
    if b == 64 then (number_of bs >>= λ n. at_least_one n >>= λ step. Ok (breaks.Step step))
    else ok_or (option_map breaks.Kind (kind_named (b ∷ bs))) BadArgument

-- where a `break` or a `tbreak` hits: one word names a kind of step or a single step
abbrev pub break_of : List (List ℕ) → Result Break LineFault
break_of (word ∷ []) = break_at word
break_of _ = Err BadArgument

-- a cell: its name, and its number if it has one
abbrev pub cell_of : List (List ℕ) → Result Cell LineFault
cell_of (name ∷ []) = ok_or (cell_named name None) BadArgument
cell_of (name ∷ word ∷ []) = number_of word >>= λ n. ok_or (cell_named name (Some n)) BadArgument
cell_of _ = Err BadArgument

-- the command that deletes a mark, or a checkpoint if the word `checkpoint` comes first
abbrev pub deletion_of : List (List ℕ) → Result Command LineFault
deletion_of (word ∷ []) = number_of word >>= λ n. Ok (commands.Delete n)
deletion_of (what ∷ word ∷ []) =
    if bytes_eq what (codes "checkpoint")
    then (number_of word >>= λ n. Ok (commands.DeleteCheckpoint n)) else Err BadArgument
deletion_of _ = Err BadArgument

-- the query for a socket's buffer or queue
abbrev pub buffer_or_queue : List ℕ → ℕ → Result Query LineFault
buffer_or_queue kind s =
    if bytes_eq kind (codes "in") then Ok (queries.DumpBytes Read s)
    else if bytes_eq kind (codes "out") then Ok (queries.DumpBytes Write s)
    else if bytes_eq kind (codes "rq") then Ok (queries.DumpQueue Read s)
    else if bytes_eq kind (codes "wq") then Ok (queries.DumpQueue Write s)
    else Err BadArgument

-- the query of a `dump`, which is followed by one word and a socket's number
abbrev pub dump_of : List (List ℕ) → Result Query LineFault
dump_of (kind ∷ word ∷ []) = number_of word >>= λ s. buffer_or_queue kind s
dump_of _ = Err BadArgument

-- the query for a topic of `info`
abbrev pub topic_of : List ℕ → Result Query LineFault
topic_of topic =
    if bytes_eq topic (codes "position") then Ok queries.Position
    else if bytes_eq topic (codes "breakpoints") then Ok queries.Breakpoints
    else if bytes_eq topic (codes "checkpoints") then Ok queries.Checkpoints
    else Err BadArgument

-- the query of an `info`, which is followed by one word
abbrev pub info_of : List (List ℕ) → Result Query LineFault
info_of (topic ∷ []) = topic_of topic
info_of _ = Err BadArgument

-- a request that takes no further words
abbrev pub alone : Line → List (List ℕ) → Result Line LineFault
alone line [] = Ok line
alone line _ = Err BadArgument

-- the meaning of a line with these words
abbrev pub meaning_of_words : List (List ℕ) → Result Line LineFault
meaning_of_words [] = Ok Empty
meaning_of_words (verb ∷ rest) =
    if bytes_eq verb (codes "stepi") || bytes_eq verb (codes "si")
    then (count_of rest >>= λ n. Ok (Run (commands.Step n)))
    else if bytes_eq verb (codes "reverse-stepi") || bytes_eq verb (codes "rsi")
    then (count_of rest >>= λ n. Ok (Run (commands.ReverseStep n)))
    else if bytes_eq verb (codes "continue") || bytes_eq verb (codes "c")
    then alone (Run commands.Continue) rest
    else if bytes_eq verb (codes "reverse-continue") || bytes_eq verb (codes "rc")
    then alone (Run commands.ReverseContinue) rest
    else if bytes_eq verb (codes "set")
    then (setting_of rest >>= λ way. Ok (Run (commands.SetDirection way)))
    else if bytes_eq verb (codes "break") || bytes_eq verb (codes "b")
    then (break_of rest >>= λ at. Ok (Run (commands.Break at)))
    else if bytes_eq verb (codes "tbreak") || bytes_eq verb (codes "tb")
    then (break_of rest >>= λ at. Ok (Run (commands.TemporaryBreak at)))
    else if bytes_eq verb (codes "watch") then (cell_of rest >>= λ c. Ok (Run (commands.Watch c)))
    else if bytes_eq verb (codes "delete") then (deletion_of rest >>= λ d. Ok (Run d))
    else if bytes_eq verb (codes "checkpoint") then alone (Run commands.Checkpoint) rest
    else if bytes_eq verb (codes "restart")
    then (only_number rest >>= λ n. Ok (Run (commands.Restart n)))
    else if bytes_eq verb (codes "print") || bytes_eq verb (codes "p")
    then (cell_of rest >>= λ c. Ok (Look (queries.Print c)))
    else if bytes_eq verb (codes "dump") then (dump_of rest >>= λ q. Ok (Look q))
    else if bytes_eq verb (codes "info") then (info_of rest >>= λ q. Ok (Look q))
    else if bytes_eq verb (codes "resume") then alone Resume rest
    else if bytes_eq verb (codes "quit") || bytes_eq verb (codes "q") then alone Quit rest
    else Err UnknownCommand

-- the request that a line makes; the line is given without its line feed
abbrev pub meaning_of : List ℕ → Result Line LineFault
meaning_of bytes = if nat_lt MAX_LINE (length bytes) then Err TooLong
    else meaning_of_words (words (without_return bytes))
