-- Reading lines in a loop.
use Rattle.std.proofs.Common.{◌≡◌, ℕ, suc, ◌+◌, true, List, [], ◌∷◌, length, Option, Some, None, Result, Ok, Err, refl, sym, ◌∙◌, arith}
use Rattle.std.proofs.lemmas.List.Folds.{list_any_at}
use Rattle.std.specs.List.{list_any}
use Rattle.nr_rev.specs.Refusing.{refused_memory}
use Rattle.nr_recording.specs.Recording.{Recorded}
use Rattle.nr_recording.specs.declared.recording.RecordedStep.{RecordedStep}
use Rattle.nr_recording.specs.declared.reading.Header.{Header}
use Rattle.nr_recording.specs.declared.fault.LineError.{LineError}
use Rattle.nr_recording.specs.declared.fault.LineError.TheVariants as errors
use Rattle.nr_recording.specs.declared.fault.ReadFault.{ReadFault}
use Rattle.nr_recording.specs.declared.fault.ReadFault.TheVariants as faults
use Rattle.nr_recording.specs.Auxiliary.Faults.{Fails}
use Rattle.nr_recording.specs.Reading.{Seen, nothing, lines, with_line, with_lines, with_header, recording_at_end, reading}
use Rattle.nr_recording.specs.Auxiliary.Reading.{read_fault_at, line_takes_memory, IsFaultOf, IsUnlessMemory}

pub goes_on : (seen next : Seen) (line : List ℕ) (rest : List (List ℕ)) (i : ℕ) (total : Result Seen ReadFault) → with_line seen line ≡ Ok next → with_lines (suc i) seen (line ∷ rest) ≡ total
    → with_lines (suc (i + 1)) next rest ≡ total
unfolding with_lines
goes_on seen next line rest i total h so_far =
    let one : with_lines (suc i) seen (line ∷ rest) ≡ with_lines (suc (suc i)) next rest = rw h refl in
    let n : suc (i + 1) ≡ suc (suc i) = omega arith in
    rw n (sym one ∙ so_far)

pub stops : (e : LineError) (bytes : List ℕ) (seen : Seen) (line : List ℕ) (rest : List (List ℕ)) (i : ℕ) → Fails e (with_line seen line)
    → with_lines (suc i) seen (line ∷ rest) ≡ with_lines 1 nothing (lines bytes) → IsFaultOf (read_fault_at (suc i) e) (reading bytes)
unfolding reading with_lines
stops (errors.Memory refused) bytes seen line rest i h so_far = tt
stops (errors.Fault f) bytes seen line rest i h so_far =
    let one : with_lines (suc i) seen (line ∷ rest) ≡ Err (faults.Line (suc i) f) = rw h refl in
    rw (sym so_far ∙ one) refl

pub ends : (bytes : List ℕ) (seen : Seen) (i : ℕ) → i ≡ length (lines bytes) → with_lines (suc i) seen [] ≡ with_lines 1 nothing (lines bytes) → reading bytes ≡ recording_at_end i seen
unfolding reading with_lines
ends bytes seen i is so_far =
    let one : with_lines (suc i) seen [] ≡ Ok seen = refl in
    rw (sym so_far ∙ one, ← is) refl

-- if memory ran out while a line was read, reading that line allocates memory
pub wanted : (line : List ℕ) (rest : List (List ℕ)) (n : ℕ) (e : LineError) → (e ≡ errors.Memory refused_memory → line_takes_memory line ≡ true) → read_fault_at n e ≡ faults.Memory refused_memory
    → list_any line_takes_memory (line ∷ rest) ≡ true
wanted line rest n (errors.Memory refused) h reported = list_any_at line_takes_memory (line ∷ rest) 0 line (omega arith) (h refl)
wanted line rest n (errors.Fault f) h reported = absurd cc

-- reading the end of the text doesn't run out of memory
pub never_wanted : (n : ℕ) (header : Option Header) (steps : List RecordedStep) → ¬ (with_header n header steps ≡ Err (faults.Memory refused_memory))
never_wanted n None steps = λ e. cc
never_wanted n (Some header) steps = λ e. cc

pub itself : (r read : Result Recorded ReadFault) → r ≡ read → IsUnlessMemory r read
itself (Ok x) read e = sym e
itself (Err (faults.Line n f)) read e = sym e
itself (Err (faults.Memory refused)) read e = tt
