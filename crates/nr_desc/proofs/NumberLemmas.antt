-- Each word has exactly one code, and each set of marks has exactly one byte.
use Rattle.std.proofs.Common.{◌≡◌, ℕ, ◌/◌, ◌%◌, ◌<◌, ◌==◌, refl, arith}
use Rattle.std.proofs.lemmas.Bool.Decides.{nat_tests}
use Rattle.nr_rev.specs.declared.descriptor.WaitWord.{WaitWord}
use Rattle.nr_rev.specs.declared.descriptor.WaitWord.TheVariants.{Nil, Ready, Wait, Held}
use Rattle.nr_rev.proofs.BitLemmas.{bit_small, test_of}
use Rattle.nr_desc.specs.Auxiliary.Code.{code_of, wait_word_of}
use Rattle.nr_desc.specs.Marks.{DescMarks, marks_number, marks_of}

pub wait_word_of-code_of : (word : WaitWord) → wait_word_of (code_of word) ≡ word
wait_word_of-code_of Nil = refl
wait_word_of-code_of Ready = refl
wait_word_of-code_of Wait = refl
wait_word_of-code_of (Held g) = grind (arith, nat_tests)

pub marks_of-marks_number : (marks : DescMarks) → marks_of (marks_number marks) ≡ marks
marks_of-marks_number marks =
    let closing = bit_small marks.closing in
    let error = bit_small marks.event_error in
    let read = bit_small marks.running.read in
    let write = bit_small marks.running.write in
    let n : ℕ = marks_number marks in
    let closing_is : (n % 2 == 1) ≡ marks.closing = test_of marks.closing (n % 2) (omega arith) in
    let error_is : (n / 2 % 2 == 1) ≡ marks.event_error = test_of marks.event_error (n / 2 % 2) (omega arith) in
    let read_is : (n / 4 % 2 == 1) ≡ marks.running.read = test_of marks.running.read (n / 4 % 2) (omega arith) in
    let write_is : (n / 8 % 2 == 1) ≡ marks.running.write = test_of marks.running.write (n / 8 % 2) (omega arith) in
    λ i. record {
      closing = closing_is i;
      event_error = error_is i;
      running = record { read = read_is i; write = write_is i };
    }

pub marks_number-small : (marks : DescMarks) → marks_number marks < 16
marks_number-small marks =
    let closing = bit_small marks.closing in
    let error = bit_small marks.event_error in
    let read = bit_small marks.running.read in
    let write = bit_small marks.running.write in
    omega arith
