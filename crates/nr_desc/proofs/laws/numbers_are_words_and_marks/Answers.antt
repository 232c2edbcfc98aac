use Rattle.nr_desc.specs.Auxiliary.Code.{code_of-wait_word_of}
use Rattle.nr_desc.specs.Marks.{marks_number-marks_of}
use Rattle.nr_desc.proofs.NumberLemmas.{marks_number-small, marks_of-marks_number, wait_word_of-code_of}
use Rattle.nr_desc.proofs.laws.numbers_are_words_and_marks.Goals as goal

pub returns : goal.returns
returns c =
    record {
      code = code_of-wait_word_of;
      word = wait_word_of-code_of;
      byte = marks_number-marks_of;
      marks = marks_of-marks_number;
      small = marks_number-small;
    }
