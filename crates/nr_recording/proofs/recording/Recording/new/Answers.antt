use Rattle.std.proofs.Common.{◌≡◌, ◌≤◌, length, true, sym, ◌∙◌, arith, rules}
use Rattle.nr_recording.specs.Auxiliary.Recording.{make_lines}
use Rattle.nr_recording.specs.Version.{most_buffer}
use Rattle.nr_recording.specs.declared.recording.TheConstants.{MOST_STEPS}
use Rattle.nr_recording.proofs.RecordedLemmas.{are_written, count_is, recording_made}
use Rattle.nr_recording.proofs.recording.Recording.new.Goals as goal

pub invariant_of-result : goal.invariant_of-result
invariant_of-result c =
    let steps = c.args.steps.items in
    let answers = c.args.answers.items in
    let lines : make_lines c.args.version steps answers ≡ true = search rules in
    let written = are_written c.args.version steps answers lines in (
      record {
        limits = search rules;
        buffer = omega (arith, c.most_buffer.ensures);
        few = omega (arith, count_is steps answers);
        writable = written.0;
      },
      written.1,
    )

pub returns : goal.returns
returns c =
    let steps = c.args.steps.items in
    let answers = c.args.answers.items in
    let most : c.args.limits.buffer ≤ most_buffer c.args.version = omega (arith, c.most_buffer.ensures) in
    let few : length steps ≤ MOST_STEPS = omega arith in
    let lines : make_lines c.args.version steps answers ≡ true = search rules in
    sym (recording_made c.args.version c.args.limits steps answers (sym c.are_in_range.ensures.value ∙ c.if-not-are_in_range.false) most few lines)
