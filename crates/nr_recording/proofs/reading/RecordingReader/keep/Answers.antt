use Rattle.std.proofs.Common.{◌≡◌, ◌∷◌, ◌++◌, [], Some, true, length, ap, subst, ◌∙◌, arith}
use Rattle.std.proofs.lemmas.Bool.{and_parts}
use Rattle.std.proofs.lemmas.List.{length-append}
use Rattle.nr_recording.specs.Reading.{Seen}
use Rattle.nr_recording.specs.Auxiliary.Reading.{AreOfHeader}
use Rattle.nr_recording.specs.Recording.{recorded}
use Rattle.nr_recording.specs.Auxiliary.Recording.{are_writable, has_line}
use Rattle.nr_recording.specs.Auxiliary.Version.{may_have}
use Rattle.nr_recording.proofs.RangeLemmas.{one_more_of}
use Rattle.nr_recording.proofs.RecordedLemmas.{count_wanted, one_more, one_more_few}
use Rattle.nr_recording.proofs.reading.RecordingReader.keep.Goals as goal

pub invariant_of-self-2 : goal.invariant_of-self-2
invariant_of-self-2 c =
    let begun = c.args.begun in
    let last = c.args.last in
    let steps = c.self.inside.steps.items in
    let answers = c.self.inside.answers.items in
    let seen = c.self.invariant.0 in
    let header : c.self.inside.header ≡ Some begun = ap (λ (s : Seen). s.header) c.self.view_is ∙ c.requires.begun in
    let written : are_writable begun.version (recorded steps answers) ≡ true = subst (λ h. AreOfHeader h (recorded steps answers)) header seen.writable in
    let count = count_wanted begun.version steps answers written c.self.invariant.1 in
    let may = (and_parts (has_line begun.version last.step) (may_have begun.version last.answer) c.requires.writable).1 in
    let rows : recorded c.put.new.steps.items c.put.new.answers.items ≡ recorded steps answers ++ last ∷ [] =
    rw (c.in_ok-put.ensures.ok, c.in_ok-put.ensures.answer) (one_more begun.version steps answers last.step last.answer count may) in
    let room = ap (λ (s : Seen). length s.steps) c.self.view_is in (
      record {
        limits = seen.limits;
        buffer = seen.buffer;
        few = rw rows (omega (arith, room, c.requires.room, length-append (recorded steps answers) (last ∷ [])));
        writable = rw rows (one_more_of c.self.inside.header begun (recorded steps answers) last header seen.writable c.requires.writable);
      },
      rw (c.in_ok-put.ensures.ok, c.in_ok-put.ensures.answer) (one_more_few begun.version steps answers last.step last.answer count may),
    )

pub returns : goal.returns
returns c =
    let begun = c.args.begun in
    let last = c.args.last in
    let steps = c.self.inside.steps.items in
    let answers = c.self.inside.answers.items in
    let header : c.self.inside.header ≡ Some begun = ap (λ (s : Seen). s.header) c.self.view_is ∙ c.requires.begun in
    let written : are_writable begun.version (recorded steps answers) ≡ true = subst (λ h. AreOfHeader h (recorded steps answers)) header c.self.invariant.0.writable in
    let count = count_wanted begun.version steps answers written c.self.invariant.1 in
    let may = (and_parts (has_line begun.version last.step) (may_have begun.version last.answer) c.requires.writable).1 in
    let rows : recorded c.put.new.steps.items c.put.new.answers.items ≡ recorded steps answers ++ last ∷ [] =
    rw (c.in_ok-put.ensures.ok, c.in_ok-put.ensures.answer) (one_more begun.version steps answers last.step last.answer count may) in
    ap (λ xs. record { header = c.self.inside.header; steps = xs }) rows ∙ ap (λ (s : Seen). record s { steps = s.steps ++ last ∷ [] }) c.self.view_is
