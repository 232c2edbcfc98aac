-- Each command leaves the debugger's position and its checkpoints in the recording.
use Rattle.std.proofs.Common.{◌≡◌, ℕ, ◌+◌, ◌-◌, ◌≤◌, ◌==◌, Bool, true, false, cond, not, List, [], ◌∷◌, length, find, Option, Some, None, Result, Ok, Err, nat_lt, refl, sym, ap, subst, arith}
use Rattle.std.specs.Prelude.{All, IfOk, OnErr, option_map}
use Rattle.std.proofs.lemmas.Bool.{ltb-false}
use Rattle.std.proofs.lemmas.List.Elements.{All-head, All-tail, All-filter}
use Rattle.nr_rev.specs.Run.{Recording}
use Rattle.nr_marks.specs.Marks.{mark_deletion, next_number}
use Rattle.nr_marks.specs.Numbered.{item_of}
use Rattle.nr_marks.proofs.NumberedLemmas.{with_item-All}
use Rattle.nr_marks.specs.declared.mark.Mark.{Mark}
use Rattle.nr_marks.specs.declared.mark.Mark.TheVariants as marks
use Rattle.nr_marks.specs.declared.marks.MarkFault.{MarkFault}
use Rattle.nr_search.specs.Nearest.{nearest_hit}
use Rattle.nr_search.specs.declared.direction.Direction.{Direction}
use Rattle.nr_search.specs.declared.direction.Direction.TheVariants.{Forward, Backward}
use Rattle.nr_search.specs.declared.found.Found.{Found}
use Rattle.nr_search.specs.declared.found.Found.TheVariants.{Hit, Nothing}
use Rattle.nr_command.specs.Checkpoints.{Checkpoint}
use Rattle.nr_command.specs.Checkpoints as checkpoints
use Rattle.nr_command.specs.Debugger.{Ran, after_tagged, after_words, stop_at, moved_to, checkpoint_deleted, continue, mark_deleted, mark_made, opening, position_kept, restarted, run, step, to_end}
use Rattle.nr_command.specs.Auxiliary.Debugger.{IsWithin}
use Rattle.nr_command.specs.Word.{command_of}
use Rattle.nr_command.specs.declared.checkpoint.CheckpointFault.{CheckpointFault}
use Rattle.nr_command.specs.declared.command.Command.{Command}
use Rattle.nr_command.specs.declared.command.Command.TheVariants as commands
use Rattle.nr_command.specs.declared.debugger.Debugger.{Debugger}
use Rattle.nr_command.specs.declared.reply.Reply.{Reply}
use Rattle.nr_command.specs.declared.reply.Reply.TheVariants as replies
use Rattle.nr_command.proofs.DebuggerLemmas.{found_within}

-- a property of all checkpoints holds for the checkpoint that is found
found_kept : (P : Checkpoint → Type 0) (test : Checkpoint → Bool) (xs : List Checkpoint) (c : Checkpoint) → All P xs → find test xs ≡ Some c → P c
found_kept P test [] c all e = cc
found_kept P test (x ∷ xs) c all e =
    elim (test x) as (λ b. ◌≡◌ {A = Option Checkpoint} (cond b (Some x) (find test xs)) (Some c) → P c)
    [ true ↦ λ found. (let same : x ≡ c = cc in subst P same (All-head P x xs all)) | false ↦ λ found. found_kept P test xs c (All-tail P x xs all) found ] e

either_within : (last : ℕ) (b : Bool) (x y : Ran) → (b ≡ true → IsWithin last x.1) → (b ≡ false → IsWithin last y.1) → IsWithin last (cond b x y).1
either_within last true x y first second = first refl
either_within last false x y first second = second refl

module _ (last : ℕ) (d : Debugger) (w : IsWithin last d) where
  moved_to-within : (p : ℕ) → p ≤ last → IsWithin last (moved_to p d)
  moved_to-within p within = record { position = within; kept = w.kept }

  to_end-within : (way : Direction) → IsWithin last (to_end way last d).1
  to_end-within Forward = moved_to-within last (omega arith)
  to_end-within Backward = moved_to-within 0 (omega arith)

  step-within : (way : Direction) (n : ℕ) → IsWithin last (step way n last d).1
  step-within Forward n =
      let there = d.position + n in
      either_within last (nat_lt last there) (to_end Forward last d) (replies.At there, moved_to there d) (λ far. to_end-within Forward) (λ near. moved_to-within there (ltb-false last there near))
  step-within Backward n =
      let there = d.position - n in
      let here = w.position in
      either_within last (nat_lt d.position n) (to_end Backward last d) (replies.At there, moved_to there d) (λ far. to_end-within Backward) (λ near. moved_to-within there (omega (arith, here)))

  marked-within : (mark : Mark) (made : Result ℕ MarkFault) → IsWithin last (mark_made mark d made).1
  marked-within mark (Ok number) = record { position = w.position; kept = w.kept }
  marked-within mark (Err fault) = w

  deleted-within : (number : ℕ) (gone : Result (Unit {0}) MarkFault) → IsWithin last (mark_deleted number d gone).1
  deleted-within number (Ok _) = record { position = w.position; kept = w.kept }
  deleted-within number (Err fault) = w

  kept-within : (kept : Result Checkpoint CheckpointFault) → IsWithin last (position_kept d kept).1
  kept-within (Ok made) = record { position = w.position; kept = with_item-All (λ c. c.item ≤ last) d.position d.checkpoints w.kept w.position }
  kept-within (Err fault) = w

  restarted-within : (number : ℕ) (found : Option Checkpoint) → find (λ c. c.number == number) d.checkpoints.present ≡ found → IsWithin last (restarted d (option_map (λ c. c.item) found)).1
  restarted-within number None is = w
  restarted-within number (Some c) is = moved_to-within c.item (found_kept (λ c. c.item ≤ last) (λ c. c.number == number) d.checkpoints.present c w.kept is)

  unkept-within : (number : ℕ) (gone : Result (Unit {0}) CheckpointFault) → IsWithin last (checkpoint_deleted number d gone).1
  unkept-within number (Ok _) = record { position = w.position; kept = All-filter (λ c. not (c.number == number)) (λ c. c.item ≤ last) d.checkpoints.present w.kept }
  unkept-within number (Err fault) = w

module _ (r : Recording) (d : Debugger) (w : IsWithin (length r.steps) d) where
  stop_at-within : (way : Direction) (found : Found) → found ≡ nearest_hit way r d.marks.present d.position → IsWithin (length r.steps) (stop_at way r d found).1
  stop_at-within way (Hit h) is = record { position = found_within way r d.marks.present d.position (Hit h) w.position is; kept = w.kept }
  stop_at-within way Nothing is = to_end-within (length r.steps) d w way

  continue-within : (way : Direction) → IsWithin (length r.steps) (continue way r d).1
  continue-within way = stop_at-within way (nearest_hit way r d.marks.present d.position) refl

  pub run-within : (command : Command) → IsWithin (length r.steps) (run r command d).1
  run-within (commands.Step count) = step-within (length r.steps) d w d.direction count.value
  run-within (commands.ReverseStep count) = step-within (length r.steps) d w Backward count.value
  run-within commands.Continue = continue-within d.direction
  run-within commands.ReverseContinue = continue-within Backward
  run-within (commands.SetDirection way) = record { position = w.position; kept = w.kept }
  run-within (commands.Break wanted) = marked-within (length r.steps) d w (marks.Break wanted) (next_number d.marks)
  run-within (commands.TemporaryBreak wanted) = marked-within (length r.steps) d w (marks.TemporaryBreak wanted) (next_number d.marks)
  run-within (commands.Watch c) = marked-within (length r.steps) d w (marks.Watch c) (next_number d.marks)
  run-within (commands.Delete number) = deleted-within (length r.steps) d w number (mark_deletion number d.marks)
  run-within commands.Checkpoint = kept-within (length r.steps) d w (checkpoints.next_checkpoint d.position d.checkpoints)
  run-within (commands.Restart number) =
      either_within (length r.steps) (number == 0) (replies.At 0, moved_to 0 d) (restarted d (item_of number d.checkpoints))
      (λ start. moved_to-within (length r.steps) d w 0 (omega arith))
      (λ other. restarted-within (length r.steps) d w number (find (λ c. c.number == number) d.checkpoints.present) refl)
  run-within (commands.DeleteCheckpoint number) = unkept-within (length r.steps) d w number (checkpoints.checkpoint_deletion number d.checkpoints)

-- after a command, the debugger's position and its checkpoints are in the recording, even if the
-- command ran out of memory
pub exec-within : {E : Type 0} (r : Recording) (command : Command) (old new : Debugger) (result : Result Reply E) → IsWithin (length r.steps) old
    → IfOk result (λ reply. (reply, new) ≡ run r command old) → OnErr result (new ≡ old) → IsWithin (length r.steps) new
exec-within r command old new (Ok reply) w ran same = subst (IsWithin (length r.steps)) (sym (ap (λ (x : Ran). x.1) ran)) (run-within r old w command)
exec-within r command old new (Err e) w ran same = subst (IsWithin (length r.steps)) (sym same) w

opening-within : (last : ℕ) → IsWithin last opening
opening-within last = record { position = omega arith; kept = λ k d few. absurd (omega arith) }

tagged-within : (r : Recording) (d : Debugger) (tagged : Option (ℕ × Command)) → IsWithin (length r.steps) d → IsWithin (length r.steps) (after_tagged r d tagged)
tagged-within r d None w = w
tagged-within r d (Some tagged) w = run-within r d w tagged.1

words-within : (r : Recording) (d : Debugger) (words : List ℕ) → IsWithin (length r.steps) d → IsWithin (length r.steps) (after_words r d words)
words-within r d [] w = w
words-within r d (word ∷ words) w = words-within r (after_tagged r d (command_of word)) words (tagged-within r d (command_of word) w)

-- after any history, the debugger's position and its checkpoints are in the recording
pub history-within : (r : Recording) (words : List ℕ) → IsWithin (length r.steps) (after_words r opening words)
history-within r words = words-within r opening words (opening-within (length r.steps))
