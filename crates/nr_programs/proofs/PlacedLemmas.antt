-- The front's own words among the words that it sees.
use Rattle.std.proofs.Common.{◌≡◌, ◌≢◌, ℕ, ◌+◌, ◌*◌, ◌/◌, ◌%◌, ◌<◌, Bool, true, false, cond, List, [], ◌∷◌, ◌++◌, drop, Option, Some, None, Result, Ok, Err, refl, ap, ◌∙◌, arith, nat_eq, eq-eqb, inl, inr}
use Rattle.std.specs.List.{All, filter}
use Rattle.std.proofs.lemmas.Bool.Decides.{eqb_tells}
use Rattle.std.proofs.lemmas.List.Elements.{All-head, All-nil, All-tail, filter-append}
use Rattle.nr_rev.specs.Run.{Recording}
use Rattle.nr_journal.specs.Rule.{IsOthers, tag_of}
use Rattle.nr_command.specs.Command.{meaning_of}
use Rattle.nr_command.specs.Word.{argument_of, opcode_of, word_of}
use Rattle.nr_command.specs.declared.command.Command.{Command}
use Rattle.nr_command.specs.declared.command.Command.TheVariants as commands
use Rattle.nr_command.specs.declared.command.Line.{Line}
use Rattle.nr_command.specs.declared.command.Line.TheVariants as lines
use Rattle.nr_command.specs.declared.command.LineFault.{LineFault}
use Rattle.nr_lines.specs.Turn.{is_quit}
use Rattle.nr_programs.specs.Shared.{MeetsOthers, own_word, words_seen}
use Rattle.nr_programs.specs.Auxiliary.Shared.{placed_words}
use Rattle.nr_programs.specs.Among.{Met, answer_among, next_met}
use Rattle.nr_programs.specs.Transcript.{SessionState, Supply, enough, no_memory, no_memory_to_search, no_room}

differs : (a b : ℕ) → a ≢ b → nat_eq a b ≡ false
differs a b h = elim (eqb_tells a b) as (λ _. nat_eq a b ≡ false) [ inl same ↦ absurd (h same.1) | inr other ↦ other.0 ]

tag_between : (o tag a : ℕ) → o < 256 → tag < 256 → (o + 256 * tag + 65536 * a) / 256 % 256 ≡ tag
tag_between o tag a low fits = omega (arith, low, fits)

low_opcode : (command : Command) → opcode_of command < 256
low_opcode (commands.Step count) = omega arith
low_opcode (commands.ReverseStep count) = omega arith
low_opcode commands.Continue = omega arith
low_opcode commands.ReverseContinue = omega arith
low_opcode (commands.SetDirection way) = omega arith
low_opcode (commands.Break wanted) = omega arith
low_opcode (commands.TemporaryBreak wanted) = omega arith
low_opcode (commands.Watch c) = omega arith
low_opcode (commands.Delete number) = omega arith
low_opcode commands.Checkpoint = omega arith
low_opcode (commands.Restart number) = omega arith
low_opcode (commands.DeleteCheckpoint number) = omega arith

module _ (tag : ℕ) (fits : tag < 256) where
  abbrev is_own : ℕ → Bool
  is_own word = nat_eq (tag_of word) tag

  own_is : (command : Command) → filter is_own (word_of tag command ∷ []) ≡ word_of tag command ∷ []
  own_is command =
      let is : tag_of (word_of tag command) ≡ tag = tag_between (opcode_of command) tag (argument_of command) (low_opcode command) fits in
      ap (λ b. cond b (word_of tag command ∷ []) []) (eq-eqb (tag_of (word_of tag command)) tag is)

  own_stays : (owed : Option Command) (asked : Result Line LineFault) (supply : Supply) → filter is_own (own_word tag owed asked supply) ≡ own_word tag owed asked supply
  own_stays None (Ok (lines.Run command)) enough = own_is command
  own_stays None (Ok (lines.Run command)) no_memory = refl
  own_stays None (Ok (lines.Run command)) no_memory_to_search = own_is command
  own_stays None (Ok (lines.Run command)) no_room = refl
  own_stays None (Ok (lines.Look query)) supply = refl
  own_stays None (Ok lines.Resume) supply = refl
  own_stays None (Ok lines.Quit) supply = refl
  own_stays None (Ok lines.Empty) supply = refl
  own_stays None (Err fault) supply = refl
  own_stays (Some command) asked supply = refl

  others_go : (words : List ℕ) → All (IsOthers tag) words → filter is_own words ≡ []
  others_go [] all = refl
  others_go (word ∷ words) all =
      ap (λ b. cond b (word ∷ filter is_own words) (filter is_own words)) (differs (tag_of word) tag (All-head (IsOthers tag) word words all)) ∙ others_go words (All-tail (IsOthers tag) word words all)

  first_others : (met : List Met) → All (MeetsOthers tag) met → MeetsOthers tag (next_met met)
  first_others [] all = All-nil (IsOthers tag)
  first_others (m ∷ met) all = All-head (MeetsOthers tag) m met all

  later_others : (met : List Met) → All (MeetsOthers tag) met → All (MeetsOthers tag) (drop 1 met)
  later_others [] all = All-nil (MeetsOthers tag)
  later_others (m ∷ met) all = All-tail (MeetsOthers tag) m met all

  unless : (quits : Bool) (seen placed : List ℕ) → filter is_own seen ≡ placed → filter is_own (cond quits [] seen) ≡ cond quits [] placed
  unless true seen placed same = refl
  unless false seen placed same = same

  pub own_words : (r : Recording) (s : SessionState) (ls : List (List ℕ)) (met : List Met) → All (MeetsOthers tag) met → filter is_own (words_seen tag r s ls met) ≡ placed_words tag r s ls met
  own_words r s [] met all = refl
  own_words r s (line ∷ ls) met all =
      let asked = meaning_of line in
      let m = next_met met in
      let a = answer_among r s.owed asked m s in
      let own = own_word tag s.owed asked m.supply in
      let later = cond (is_quit asked) [] (words_seen tag r a.1 ls (drop 1 met)) in
      filter-append is_own (m.others ++ own) later
      ∙ ap (λ (l : List ℕ). l ++ filter is_own later) (filter-append is_own m.others own ∙ ap (λ (l : List ℕ). l ++ filter is_own own) (others_go m.others (first_others met all)) ∙ own_stays s.owed asked m.supply)
      ∙ ap (λ (l : List ℕ). own ++ l) (unless (is_quit asked) _ _ (own_words r a.1 ls (drop 1 met) (later_others met all)))
