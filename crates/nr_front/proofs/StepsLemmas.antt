-- The effects of reading words, offering a command and running it, one after the other.
use Rattle.std.proofs.Common.{◌≡◌, ◌≢◌, ℕ, ◌+◌, ◌<◌, ◌≤◌, List, [], ◌∷◌, ◌++◌, arith, length, refl, sym, ap, ◌∙◌, subst, append_assoc, append-nil, Option, Some, None, false, inl, inr}
use Rattle.std.specs.List.{All}
use Rattle.std.proofs.lemmas.List.Elements.{All-append, All-cons, All-nil}
use Rattle.atomic_table.specs.Seated.{TableId}
use Rattle.nr_journal.specs.declared.view.PassState.{PassState}
use Rattle.nr_journal.specs.Rule.{IsOthers, StartsWith, journal_room}
use Rattle.nr_journal.specs.Auxiliary.Rule.{having_seen, looked}
use Rattle.nr_journal.specs.Pass.{SeesOthers, CatchesUp}
use Rattle.nr_journal.specs.declared.pass.Offered.TheVariants as offered
use Rattle.nr_command.specs.declared.command.Command.{Command}
use Rattle.nr_command.specs.Word.{command_of, word_of}
use Rattle.nr_front.specs.FrontState.{FrontState}
use Rattle.nr_front.specs.Auxiliary.FrontState.{HasCompany, SearchIsPending, own_pending, owed_command, pending_command}
use Rattle.nr_front.specs.declared.pending.Pending.{Pending}
use Rattle.nr_front.specs.declared.pending.Pending.TheVariants.{Nothing, Others, Own}
use Rattle.nr_front.specs.Front.{CatchesAll, FindsFull, IsRefusedMemory, IsUnmoved, Learns, PlacesCommand, without_pending}
use Rattle.nr_front.specs.Steps.{FindsNone, HasSeenAll, OffersCommand, Sees, SeesWord, pending_after}

own_pending-others : (x : Option (ℕ × Command)) → own_pending (pending_after x) ≡ None
own_pending-others None = refl
own_pending-others (Some tagged) = refl

-- another user's word was read, and its command is pending
pub sees_word : (word : ℕ) (view old new : FrontState) (journal : TableId) → view ≡ old → old.table ≡ journal → IsUnmoved view new → new.pass_state ≡ having_seen view.pass_state word
    → IsOthers view.pass_state.tag word → view.pass_state.passes ≢ 1 → length view.pass_state.seen < journal_room journal → new.pending ≡ pending_after (command_of word) → SeesWord word old new
sees_word word view old new journal is at same pass_state others company room pending = record {
  same = subst (λ (d : FrontState). IsUnmoved d new) is same;
  pass_state = pass_state ∙ ap (λ (d : FrontState). having_seen d.pass_state word) is;
  others = subst (λ (d : FrontState). IsOthers d.pass_state.tag word) is others;
  company = subst (λ (d : FrontState). d.pass_state.passes ≢ 1) is company;
  room = subst (λ (d : FrontState). length d.pass_state.seen < journal_room old.table) is (subst (λ (t : TableId). length view.pass_state.seen < journal_room t) (sym at) room);
  unowed = ap own_pending pending ∙ own_pending-others (command_of word);
}

-- the parts of a pass's state that stay the same if no word was read
record SeesNothing (old new : PassState) : Type 0 where
  pub seen : new.seen ≡ old.seen
  pub tag : new.tag ≡ old.tag
  pub learned : new.learned ≡ old.learned
  pub looks : old.looks ≤ new.looks
  pub passes : new.passes ≡ old.passes

same_pass_state : (old new : PassState) → new ≡ old → SeesNothing old new
same_pass_state old new is = record {
  seen = ap (λ (s : PassState). s.seen) is;
  tag = ap (λ (s : PassState). s.tag) is;
  learned = ap (λ (s : PassState). s.learned) is;
  looks = let e = ap (λ (s : PassState). s.looks) is in omega (arith, e);
  passes = ap (λ (s : PassState). s.passes) is;
}

looked_once : (old new : PassState) → new ≡ looked old → SeesNothing old new
looked_once old new is = record {
  seen = ap (λ (s : PassState). s.seen) is;
  tag = ap (λ (s : PassState). s.tag) is;
  learned = ap (λ (s : PassState). s.learned) is;
  looks = let e = ap (λ (s : PassState). s.looks) is in omega (arith, e);
  passes = ap (λ (s : PassState). s.passes) is;
}

sees_others_none : (old new : PassState) → SeesNothing old new → SeesOthers old new
sees_others_none old new n = ([], n.seen ∙ sym (append-nil old.seen), All-nil (IsOthers old.tag), n.tag, n.learned, n.passes, (λ _. refl))

sees_others_one : (old new : PassState) (word : ℕ) → new ≡ having_seen old word → IsOthers old.tag word → old.passes ≢ 1 → SeesOthers old new
sees_others_one old new word is others company = (
  word ∷ [],
  ap (λ (s : PassState). s.seen) is,
  All-cons (IsOthers old.tag) word [] others (All-nil (IsOthers old.tag)),
  ap (λ (s : PassState). s.tag) is,
  ap (λ (s : PassState). s.learned) is,
  ap (λ (s : PassState). s.passes) is,
  (λ only. absurd (company only)),
)

sees_others_then : (a b d : PassState) → SeesOthers a b → SeesOthers b d → SeesOthers a d
sees_others_then a b d x y = (
  x.0 ++ y.0,
  y.1 ∙ ap (λ (l : List ℕ). l ++ y.0) x.1 ∙ append_assoc a.seen x.0 y.0,
  All-append (IsOthers a.tag) x.0 y.0 x.2 (subst (λ (t : ℕ). All (IsOthers t) y.0) x.3 y.2),
  y.3 ∙ x.3,
  y.4 ∙ x.4,
  y.5 ∙ x.5,
  (λ alone. ap (λ (l : List ℕ). l ++ y.0) (x.6 alone) ∙ y.6 (x.5 ∙ alone)),
)

same_then : (a b d : FrontState) → IsUnmoved a b → IsUnmoved b d → IsUnmoved a d
same_then a b d x y = record { table = y.table ∙ x.table; recording = y.recording ∙ x.recording; workers = y.workers ∙ x.workers; walker_state = y.walker_state ∙ x.walker_state }

-- no word was read
learns_none : (a b : FrontState) → IsUnmoved a b → SeesNothing a.pass_state b.pass_state → owed_command a ≡ None → owed_command b ≡ None → Learns a b
learns_none a b same none before after = record {
  same = same;
  sees_others = sees_others_none a.pass_state b.pass_state none;
  looks = none.looks;
  unowed = before;
  unowed_still = after;
}

-- two rounds of reading count as one
pub learns_then : (a b d : FrontState) → Learns a b → Learns b d → Learns a d
learns_then a b d x y = record {
  same = same_then a b d x.same y.same;
  sees_others = sees_others_then a.pass_state b.pass_state d.pass_state x.sees_others y.sees_others;
  looks = let p = x.looks in let q = y.looks in omega (arith, p, q);
  unowed = x.unowed;
  unowed_still = y.unowed_still;
}

-- another word was read
pub learns_word : (word : ℕ) (a b : FrontState) → owed_command a ≡ None → SeesWord word a b → Learns a b
learns_word word a b unowed s = record {
  same = s.same;
  sees_others = sees_others_one a.pass_state b.pass_state word s.pass_state s.others s.company;
  looks = let e = ap (λ (t : PassState). t.looks) s.pass_state in omega (arith, e);
  unowed = unowed;
  unowed_still = s.unowed;
}

-- the pending command was run
pub learns_run : (a b d : FrontState) → Learns a b → d ≡ without_pending b → Learns a d
learns_run a b d x is = subst (λ (t : FrontState). Learns a t) (sym is) (record {
  same = record { table = x.same.table; recording = x.same.recording; workers = x.same.workers; walker_state = x.same.walker_state };
  sees_others = x.sees_others;
  looks = x.looks;
  unowed = x.unowed;
  unowed_still = refl;
})

-- the parts of a pass's state that stay the same if no further word was found
found_none : (a b : FrontState) → FindsNone a b → SeesNothing a.pass_state b.pass_state
found_none a b none = elim none as (λ _. SeesNothing a.pass_state b.pass_state) [
  | inl p ↦ looked_once a.pass_state b.pass_state p.0
  | inr p ↦ same_pass_state a.pass_state b.pass_state p.0
]

-- no further word was found
pub learns_end : (a b : FrontState) → owed_command a ≡ None → Sees a b false → Learns a b
learns_end a b unowed s = learns_none a b s.0 (found_none a b s.2) unowed (ap own_pending s.1)

pub caught_all : (a b d : FrontState) → Learns a b → b.pass_state.looks ≡ a.pass_state.looks → Sees b d false → CatchesAll a d
caught_all a b d l same s = record {
  learns = learns_then a b d l (learns_end b d l.unowed_still s);
  caught_up =
      elim s.2 as (λ _. CatchesUp (journal_room a.table) a.pass_state d.pass_state) [
        | inl p ↦ inl (
          ap (λ (t : PassState). t.looks) p.0 ∙ ap (λ (n : ℕ). n + 1) same,
          subst (λ (xs : List ℕ). StartsWith xs a.pass_state.learned) (sym (ap (λ (t : PassState). t.seen) p.0)) (subst (λ (xs : List ℕ). StartsWith b.pass_state.seen xs) l.sees_others.4 p.1),
        )
        | inr p ↦ inr (
          ap (λ (t : PassState). t.looks) p.0 ∙ same,
          ap (λ (t : PassState). length t.seen) p.0 ∙ p.1 ∙ ap journal_room l.same.table,
        )
      ];
  run = s.1;
}

-- after catching up, a front has read all words that its pass has learned of
pub seen_all_caught : (a b : FrontState) → CatchesAll a b → HasSeenAll b
seen_all_caught a b c = elim c.caught_up as (λ _. HasSeenAll b) [
  | inl p ↦ inl (subst (λ (xs : List ℕ). StartsWith b.pass_state.seen xs) (sym c.learns.sees_others.4) p.1)
  | inr p ↦ inr (p.1 ∙ sym (ap journal_room c.learns.same.table))
]

-- if the front has read all words that its pass has learned of, this also holds after it reads
-- another word
pub seen_all_more : (word : ℕ) (a b : FrontState) → HasSeenAll a → SeesWord word a b → HasSeenAll b
seen_all_more word a b all s = elim all as (λ _. HasSeenAll b) [
  | inl p ↦ inl (rw s.pass_state (p.0 ++ word ∷ [], ap (λ (l : List ℕ). l ++ word ∷ []) p.1 ∙ append_assoc a.pass_state.learned p.0 (word ∷ [])))
  | inr p ↦ (let room = s.room in absurd (omega (arith, p, room)))
]

pub seen_all_run : (a b : FrontState) → HasSeenAll a → b ≡ without_pending a → HasSeenAll b
seen_all_run a b all is = subst HasSeenAll (sym is) all

-- if the journal has room, the front has read all words that its pass has learned of
learned_seen : (a : FrontState) → HasSeenAll a → length a.pass_state.seen < journal_room a.table → StartsWith a.pass_state.seen a.pass_state.learned
learned_seen a all room = elim all as (λ _. StartsWith a.pass_state.seen a.pass_state.learned) [
  | inl p ↦ p
  | inr p ↦ absurd (omega (arith, p, room))
]

-- the front's own word was placed at once
pub places_one : (a b : FrontState) (command : Command) → owed_command a ≡ None → HasSeenAll a → OffersCommand command a b offered.Placed → PlacesCommand command a b
places_one a b command unowed all o = record {
  between = [];
  same = o.0;
  placed = ap (λ (t : PassState). t.seen) o.1 ∙ ap (λ (l : List ℕ). l ++ word_of a.pass_state.tag command ∷ []) (sym (append-nil a.pass_state.seen));
  others = All-nil (IsOthers a.pass_state.tag);
  none_between = λ _. refl;
  learned_before = subst (λ (l : List ℕ). StartsWith l a.pass_state.learned) (sym (append-nil a.pass_state.seen)) (learned_seen a all o.3);
  tag = ap (λ (t : PassState). t.tag) o.1;
  learned = ap (λ (t : PassState). t.learned) o.1;
  passes = ap (λ (t : PassState). t.passes) o.1;
  looks = let e = ap (λ (t : PassState). t.looks) o.1 in omega (arith, e);
  unowed = unowed;
}

-- the front's own word was placed after the front read words of other fronts
pub places_then : (a b d : FrontState) (command : Command) → Learns a b → PlacesCommand command b d → PlacesCommand command a d
places_then a b d command x y =
    let before : b.pass_state.seen ++ y.between ≡ a.pass_state.seen ++ (x.sees_others.0 ++ y.between) =
    ap (λ (l : List ℕ). l ++ y.between) x.sees_others.1 ∙ append_assoc a.pass_state.seen x.sees_others.0 y.between in
    record {
      between = x.sees_others.0 ++ y.between;
      same = same_then a b d x.same y.same;
      placed =
          y.placed
          ∙ ap (λ (l : List ℕ). l ++ word_of b.pass_state.tag command ∷ []) before
          ∙ ap (λ (t : ℕ). (a.pass_state.seen ++ (x.sees_others.0 ++ y.between)) ++ word_of t command ∷ []) x.sees_others.3;
      others = All-append (IsOthers a.pass_state.tag) x.sees_others.0 y.between x.sees_others.2 (subst (λ (t : ℕ). All (IsOthers t) y.between) x.sees_others.3 y.others);
      none_between = λ alone. ap (λ (l : List ℕ). l ++ y.between) (x.sees_others.6 alone) ∙ y.none_between (x.sees_others.5 ∙ alone);
      learned_before = subst (λ (l : List ℕ). StartsWith l a.pass_state.learned) before (subst (λ (t : List ℕ). StartsWith (b.pass_state.seen ++ y.between) t) x.sees_others.4 y.learned_before);
      tag = y.tag ∙ x.sees_others.3;
      learned = y.learned ∙ x.sees_others.4;
      passes = y.passes ∙ x.sees_others.5;
      looks = let p = x.looks in let q = y.looks in omega (arith, p, q);
      unowed = x.unowed;
    }

-- the offer was rejected, since the journal is full and all its words were read
pub learns_full : (a b : FrontState) (command : Command) → owed_command a ≡ None → OffersCommand command a b offered.Full → Learns a b
learns_full a b command unowed o = learns_none a b o.0 (same_pass_state a.pass_state b.pass_state o.1) unowed (ap own_pending o.2)

pub finds_full : (a b d : FrontState) (command : Command) → Learns a b → OffersCommand command b d offered.Full → FindsFull a d
finds_full a b d command l o = record {
  learns = learns_then a b d l (learns_full b d command l.unowed_still o);
  full = ap (λ (t : PassState). length t.seen) o.1 ∙ o.3 ∙ ap journal_room l.same.table;
  run = o.2;
}

-- another user's command ran out of memory
pub is_refused : (a b d : FrontState) → Learns a b → d ≡ b → SearchIsPending b → HasCompany b.pending b.pass_state.passes → IsRefusedMemory a d
is_refused a b d l is wanted company = subst (λ (t : FrontState). IsRefusedMemory a t) (sym is)
    (record { learns = l; wanted = wanted; company = of_others b.pending wanted.command b.pass_state.passes wanted.pending l.unowed_still company })
  where
    of_others : (pending : Pending) (command : Command) (passes : ℕ) → pending_command pending ≡ Some command → own_pending pending ≡ None → HasCompany pending passes → passes ≢ 1
    of_others Nothing command passes is none company = absurd (let clash : None ≡ Some command = is in cc)
    of_others (Others other) command passes is none company = company
    of_others (Own own) command passes is none company = absurd (let clash : Some own ≡ None = none in cc)
