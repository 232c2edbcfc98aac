-- Lemmas about the history. After the last pass has read all words, the words that it has read are
-- the history.
use Rattle.std.proofs.Common.{◌≡◌, ◌≢◌, ◌<◌, ◌+◌, ℕ, zero, suc, add-one, inl, inr, List, [], ◌∷◌, ◌++◌, map, refl, ◌∙◌, sym, ap, subst, arith, append_assoc, append-nil, Result, Ok, Err}
use Rattle.std.specs.Prelude.{IfOk, IfSome}
use Rattle.std.specs.Global.{Vec}
use Rattle.nr_rev.specs.declared.memory.Memory.{Memory}
use mathlib.Core.Logic.{dite}
use native.Mathlib.Decide.{ℕ_discrete}
use Rattle.std.specs.List.{All, Contains}
use Rattle.std.proofs.lemmas.List.{append_cancel_left, map-append}
use Rattle.std.proofs.lemmas.List.Elements.{All-append, All-cons, All-head, All-map, All-nil, All-push, All-tail, All-weaker, Contains-append_left, Contains-push}
use Rattle.nr_journal.specs.Pass.{CatchesUp, SeesOthers}
use Rattle.nr_journal.specs.Rule.{Covers, IsOthers, StartsWith, tag_of}
use Rattle.nr_journal.specs.Auxiliary.Rule.{HasTagBelow, informed}
use Rattle.nr_journal.specs.declared.view.PassState.{PassState}
use Rattle.nr_serving.specs.Session.{IsHistory, IsTheirs, numbers_below}
use Rattle.nr_serving.specs.Auxiliary.Session.{HasItsOwnWords, IsSeenBy, words_of}
use Rattle.nr_serving.specs.declared.fronts.Done.{Done}

-- if all items of a list have a property, so do the items of each prefix
all_front : (P : ℕ → Type 0) (xs ys : List ℕ) → All P (xs ++ ys) → All P xs
all_front P [] ys h = All-nil P
all_front P (x ∷ xs) ys h = All-cons P x xs (All-head P x (xs ++ ys) h) (all_front P xs ys (All-tail P x (xs ++ ys) h))

-- words of other passes followed by more words of other passes
covers_on : (tag : ℕ) (xs ys zs : List ℕ) → Covers ys tag xs → Covers zs tag ys → Covers zs tag xs
covers_on tag xs ys zs (a, p, others) (b, q, more) = (a ++ b, q ∙ ap (λ (l : List ℕ). l ++ b) p ∙ append_assoc xs a b, All-append (IsOthers tag) a b others more)

-- the history that a pass read contains all of the pass's own words
pub own_seen : (room : ℕ) (words : List ℕ) (pass_state : PassState) → IsSeenBy room words pass_state → HasItsOwnWords words pass_state
own_seen room words pass_state s =
    let more : Covers s.after.seen pass_state.tag s.before.seen = subst (λ (t : ℕ). Covers s.after.seen t s.before.seen) s.tag (s.sees_others.0, s.sees_others.1, s.sees_others.2) in
    subst (λ (w : List ℕ). Covers w pass_state.tag pass_state.seen) (sym s.is) (covers_on pass_state.tag pass_state.seen s.before.seen s.after.seen s.others more)

-- if a pass has read words until none was left, the history is what it has read
pub seen_last : (room : ℕ) (given : Result (Vec ℕ) Memory) (old new : PassState) → SeesOthers old new → CatchesUp room old new → IfOk given (λ words. words.items ≡ new.seen)
    → IfOk given (λ words. IsSeenBy room words.items old)
seen_last room (Ok words) old new sees_others caught_up is = record {
  before = old;
  after = new;
  others = ([], sym (append-nil old.seen), All-nil (IsOthers old.tag));
  tag = refl;
  sees_others = sees_others;
  caught_up = caught_up;
  is = is;
}
seen_last room (Err fault) old new sees_others caught_up is = tt

-- a pass can read the history in two stages: first the words that another pass reported, and then
-- all later words
pub seen_before : (room : ℕ) (given : Result (Vec ℕ) Memory) (old mid : PassState) (reported : List ℕ) → SeesOthers (informed old reported) mid
    → IfOk given (λ words. IsSeenBy room words.items mid) → IfOk given (λ words. IsSeenBy room words.items old)
seen_before room (Ok words) old mid reported g s = record {
  before = s.before;
  after = s.after;
  others = covers_on old.tag old.seen mid.seen s.before.seen (g.0, g.1, g.2) (subst (λ (t : ℕ). Covers s.before.seen t mid.seen) g.3 s.others);
  tag = s.tag ∙ g.3;
  sees_others = s.sees_others;
  caught_up = s.caught_up;
  is = s.is;
}
seen_before room (Err fault) old mid reported g s = tt

-- The last pass has read all words that the pass `own` has read. When `own` then reads the rest of
-- the history, all new words are from other passes. So the history contains all words of `own`.
own_more : (room : ℕ) (words fin reported : List ℕ) (mid own later : PassState) → IsSeenBy room words mid → words ≡ fin → StartsWith mid.seen own.seen → SeesOthers (informed own reported) later
    → StartsWith later.seen fin → HasItsOwnWords words own
own_more room words fin reported mid own later s is (x, p) g (y, q) =
    let c = own_seen room words mid s in
    let whole : words ≡ own.seen ++ (x ++ c.0) = c.1 ∙ ap (λ (l : List ℕ). l ++ c.0) p ∙ append_assoc own.seen x c.0 in
    let long : own.seen ++ ((x ++ c.0) ++ y) ≡ own.seen ++ g.0 =
    sym (append_assoc own.seen (x ++ c.0) y) ∙ ap (λ (l : List ℕ). l ++ y) (sym whole ∙ is) ∙ sym q ∙ g.1 in
    (x ++ c.0, whole, all_front (IsOthers own.tag) (x ++ c.0) y (subst (All (IsOthers own.tag)) (sym (append_cancel_left own.seen ((x ++ c.0) ++ y) g.0 long)) g.2))

-- the history contains all words that another pass placed
pub others_more : (room : ℕ) (given : Result (Vec ℕ) Memory) (rest all : List Done) (other : Done) (met mid fin later : PassState) (reported more : List ℕ) → all ≡ rest ++ other ∷ []
    → IfOk given (λ words. IsSeenBy room words.items mid) → IfOk given (λ words. words.items ≡ fin.seen) → StartsWith mid.seen other.pass.pass_state.seen
    → met ≡ informed other.pass.pass_state reported → SeesOthers (informed met more) later → StartsWith later.seen fin.seen → IfOk given (λ words. All (λ d. HasItsOwnWords words.items d.pass.pass_state) rest)
    → IfOk given (λ words. All (λ d. HasItsOwnWords words.items d.pass.pass_state) all)
others_more room (Ok words) rest all other met mid fin later reported more split s is first was sees_others last own =
    let g : SeesOthers (informed (informed other.pass.pass_state reported) more) later = subst (λ (t : PassState). SeesOthers (informed t more) later) was sees_others in
    subst (All (λ d. HasItsOwnWords words.items d.pass.pass_state)) (sym split)
    (All-push (λ d. HasItsOwnWords words.items d.pass.pass_state) rest other own (own_more room words.items fin.seen more mid other.pass.pass_state later s is first g last))
others_more room (Err fault) rest all other met mid fin later reported more split s is first was sees_others last own = tt

-- if the tags of all words are below the number of passes, they are below any equal number
pub below_as : (given : Result (Vec ℕ) Memory) (passes passes' : ℕ) → passes' ≡ passes → IfOk given (λ words. All (HasTagBelow passes') words.items) → IfOk given (λ words. All (HasTagBelow passes) words.items)
below_as given passes passes' is below = subst (λ (n : ℕ). IfOk given (λ words. All (HasTagBelow n) words.items)) is below

pub below_seen : (given : Result (Vec ℕ) Memory) (passes passes' : ℕ) (seen : List ℕ) → passes' ≡ passes → IfOk given (λ words. words.items ≡ seen) → All (HasTagBelow passes') seen
    → IfOk given (λ words. All (HasTagBelow passes) words.items)
below_seen (Ok words) passes passes' seen is are below = subst (All (HasTagBelow passes)) (sym are) (subst (λ (n : ℕ). All (HasTagBelow n) seen) is below)
below_seen (Err fault) passes passes' seen is are below = tt

-- no other pass is left
pub others_none : (given : Result (Vec ℕ) Memory) (all : List Done) → all ≡ [] → IfOk given (λ words. All (λ d. HasItsOwnWords words.items d.pass.pass_state) all)
others_none (Ok words) all none = subst (All (λ d. HasItsOwnWords words.items d.pass.pass_state)) (sym none) (All-nil (λ d. HasItsOwnWords words.items d.pass.pass_state))
others_none (Err fault) all none = tt

-- if the items of a list are numbered from 0, they still are after the next item is appended
pub numbers_more : {A : Type 0} (number : A → ℕ) (xs all : List A) (x : A) (n : ℕ) → all ≡ xs ++ x ∷ [] → map number xs ≡ numbers_below n → number x ≡ n → map number all ≡ numbers_below (n + 1)
numbers_more number xs all x n split so_far is =
    ap (map number) split ∙ map-append number xs (x ∷ []) ∙ ap (λ (l : List ℕ). l ++ number x ∷ []) so_far ∙ ap (λ (m : ℕ). numbers_below n ++ m ∷ []) is ∙ ap numbers_below (sym (add-one n))

-- each number below n is in the list of numbers below n
pub among_below : (n k : ℕ) → k < n → Contains (numbers_below n) k
among_below zero k below = absurd (omega (arith, below))
among_below (suc n) k below = dite (ℕ_discrete k n)
    (λ (same : k ≡ n). subst (λ (m : ℕ). Contains (numbers_below n ++ n ∷ []) m) (sym same) (Contains-push (numbers_below n) n))
    (λ (other : k ≢ n). Contains-append_left (numbers_below n) (n ∷ []) k (among_below n k (omega (arith, below, other))))

-- if all items of a list have a property, so does the last item
all_last : (P : Done → Type 0) (xs : List Done) (x : Done) → All P (xs ++ x ∷ []) → P x
all_last P [] x h = All-head P x [] h
all_last P (y ∷ xs) x h = all_last P xs x (All-tail P y (xs ++ x ∷ []) h)

-- listing the states of the passes, and then the tags of these states, gives the tags of the passes
tags_known : (all : List Done) → map (λ p. p.tag) (map (λ d. d.pass.pass_state) all) ≡ map (λ d. d.pass.pass_state.tag) all
tags_known [] = refl
tags_known (d ∷ all) = ap (λ (l : List ℕ). d.pass.pass_state.tag ∷ l) (tags_known all)

-- if the tags of n passes are 0 to n - 1, and the tag of each word is below n, then each word has
-- the tag of one of the passes
theirs : (words : List ℕ) (n : ℕ) (all : List Done) (passes : ℕ) → map (λ d. d.pass.pass_state.tag) all ≡ numbers_below n → passes ≡ n → All (HasTagBelow passes) words
    → All (IsTheirs (map (λ d. d.pass.pass_state) all)) words
theirs words n all passes tags is below =
    All-weaker (HasTagBelow passes) (IsTheirs (map (λ d. d.pass.pass_state) all))
    (λ word (lower : HasTagBelow passes word). subst (λ (l : List ℕ). Contains l (tag_of word)) (sym (tags_known all ∙ tags)) (among_below n (tag_of word) (subst (λ (m : ℕ). tag_of word < m) is lower)))
    words below

-- the history of the fronts that have ended
pub history_of : (room n : ℕ) (given : Result (Vec ℕ) Memory) (rest all : List Done) (last : Done) → all ≡ rest ++ last ∷ [] → IfOk given (λ words. IsSeenBy room words.items last.pass.pass_state)
    → IfOk given (λ words. All (λ d. HasItsOwnWords words.items d.pass.pass_state) rest) → IfOk given (λ words. All (HasTagBelow last.pass.pass_state.passes) words.items)
    → map (λ d. d.pass.pass_state.tag) all ≡ numbers_below n → All (λ d. d.pass.pass_state.passes ≡ n) all
    → IfSome (words_of given) (IsHistory room (map (λ d. d.pass.pass_state) all))
history_of room n (Ok words) rest all last split s own below tags passes = record {
  theirs = theirs words.items n all last.pass.pass_state.passes tags
      (all_last (λ d. d.pass.pass_state.passes ≡ n) rest last (subst (All (λ d. d.pass.pass_state.passes ≡ n)) split passes)) below;
  own = subst (λ (l : List Done). All (HasItsOwnWords words.items) (map (λ d. d.pass.pass_state) l)) (sym split)
      (All-map (HasItsOwnWords words.items) (λ d. d.pass.pass_state) (rest ++ last ∷ [])
      (All-push (λ d. HasItsOwnWords words.items d.pass.pass_state) rest last own (own_seen room words.items last.pass.pass_state s)));
  whole = inl (
    last.pass.pass_state,
    subst (λ (l : List PassState). Contains l last.pass.pass_state) (sym (ap (map (λ d. d.pass.pass_state)) split ∙ map-append (λ d. d.pass.pass_state) rest (last ∷ [])))
        (Contains-push (map (λ d. d.pass.pass_state) rest) last.pass.pass_state),
    s,
  );
}
history_of room n (Err fault) rest all last split s own below tags passes = tt

-- the session has no front
pub no_history : (room : ℕ) (all : List Done) (words : List ℕ) → all ≡ [] → words ≡ [] → IsHistory room (map (λ d. d.pass.pass_state) all) words
no_history room all words none empty = record {
  own = subst (λ (l : List Done). All (HasItsOwnWords words) (map (λ d. d.pass.pass_state) l)) (sym none) (All-nil (HasItsOwnWords words));
  theirs = subst (All (IsTheirs (map (λ d. d.pass.pass_state) all))) (sym empty) (All-nil (IsTheirs (map (λ d. d.pass.pass_state) all)));
  whole = inr (ap (map (λ d. d.pass.pass_state)) none, empty);
}
