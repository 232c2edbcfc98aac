-- Fronts that were served have shared a session.
use Rattle.std.proofs.Common.{◌≡◌, ◌||◌, Bool, ℕ, suc, ◌+◌, List, [], ◌∷◌, ◌++◌, length, map, refl, ◌∙◌, sym, ap, subst, Option, append_assoc, add-one, arith}
use Rattle.std.specs.Prelude.{IfSome}
use Rattle.std.specs.List.{All, list_any}
use Rattle.std.proofs.lemmas.List.{map-append}
use Rattle.std.proofs.lemmas.List.Elements.{All-cons, All-head, All-nil, All-push, All-tail}
use Rattle.atomic_table.specs.Seated.{TableId}
use Rattle.nr_rev.specs.Run.{Recording}
use Rattle.nr_journal.specs.Rule.{journal_room}
use Rattle.nr_journal.specs.Pass.{Entered}
use Rattle.nr_journal.specs.declared.view.PassState.{PassState}
use Rattle.nr_front.specs.FrontState.{FrontState}
use Rattle.nr_serving.specs.Conversations.{FrontsLog, Passed}
use Rattle.nr_serving.specs.Fronts.{Course, has_failed, passed_in}
use Rattle.nr_serving.specs.Auxiliary.Fronts.{Adds, AreServed, IsReady, none_passed}
use Rattle.nr_serving.specs.Session.{BeginsFresh, IsHistory, IsShared, Opens, last_pass_state, numbers_below}
use Rattle.nr_serving.specs.Auxiliary.Session.{IsFresh, any_failed}
use Rattle.nr_serving.specs.declared.fronts.Done.{Done}
use Rattle.nr_serving.proofs.TagLemmas.{serving_keeps_tag}

-- the fronts, results and logs in lists of pairs
abbrev pub fronts_of : List (FrontState × Passed) → List FrontState
fronts_of pairs = map {A = FrontState × Passed} {B = FrontState} (λ f. f.0) pairs

abbrev pub dones_of : List (Done × Passed) → List Done
dones_of ones = map {A = Done × Passed} {B = Done} (λ o. o.0) ones

abbrev pub passed_of : List (Done × Passed) → List Passed
passed_of ones = map {A = Done × Passed} {B = Passed} (λ o. o.1) ones

-- the `Course` of each front
record Ran (table : TableId) (r : Recording) (fronts depth workers : ℕ) (starts : List FrontState) (ones : List (Done × Passed)) : Type 0 where
  courses : List Course
  counted : length courses ≡ length starts
  served : All (BeginsFresh table r fronts depth workers) courses
  tags : map (λ course. course.last.pass_state.tag) courses ≡ map (λ start. start.pass_state.tag) starts
  pass_states : map last_pass_state courses ≡ map (λ d. d.pass.pass_state) (dones_of ones)
  reported : any_failed (dones_of ones) ≡ list_any has_failed courses
  passed_is : passed_of ones ≡ map passed_in courses

ran : (table : TableId) (r : Recording) (fronts depth workers : ℕ) (starts : List FrontState) (ones : List (Done × Passed)) → AreServed starts ones → All (IsFresh table r fronts depth workers) starts
    → Ran table r fronts depth workers starts ones
ran table r fronts depth workers [] [] are fresh =
    record { courses = []; counted = refl; served = All-nil (BeginsFresh table r fronts depth workers); tags = refl; pass_states = refl; reported = refl; passed_is = refl }
ran table r fronts depth workers [] (o ∷ ones) are fresh = absurd are
ran table r fronts depth workers (s ∷ starts) [] are fresh = absurd are
ran table r fronts depth workers (s ∷ starts) (o ∷ ones) (is, are) fresh =
    let rest = ran table r fronts depth workers starts ones are (All-tail (IsFresh table r fronts depth workers) s starts fresh) in
    let c = is.course in
    let tag : c.last.pass_state.tag ≡ s.pass_state.tag = (serving_keeps_tag c.callers s c.last is.serving).0 in
    let pass_state : c.last.pass_state ≡ o.0.pass.pass_state = sym (ap (λ (p : Entered). p.pass_state) is.pass) in
    record {
      courses = c ∷ rest.courses;
      counted = ap suc rest.counted;
      served = All-cons (BeginsFresh table r fronts depth workers) c rest.courses (record { start = s; fresh = All-head (IsFresh table r fronts depth workers) s starts fresh; serving = is.serving }) rest.served;
      tags = ap (λ (t : ℕ). t ∷ map (λ course. course.last.pass_state.tag) rest.courses) tag ∙ ap (λ (l : List ℕ). s.pass_state.tag ∷ l) rest.tags;
      pass_states = ap (λ (t : PassState). t ∷ map last_pass_state rest.courses) pass_state ∙ ap (λ (l : List PassState). o.0.pass.pass_state ∷ l) rest.pass_states;
      reported = ap (λ (t : Bool). t || any_failed (dones_of ones)) is.failed ∙ ap (λ (t : Bool). has_failed c || t) rest.reported;
      passed_is = ap (λ (t : Passed). t ∷ passed_of ones) is.passed_is ∙ ap (λ (l : List Passed). passed_in c ∷ l) rest.passed_is;
    }

-- the passes of all fronts belong to the same journal
pub same_journal : (table : TableId) (r : Recording) (fronts depth workers : ℕ) (starts : List FrontState) (ones : List (Done × Passed)) → AreServed starts ones → All (IsFresh table r fronts depth workers) starts
    → All (λ d. d.pass.table ≡ table) (dones_of ones)
same_journal table r fronts depth workers [] [] are fresh = All-nil (λ d. d.pass.table ≡ table)
same_journal table r fronts depth workers [] (o ∷ ones) are fresh = absurd are
same_journal table r fronts depth workers (s ∷ starts) [] are fresh = absurd are
same_journal table r fronts depth workers (s ∷ starts) (o ∷ ones) (is, are) fresh =
    All-cons (λ d. d.pass.table ≡ table) o.0 (dones_of ones) (ap (λ (p : Entered). p.table) is.pass ∙ is.same ∙ ap (λ (k : FrontState). k.table) (All-head (IsFresh table r fronts depth workers) s starts fresh).2)
    (same_journal table r fronts depth workers starts ones are (All-tail (IsFresh table r fronts depth workers) s starts fresh))

-- at the end, the state of each pass still says that the session has `fronts` passes
pub same_passes : (table : TableId) (r : Recording) (fronts depth workers : ℕ) (starts : List FrontState) (ones : List (Done × Passed)) → AreServed starts ones
    → All (IsFresh table r fronts depth workers) starts → All (λ d. d.pass.pass_state.passes ≡ fronts) (dones_of ones)
same_passes table r fronts depth workers [] [] are fresh = All-nil (λ d. d.pass.pass_state.passes ≡ fronts)
same_passes table r fronts depth workers [] (o ∷ ones) are fresh = absurd are
same_passes table r fronts depth workers (s ∷ starts) [] are fresh = absurd are
same_passes table r fronts depth workers (s ∷ starts) (o ∷ ones) (is, are) fresh =
    All-cons (λ d. d.pass.pass_state.passes ≡ fronts) o.0 (dones_of ones)
    (ap (λ (p : Entered). p.pass_state.passes) is.pass ∙ (serving_keeps_tag is.course.callers s is.course.last is.serving).1
    ∙ ap (λ (k : FrontState). k.pass_state.passes) (All-head (IsFresh table r fronts depth workers) s starts fresh).2)
    (same_passes table r fronts depth workers starts ones are (All-tail (IsFresh table r fronts depth workers) s starts fresh))

-- the passes have the tags that they had at the start
pub same_tags : (starts : List FrontState) (ones : List (Done × Passed)) → AreServed starts ones → map (λ d. d.pass.pass_state.tag) (dones_of ones) ≡ map (λ start. start.pass_state.tag) starts
same_tags [] [] are = refl
same_tags [] (o ∷ ones) are = absurd are
same_tags (s ∷ starts) [] are = absurd are
same_tags (s ∷ starts) (o ∷ ones) (is, are) =
    let tag : o.0.pass.pass_state.tag ≡ s.pass_state.tag = ap (λ (p : Entered). p.pass_state.tag) is.pass ∙ (serving_keeps_tag is.course.callers s is.course.last is.serving).0 in
    ap (λ (n : ℕ). n ∷ map (λ d. d.pass.pass_state.tag) (dones_of ones)) tag ∙ ap (λ (l : List ℕ). s.pass_state.tag ∷ l) (same_tags starts ones are)

-- new fronts to which no caller has come yet are ready to be served
pub ready : (table : TableId) (r : Recording) (fronts depth workers : ℕ) (pairs : List (FrontState × Passed)) → All (IsFresh table r fronts depth workers) (fronts_of pairs) → All (λ f. f.1 ≡ none_passed) pairs
    → All (IsReady table) pairs
ready table r fronts depth workers [] fresh none = All-nil (IsReady table)
ready table r fronts depth workers (f ∷ pairs) fresh none =
    All-cons (IsReady table) f pairs
    (ap (λ (k : FrontState). k.table) (All-head (IsFresh table r fronts depth workers) f.0 (fronts_of pairs) fresh).2, All-head (λ f. f.1 ≡ none_passed) f pairs none)
    (ready table r fronts depth workers pairs (All-tail (IsFresh table r fronts depth workers) f.0 (fronts_of pairs) fresh) (All-tail (λ f. f.1 ≡ none_passed) f pairs none))

-- Lemmas about appending a front to the list of fronts, before any front has had callers.
pub fronts_more : (old new : List (FrontState × Passed)) (f : FrontState × Passed) (before : List FrontState) → new ≡ old ++ f ∷ [] → fronts_of old ≡ before → fronts_of new ≡ before ++ f.0 ∷ []
fronts_more old new f before is was =
    ap fronts_of is ∙ map-append (λ g. g.0) old (f ∷ []) ∙ ap (λ (l : List FrontState). l ++ f.0 ∷ []) was

pub none_more : (old new : List (FrontState × Passed)) (f : FrontState × Passed) → new ≡ old ++ f ∷ [] → All (λ g. g.1 ≡ none_passed) old → f.1 ≡ none_passed → All (λ g. g.1 ≡ none_passed) new
none_more old new f is all none = subst (All (λ g. g.1 ≡ none_passed)) (sym is) (All-push (λ g. g.1 ≡ none_passed) old f all none)

-- the session is shared
pub shared : (table : TableId) (r : Recording) (fronts depth workers : ℕ) (history : Option (List ℕ)) (failed : Bool) (starts : List FrontState) (ones : List (Done × Passed)) (room : ℕ)
    → journal_room table ≡ room → length starts ≡ fronts → AreServed starts ones → All (IsFresh table r fronts depth workers) starts
    → map (λ start. start.pass_state.tag) starts ≡ numbers_below fronts → IfSome history (IsHistory (journal_room table) (map (λ d. d.pass.pass_state) (dones_of ones)))
    → failed ≡ any_failed (dones_of ones) → IsShared r room fronts depth workers (passed_of ones) history failed
shared table r fronts depth workers history failed starts ones room room_is count are fresh tags one_history reported =
    let s = ran table r fronts depth workers starts ones are fresh in
    record {
      table = table;
      room_is = room_is;
      courses = s.courses;
      counted = s.counted ∙ count;
      served = s.served;
      tags = s.tags ∙ tags;
      one_history = subst (λ (k : ℕ). IfSome history (IsHistory k (map last_pass_state s.courses))) room_is
          (subst (λ (l : List PassState). IfSome history (IsHistory (journal_room table) l)) (sym s.pass_states) one_history);
      reported = reported ∙ s.reported;
      passed_is = s.passed_is;
    }

-- the port of the next front is opened
pub port_more : (old mid new : FrontsLog) (number : ℕ) → new ≡ record mid { opened = mid.opened ++ number ∷ [] } → mid ≡ record old { opened = old.opened ++ numbers_below number }
    → new ≡ record old { opened = old.opened ++ numbers_below (number + 1) }
port_more old mid new number next was =
    next ∙ ap (λ (l : FrontsLog). record l { opened = l.opened ++ number ∷ [] }) was
    ∙ ap (λ (l : List ℕ). record { opened = l; ended = old.ended }) (append_assoc old.opened (numbers_below number) (number ∷ []) ∙ ap (λ (n : ℕ). old.opened ++ numbers_below n) (sym (add-one number)))

-- `fronts` ports were opened, one for each front, and then the fronts ended, each with its log
pub opens : (old mid new : FrontsLog) (n fronts : ℕ) (passed : List Passed) → mid ≡ record old { opened = old.opened ++ numbers_below n } → new ≡ record mid { ended = mid.ended ++ passed } → n ≡ fronts
    → Opens fronts passed old new
opens old mid new n fronts passed first then is =
    then ∙ ap (λ (x : FrontsLog). record x { ended = x.ended ++ passed }) first ∙ ap (λ (k : ℕ). record { opened = old.opened ++ numbers_below k; ended = old.ended ++ passed }) is

-- there are as many results as fronts that were opened
pub as_many : {none : ℕ} (fronts opened ready served done : ℕ) → opened ≡ fronts → ready ≡ opened → served ≡ none + ready → none ≡ 0 → done ≡ served → fronts ≡ done
as_many fronts opened ready served done a b c d e = omega (arith, a, b, c, d, e)

-- if there were no results before, these are all results
pub served_all : (starts : List FrontState) (old new : List (Done × Passed)) → Adds starts old new → old ≡ [] → AreServed starts new
served_all starts old new (more, behind, are) none = subst (AreServed starts) (sym (behind ∙ ap (λ (l : List (Done × Passed)). l ++ more) none)) are
