-- Callers served one after the other.
use Rattle.std.proofs.Common.{◌≡◌, List, [], ◌∷◌, ◌++◌, map, Option, Some, None, Bool, ◌||◌, refl, sym, ap, ◌∙◌, subst, append_assoc, append-nil}
use Rattle.std.specs.List.{list_any}
use Rattle.std.specs.Prelude.{IfSome, option_to_list}
use Rattle.std.proofs.lemmas.List.Folds.{list_any-append}
use Rattle.std.proofs.Math.Bool.{or-false}
use Rattle.std.proofs.lemmas.List.{map-append}
use Rattle.nr_front.specs.FrontState.{FrontState}
use Rattle.nr_serving.specs.Fronts.{came, is_failure}
use Rattle.nr_serving.specs.Auxiliary.Fronts.{Adds, AreServed, IsServed, ServesCaller, ServesCallers}
use Rattle.nr_serving.specs.Conversations.{Conversation, Passed}
use Rattle.nr_serving.specs.Logged.{with_arrival}
use Rattle.nr_serving.specs.declared.conversations.Arrival.{Arrival}
use Rattle.nr_serving.specs.declared.conversations.Arrival.TheVariants.{Came}
use Rattle.nr_serving.specs.declared.fronts.Done.{Done}

-- one more caller
pub serving_more : (callers : List Conversation) (a b d : FrontState) (c : Conversation) → ServesCallers callers a b → ServesCaller c b d
    → ServesCallers (callers ++ c ∷ []) a d
serving_more [] a b d c is last = (d, subst (λ (s : FrontState). ServesCaller c s d) is last, refl)
serving_more (one ∷ callers) a b d c (mid, first, rest) last = (mid, first, serving_more callers mid b d c rest last)

-- after another caller, the result still reports a failure if and only if serving one of the
-- callers failed
pub reported_more : (callers : List Conversation) (c : Conversation) (was now : Bool) → was ≡ list_any is_failure callers → now ≡ (was || is_failure c)
    → now ≡ list_any is_failure (callers ++ c ∷ [])
reported_more callers c was now reported is =
    is ∙ ap (λ (t : Bool). t || is_failure c) reported ∙ ap (λ (t : Bool). list_any is_failure callers || t) (sym (or-false (is_failure c))) ∙ sym (list_any-append is_failure callers (c ∷ []))

-- another caller came and was served
pub came_more : (callers conversations : List Conversation) (c : Conversation) (before arrived : List Arrival) → conversations ≡ callers ++ c ∷ [] → before ≡ came callers → arrived ≡ before ++ Came ∷ []
    → arrived ≡ came (callers ++ c ∷ [])
came_more callers conversations c before arrived is was now = now ∙ ap (λ (l : List Arrival). l ++ Came ∷ []) was ∙ sym (map-append (λ c. Came) callers (c ∷ []))

-- all callers that came were served, and the next wait had this result
pub ended_with : (last : Arrival) (p : Passed) → p.arrivals ≡ came p.callers → with_arrival last p ≡ record { arrivals = came p.callers ++ last ∷ []; callers = p.callers }
ended_with last p is = ap (λ (l : List Arrival). record { arrivals = l ++ last ∷ []; callers = p.callers }) is

-- the last pair of a list was removed
pub last_taken : {A B : Type 0} (old new : List (A × B)) (taken : Option (A × B)) → old ≡ new ++ option_to_list taken
    → IfSome taken (λ f. map {A = A × B} {B = A} (λ p. p.0) old ≡ map {A = A × B} {B = A} (λ p. p.0) new ++ f.0 ∷ [])
last_taken old new None e = tt
last_taken old new (Some f) e = ap (map (λ p. p.0)) e ∙ map-append (λ p. p.0) new (f ∷ [])

-- another front was served
pub served_more : (starts : List FrontState) (ones : List (Done × Passed)) (start : FrontState) (one : Done × Passed) → AreServed starts ones → IsServed start one.0 one.1
    → AreServed (starts ++ start ∷ []) (ones ++ one ∷ [])
served_more [] [] start one are is = (is, tt)
served_more [] (o ∷ ones) start one are is = absurd are
served_more (s ∷ starts) [] start one are is = absurd are
served_more (s ∷ starts) (o ∷ ones) start one are is = (are.0, served_more starts ones start one are.1 is)

pub adds_one : (starts all : List FrontState) (old mid new : List (Done × Passed)) (start : FrontState) (one : Done × Passed) → all ≡ starts ++ start ∷ [] → Adds starts old mid → IsServed start one.0 one.1
    → new ≡ mid ++ one ∷ [] → Adds all old new
adds_one starts all old mid new start one whole (more, behind, are) is put = (
  more ++ one ∷ [],
  put ∙ ap (λ (l : List (Done × Passed)). l ++ one ∷ []) behind
      ∙ append_assoc old more (one ∷ []),
  subst (λ (l : List FrontState). AreServed l (more ++ one ∷ [])) (sym whole) (served_more starts more start one are is),
)

-- no front is left
pub adds_none : (starts : List FrontState) (old : List (Done × Passed)) → starts ≡ [] → Adds starts old old
adds_none starts old none = ([], sym (append-nil old), subst (λ (l : List FrontState). AreServed l []) (sym none) tt)

-- removes the first ten parts of a conjunction
pub behind_ten : {A B C D E F G H I J R : Type 0} → A × (B × (C × (D × (E × (F × (G × (H × (I × (J × R))))))))) → R
behind_ten (a, (b, (c, (d, (e, (f, (g, (h, (i, (j, rest)))))))))) = rest

-- appends one more part to a conjunction of ten parts
pub ten_before : {A B C D E F G H I J R : Type 0} → A × (B × (C × (D × (E × (F × (G × (H × (I × J)))))))) → R → A × (B × (C × (D × (E × (F × (G × (H × (I × (J × R)))))))))
ten_before (a, (b, (c, (d, (e, (f, (g, (h, (i, j))))))))) rest = (a, (b, (c, (d, (e, (f, (g, (h, (i, (j, rest))))))))))
