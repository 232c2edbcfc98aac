-- Lemmas about a queue linked through nodes, when a goroutine joins or leaves the queue at either
-- end.
use Rattle.std.proofs.Common.{◌≡◌, ◌≢◌, inl, inr, ℕ, zero, suc, ◌+◌, ◌-◌, ◌<◌, ◌≤◌, Bool, true, false, List, [], ◌∷◌, ◌++◌, length, Option, Some, None, refl, sym, ap, subst, ◌∙◌, arith}
use Rattle.std.proofs.lemmas.Option.{same_Some, none-some}
use Rattle.std.specs.Prelude.{slice_get, ◌==◌, if◌then◌else◌}
use Rattle.nr_rev.specs.declared.status.Status.{Status}
use Rattle.nr_rev.specs.Lock.{bit}
use Rattle.nr_rev.proofs.NumberLemmas.{same_number, count_push, count_front, number_same}
use Rattle.nr_gsema.specs.declared.node.GoroutineNode.{GoroutineNode}
use Rattle.nr_gsema.specs.Links.{IsLinked, chain, next_in, node_with}
use Rattle.nr_gsema.specs.Relinking.{followed_by, preceded_by, or_else}
use Rattle.nr_gsema.specs.Auxiliary.Table.{before, behind, back_of}
use Rattle.nr_laws.proofs.DistinctNumberLemmas.{times}
use Rattle.nr_gsema.proofs.NodeLemmas.{Relinks}

pub itself : (g : ℕ) (queue : List ℕ) → times g (g ∷ queue) ≡ 1 + times g queue
itself g queue = let a = count_front g g queue in let b : bit (g == g) ≡ 1 = ap bit (number_same g) in omega arith

further : (g h : ℕ) (queue : List ℕ) → times h queue ≤ times h (g ∷ queue)
further g h queue = let a = count_front g h queue in omega arith

-- true if the nodes of these goroutines are unchanged
abbrev Agree : List GoroutineNode → List GoroutineNode → List ℕ → Type 0
Agree nodes new [] = Unit {0}
Agree nodes new (g ∷ queue) = (slice_get new g ≡ slice_get nodes g) × Agree nodes new queue

pub agree_from : (nodes new : List GoroutineNode) (queue : List ℕ) → ((h : ℕ) → 0 < times h queue → slice_get new h ≡ slice_get nodes h) → Agree nodes new queue
agree_from nodes new [] same = tt
agree_from nodes new (g ∷ queue) same = (
  same g (let a = itself g queue in omega arith),
  agree_from nodes new queue (λ h some. same h (let a = further g h queue in omega arith)),
)

pub IsLinked-kept : (nodes new : List GoroutineNode) (status : Status) (previous : Option ℕ) (queue : List ℕ) (first last : Option ℕ) → Agree nodes new queue
    → IsLinked nodes status previous queue first last → IsLinked new status previous queue first last
IsLinked-kept nodes new status previous [] first last same h = h
IsLinked-kept nodes new status previous (g ∷ queue) first last same h =
    (h.0, (h.1.0, same.0 ∙ h.1.1, IsLinked-kept nodes new status (Some g) queue h.1.0 last same.1 h.1.2))

-- following the links from the first goroutine yields the queue
pub chain-is : (n : ℕ) (nodes : List GoroutineNode) (status : Status) (previous : Option ℕ) (queue : List ℕ) (first last : Option ℕ) → IsLinked nodes status previous queue first last
    → length queue ≤ n → chain n nodes first ≡ queue
unfolding chain
chain-is zero nodes status previous [] first last h short = refl
chain-is zero nodes status previous (g ∷ queue) first last h short = absurd (omega arith)
chain-is (suc n) nodes status previous [] first last h short = ap (chain (suc n) nodes) h.0
chain-is (suc n) nodes status previous (g ∷ queue) first last h short =
    ap (chain (suc n) nodes) h.0
    ∙ ap (λ (q : List ℕ). g ∷ q) (ap (λ (o : Option GoroutineNode). chain n nodes (next_in o)) h.1.1 ∙ chain-is n nodes status (Some g) queue h.1.0 last h.1.2 (omega arith))

-- the first goroutine is the head
pub first-is : (nodes : List GoroutineNode) (status : Status) (previous : Option ℕ) (queue : List ℕ) (first last : Option ℕ) → IsLinked nodes status previous queue first last
    → first ≡ slice_get queue 0
first-is nodes status previous [] first last h = h.0
first-is nodes status previous (g ∷ queue) first last h = h.0

-- a goroutine in the queue has the queued status
pub member : (nodes : List GoroutineNode) (status : Status) (previous : Option ℕ) (queue : List ℕ) (first last : Option ℕ) → IsLinked nodes status previous queue first last → (h : ℕ)
    → 0 < times h queue → (node : GoroutineNode) × (slice_get nodes h ≡ Some node) × (node.status ≡ status)
member nodes status previous [] first last linked h some = absurd (omega arith)
member nodes status previous (g ∷ queue) first last linked h some = go (g == h) refl (member nodes status (Some g) queue linked.1.0 last linked.1.2 h)
  where
    go : (t : Bool) → (g == h) ≡ t → (0 < times h queue → (node : GoroutineNode) × (slice_get nodes h ≡ Some node) × (node.status ≡ status))
        → (node : GoroutineNode) × (slice_get nodes h ≡ Some node) × (node.status ≡ status)
    go true is behind_it = (node_with status linked.1.0 previous, ap (slice_get nodes) (sym (same_number g h is)) ∙ linked.1.1, refl)
    go false is behind_it = behind_it (let a = count_front g h queue in let b : bit (g == h) ≡ 0 = ap bit is in omega arith)

-- the last goroutine is in the queue
pub last_member : (nodes : List GoroutineNode) (status : Status) (previous : Option ℕ) (x : ℕ) (queue : List ℕ) (first last : Option ℕ) → IsLinked nodes status previous (x ∷ queue) first last
    → (b : ℕ) → last ≡ Some b → 0 < times b (x ∷ queue)
last_member nodes status previous x [] first last linked b is =
    let rest = linked.1.2 in
    let same : x ≡ b = same_Some x b (sym rest.1 ∙ is) in
    subst (λ (k : ℕ). 0 < times k (x ∷ [])) same (let a = itself x [] in omega arith)
last_member nodes status previous x (y ∷ queue) first last linked b is =
    let a = last_member nodes status (Some x) y queue linked.1.0 last linked.1.2 b is in
    let c = further x b (y ∷ queue) in
    omega arith

-- the last goroutine has a node
pub last_within : (nodes : List GoroutineNode) (status : Status) (queue : List ℕ) (first last : Option ℕ) → IsLinked nodes status None queue first last → (b : ℕ) → last ≡ Some b
    → (node : GoroutineNode) × (slice_get nodes b ≡ Some node) × (node.status ≡ status)
last_within nodes status [] first last linked b is = absurd (none-some b (sym linked.1 ∙ is))
last_within nodes status (x ∷ queue) first last linked b is = member nodes status None (x ∷ queue) first last linked b (last_member nodes status None x queue first last linked b is)

-- the first goroutine has a node
pub first_within : (nodes : List GoroutineNode) (status : Status) (queue : List ℕ) (first last : Option ℕ) → IsLinked nodes status None queue first last → (f : ℕ) → first ≡ Some f
    → (node : GoroutineNode) × (slice_get nodes f ≡ Some node) × (node.status ≡ status)
first_within nodes status [] first last linked f is = absurd (none-some f (sym linked.0 ∙ is))
first_within nodes status (x ∷ queue) first last linked f is =
    (node_with status linked.1.0 None, ap (slice_get nodes) (same_Some f x (sym is ∙ linked.0)) ∙ linked.1.1, refl)

apart_from : (g h : ℕ) (queue : List ℕ) → times g queue ≡ 0 → 0 < times h queue → h ≢ g
apart_from g h queue none some e = let same : times h queue ≡ times g queue = ap (λ k. times k queue) e in omega arith

-- g joins the queue at its back
pub linked_back : (nodes new : List GoroutineNode) (status : Status) (g : ℕ) (last : Option ℕ) → Relinks nodes new g (node_with status None last) last (followed_by (Some g))
    → (previous : Option ℕ) (queue : List ℕ) (first : Option ℕ) → ((k : ℕ) → times k queue ≤ 1) → times g queue ≡ 0
    → IsLinked nodes status previous queue first last → IsLinked new status previous (queue ++ g ∷ []) (or_else first g) (Some g)
linked_back nodes new status g last r previous [] first once none h =
    (ap (λ f. or_else f g) h.0, (None, r.here ∙ ap (λ p. Some (node_with status None p)) h.1, (refl, refl)))
linked_back nodes new status g last r previous (x ∷ []) first once none h =
    let rest = h.1.2 in
    let at_end : last ≡ Some x = rest.1 in
    let no_next : h.1.0 ≡ None = rest.0 in
    let apart : x ≢ g = apart_from g x (x ∷ []) none (let a = itself x [] in omega arith) in (
      ap (λ f. or_else f g) h.0,
      (
        Some g,
        elim (r.beside x (node_with status h.1.0 previous) apart h.1.1) [ inl beside ↦ beside.1 | inr apart_too ↦ absurd (apart_too.0 at_end) ],
        linked_back nodes new status g last r (Some x) [] None (λ k. omega arith) refl (refl, at_end),
      ),
    )
linked_back nodes new status g last r previous (x ∷ (y ∷ queue)) first once none h =
    let rest = h.1.2 in
    let next_is : h.1.0 ≡ Some y = rest.0 in
    let here_once = once x in
    let it = itself x (y ∷ queue) in
    let apart : x ≢ g = apart_from g x (x ∷ (y ∷ queue)) none (omega arith) in
    let not_last : last ≢ Some x = λ e. let again = last_member nodes status (Some x) y queue h.1.0 last h.1.2 x e in omega arith in
    let less = further x g (y ∷ queue) in
    let further_on = linked_back nodes new status g last r (Some x) (y ∷ queue) h.1.0 (λ k. let a = once k in let b = further x k (y ∷ queue) in omega arith) (omega arith) h.1.2 in (
      ap (λ f. or_else f g) h.0,
      (
        Some y,
        elim (r.beside x (node_with status h.1.0 previous) apart h.1.1) [
          | inl beside ↦ absurd (not_last beside.0)
          | inr apart_too ↦ apart_too.1 ∙ ap (λ n. Some (node_with status n previous)) next_is
        ],
        subst (λ f. IsLinked new status (Some x) ((y ∷ queue) ++ g ∷ []) (or_else f g) (Some g)) next_is further_on,
      ),
    )

-- the node of the last goroutine links back to the goroutine before it, or, if it is alone, to
-- `previous`
last_node : (nodes : List GoroutineNode) (status : Status) (previous : Option ℕ) (g : ℕ) (first last : Option ℕ) (at : GoroutineNode) → slice_get nodes g ≡ Some at
    → IsLinked nodes status previous (g ∷ []) first last → at.previous ≡ previous
last_node nodes status previous g first last at is h = ap (λ (node : GoroutineNode). node.previous) (same_Some at (node_with status h.1.0 previous) (sym is ∙ h.1.1))

pub before_member : (nodes : List GoroutineNode) (status : Status) (previous : Option ℕ) (x : ℕ) (queue : List ℕ) (g : ℕ) (first last : Option ℕ) (at : GoroutineNode) → slice_get nodes g ≡ Some at
    → IsLinked nodes status previous (x ∷ (queue ++ g ∷ [])) first last → (b : ℕ) → at.previous ≡ Some b → 0 < times b (x ∷ queue)
before_member nodes status previous x [] g first last at is h b before =
    let same : x ≡ b = same_Some x b (sym (last_node nodes status (Some x) g h.1.0 last at is h.1.2) ∙ before) in
    subst (λ (k : ℕ). 0 < times k (x ∷ [])) same (let a = itself x [] in omega arith)
before_member nodes status previous x (y ∷ queue) g first last at is h b before =
    let a = before_member nodes status (Some x) y queue g h.1.0 last at is h.1.2 b before in
    let c = further x b (y ∷ queue) in
    omega arith

-- g, the last goroutine, leaves the queue
pub unlinked_back : (nodes new : List GoroutineNode) (status : Status) (g : ℕ) (at left : GoroutineNode) → slice_get nodes g ≡ Some at → Relinks nodes new g left at.previous (followed_by None)
    → (previous : Option ℕ) (queue : List ℕ) (first last : Option ℕ) → ((k : ℕ) → times k (queue ++ g ∷ []) ≤ 1)
    → IsLinked nodes status previous (queue ++ g ∷ []) first last → IsLinked new status previous queue (slice_get queue 0) at.previous
unlinked_back nodes new status g at left is r previous [] first last once h = (refl, last_node nodes status previous g first last at is h)
unlinked_back nodes new status g at left is r previous (x ∷ []) first last once h =
    let before : at.previous ≡ Some x = last_node nodes status (Some x) g h.1.0 last at is h.1.2 in
    let a = once x in
    let b = itself x (g ∷ []) in
    let c = count_front g x [] in
    let apart : x ≢ g = λ e. let d : bit (g == x) ≡ 1 = ap (λ k. bit (g == k)) e ∙ ap bit (number_same g) in omega arith in (
      refl,
      (
        None,
        elim (r.beside x (node_with status h.1.0 previous) apart h.1.1) [ inl beside ↦ beside.1 | inr apart_too ↦ absurd (apart_too.0 before) ],
        (refl, before),
      ),
    )
unlinked_back nodes new status g at left is r previous (x ∷ (y ∷ queue)) first last once h =
    let rest = h.1.2 in
    let next_is : h.1.0 ≡ Some y = rest.0 in
    let a = once x in
    let b = itself x ((y ∷ queue) ++ g ∷ []) in
    let c = count_push g x (y ∷ queue) in
    let apart : x ≢ g = λ e. let d : bit (g == x) ≡ 1 = ap (λ k. bit (g == k)) e ∙ ap bit (number_same g) in omega arith in
    let not_before : at.previous ≢ Some x = λ e. let again = before_member nodes status (Some x) y queue g h.1.0 last at is h.1.2 x e in omega arith in (
      refl,
      (
        Some y,
        elim (r.beside x (node_with status h.1.0 previous) apart h.1.1) [
          | inl beside ↦ absurd (not_before beside.0)
          | inr apart_too ↦ apart_too.1 ∙ ap (λ n. Some (node_with status n previous)) next_is
        ],
        unlinked_back nodes new status g at left is r (Some x) (y ∷ queue) h.1.0 last (λ k. let d = once k in let e = further x k ((y ∷ queue) ++ g ∷ []) in omega arith) h.1.2,
      ),
    )

-- g joins the queue at its front
pub linked_front : (nodes new : List GoroutineNode) (status : Status) (g : ℕ) (queue : List ℕ) (first last : Option ℕ) → Relinks nodes new g (node_with status first None) first (preceded_by (Some g))
    → ((k : ℕ) → times k queue ≤ 1) → times g queue ≡ 0
    → IsLinked nodes status None queue first last → IsLinked new status None (g ∷ queue) (Some g) (or_else last g)
linked_front nodes new status g [] first last r once none h = (refl, (first, r.here, (h.0, ap (λ l. or_else l g) h.1)))
linked_front nodes new status g (x ∷ queue) first last r once none h =
    let here_once = once x in
    let it = itself x queue in
    let apart : x ≢ g = apart_from g x (x ∷ queue) none (omega arith) in
    let same : Agree nodes new queue = agree_from nodes new queue (λ k some.
    let more = further x k queue in
    let k_apart : k ≢ g = apart_from g k (x ∷ queue) none (omega arith) in
    let k_other : x ≢ k = λ e. let again : times x queue ≡ times k queue = ap (λ n. times n queue) e in omega arith in
    let found = member nodes status (Some x) queue h.1.0 last h.1.2 k some in
    elim (r.beside k found.0 k_apart found.1) [
      | inl beside ↦ absurd (k_other (same_Some x k (sym h.0 ∙ beside.0)))
      | inr apart_too ↦ apart_too.1 ∙ sym found.1
    ]) in
    let kept = IsLinked-kept nodes new status (Some x) queue h.1.0 last same h.1.2 in (
      refl,
      (
        first,
        r.here,
        (
          h.0,
          (
            h.1.0,
            elim (r.beside x (node_with status h.1.0 None) apart h.1.1) [ inl beside ↦ beside.1 | inr apart_too ↦ absurd (apart_too.0 h.0) ],
            subst (λ l. IsLinked new status (Some x) queue h.1.0 l) (sym (ends_somewhere queue h.1.2)) kept,
          ),
        ),
      ),
    )
  where
    ends_somewhere : (rest : List ℕ) → IsLinked nodes status (Some x) rest h.1.0 last → or_else last g ≡ last
    ends_somewhere rest linked = at_last rest (Some x) h.1.0 (x, refl) linked
      where
        at_last : (some : List ℕ) (before first : Option ℕ) → (b : ℕ) × (before ≡ Some b) → IsLinked nodes status before some first last → or_else last g ≡ last
        at_last [] before first is l = let e : last ≡ Some is.0 = l.1 ∙ is.1 in ap (λ o. or_else o g) e ∙ sym e
        at_last (y ∷ ys) before first is l = at_last ys (Some y) l.1.0 (y, refl) l.1.2

-- the back of a queue after its front has left
abbrev pub back_left : List ℕ → Option ℕ → Option ℕ
back_left [] last = None
back_left (x ∷ queue) last = last

-- g, the first goroutine, leaves the queue
pub unlinked_front : (nodes new : List GoroutineNode) (status : Status) (g : ℕ) (at left : GoroutineNode) (queue : List ℕ) (first last : Option ℕ) → slice_get nodes g ≡ Some at
    → Relinks nodes new g left at.next (preceded_by None)
    → ((k : ℕ) → times k (g ∷ queue) ≤ 1)
    → IsLinked nodes status None (g ∷ queue) first last → IsLinked new status None queue at.next (back_left queue last)
unlinked_front nodes new status g at left queue first last is r once h = go queue once h.1.2
  where
    next_is : at.next ≡ h.1.0
    next_is = ap (λ (node : GoroutineNode). node.next) (same_Some at (node_with status h.1.0 None) (sym is ∙ h.1.1))

    go : (rest : List ℕ) → ((k : ℕ) → times k (g ∷ rest) ≤ 1) → IsLinked nodes status (Some g) rest h.1.0 last → IsLinked new status None rest at.next (back_left rest last)
    go [] one l = (next_is ∙ l.0, refl)
    go (x ∷ rest) one l =
        let a = one g in
        let b = itself g (x ∷ rest) in
        let c = one x in
        let d = count_front g x (x ∷ rest) in
        let e = itself x rest in
        let apart : x ≢ g = λ same. let f : bit (g == x) ≡ 1 = ap (λ k. bit (g == k)) same ∙ ap bit (number_same g) in omega arith in
        let agrees : Agree nodes new rest = agree_from nodes new rest (λ k some.
        let k_apart : k ≢ g = λ same. let f : times k rest ≡ times g rest = ap (λ n. times n rest) same in let m = further x g rest in omega arith in
        let k_other : x ≢ k = λ same. let f : times x rest ≡ times k rest = ap (λ n. times n rest) same in omega arith in
        let found = member nodes status (Some x) rest l.1.0 last l.1.2 k some in
        elim (r.beside k found.0 k_apart found.1) [
          | inl beside ↦ absurd (k_other (same_Some x k (sym (next_is ∙ l.0) ∙ beside.0)))
          | inr apart_too ↦ apart_too.1 ∙ sym found.1
        ]) in (
          next_is ∙ l.0,
          (
            l.1.0,
            elim (r.beside x (node_with status l.1.0 (Some g)) apart l.1.1) [ inl beside ↦ beside.1 | inr apart_too ↦ absurd (apart_too.0 (next_is ∙ l.0)) ],
            IsLinked-kept nodes new status (Some x) rest l.1.0 last agrees l.1.2,
          ),
        )

-- the next goroutine in a node is the next one in the queue
pub next-is : (nodes : List GoroutineNode) (status : Status) (previous : Option ℕ) (queue : List ℕ) (first last : Option ℕ) → IsLinked nodes status previous queue first last
    → (h : ℕ) (node : GoroutineNode) → slice_get nodes h ≡ Some node → 0 < times h queue → node.next ≡ behind h queue
next-is nodes status previous [] first last linked h node is some = absurd (omega arith)
next-is nodes status previous (g ∷ queue) first last linked h node is some = go (g == h) refl (next-is nodes status (Some g) queue linked.1.0 last linked.1.2 h node is)
  where
    go : (t : Bool) → (g == h) ≡ t → (0 < times h queue → node.next ≡ behind h queue) → node.next ≡ (if t then slice_get queue 0 else behind h queue)
    go true same behind_it =
        let found : slice_get nodes h ≡ Some (node_with status linked.1.0 previous) = ap (slice_get nodes) (sym (same_number g h same)) ∙ linked.1.1 in
        ap (λ (x : GoroutineNode). x.next) (same_Some node (node_with status linked.1.0 previous) (sym is ∙ found))
        ∙ first-is nodes status (Some g) queue linked.1.0 last linked.1.2
    go false other behind_it = behind_it (let a = count_front g h queue in let b : bit (g == h) ≡ 0 = ap bit other in omega arith)

-- the previous goroutine in a node is the previous one in the queue
pub previous-is : (nodes : List GoroutineNode) (status : Status) (previous : Option ℕ) (queue : List ℕ) (first last : Option ℕ) → IsLinked nodes status previous queue first last
    → (h : ℕ) (node : GoroutineNode) → slice_get nodes h ≡ Some node → 0 < times h queue → node.previous ≡ before h previous queue
previous-is nodes status previous [] first last linked h node is some = absurd (omega arith)
previous-is nodes status previous (g ∷ queue) first last linked h node is some = go (g == h) refl (previous-is nodes status (Some g) queue linked.1.0 last linked.1.2 h node is)
  where
    go : (t : Bool) → (g == h) ≡ t → (0 < times h queue → node.previous ≡ before h (Some g) queue) → node.previous ≡ (if t then previous else before h (Some g) queue)
    go true same behind_it =
        let found : slice_get nodes h ≡ Some (node_with status linked.1.0 previous) = ap (slice_get nodes) (sym (same_number g h same)) ∙ linked.1.1 in
        ap (λ (x : GoroutineNode). x.previous) (same_Some node (node_with status linked.1.0 previous) (sym is ∙ found))
    go false other behind_it = behind_it (let a = count_front g h queue in let b : bit (g == h) ≡ 0 = ap bit other in omega arith)

-- the back of a queue is the last goroutine of the list
pub last-is : (nodes : List GoroutineNode) (status : Status) (queue : List ℕ) (first last : Option ℕ) → IsLinked nodes status None queue first last → last ≡ back_of queue
last-is nodes status [] first last h = h.1
last-is nodes status (g ∷ queue) first last h = go g queue h.1.0 h.1.2
  where
    go : (x : ℕ) (rest : List ℕ) (next : Option ℕ) → IsLinked nodes status (Some x) rest next last → last ≡ back_of (x ∷ rest)
    go x [] next l = l.1
    go x (y ∷ rest) next l =
        let here : length (y ∷ rest) - 1 ≡ length rest = omega arith in
        let one : length (x ∷ (y ∷ rest)) - 1 ≡ suc (length rest) = omega arith in
        go y rest l.1.0 l.1.2 ∙ ap (slice_get (y ∷ rest)) here ∙ sym (ap (slice_get (x ∷ (y ∷ rest))) one)
