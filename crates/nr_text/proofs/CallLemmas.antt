-- What one more call changes in the state of a reader.
use Rattle.std.proofs.Common.{◌≡◌, ℕ, ◌<◌, ◌≤◌, Bool, false, true, ◌||◌, List, [], ◌∷◌, ◌++◌, length, take, Option, None, Some, refl, sym, ap, subst, ◌∙◌, append-nil, ◌⊎◌, inl, inr, ⊎_elim, rules}
use Rattle.std.proofs.lemmas.Grind.{flat_map-append}
use Rattle.std.proofs.lemmas.List.Folds.{list_any-append}
use Rattle.std.specs.List.{list_any}
use Rattle.std.specs.Io.KnownBytes.{Consumes, IsAtEnd, Keeps}
use Rattle.std.specs.declared.io.ErrorKind.{ErrorKind}
use Rattle.std.specs.declared.io.ErrorKind.TheVariants as kind
use Rattle.nr_text.specs.Calls.{Call, a_read_failed, bytes_of, finds_end, moved, moves_none, outcome_of_kind}
use Rattle.nr_text.specs.Moments.{Moment}
use Rattle.nr_text.specs.Streams.{Incoming, Receives}
use Rattle.nr_text.specs.Auxiliary.Streams.{Reads}
use Rattle.nr_text.specs.declared.calls.CallOutcome.{CallOutcome}
use Rattle.nr_text.specs.declared.calls.CallOutcome.TheVariants.{Moved, Interrupted, Failed}

-- only the last call determines whether the end was found
last_finds : (calls : List Call) (call : Call) → finds_end (calls ++ call ∷ []) ≡ moves_none call
last_finds [] call = refl
last_finds (one ∷ []) call = refl
last_finds (one ∷ two ∷ more) call = last_finds (two ∷ more) call

more_bytes : (calls : List Call) (call : Call) → bytes_of (calls ++ call ∷ []) ≡ bytes_of calls ++ moved call
more_bytes calls call = flat_map-append moved calls (call ∷ []) ∙ ap (λ t. bytes_of calls ++ t) (append-nil (moved call))

none_more : (b : Bool) → (b || false) ≡ b
none_more true = refl
none_more false = refl

any_more : (test : Call → Bool) (calls : List Call) (call : Call) → list_any test (calls ++ call ∷ []) ≡ (list_any test calls || test call)
any_more test calls call = list_any-append test calls (call ∷ []) ∙ ap (λ b. list_any test calls || b) (none_more (test call))

-- the state of a reader after these calls, made at these moments
abbrev seen : Option (List ℕ) → List Call → List Moment → Incoming
seen remaining calls moments =
    record { remaining = remaining; received = bytes_of calls; ended = finds_end calls; failed = a_read_failed calls; moments = moments }

-- a read returned some bytes
pub reads_some : (old : Incoming) (before remaining : Option (List ℕ)) (calls made : List Call) (moments passed : List Moment) (buffer : List ℕ) (n : ℕ)
    → seen before calls moments ≡ old → made ≡ calls ++ (buffer, Moved n) ∷ []
    → n ≤ length buffer → Consumes before remaining (take n buffer) → (n ≡ 0 → 0 < length buffer → IsAtEnd remaining)
    → Reads old (seen remaining made passed) buffer (Moved n)
reads_some old before remaining calls made moments passed buffer n is more within consumed at_end = (
  within,
  record { received = ap bytes_of more ∙ more_bytes calls (buffer, Moved n) ∙ ap (λ s. s.received ++ take n buffer) is; consumed = subst (λ known. Consumes known remaining (take n buffer)) (ap (λ s. s.remaining) is) consumed },
  ap a_read_failed more ∙ any_more _ calls (buffer, Moved n) ∙ search rules ∙ ap (λ s. s.failed) is,
  λ none room. (ap finds_end more ∙ last_finds calls (buffer, Moved n) ∙ search rules, at_end none room),
  λ some. ap finds_end more ∙ last_finds calls (buffer, Moved n) ∙ search rules,
)

-- a call that returned an error was interrupted or failed
no_bytes : (k : ErrorKind) → (outcome_of_kind k ≡ Interrupted) ⊎ (outcome_of_kind k ≡ Failed)
no_bytes kind.Interrupted = inl refl
no_bytes _ = inr refl

kept_none : (xs ys : List ℕ) → ys ≡ xs → xs ≡ [] ++ ys
kept_none xs ys same = sym same

kept_is_none : (before remaining : Option (List ℕ)) → Keeps before remaining → Consumes before remaining []
kept_is_none None remaining kept = tt
kept_is_none (Some xs) None kept = elim kept [ ]
kept_is_none (Some xs) (Some ys) kept = kept_none xs ys kept

-- a read returned an error
pub reads_none : (old : Incoming) (before remaining : Option (List ℕ)) (calls made : List Call) (moments passed : List Moment) (buffer : List ℕ) (k : ErrorKind)
    → seen before calls moments ≡ old → made ≡ calls ++ (buffer, outcome_of_kind k) ∷ [] → Keeps before remaining
    → Reads old (seen remaining made passed) buffer (outcome_of_kind k)
reads_none old before remaining calls made moments passed buffer k is more kept =
    let consumed = subst (λ known. Consumes known remaining []) (ap (λ s. s.remaining) is) (kept_is_none before remaining kept) in
    let received : (outcome : CallOutcome) → made ≡ calls ++ (buffer, outcome) ∷ [] → moved (buffer, outcome) ≡ [] → Receives old (seen remaining made passed) [] =
    λ outcome more none. record { received = ap bytes_of more ∙ more_bytes calls (buffer, outcome) ∙ ap (λ t. bytes_of calls ++ t) none ∙ ap (λ s. s.received ++ []) is; consumed = consumed } in
    ⊎_elim
    (λ e. rw e ((received Interrupted (rw e at more) refl, ap a_read_failed (rw e at more) ∙ any_more _ calls (buffer, Interrupted) ∙ search rules ∙ ap (λ s. s.failed) is, ap finds_end (rw e at more) ∙ last_finds calls (buffer, Interrupted))))
    (λ e. rw e ((received Failed (rw e at more) refl, ap a_read_failed (rw e at more) ∙ any_more _ calls (buffer, Failed) ∙ search rules)))
    (no_bytes k)
