-- The numbers in a recording that `read` returns are in their ranges.
use Rattle.std.proofs.Common.{◌≡◌, ◌<◌, ◌≤◌, ℕ, ℤ, pos, negsuc, Bool, true, false, if◌then◌else◌, ltb, leb, List, [], ◌∷◌, ◌++◌, ◌∙◌, length, Option, Some, None, Result, Ok, Err, refl, subst, arith}
use Rattle.std.specs.Prelude.{option_map, option_and_then, codes, ◌==◌}
use Rattle.std.specs.Result.{result_ok}
use Rattle.std.proofs.lemmas.Bool.{ltb-true, ltb-false, leb-true, le-leb, and_parts}
use Rattle.std.proofs.lemmas.List.Folds.{list_all-append}
use Rattle.std.proofs.lemmas.Option.{same_Some}
use Rattle.hex.specs.Hex.{decode_of}
use Rattle.hex.proofs.HexLemmas.{decode_of-ok}
use Rattle.serde_json.specs.Data.{Data, Items, no_items, item}
use Rattle.serde_json.specs.Find.{as_str, as_array}
use Rattle.nr_rev.specs.declared.kind.Kind.{Kind}
use Rattle.nr_rev.specs.Kind.{kind_named, kind_of}
use Rattle.nr_rev.specs.declared.answer.Answer.{Answer}
use Rattle.nr_rev.specs.declared.limits.Limits.{Limits}
use Rattle.nr_rev.specs.declared.step.Step.{Step}
use Rattle.nr_rev.specs.declared.step.Step.TheVariants.{Tick}
use Rattle.nr_rev.specs.declared.limits.TheConstants.{MOST_GOROUTINES, MOST_SOCKETS, MOST_DESCRIPTORS, MOST_BUFFER}
use Rattle.nr_recording.specs.declared.recording.TheConstants.{MOST_BYTES}
use Rattle.nr_recording.specs.declared.fault.Fault.{Fault}
use Rattle.nr_recording.specs.declared.fault.Fault.TheVariants as fault
use Rattle.nr_recording.specs.Faults.{or_fault}
use Rattle.nr_rev.specs.Limits.{is_limit, AreInRange}
use Rattle.nr_recording.specs.Auxiliary.Reading.{AreOfHeader}
use Rattle.nr_recording.specs.declared.reading.Header.{Header}
use Rattle.nr_recording.specs.Auxiliary.Recording.{fits, is_writable}
use Rattle.nr_recording.specs.declared.recording.RecordedStep.{RecordedStep}
use Rattle.nr_recording.specs.declared.version.Version.{Version}
use Rattle.nr_recording.specs.declared.version.Version.TheVariants.{One, Two}
use Rattle.nr_recording.specs.Version.{has_kind, kept_kind, kind_in, most_buffer}
use Rattle.nr_recording.specs.Auxiliary.Version.{may_have}
use Rattle.nr_recording.specs.Arguments.{most_digits, bytes_named, hex_of, i64_of, from_zero, time_of, first_by, number, bytes, time, answer, ◌and◌}
use Rattle.nr_recording.specs.Shapes.{step_from}
use Rattle.nr_recording.specs.Steps.{first_of, step_in, answer_in, ends, step_of}
use Rattle.nr_recording.specs.Header.{limit_of, limits_of, unsigned_at, member_count, header_of}
use Rattle.nr_recording.proofs.BoundPartLemmas.{bind_ok, passed_ok, found_ok, map_some, then_some, kept_some, same_ok}

-- ---- limits

limit_fits : (most n : ℕ) → is_limit most n ≡ true → (0 < n) × (n ≤ most)
limit_fits most n h = let p = and_parts (ltb 0 n) (leb n most) h in (ltb-true 0 n p.0, leb-true n most p.1)

limit_ok : (most n m : ℕ) → limit_of most n ≡ Ok m → (0 < m) × (m ≤ most)
limit_ok most n m e =
    let p = passed_ok (is_limit most n) fault.Limit (Ok n) m e in
    let same : n ≡ m = cc (p.1) in
    subst (λ (k : ℕ). (0 < k) × (k ≤ most)) same (limit_fits most n p.0)

limits_ok : (version : Version) (gor sock desc buf : ℕ) (l : Limits) → limits_of version gor sock desc buf ≡ Ok l → AreInRange l × (l.buffer ≤ most_buffer version)
unfolding limits_of
limits_ok version gor sock desc buf l e =
    let g = bind_ok (limit_of MOST_GOROUTINES gor) _ l e in
    let s = bind_ok (limit_of MOST_SOCKETS sock) _ l g.2 in
    let d = bind_ok (limit_of MOST_DESCRIPTORS desc) _ l s.2 in
    let b = bind_ok (limit_of (most_buffer version) buf) _ l d.2 in
    let made : Limits = record { goroutines = g.0; sockets = s.0; descriptors = d.0; buffer = b.0 } in
    let same : made ≡ l = cc (b.2) in
    let gs = limit_ok MOST_GOROUTINES gor g.0 g.1 in
    let ss = limit_ok MOST_SOCKETS sock s.0 s.1 in
    let ds = limit_ok MOST_DESCRIPTORS desc d.0 d.1 in
    let bs = limit_ok (most_buffer version) buf b.0 b.1 in
    subst (λ (x : Limits). AreInRange x × (x.buffer ≤ most_buffer version)) same (
      record {
        goroutines = gs.0;
        goroutines_most = gs.1;
        sockets = ss.0;
        sockets_most = ss.1;
        descriptors = ds.0;
        descriptors_most = ds.1;
        buffer = bs.0;
        buffer_most = within version b.0 bs.1;
      },
      bs.1,
    )
  where
    within : (version : Version) (n : ℕ) → n ≤ most_buffer version → n ≤ MOST_BUFFER
    within One n most = omega (arith, most)
    within Two n most = most

pub header_fits : (version : Version) (d : Data) (l : Limits) → header_of version d ≡ Ok l → AreInRange l × (l.buffer ≤ most_buffer version)
unfolding header_of
header_fits version d l e =
    let count = bind_ok (or_fault fault.Header (member_count d)) _ l e in
    let gor = bind_ok (unsigned_at (codes "gor") d) _ l count.2 in
    let sock = bind_ok (unsigned_at (codes "sock") d) _ l gor.2 in
    let desc = bind_ok (unsigned_at (codes "desc") d) _ l sock.2 in
    let buf = bind_ok (unsigned_at (codes "buf") d) _ l desc.2 in
    limits_ok version gor.0 sock.0 desc.0 buf.0 l (passed_ok (count.0 == 5) fault.Header (limits_of version gor.0 sock.0 desc.0 buf.0) l buf.2).1

-- ---- steps

bytes_few : (d : Data) (bytes : List ℕ) → hex_of d ≡ Some bytes → leb (length bytes) MOST_BYTES ≡ true
bytes_few d bytes e =
    let named = then_some bytes_named (as_str d) bytes e in
    let kept = kept_some (ltb most_digits (length named.0)) (result_ok (decode_of named.0)) bytes named.2 in
    let decoded : decode_of named.0 ≡ Ok bytes = from_ok (decode_of named.0) kept.1 in
    let twice = (decode_of-ok named.0 bytes decoded).2 in
    let most : length named.0 ≤ most_digits = ltb-false _ _ kept.0 in
    le-leb _ _ (omega (arith, twice, most))
  where
    from_ok : {E : Type 0} (r : Result (List ℕ) E) → result_ok r ≡ Some bytes → r ≡ Ok bytes
    from_ok (Ok x) h = cc
    from_ok (Err x) h = absurd cc

-- true if this function reads only values that have the property P
abbrev OnlyReads : {A : Type 0} → (A → Type 0) → (Items → Result (A × Items) Fault) → Type 0
OnlyReads {A = A} P read = (ds : Items) (p : A × Items) → read ds ≡ Ok p → P p.0

first_only : {A : Type 0} (P : A → Type 0) (read : Data → Option A) → ((d : Data) (x : A) → read d ≡ Some x → P x) → OnlyReads P (first_by read)
first_only P read h no_items p e = absurd cc
first_only P read h (item d ds) p e =
    let m = map_some (λ x. (x, ds)) (read d) p (found_ok fault.Arguments (option_map (λ x. (x, ds)) (read d)) p e) in
    subst (λ q. P q.0) m.2 (h d m.0 m.1)

second_only : {A B : Type 0} (P : B → Type 0) (first : Items → Result (A × Items) Fault) (second : Items → Result (B × Items) Fault) → OnlyReads P second → OnlyReads (λ p. P p.1) (first and second)
second_only P first second h ds p e =
    let x = bind_ok (first ds) _ p e in
    let y = bind_ok (second x.0.1) _ p x.2 in
    subst (λ q. P q.0.1) (same_ok {E = Fault} ((x.0.0, y.0.0), y.0.1) p y.2) (h x.0.1 y.0 y.1)

abbrev AreFew : List ℕ → Type 0
AreFew bytes = leb (length bytes) MOST_BYTES ≡ true

few_bytes : OnlyReads AreFew bytes
few_bytes = first_only AreFew hex_of bytes_few

time_least : OnlyReads (λ t. fits (Tick t) ≡ true) time
time_least = first_only (λ t. fits (Tick t) ≡ true) time_of (λ d t e. let m = then_some from_zero (i64_of d) t e in from m.0 t m.2)
  where
    from : (z t : ℤ) → from_zero z ≡ Some t → fits (Tick t) ≡ true
    from (pos n) t h =
        let kept = kept_some (ltb n 0) (Some (pos n)) t h in
        let same : pos n ≡ t = same_Some (pos n) t kept.1 in
        subst (λ (x : ℤ). fits (Tick x) ≡ true) same (rw (le-leb 0 n (omega arith)) refl)
    from (negsuc n) t h = absurd cc

-- true if a step is of this kind and fits in a line
record Makes (kind : Kind) (step : Step) : Type 0 where
  kinded : kind_of step ≡ kind
  fitting : fits step ≡ true

abbrev MakesFitting : Kind → (Items → Result (Step × Items) Fault) → Type 0
MakesFitting kind make = OnlyReads (Makes kind) make

of_found : {A : Type 0} (kind : Kind) (step : A → Step) (found : Items → Result (A × Items) Fault) → ((x : A) → kind_of (step x) ≡ kind) → OnlyReads (λ x. fits (step x) ≡ true) found
    → MakesFitting kind (λ ds. step_from step (found ds))
of_found {A = A} kind step found kinded h ds p e = from (found ds) p (h ds) e
  where
    from : (r : Result (A × Items) Fault) (p : Step × Items) → ((q : A × Items) → r ≡ Ok q → fits (step q.0) ≡ true) → step_from step r ≡ Ok p → Makes kind p.0
    from (Ok q) p h e = subst (λ (s : Step × Items). Makes kind s.0) (same_ok {E = Fault} (step q.0, q.1) p e) (record { kinded = kinded q.0; fitting = h q refl })
    from (Err f) p h e = absurd cc

-- if all steps of a kind fit in a line, so does each step of that kind that is read
usual : {A : Type 0} (kind : Kind) (step : A → Step) (found : Items → Result (A × Items) Fault) → ((x : A) → kind_of (step x) ≡ kind) → ((x : A) → fits (step x) ≡ true)
    → MakesFitting kind (λ ds. step_from step (found ds))
usual kind step found kinded h = of_found kind step found kinded (λ ds p e. h p.0)

-- reading the arguments of a kind returns a step of that kind that fits in a line
kind_made : (kind : Kind) → MakesFitting kind (step_in kind)
kind_made Kind.Arrive = of_found _ _ _ (λ x. refl) (second_only AreFew number bytes few_bytes)
kind_made Kind.SysWrite = of_found _ _ _ (λ x. refl) (second_only (λ p. AreFew p.1) number (number and bytes) (second_only AreFew number bytes few_bytes))
kind_made Kind.Tick = of_found _ _ _ (λ x. refl) time_least
kind_made _ = usual _ _ _ (λ x. refl) (λ x. refl)

-- if a name denotes a kind in a version, the version has that kind
kind_had : (version : Version) (name : List ℕ) (kind : Kind) → kind_in version name ≡ Some kind → has_kind version kind ≡ true
unfolding kind_in
kind_had version name kind e =
    let named = then_some (kept_kind version) (kind_named name) kind e in
    from named.0 (has_kind version named.0) refl named.2
  where
    from : (named : Kind) (has : Bool) → has_kind version named ≡ has → (if has then Some named else None) ≡ Some kind → has_kind version kind ≡ true
    from named true is e = subst (λ (k : Kind). has_kind version k ≡ true) (same_Some named kind e) is
    from named false is e = absurd cc

-- an answer is read after the arguments if and only if the version has answers
answer_had : (version : Version) (ds : Items) (p : Option Answer × Items) → answer_in version ds ≡ Ok p → may_have version p.0 ≡ true
answer_had One ds p e = subst (λ (q : Option Answer × Items). may_have One q.0 ≡ true) (same_ok {E = Fault} (None, ds) p e) refl
answer_had Two ds p e =
    let found = bind_ok (answer ds) (λ found. Ok (Some found.0, found.1)) p e in
    subst (λ (q : Option Answer × Items). may_have Two q.0 ≡ true) (same_ok {E = Fault} (Some found.0.0, found.0.1) p found.2) refl

pub step_writable : (version : Version) (d : Data) (step : RecordedStep) → step_of version d ≡ Ok step → is_writable version step ≡ true
unfolding step_of
step_writable version d step e =
    let parts = bind_ok (or_fault fault.UnknownStep (option_and_then first_of (as_array d))) _ step e in
    let name = bind_ok (or_fault fault.UnknownStep (as_str parts.0.0)) _ step parts.2 in
    let kind = bind_ok (or_fault fault.UnknownStep (kind_in version name.0)) _ step name.2 in
    let found = bind_ok (step_in kind.0 parts.0.1) _ step kind.2 in
    let answered = bind_ok (answer_in version found.0.1) _ step found.2 in
    let read : RecordedStep = record { step = found.0.0; answer = answered.0.0 } in
    let ended = passed_ok (ends answered.0.1) fault.Arguments (Ok read) step answered.2 in
    let made = kind_made kind.0 parts.0.1 found.0 found.1 in
    let has = kind_had version name.0 kind.0 (found_ok fault.UnknownStep (kind_in version name.0) kind.0 kind.1) in
    let may = answer_had version found.0.1 answered.0 answered.1 in
    subst (λ (s : RecordedStep). is_writable version s ≡ true) (same_ok {E = Fault} read step ended.1) (rw (made.kinded, has, made.fitting, may) refl)

-- ---- the lines so far

-- no steps come before the header
pub none_before : (header : Option Header) (steps : List RecordedStep) → AreOfHeader header steps → ((h : Header) → ¬ (header ≡ Some h)) → steps ≡ []
none_before None steps are none = are
none_before (Some h) steps are none = absurd (none h refl)

-- if a step of the header's version is added, all steps are still of that version
pub one_more_of : (header : Option Header) (begun : Header) (steps : List RecordedStep) (step : RecordedStep) → header ≡ Some begun → AreOfHeader header steps → is_writable begun.version step ≡ true
    → AreOfHeader header (steps ++ step ∷ [])
one_more_of None begun steps step is are one = absurd cc
one_more_of (Some h) begun steps step is are one =
    let same : h ≡ begun = same_Some h begun is in
    let writable : is_writable h.version step ≡ true = rw same one in
    list_all-append (is_writable h.version) steps (step ∷ []) ∙ rw (are, writable) refl
