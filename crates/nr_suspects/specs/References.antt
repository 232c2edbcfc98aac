-- Which steps take and return references to a socket, and how many references remain.
use Rattle.std.specs.Prelude.{ℕ, ◌+◌, ◌==◌, if◌then◌else◌, List, [], ◌∷◌, slice_get, Ok, Err}
use Rattle.std.specs.Option.{option_map_or}
use Rattle.nr_rev.specs.declared.answer.Answer.{Answer}
use Rattle.nr_rev.specs.declared.answer.Answer.TheVariants.{Yes}
use Rattle.nr_rev.specs.declared.step.Step.{Step}
use Rattle.nr_rev.specs.Run.{next_of}
use Rattle.nr_rev.specs.Socket.{Socket}
use Rattle.nr_rev.specs.Step.{Outcome, outcome}
use Rattle.nr_rev.specs.World.{World}

-- the reference count in the lock of socket s, or 0 if the socket wasn't opened
abbrev pub references_at : World → ℕ → ℕ
references_at w s =
    option_map_or (λ (socket : Socket). socket.lock.references) (slice_get w.sockets s) 0

-- 1 if the answer is `Yes`, and otherwise 0
abbrev pub taken_by : Answer → ℕ
taken_by Yes = 1
taken_by _ = 0

-- how many references to socket s a step with this answer takes
abbrev pub takes : ℕ → Step → Answer → ℕ
takes s (Step.Incref g k) answer = if s == k then taken_by answer else 0
takes s (Step.IncrefClose g k) answer = if s == k then taken_by answer else 0
takes s (Step.RwLock g k side) answer = if s == k then taken_by answer else 0
takes s _ answer = 0

-- how many references to socket s a step returns
abbrev pub gives : ℕ → Step → ℕ
gives s (Step.Decref g k) = if s == k then 1 else 0
gives s (Step.RwUnlock g k side) = if s == k then 1 else 0
gives s _ = 0

-- how many references to socket s a step takes, given its outcome; a refused step takes none
abbrev pub takes_in : ℕ → Step → Outcome → ℕ
takes_in s step (Ok (answer, next)) = takes s step answer
takes_in s step (Err reason) = 0

abbrev pub gives_in : ℕ → Step → Outcome → ℕ
gives_in s step (Ok left) = gives s step
gives_in s step (Err reason) = 0

-- how many references to socket s these steps take, starting from a world
abbrev pub taken : ℕ → World → List Step → ℕ
taken s w [] = 0
taken s w (step ∷ steps) =
    let came = outcome w step in
    takes_in s step came + taken s (next_of w came) steps

-- how many references to socket s these steps return, starting from a world
abbrev pub given : ℕ → World → List Step → ℕ
given s w [] = 0
given s w (step ∷ steps) =
    let came = outcome w step in
    gives_in s step came + given s (next_of w came) steps
