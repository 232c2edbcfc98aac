-- Helper definitions for `Change`. The laws in THEOREM.md don't use them.
use Rattle.std.specs.Prelude.{ℕ, List, [], Option, Some, None, option_to_list}
use Rattle.nr_rev.specs.declared.descriptor.Descriptor.{Descriptor}
use Rattle.nr_rev.specs.declared.descriptor.WaitWord.{WaitWord}
use Rattle.nr_rev.specs.declared.descriptor.WaitWord.TheVariants.{Held}
use Rattle.nr_rev.specs.declared.sides.Sides.{Sides}
use Rattle.nr_rev.specs.declared.answer.Answer.{Answer}
use Rattle.nr_rev.specs.Descriptor.{Change, quiet}
use Rattle.nr_desc.specs.declared.change.DescChange.{DescChange}
use Rattle.nr_desc.specs.declared.change.Followed.{Followed}
use Rattle.nr_desc.specs.declared.code.Unblocked.{Unblocked}
use Rattle.nr_desc.specs.declared.waiting.Answered.{Answered}
use Rattle.nr_desc.specs.declared.reversible.Made.{Made}
use Rattle.nr_desc.specs.Change.{listed}

-- the goroutine that a word held before a change but doesn't hold after it
abbrev pub let_go : WaitWord → WaitWord → Option ℕ
let_go (Held g) (Held h) = None
let_go (Held g) after = Some g
let_go before after = None

-- the goroutines that the words of both sides held before a change but don't hold after it
abbrev pub both_let_go : Sides WaitWord → Sides WaitWord → Sides (Option ℕ)
both_let_go before after =
    record { read = let_go before.read after.read; write = let_go before.write after.write }

-- the change that a `DescChange` encodes
abbrev pub change_view : DescChange → Change
change_view c =
    record {
      descriptor = c.desc;
      orders = listed c.orders;
      woken = listed c.woken;
    }

-- the change that a `Followed` encodes: it has at most one order and wakes no goroutine
abbrev pub followed_view : Followed → Change
followed_view f = record { descriptor = f.desc; orders = option_to_list f.order; woken = [] }

-- the new word and the list of woken goroutines in an `Unblocked`
abbrev pub unblocked_view : Unblocked → WaitWord × List ℕ
unblocked_view u = (u.word, option_to_list u.woken)

-- The answer and the change of an `Answered`. The change sets the descriptor, has no timer orders
-- and wakes no goroutine.
abbrev pub answered_view : Answered → Answer × Change
answered_view a = (a.answer, quiet a.desc)

-- the answer and the change of a `Made`
abbrev pub made_view : Made → Answer × Change
made_view m = (m.answer, change_view m.change)

-- the view that shows a descriptor as it is
abbrev pub viewed_as_it_is : Descriptor → Descriptor
viewed_as_it_is d = d
