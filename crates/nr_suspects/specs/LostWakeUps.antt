-- Lost wake-ups: a goroutine is parked at a side although an event came for the side, and no read
-- or write at that side has been answered `Again` since.
use Rattle.std.specs.Prelude.{◌≡◌, ◌⊎◌, ℕ, zero, suc, ◌<◌, List, [], ◌∷◌, ◌++◌, Option, Some, None, option_and_then, codes, decimal}
use Rattle.nr_rev.specs.declared.answer.Answer.{Answer}
use Rattle.nr_rev.specs.declared.cell_value.CellValue.{CellValue}
use Rattle.nr_rev.specs.declared.descriptor.WaitWord.TheVariants.{Held}
use Rattle.nr_rev.specs.declared.kind.Kind.{Kind}
use Rattle.nr_rev.specs.declared.sides.Side.{Side}
use Rattle.nr_rev.specs.declared.sides.Side.TheVariants.{Read, Write}
use Rattle.nr_rev.specs.declared.step.Step.{Step}
use Rattle.nr_rev.specs.Cell.{cell}
use Rattle.nr_rev.specs.Kind.{kind_of}
use Rattle.nr_rev.specs.Run.{Recording, world_at}
use Rattle.nr_rev.specs.Sides.{of_side}
use Rattle.nr_rev.specs.WellFormed.{HasView, parked_of}
use Rattle.nr_rev.specs.World.{World}
use Rattle.nr_text.specs.Auxiliary.Text.{text_of_parts}
use Rattle.nr_suspects.specs.declared.account.Account.{Account}
use Rattle.nr_suspects.specs.declared.account.Debt.{Debt}
use Rattle.nr_suspects.specs.declared.lost_wake_up.LostWakeUp.{LostWakeUp}
use Rattle.nr_suspects.specs.declared.setting.StepBy.{StepBy}
use Rattle.nr_suspects.specs.Debts.{account, Owed}
use Rattle.nr_suspects.specs.declared.notice.Notice.TheVariants.{Opened, TookReadiness}
use Rattle.nr_suspects.specs.Notices.{notice, notice_at, word_cell}

-- Goroutine g has lost a wake-up at position n. It is parked at a side of descriptor d, although an
-- event came for that side and no later step has settled the debt (`Owed`).
pub record HasLost (r : Recording) (n g d : ℕ) (side : Side) : Type 0 where
  pub parked : HasView parked_of (world_at r n).goroutines g (d, side)
  pub owed : Owed r n d side

-- A step consumed the readiness notification of a side of descriptor d, or reopened the descriptor.
-- Three kinds of steps consume it: `pollreset`, `blockarm` and `blockswap`.
pub data IsTakenBy (w : World) (step : Step) (answer : Answer) (next : World) (d : ℕ)
    (side : Side) : Type 0 where
  Anew : (s : ℕ) → notice w step answer next ≡ Opened d s → IsTakenBy w step answer next d side
  Took : (g : ℕ)
      → notice w step answer next
      ≡ TookReadiness (record { goroutine = g; descriptor = d; side = side })
      → (kind_of step ≡ Kind.PollReset) ⊎ (kind_of step ≡ Kind.BlockArm)
      ⊎ (kind_of step ≡ Kind.BlockSwap)
      → IsTakenBy w step answer next d side

-- This step consumed the readiness notification of a side of descriptor d after an event and before
-- position n.
pub record IsTaking (r : Recording) (n d : ℕ) (side : Side) (event : ℕ) (taken : StepBy) :
    Type 0 where
  pub at : ℕ
  pub before : at < n
  pub step : taken.step ≡ suc at
  pub after : event < taken.step
  pub took : notice_at r at
      ≡ TookReadiness (record { goroutine = taken.goroutine; descriptor = d; side = side })

-- ---- all lost wake-ups

-- If a side's wait word holds a goroutine and the side has a debt, the list has that goroutine's
-- lost wake-up. Otherwise the list is empty.
abbrev pub lost_by : ℕ → ℕ → Side → CellValue → Option Debt → List LostWakeUp
lost_by n d side (CellValue.WaitWord (Held g)) (Some debt) =
    record {
      position = n;
      goroutine = g;
      descriptor = d;
      side = side;
      event = debt.event;
      taken = debt.taken;
    } ∷ []
lost_by n d side word debt = []

-- the lost wake-up, if any, at a side of descriptor d; `a` is the descriptor's account
abbrev pub lost_at : ℕ → World → ℕ → Option Account → Side → List LostWakeUp
lost_at n w d a side =
    lost_by n d side (cell w (word_cell d side))
    (option_and_then (λ (account : Account). of_side side account.debts) a)

-- the lost wake-ups at the descriptors below k, from their accounts
abbrev pub lost_below : ℕ → World → (ℕ → Option Account) → ℕ → List LostWakeUp
lost_below n w kept zero = []
lost_below n w kept (suc k) =
    lost_below n w kept k ++ (lost_at n w k (kept k) Read ++ lost_at n w k (kept k) Write)

-- All lost wake-ups at position n of a recording, sorted by descriptor, with the read side first.
abbrev pub lost_wake_ups : Recording → ℕ → List LostWakeUp
lost_wake_ups r n =
    lost_below n (world_at r n) (λ d. account r d n) r.limits.descriptors

-- ---- their lines

abbrev pub side_letter : Side → List ℕ
side_letter Read = codes " r"
side_letter Write = codes " w"

-- the text `at 71 lost-wakeup gor 2 desc 0 r event 60`
abbrev pub event_text : LostWakeUp → List ℕ
event_text lost =
    codes "at " ++ (decimal lost.position
    ++ (codes " lost-wakeup gor " ++ (decimal lost.goroutine
    ++ (codes " desc " ++ (decimal lost.descriptor ++ (side_letter lost.side
    ++ (codes " event " ++ decimal lost.event)))))))

-- the text ` taken 66 by 2`, or no text if no step consumed the readiness notification
abbrev pub taken_text : Option StepBy → List ℕ
taken_text None = []
taken_text (Some taken) =
    codes " taken " ++ (decimal taken.step ++ (codes " by " ++ decimal taken.goroutine))

-- the line `at 71 lost-wakeup gor 2 desc 0 r event 60 taken 66 by 2`
abbrev pub lost_line : LostWakeUp → List ℕ
lost_line lost = event_text lost ++ (taken_text lost.taken ++ codes "\n")

-- a line for each lost wake-up
abbrev pub lost_lines : List LostWakeUp → List ℕ
lost_lines found = text_of_parts lost_line found
