-- What happened to a deadline: it passed; it ended a call; or it woke a goroutine and was set again
-- before that goroutine checked its side.
use Rattle.std.specs.Prelude.{◌≡◌, ◌≢◌, ℕ, zero, suc, ◌<◌, ◌==◌, nat_lt, if◌then◌else◌, List, [], ◌∷◌, ◌++◌, Option, Some, None, option_and_then, option_map, IsTrue, false, codes, decimal}
use Rattle.std.specs.Option.{option_map_or}
use Rattle.nr_rev.specs.declared.sides.Mode.{Mode}
use Rattle.nr_rev.specs.declared.sides.Side.{Side}
use Rattle.nr_rev.specs.declared.sides.Side.TheVariants.{Read, Write}
use Rattle.nr_rev.specs.declared.sides.Sides.{Sides}
use Rattle.nr_rev.specs.Run.{Recording}
use Rattle.nr_rev.specs.Sides.{names_side, of_side}
use Rattle.nr_text.specs.Auxiliary.Text.{text_of_parts}
use Rattle.nr_suspects.specs.declared.account.Account.{Account}
use Rattle.nr_suspects.specs.declared.deadline_finding.DeadlineFinding.{DeadlineFinding}
use Rattle.nr_suspects.specs.declared.deadline_finding.Consequence.{Consequence}
use Rattle.nr_suspects.specs.declared.deadline_finding.Consequence.TheVariants.{Passed, EndedCall, TakenBack}
use Rattle.nr_suspects.specs.declared.notice.Notice.{Notice}
use Rattle.nr_suspects.specs.declared.notice.Notice.TheVariants.{Opened, Checked, SetDeadline, PassedDeadline}
use Rattle.nr_suspects.specs.declared.notice.Passing.{Passing}
use Rattle.nr_suspects.specs.declared.setting.Deadline.{Deadline}
use Rattle.nr_suspects.specs.declared.setting.Setting.{Setting}
use Rattle.nr_suspects.specs.declared.setting.StepBy.{StepBy}
use Rattle.nr_suspects.specs.Debts.{account}
use Rattle.nr_suspects.specs.LostWakeUps.{side_letter}
use Rattle.nr_suspects.specs.Notices.{notice_at}

-- the record of the deadline of a side, from the descriptor's account
abbrev pub deadline_of : Side → Option Account → Option Deadline
deadline_of side a = option_map (λ (x : Account). of_side side x.deadlines) a

-- which step set the deadline of a side, if one has set it since the descriptor was opened
abbrev pub side_setting : Side → Option Account → Option Setting
side_setting side a = option_and_then (λ (x : Deadline). x.setting) (deadline_of side a)

-- the goroutine that was woken when the deadline of a side passed, if it hasn't checked the side
-- yet
abbrev pub woken_of : Side → Option Account → Option ℕ
woken_of side a = option_and_then (λ (x : Deadline). x.woken) (deadline_of side a)

-- The finding that step n had this consequence for the deadline of a side of descriptor d. If the
-- account doesn't say which step set the deadline, the list is empty.
abbrev pub finding : ℕ → ℕ → Side → Consequence → Option Account → List DeadlineFinding
finding n d side consequence a =
    option_map_or (λ setting. record {
      position = n;
      descriptor = d;
      side = side;
      consequence = consequence;
      setting = setting;
    } ∷ []) (side_setting side a) []

-- the finding that this side's deadline passed, if it did
abbrev pub passed_at : ℕ → ℕ → Side → Option Passing → Option Account → List DeadlineFinding
passed_at n d side None a = []
passed_at n d side (Some passing) a = finding n d side Passed a

-- the finding that the deadline woke a goroutine and was set again before that goroutine checked
-- its side, if this happened
abbrev pub taken_back_at : ℕ → ℕ → Mode → Side → Option Account → List DeadlineFinding
taken_back_at n d mode side a =
    if names_side mode side
    then option_map_or (λ woken. finding n d side (TakenBack woken) a) (woken_of side a) []
    else []

-- the findings about deadlines at the step with this number, from the descriptors' accounts before
-- it
abbrev pub findings_at : ℕ → Notice → (ℕ → Option Account) → List DeadlineFinding
findings_at n (PassedDeadline d passings) kept =
    passed_at n d Read passings.read (kept d) ++ passed_at n d Write passings.write (kept d)
findings_at n (Checked v code) kept =
    if code == 2 then finding n v.descriptor v.side (EndedCall v.goroutine) (kept v.descriptor)
    else []
findings_at n (SetDeadline g d mode) kept =
    taken_back_at n d mode Read (kept d) ++ taken_back_at n d mode Write (kept d)
findings_at n _ kept = []

-- the account of descriptor d at position n, or none if d isn't below the recording's limit
abbrev pub account_within : Recording → ℕ → ℕ → Option Account
account_within r n d = if nat_lt d r.limits.descriptors then account r d n else None

-- The findings about deadlines in the first n steps of a recording.
abbrev pub deadline_findings : Recording → ℕ → List DeadlineFinding
deadline_findings r zero = []
deadline_findings r (suc n) =
    deadline_findings r n ++ findings_at (suc n) (notice_at r n) (account_within r n)

-- ---- in words

-- in the step after position n, goroutine g sets the deadline of a side of descriptor d
abbrev pub IsSetting : Recording → ℕ → Side → ℕ → ℕ → Mode → Type 0
IsSetting r d side n g mode =
    (notice_at r n ≡ SetDeadline g d mode) × IsTrue (names_side mode side)

-- in the step after position n, goroutine g sets the deadline of the other side of descriptor d,
-- and not the deadline of this side
abbrev pub IsMove : Recording → ℕ → Side → ℕ → ℕ → Type 0
IsMove r d side n g =
    (mode : Mode) × (notice_at r n ≡ SetDeadline g d mode) × (names_side mode side ≡ false)

-- `Some`: the first step after position `start` and before position n that moves only the other
-- side's deadline; `None`: no step does
abbrev pub IsFirstMove : Recording → ℕ → ℕ → ℕ → Side → Option StepBy → Type 0
IsFirstMove r start n d side None = (k g : ℕ) → start < k → k < n → ¬ IsMove r d side k g
IsFirstMove r start n d side (Some move) =
    (at : ℕ) × (start < at) × (at < n) × (move.step ≡ suc at) × IsMove r d side at move.goroutine
    × ((k g : ℕ) → start < k → k < at → ¬ IsMove r d side k g)

-- This step set the deadline that a side of descriptor d has at position n: no later step set it,
-- and no later step reopened the descriptor.
pub record IsSetBy (r : Recording) (n d : ℕ) (side : Side) (setting : Setting) : Type 0 where
  pub at : ℕ
  pub before : at < n
  pub step : setting.by.step ≡ suc at
  pub sets : IsSetting r d side at setting.by.goroutine setting.mode
  pub last : (k g : ℕ) (mode : Mode) → at < k → k < n → ¬ IsSetting r d side k g mode
  pub unopened : (k s : ℕ) → at < k → k < n → notice_at r k ≢ Opened d s
  pub moved : IsFirstMove r at n d side setting.moved

-- The step after position n has this consequence for the deadline of a side of descriptor d.
-- `Passed`: a timer ran, and the deadline passed. `EndedCall`: a call checked the side and got the
-- code for a passed deadline. `TakenBack`: the deadline had woken a goroutine, and was set again
-- before that goroutine checked its side.
abbrev pub Comes : Recording → ℕ → ℕ → Side → Consequence → Type 0
Comes r n d side Passed =
    (passings : Sides (Option Passing)) × (passing : Passing)
    × (notice_at r n ≡ PassedDeadline d passings) × (of_side side passings ≡ Some passing)
Comes r n d side (EndedCall g) =
    notice_at r n ≡ Checked (record { goroutine = g; descriptor = d; side = side }) 2
Comes r n d side (TakenBack woken) =
    (g : ℕ) × (mode : Mode) × IsSetting r d side n g mode
    × (woken_of side (account r d n) ≡ Some woken)

-- A finding is correct: the step at `position` had the given `consequence` for the deadline, and
-- the step in `setting` had set that deadline.
pub record IsFinding (r : Recording) (n : ℕ) (found : DeadlineFinding) : Type 0 where
  pub at : ℕ
  pub before : at < n
  pub position : found.position ≡ suc at
  pub comes : Comes r at found.descriptor found.side found.consequence
  pub set : IsSetBy r at found.descriptor found.side found.setting

-- the finding is about the deadline of this side, and about the step after position n
pub record IsOf (n d : ℕ) (side : Side) (consequence : Consequence) (found : DeadlineFinding) :
    Type 0 where
  pub position : found.position ≡ suc n
  pub descriptor : found.descriptor ≡ d
  pub side_is : found.side ≡ side
  pub consequence_is : found.consequence ≡ consequence

-- ---- their lines

-- the printed name of a consequence
abbrev pub consequence_name : Consequence → List ℕ
consequence_name Passed = codes " passed-deadline"
consequence_name (EndedCall g) = codes " timeout"
consequence_name (TakenBack g) = codes " taken-back"

-- the goroutine whose call ended, or that was woken
abbrev pub goroutine_of : Consequence → Option ℕ
goroutine_of Passed = None
goroutine_of (EndedCall g) = Some g
goroutine_of (TakenBack g) = Some g

-- the text ` gor 2`, or no text if the consequence has no goroutine
abbrev pub goroutine_text : Option ℕ → List ℕ
goroutine_text None = []
goroutine_text (Some g) = codes " gor " ++ decimal g

-- `at 91 timeout`
abbrev pub consequence_text : DeadlineFinding → List ℕ
consequence_text found =
    codes "at " ++ (decimal found.position ++ consequence_name found.consequence)

abbrev pub mode_text : Mode → List ℕ
mode_text Mode.Read = codes " r"
mode_text Mode.Write = codes " w"
mode_text Mode.Both = codes " rw"

-- the text ` moved 75 by 3`, or no text if no later step has set only the other side's deadline
abbrev pub moved_text : Option StepBy → List ℕ
moved_text None = []
moved_text (Some by) =
    codes " moved " ++ (decimal by.step ++ (codes " by " ++ decimal by.goroutine))

-- the text ` desc 0 r set 60 by 2 rw`
abbrev pub setting_text : DeadlineFinding → List ℕ
setting_text found =
    codes " desc " ++ (decimal found.descriptor ++ (side_letter found.side
    ++ (codes " set " ++ (decimal found.setting.by.step
    ++ (codes " by " ++ (decimal found.setting.by.goroutine ++ mode_text found.setting.mode))))))

-- the line `at 91 timeout gor 2 desc 0 r set 60 by 2 rw moved 75 by 3`
abbrev pub deadline_line : DeadlineFinding → List ℕ
deadline_line found =
    consequence_text found ++ (goroutine_text (goroutine_of found.consequence)
    ++ (setting_text found ++ (moved_text found.setting.moved ++ codes "\n")))

-- a line for each finding
abbrev pub deadline_lines : List DeadlineFinding → List ℕ
deadline_lines found = text_of_parts deadline_line found
