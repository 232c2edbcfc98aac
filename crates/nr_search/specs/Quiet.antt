-- Positions at which no mark can hit, according to the kinds of the steps before and after them.
use Rattle.std.specs.Prelude.{◌≡◌, Bool, false, not, List, slice_get, Option, Some}
use Rattle.std.specs.List.{list_any}
use Rattle.nr_rev.specs.Kind.{kind_number}
use Rattle.nr_rev.specs.Aspect.{can_change}
use Rattle.nr_rev.specs.declared.kind.Kind.{Kind}
use Rattle.nr_marks.specs.Hit.{break_hits}
use Rattle.nr_marks.specs.Marks.{NumberedMark, is_watch}
use Rattle.nr_marks.specs.declared.mark.Mark.{Mark}
use Rattle.nr_marks.specs.declared.mark.Mark.TheVariants as mark
use Rattle.nr_marks.specs.declared.mark.NextStep.{NextStep}
use Rattle.nr_search.specs.declared.quiet.Outlook.{Outlook}

-- True if a mark watches a cell that a step of this kind can change.
abbrev pub is_changed_by : Kind → Mark → Bool
is_changed_by kind (mark.Break wanted) = false
is_changed_by kind (mark.TemporaryBreak wanted) = false
is_changed_by kind (mark.Watch c) = can_change kind c

-- True if a mark is a break that names the next step.
abbrev pub is_stopped_by : Option NextStep → Mark → Bool
is_stopped_by next (mark.Break wanted) = break_hits wanted next
is_stopped_by next (mark.TemporaryBreak wanted) = break_hits wanted next
is_stopped_by next (mark.Watch c) = false

-- True if one of the marks watches a cell that a step of this kind can change.
abbrev pub any_changed : Kind → List NumberedMark → Bool
any_changed kind marks = list_any (λ m. is_changed_by kind m.item) marks

-- True if one of the marks is a break that names the next step.
abbrev pub any_stopped : Option NextStep → List NumberedMark → Bool
any_stopped next marks = list_any (λ m. is_stopped_by next m.item) marks

-- True if the table has one entry for each kind of step, at the kind's number. The entry says
-- whether a mark watches a cell that such a step can change.
pub record AreChanging (marks : List NumberedMark) (changing : List Bool) : Type 0 where
  pub each : (kind : Kind) → slice_get changing (kind_number kind) ≡ Some (any_changed kind marks)

-- True if one of the marks is a break.
abbrev pub any_break : List NumberedMark → Bool
any_break marks = list_any (λ m. not (is_watch m.item)) marks

-- True if each fact in the outlook holds for the marks.
pub record IsOutlook (marks : List NumberedMark) (outlook : Outlook) : Type 0 where
  pub changing : AreChanging marks outlook.changing
  pub any_break : outlook.any_break ≡ any_break marks

-- True if no mark can hit between the step `made` and the step `next`.
pub record IsQuiet (marks : List NumberedMark) (made next : Option NextStep) : Type 0 where
  pub step : NextStep
  pub is : made ≡ Some step
  pub unchanged : any_changed step.kind marks ≡ false
  pub unstopped : any_stopped next marks ≡ false
