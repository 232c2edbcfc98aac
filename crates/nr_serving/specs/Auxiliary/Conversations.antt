-- Helper definitions for `Conversations`. The laws in THEOREM.md don't use them.
use Rattle.std.specs.Prelude.{◌≡◌, ℕ, Bool, true, false, List, Option, Some, None, Result, Ok, Err, refl}
use Rattle.std.specs.Coded.{Coded, code_by, coded×, coded_ℕ, coded_bool, coded_list, coded_option}
use mathlib.Core.Path.{ap}
use Rattle.nr_text.specs.Moments.{Moment}
use Rattle.nr_text.specs.Auxiliary.Moments.{moments_code}
use Rattle.nr_lines.specs.declared.ending.End.{End}
use Rattle.nr_lines.specs.declared.ending.End.TheVariants.{Closed, Quit}
use Rattle.nr_lines.specs.declared.ending.LineEnd.{LineEnd}
use Rattle.nr_lines.specs.declared.ending.LineEnd.TheVariants.{Read, Write}
use Rattle.nr_serving.specs.declared.conversations.Arrival.{Arrival}
use Rattle.nr_serving.specs.declared.conversations.Arrival.TheVariants as arrivals
use Rattle.nr_serving.specs.Conversations.{Conversation, Passed}

-- ---- how the prover encodes logs

abbrev number_of : Arrival → Option Bool
number_of arrivals.Came = None
number_of arrivals.Ended = Some false
number_of arrivals.Failed = Some true

abbrev arrival_of : Option Bool → Arrival
arrival_of None = arrivals.Came
arrival_of (Some false) = arrivals.Ended
arrival_of (Some true) = arrivals.Failed

pub arrival_of-number_of : (arrival : Arrival) → arrival_of (number_of arrival) ≡ arrival
arrival_of-number_of arrivals.Came = refl
arrival_of-number_of arrivals.Ended = refl
arrival_of-number_of arrivals.Failed = refl

abbrev pub arrivals_code : Coded (List Arrival)
arrivals_code =
    coded_list (code_by (Option Bool) (coded_option coded_bool) number_of arrival_of
    arrival_of-number_of)

abbrev EndingParts : Type 0
EndingParts = Option (Option (Option (ℕ × ℕ)))

abbrev ending_parts : Result End LineEnd → EndingParts
ending_parts (Ok Closed) = None
ending_parts (Ok Quit) = Some None
ending_parts (Err Read) = Some (Some None)
ending_parts (Err (Write whole part)) = Some (Some (Some (whole, part)))

abbrev ending_of : EndingParts → Result End LineEnd
ending_of None = Ok Closed
ending_of (Some None) = Ok Quit
ending_of (Some (Some None)) = Err Read
ending_of (Some (Some (Some p))) = Err (Write p.0 p.1)

pub ending_of-ending_parts : (ending : Result End LineEnd)
    → ending_of (ending_parts ending) ≡ ending
ending_of-ending_parts (Ok Closed) = refl
ending_of-ending_parts (Ok Quit) = refl
ending_of-ending_parts (Err Read) = refl
ending_of-ending_parts (Err (Write whole part)) = refl

abbrev InputParts : Type 0
InputParts = Option (List ℕ) × (List ℕ × (Bool × (Bool × List Moment)))

abbrev OutputParts : Type 0
OutputParts = Option (List ℕ) × (List ℕ × Bool)

abbrev Parts : Type 0
Parts = InputParts × (OutputParts × EndingParts)

abbrev to_parts : Conversation → Parts
to_parts c = (
  (c.input.remaining, (c.input.received, (c.input.ended, (c.input.failed, c.input.moments)))),
  ((c.output.contents, (c.output.sent, c.output.failed)), ending_parts c.ending),
)

abbrev from_parts : Parts → Conversation
from_parts p = record {
  input = record {
    remaining = p.0.0;
    received = p.0.1.0;
    ended = p.0.1.1.0;
    failed = p.0.1.1.1.0;
    moments = p.0.1.1.1.1;
  };
  output = record { contents = p.1.0.0; sent = p.1.0.1.0; failed = p.1.0.1.1 };
  ending = ending_of p.1.1;
}

pub from_parts-to_parts : (c : Conversation) → from_parts (to_parts c) ≡ c
from_parts-to_parts c =
    ap (λ (e : Result End LineEnd). record { input = c.input; output = c.output; ending = e })
    (ending_of-ending_parts c.ending)

abbrev pub numbers_code : Coded (List ℕ)
numbers_code = coded_list coded_ℕ

abbrev coded_input : Coded InputParts
coded_input =
    coded× (coded_option numbers_code)
    (coded× numbers_code (coded× coded_bool (coded× coded_bool moments_code)))

abbrev coded_output : Coded OutputParts
coded_output = coded× (coded_option numbers_code) (coded× numbers_code coded_bool)

abbrev coded_ending : Coded EndingParts
coded_ending = coded_option (coded_option (coded_option (coded× coded_ℕ coded_ℕ)))

abbrev pub conversations_code : Coded (List Conversation)
conversations_code =
    coded_list (code_by Parts (coded× coded_input (coded× coded_output coded_ending)) to_parts
    from_parts from_parts-to_parts)

abbrev PassedParts : Type 0
PassedParts = List Arrival × List Conversation

abbrev passed_parts : Passed → PassedParts
passed_parts p = (p.arrivals, p.callers)

abbrev passed_of : PassedParts → Passed
passed_of p = record { arrivals = p.0; callers = p.1 }

pub passed_of-passed_parts : (p : Passed) → passed_of (passed_parts p) ≡ p
passed_of-passed_parts p = refl

abbrev pub passed_code : Coded (List Passed)
passed_code =
    coded_list (code_by PassedParts (coded× arrivals_code conversations_code) passed_parts passed_of
    passed_of-passed_parts)
