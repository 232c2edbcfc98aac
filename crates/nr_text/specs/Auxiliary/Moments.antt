-- Helper definitions for `Moments`. The laws in THEOREM.md don't use them.
use Rattle.std.specs.Prelude.{◌≡◌, ℕ, Bool, List, refl}
use Rattle.std.specs.Coded.{Coded, code_by, coded×, coded_ℕ, coded_bool, coded_list}
use Rattle.nr_text.specs.Moments.{Moment}

-- ---- the encoding of moments for ghost fields

abbrev Parts : Type 0
Parts = List ℕ × (List ℕ × Bool)

abbrev to_parts : Moment → Parts
to_parts m = (m.received, (m.sent, m.ended))

abbrev from_parts : Parts → Moment
from_parts p = record { received = p.0; sent = p.1.0; ended = p.1.1 }

pub from_parts-to_parts : (m : Moment) → from_parts (to_parts m) ≡ m
from_parts-to_parts m = refl

abbrev coded_bytes : Coded (List ℕ)
coded_bytes = coded_list coded_ℕ

abbrev pub moments_code : Coded (List Moment)
moments_code =
    coded_list (code_by Parts (coded× coded_bytes (coded× coded_bytes coded_bool)) to_parts
    from_parts from_parts-to_parts)
