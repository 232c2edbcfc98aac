-- The number of members in an object.
use Rattle.std.proofs.Common.{◌≡◌, suc, List, [], ◌∷◌, length, refl, ap, String}
use Rattle.std.specs.declared.alloc.Global.{Global}
use Rattle.serde_json.specs.View.{members_view}
use Rattle.serde_json.specs.declared.value.Value.{Value}
use Rattle.nr_recording.specs.Header.{members_len}

pub members_len_of_view : (ms : List (String Global × Value)) → members_len (members_view ms) ≡ length ms
members_len_of_view [] = refl
members_len_of_view (m ∷ ms) = ap suc (members_len_of_view ms)
