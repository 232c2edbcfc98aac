use Rattle.nr_laws.proofs.ReferenceLemmas.{place_made, socket_made, entry_made}
use Rattle.nr_laws.proofs.well_formed.what_is_named_is_there.Goals as goal

pub returns : goal.returns
returns c = record { place = place_made; socket = socket_made; entry = entry_made }
