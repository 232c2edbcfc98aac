use Rattle.std.proofs.Common.{refl}
use Rattle.netrev.proofs.starting.play.Goals as goal

-- `serve` reads no input
pub returns-in-Serve : goal.returns-in-Serve
returns-in-Serve g c = rw c.in-Serve.is (refl, c.serve_bytes.ensures.serves)

pub returns-in-Run : goal.returns-in-Run
returns-in-Run g c = rw c.in-Run.is (refl, c.run_bytes.ensures.transcript)
