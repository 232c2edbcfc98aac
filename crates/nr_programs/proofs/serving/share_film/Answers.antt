use Rattle.nr_programs.proofs.ServingLemmas.{shares}
use Rattle.nr_programs.proofs.serving.share_film.Goals as goal

pub returns : goal.returns
returns g c = shares _ c.args.sharing _ _ _ _ _ _ c.share_among-shared.ensures.shared c.share_among-shared.ensures.untouched c.tell.ensures
