use Rattle.std.proofs.lemmas.Option.{slice_get_within}
use Rattle.nr_gsema.proofs.table.GTable.release_semaphore.Goals as goal

pub set_count-requires : goal.set_count-requires
set_count-requires c = slice_get_within c.args.self.now.semaphores c.args.socket c.requires.0 c.requires.1
