use Rattle.nr_journal.specs.Rule.{journal_room}
use Rattle.nr_serving.proofs.HistoryLemmas.{below_as, below_seen, others_more, seen_before}
use Rattle.nr_serving.proofs.session.+collect.Goals as goal

-- the words that the last pass read at the end are words of other passes
pub returns-clause-last : goal.returns-clause-last
returns-clause-last t c =
    seen_before (journal_room c.args.journal.now) c.collect-history.result c.args.last.now.pass_state c.see_all_of.new.one.pass_state c.in-Some.other.pass.pass_state.seen
    c.see_all_of.ensures.sees_others c.collect-history.ensures.last

-- another pass read what the last pass had read
pub returns-clause-others : goal.returns-clause-others
returns-clause-others t c =
    let first = c.see_all_of in
    let given = c.collect-history in
    let second = c.see_all_of-2 in
    others_more (journal_room c.args.journal.now) given.result c.take_done.new.done.items c.args.done.items c.in-Some.other first.new.other.pass_state first.new.one.pass_state
    given.new.last.pass_state second.new.one.pass_state c.args.last.now.pass_state.seen given.new.last.pass_state.seen
    c.in-Some.ensures.last given.ensures.last given.ensures.seen first.ensures.all first.ensures.other second.ensures.sees_others second.ensures.all given.ensures.others

-- each word has a tag below the number of passes
pub returns-clause-tags : goal.returns-clause-tags
returns-clause-tags t c = below_as c.collect-history.result _ _ c.see_all_of.ensures.sees_others.5 c.collect-history.ensures.tags

pub returns-in_default-clause-tags : goal.returns-in_default-clause-tags
returns-in_default-clause-tags t c = below_seen c.finish.result _ _ _ c.finish.ensures.sees_others.5 c.finish.ensures.words c.finish.ensures.tags
