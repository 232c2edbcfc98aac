use Rattle.std.proofs.Common.{◌≡◌, ◌∙◌, ℕ, List, ap, map, subst, sym}
use Rattle.std.specs.Prelude.{IfSome, vec_len}
use Rattle.std.specs.List.{All}
use Rattle.nr_front.specs.FrontState.{FrontState}
use Rattle.nr_journal.specs.Rule.{journal_room}
use Rattle.nr_serving.specs.Auxiliary.Fronts.{AreServed}
use Rattle.nr_serving.specs.Session.{IsHistory, numbers_below}
use Rattle.nr_serving.specs.Auxiliary.Session.{IsFresh, any_failed, words_of}
use Rattle.nr_serving.specs.declared.fronts.Done.{Done}
use Rattle.nr_serving.proofs.SessionLemmas.{as_many, dones_of, opens, passed_of, ready, same_journal, same_passes, same_tags, served_all, shared}
use Rattle.nr_serving.proofs.session.share.Goals as goal

pub serve_each-served-requires-clause-ready : goal.serve_each-served-requires-clause-ready
serve_each-served-requires-clause-ready g c κs within =
    ready _ _ _ _ _ c.open_ports-fronts.result.items
    (subst (All (IsFresh c.in_ok-journal.journal c.args.film.now.recording c.args.shape.fronts c.args.shape.depth _)) (sym c.open_ports-fronts.ensures.fronts) c.in_ok-fronts.ensures.fresh) c.open_ports-fronts.ensures.none

pub finish-requires-clause-tables : goal.finish-requires-clause-tables
finish-requires-clause-tables g c =
    let are = served_all _ _ _ c.serve_each-served.ensures.served c.in_ok-served.ensures.items in
    let fresh = subst (All (IsFresh c.in_ok-journal.journal c.args.film.now.recording c.args.shape.fronts c.args.shape.depth _)) (sym c.open_ports-fronts.ensures.fronts) c.in_ok-fronts.ensures.fresh in
    subst (All (λ d. d.pass.table ≡ c.in_ok-journal.journal)) (sym c.end_ports-done.ensures.done) (same_journal _ _ _ _ _ _ _ are fresh)

pub finish-requires-clause-passes : goal.finish-requires-clause-passes
finish-requires-clause-passes g c =
    let are = served_all _ _ _ c.serve_each-served.ensures.served c.in_ok-served.ensures.items in
    let fresh = subst (All (IsFresh c.in_ok-journal.journal c.args.film.now.recording c.args.shape.fronts c.args.shape.depth _)) (sym c.open_ports-fronts.ensures.fronts) c.in_ok-fronts.ensures.fresh in
    let count : c.args.shape.fronts ≡ vec_len c.end_ports-done.result =
    as_many _ _ _ _ _ c.in_ok-fronts.ensures.count c.open_ports-fronts.ensures.len c.serve_each-served.ensures.len c.in_ok-served.ensures.len c.end_ports-done.ensures.len in
    subst (All (λ d. d.pass.pass_state.passes ≡ vec_len c.end_ports-done.result)) (sym c.end_ports-done.ensures.done)
    (subst (λ (n : ℕ). All (λ d. d.pass.pass_state.passes ≡ n) (dones_of c.serve_each-served.result.items)) count (same_passes _ _ _ _ _ _ _ are fresh))

pub finish-requires-clause-tags : goal.finish-requires-clause-tags
finish-requires-clause-tags g c =
    let are = served_all _ _ _ c.serve_each-served.ensures.served c.in_ok-served.ensures.items in
    let count : c.args.shape.fronts ≡ vec_len c.end_ports-done.result =
    as_many _ _ _ _ _ c.in_ok-fronts.ensures.count c.open_ports-fronts.ensures.len c.serve_each-served.ensures.len c.in_ok-served.ensures.len c.end_ports-done.ensures.len in
    ap (map (λ d. d.pass.pass_state.tag)) c.end_ports-done.ensures.done ∙ same_tags _ _ are ∙ ap (map (λ (start : FrontState). start.pass_state.tag)) c.open_ports-fronts.ensures.fronts ∙ c.in_ok-fronts.ensures.tags
    ∙ ap numbers_below count

pub returns-clause-shared : goal.returns-clause-shared
returns-clause-shared g c =
    let table = c.in_ok-journal.journal in
    let r = c.args.film.now.recording in
    let starts = c.in_ok-fronts.fronts.items in
    let ones = c.serve_each-served.result.items in
    let done = c.end_ports-done.ensures.done in
    let are : AreServed starts ones = subst (λ (l : List FrontState). AreServed l ones) c.open_ports-fronts.ensures.fronts (served_all _ _ _ c.serve_each-served.ensures.served c.in_ok-served.ensures.items) in
    let count = sym c.in_ok-fronts.fronts.ok.0 ∙ c.in_ok-fronts.ensures.count in
    let history = subst (λ (l : List Done). IfSome (words_of c.finish.result.history) (IsHistory (journal_room table) (map (λ d. d.pass.pass_state) l))) done c.finish.ensures.history in (
      passed_of ones,
      opens _ _ _ _ _ (passed_of ones) c.open_ports-fronts.ensures.opened c.end_ports-done.ensures.ended (c.open_ports-fronts.ensures.len ∙ c.in_ok-fronts.ensures.count),
      shared table r c.args.shape.fronts c.args.shape.depth _ _ _ starts ones c.args.shape.room c.in_ok-journal.ensures.0 count are c.in_ok-fronts.ensures.fresh c.in_ok-fronts.ensures.tags
          history (c.finish.ensures.failed ∙ ap any_failed done),
    )
