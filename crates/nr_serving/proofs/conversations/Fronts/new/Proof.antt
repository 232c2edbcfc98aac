-- The method `new` returns a struct without fields. The proof chooses the log of this struct: the
-- empty log, because no port was opened.
use Rattle.std.proofs.Common.{[], ◌∷◌, refl}
use Rattle.std.proofs.raw_atomic.Walks.{proved}
use Rattle.nr_text.proofs.CallWalks.{nothing_made, of_no_fields}
use contract.Running.{tables}
use types.Kit.{raw, ◌$◌, ◌∵◌, !, qed, drop, fjoin, suffices, done}
use types.Part.{agg}
use types.Run.{enter, no_more, returns}
use types.ByLocal.{alloc_all, pass_all, free_all, look_at, sets}
use denote.Steps.{nothing}
use denote.Triple.Entry.{on_entry}
use denote.Triple.Walked.{Stays, walk_of, says, ends_at}
use Rattle.nr_serving.specs.contracts.conversations.Fronts as Fronts
use Rattle.nr_serving.specs.contracts.conversations.Fronts.new as f
use Rattle.nr_serving.proofs.conversations.Fronts.new.Statement.{statement}
use Rattle.nr_serving.proofs.conversations.Fronts.new.Code as code

abbrev stayed : Stays f.ended.signature.params f.ended.kept
stayed = tt

pub new_spec : {M : Type 1} → statement M
new_spec 𝓤 𝓛 𝓜 𝓡 wired =
    let c = f.clauses 𝓛 𝓜.mem 𝓡.returns in let 𝓣 = tables 𝓤 𝓛.H 𝓜 𝓡 𝓡.env in
    proved 𝓛 f.ended stayed c 𝓜 𝓡 tt f.Key.name code.function (code.unfolded 𝓤 𝓛.H 𝓜 𝓡 wired)
    (λ κs. tt) (λ κs. tt) (λ κs qs bounds a g are.
    let y : (walk_of 𝓛 f.ended stayed c).Ghost = ((κs, qs, bounds, a, tt), g) in
    let none : Fronts.the_row.Denot = record { opened = []; ended = [] } in
    qed 𝓛 (raw (on_entry 𝓛 f.signature κs qs a y.0.4) ∷ raw ((c κs a).requires g) ∷ []) ∵ drop ! $ drop ! $
    enter ! _ _ _ _ _ $ alloc_all ! (λ l. pass_all ! refl tt $
    sets ! (agg ! (no_more !)) refl (tt, tt) $
    returns ! (look_at ! 0 refl) $ free_all ! refl $
    suffices ! _ (ends_at 𝓛 f.ended stayed c y of_no_fields none tt tt) $ says ! (refl, refl) $
    nothing ! $ nothing_made ! $ fjoin ! $ nothing ! $ nothing ! $ done !))
