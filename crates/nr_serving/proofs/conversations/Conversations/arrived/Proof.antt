-- The method `arrived` returns a struct without fields. For the struct's log, the proof chooses the
-- one that the contract requires.
use Rattle.std.proofs.Common.{[], ◌∷◌, ◌++◌, refl}
use Rattle.std.proofs.raw_atomic.Walks.{proved}
use Rattle.nr_text.proofs.CallWalks.{nothing_made, of_no_fields}
use contract.Running.{tables}
use types.Kit.{‵, raw, ◌⊛◌, ◌$◌, ◌∵◌, !, qed, keep, split, move, drop, fjoin, suffices, done}
use types.Part.{agg}
use types.Run.{enter, no_more, returns}
use types.ByLocal.{alloc_all, pass_all, free_all, look_at, sets}
use denote.Builtin.{RefOf}
use denote.Exit.{yes}
use denote.RattleType.{owns}
use denote.Ref.{shr_vals}
use denote.Signature.{plain, types_at}
use denote.Steps.{nothing}
use denote.Triple.Entry.{alive}
use denote.Triple.Walked.{Stays, Goes-dropped, stay_dropped, walk_of, says, ends_at}
use Rattle.nr_serving.specs.contracts.conversations.Arrival as Arrival
use Rattle.nr_serving.specs.contracts.conversations.Conversations as Conversations
use Rattle.nr_serving.specs.contracts.conversations.Conversations.arrived as f
use Rattle.nr_serving.proofs.conversations.Conversations.arrived.Statement.{statement}
use Rattle.nr_serving.proofs.conversations.Conversations.arrived.Code as code

abbrev stayed : Stays f.ended.signature.params f.ended.kept
stayed = (stay_dropped _ yes, (stay_dropped _ yes, tt))

pub arrived_spec : {M : Type 1} → statement M
arrived_spec 𝓤 𝓛 𝓜 𝓡 wired =
    let c = f.clauses 𝓛 𝓜.mem 𝓡.returns in let 𝓣 = tables 𝓤 𝓛.H 𝓜 𝓡 𝓡.env in
    let self_is_dropped = Goes-dropped 𝓛 2 (RefOf (0 ∷ []) tt (plain (λ _. Conversations.the_row)) (λ _. tt)) yes (λ κs x r. refl) in
    let arrival_is_dropped = Goes-dropped 𝓛 2 (RefOf (1 ∷ []) tt (plain (λ _. Arrival.the_row)) (λ _. tt)) yes (λ κs x r. refl) in
    proved 𝓛 f.ended stayed c 𝓜 𝓡 (self_is_dropped, (arrival_is_dropped, tt)) f.Key.name code.function (code.unfolded 𝓤 𝓛.H 𝓜 𝓡 wired)
    (λ κs. (shr_vals, (shr_vals, tt))) (λ κs. ((λ r vs is. is.0), ((λ r vs is. is.0), tt))) (λ κs qs bounds a g are.
    let y : (walk_of 𝓛 f.ended stayed c).Ghost = ((κs, qs, bounds, a, (shr_vals a.0, (shr_vals a.1.0, tt))), g) in
    let longer : Conversations.the_row.Denot = record { arrivals = a.0.now.arrivals ++ a.1.0.now ∷ []; callers = a.0.now.callers } in
    qed 𝓛 ((raw (alive 𝓛 f.signature κs qs) ⊛ ‵ (owns (types_at f.signature.params κs) a y.0.4)) ∷ raw ((c κs a).requires g) ∷ []) ∵
    keep ! (0 ∷ []) $ split ! $ move ! (1 ∷ []) $ drop ! $
    enter ! _ _ _ _ _ $ alloc_all ! (λ l. pass_all ! refl ((tt, tt), ((tt, tt), tt)) $
    sets ! (agg ! (no_more !)) refl (tt, tt) $
    returns ! (look_at ! 0 refl) $ free_all ! refl $
    suffices ! _ (ends_at 𝓛 f.ended stayed c y of_no_fields longer (tt, (tt, tt)) (tt, (tt, tt))) $ says ! (refl, refl) $
    nothing ! $ nothing_made ! $ fjoin ! $ nothing ! $ nothing ! $ fjoin ! $ nothing ! $ fjoin ! $ move ! (2 ∷ 0 ∷ 1 ∷ []) $ done !))
