-- The method `and` returns a struct without fields. The proof chooses the log of this struct: the
-- log that the contract requires.
use Rattle.std.proofs.Common.{[], ◌∷◌, ◌++◌, refl}
use Rattle.std.proofs.raw_atomic.Walks.{proved}
use Rattle.nr_text.proofs.CallWalks.{nothing_made, of_no_fields}
use contract.Running.{tables}
use mir.Syntax.{Args, a_type, dcons, dnil}
use denote.Param.{bounded, param}
use Rattle.std.specs.contracts.result.Result as Result
use Rattle.nr_lines.specs.contracts.ending.End as End
use Rattle.nr_lines.specs.contracts.ending.LineEnd as LineEnd
use Rattle.nr_text.specs.contracts.source.Source as Source
use Rattle.nr_text.specs.contracts.sink.Sink as Sink
use mir.MapTy.{inst_fn}
use types.Kit.{‵, raw, ◌⊛◌, ◌$◌, ◌∵◌, !, qed, keep, split, move, drop, fjoin, suffices, done}
use types.Part.{agg}
use types.Run.{enter, no_more, returns}
use types.ByLocal.{alloc_all, pass_all, free_all, look_at, sets}
use denote.Builtin.{RefOf}
use denote.Exit.{yes}
use denote.RattleType.{owns}
use denote.Ref.{shr_vals}
use denote.Signature.{plain, types_at}
use denote.Steps.{nothing}
use denote.Triple.Entry.{alive}
use denote.Triple.Walked.{Stays, Goes-dropped, stay_dropped, walk_of, says, ends_at}
use Rattle.nr_serving.specs.contracts.conversations.Conversations as Conversations
use Rattle.nr_serving.specs.contracts.conversations.Conversations.and as f
use Rattle.nr_serving.proofs.conversations.Conversations.and.Statement.{statement}
use Rattle.nr_serving.proofs.conversations.Conversations.and.Code as code

pub and_spec : {M : Type 1} → statement M
and_spec 𝓤 𝓛 𝓜 𝓡 wired I O laws_I laws_O read read_at write write_at met_I met_O =
    let ended = f.ended I O read read_at write write_at in
    let stayed : Stays ended.signature.params ended.kept = (stay_dropped _ yes, (stay_dropped _ yes, (stay_dropped _ yes, (stay_dropped _ yes, tt)))) in
    let c = f.clauses I O read read_at write write_at 𝓛 𝓜.mem 𝓡.returns in let 𝓣 = tables 𝓤 𝓛.H 𝓜 𝓡 𝓡.env in
    let args : Args = bounded (a_type ∷ a_type ∷ []) (I, (O, tt)) (dcons read_at (dcons write_at dnil)) in
    let self_is_dropped = Goes-dropped 𝓛 6 (RefOf (0 ∷ []) tt (plain (λ _. Conversations.the_row)) (λ _. tt)) yes (λ κs x r. refl) in
    let source_is_dropped = Goes-dropped 𝓛 6 (RefOf (1 ∷ []) tt (plain (λ _. Source.the_row (param 0 I) read)) (λ _. tt)) yes (λ κs x r. refl) in
    let sink_is_dropped = Goes-dropped 𝓛 6 (RefOf (2 ∷ []) tt (plain (λ _. Sink.the_row (param 1 O) write)) (λ _. tt)) yes (λ κs x r. refl) in
    let ending_is_dropped = Goes-dropped 𝓛 6 (RefOf (3 ∷ []) tt (plain (λ _. Result.the_row End.the_row LineEnd.the_row)) (λ _. tt)) yes (λ κs x r. refl) in
    proved 𝓛 ended stayed c 𝓜 𝓡 (self_is_dropped, (source_is_dropped, (sink_is_dropped, (ending_is_dropped, tt)))) (f.Key.name args) (inst_fn args code.function) (code.unfolded 𝓤 𝓛.H 𝓜 𝓡 wired (I, (O, tt)) read_at write_at)
    (λ κs. (shr_vals, (shr_vals, (shr_vals, (shr_vals, tt))))) (λ κs. ((λ r vs is. is.0), ((λ r vs is. is.0), ((λ r vs is. is.0), ((λ r vs is. is.0), tt))))) (λ κs qs bounds a g are.
    let y : (walk_of 𝓛 ended stayed c).Ghost = ((κs, qs, bounds, a, (shr_vals a.0, (shr_vals a.1.0, (shr_vals a.1.1.0, (shr_vals a.1.1.1.0, tt))))), g) in
    let longer : Conversations.the_row.Denot = record { arrivals = a.0.now.arrivals; callers = a.0.now.callers ++ record { input = a.1.0.now; output = a.1.1.0.now; ending = a.1.1.1.0.now } ∷ [] } in
    qed 𝓛 ((raw (alive 𝓛 ended.signature κs qs) ⊛ ‵ (owns (types_at ended.signature.params κs) a y.0.4)) ∷ raw ((c κs a).requires g) ∷ []) ∵
    keep ! (0 ∷ []) $ split ! $ move ! (1 ∷ []) $ drop ! $
    enter ! _ _ _ _ _ $ alloc_all ! (λ l. pass_all ! refl ((tt, tt), ((tt, tt), ((tt, tt), ((tt, tt), tt)))) $
    sets ! (agg ! (no_more !)) refl (tt, tt) $
    returns ! (look_at ! 0 refl) $ free_all ! refl $
    suffices ! _ (ends_at 𝓛 ended stayed c y of_no_fields longer (tt, (tt, (tt, (tt, tt)))) (tt, (tt, (tt, (tt, tt))))) $ says ! (refl, refl) $
    nothing ! $ nothing_made ! $ fjoin ! $ nothing ! $ nothing ! $ fjoin ! $ nothing ! $ fjoin ! $ nothing ! $ fjoin ! $ nothing ! $ fjoin ! $ move ! (2 ∷ 0 ∷ 1 ∷ []) $ done !))
