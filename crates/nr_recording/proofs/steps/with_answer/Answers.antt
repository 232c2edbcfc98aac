use Rattle.std.proofs.Common.{◌∷◌, [], ◌++◌, ◌∙◌, List, sym, ap, subst}
use Rattle.serde_json.specs.Data.{Data, array}
use Rattle.serde_json.specs.View.{view, items_view}
use Rattle.serde_json.specs.declared.value.Value.{Value}
use Rattle.serde_json.proofs.Views.{view-Array}
use Rattle.nr_recording.specs.Spelling.{answer}
use Rattle.nr_recording.specs.Auxiliary.Spelling.{IsSpelling}
use Rattle.nr_recording.proofs.FurtherPartLemmas.{spelling_pushed}
use Rattle.nr_recording.proofs.steps.with_answer.Goals as goal

pub returns-in_ok-push-in-Array : goal.returns-in_ok-push-in-Array
returns-in_ok-push-in-Array c = λ name arguments spelled.
    let before = c.in-Array.parts in
    let after = c.push.new.self in
    let value = c.in_ok-answer_value-in-Array.ensures in
    let line = subst (λ (d : Data). IsSpelling d (name, arguments)) (ap view c.in-Array.is ∙ view-Array before) spelled in
    let more = spelling_pushed before.items _ name arguments (answer c.args.answer) line value.is value.typed in
    let pushed = subst (λ (xs : List Value). IsSpelling (array (items_view xs)) (name, arguments ++ answer c.args.answer ∷ [])) (sym c.in_ok-push-in-Array.ensures.items) more in
    subst (λ (d : Data). IsSpelling d (name, arguments ++ answer c.args.answer ∷ [])) (sym (view-Array after)) pushed
