use Rattle.std.proofs.Common.{◌≡◌, Some, None, codes, option_map, rules, sym, ap, ◌∙◌}
use Rattle.clap.specs.Words.{subcommand_rows_of, rows_of, found_of, first_of}
use Rattle.clap.proofs.WalkLemmas.{first_value-rows}
use Rattle.nr_arguments.proofs.ArgumentsLemmas.{both_views, asked_in-none, asked_in-word}
use Rattle.nr_arguments.proofs.arguments.matched_program.Goals as goal

pub returns-in_default-get_str-clause-named : goal.returns-in_default-get_str-clause-named
returns-in_default-get_str-clause-named c =
    let rows = rows_of (found_of c.in-Some.inner.now) in
    let found : subcommand_rows_of c.args.matches.now ≡ Some (c.in-Some.name.now, rows) = both_views _ _ _ _ _ c.in-Some.ensures.name c.in-Some.ensures.rows in
    let none : None ≡ first_of (codes "file") rows = c.in_default-get_str.ensures ∙ first_value-rows (found_of c.in-Some.inner.now) (codes "file") in
    let asked = asked_in-none _ _ rows found none in
    λ program e. let bad = sym asked ∙ e in cc

pub returns-in-run-clause-named : goal.returns-in-run-clause-named
returns-in-run-clause-named c =
    let read = c.in-Some-get_str.ensures ∙ first_value-rows (found_of c.in-Some.inner.now) (codes "file") in
    asked_in-word _ _ _ _ _ _ (codes "run") c.in-Some.ensures.name c.in-Some.ensures.rows read (search rules)

pub returns-in-check-clause-named : goal.returns-in-check-clause-named
returns-in-check-clause-named c =
    let read = c.in-Some-get_str.ensures ∙ first_value-rows (found_of c.in-Some.inner.now) (codes "file") in
    asked_in-word _ _ _ _ _ _ (codes "check") c.in-Some.ensures.name c.in-Some.ensures.rows read (search rules)

pub returns-in-upgrade-clause-named : goal.returns-in-upgrade-clause-named
returns-in-upgrade-clause-named c =
    let read = c.in-Some-get_str.ensures ∙ first_value-rows (found_of c.in-Some.inner.now) (codes "file") in
    asked_in-word _ _ _ _ _ _ (codes "upgrade") c.in-Some.ensures.name c.in-Some.ensures.rows read (search rules)

pub returns-in-changes-clause-named : goal.returns-in-changes-clause-named
returns-in-changes-clause-named c =
    let read = c.in-Some-get_str.ensures ∙ first_value-rows (found_of c.in-Some.inner.now) (codes "file") in
    asked_in-word _ _ _ _ _ _ (codes "changes") c.in-Some.ensures.name c.in-Some.ensures.rows read (search rules)

pub returns-in-suspects-clause-named : goal.returns-in-suspects-clause-named
returns-in-suspects-clause-named c =
    let read = c.in-Some-get_str.ensures ∙ first_value-rows (found_of c.in-Some.inner.now) (codes "file") in
    asked_in-word _ _ _ _ _ _ (codes "suspects") c.in-Some.ensures.name c.in-Some.ensures.rows read (search rules)

pub returns-in-Some-sharing_in-clause-named : goal.returns-in-Some-sharing_in-clause-named
returns-in-Some-sharing_in-clause-named c =
    let read = c.in-Some-get_str.ensures ∙ first_value-rows (found_of c.in-Some.inner.now) (codes "file") in
    asked_in-word _ _ _ _ _ _ (codes "serve") c.in-Some.ensures.name c.in-Some.ensures.rows read (search rules)
    ∙ ap (option_map (λ sharing. (codes "serve", c.in-Some-get_str.file.now, Some sharing))) (sym c.in-Some-sharing_in.ensures.asked)
