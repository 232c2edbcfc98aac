use Rattle.std.proofs.Common.{◌≡◌, ◌∙◌, ap, ap₂, codes, rules, true}
use Rattle.std.proofs.lemmas.Result.{IfOk-weaker}
use Rattle.clap.specs.Words.{App, app_of, new_app, with_subcommand}
use Rattle.clap.specs.Simple.{Shape, app_of_fields, on_top}
use Rattle.nr_arguments.specs.Arguments.{file_program}
use Rattle.nr_arguments.proofs.arguments.command.Goals as goal

no_help_flag : Shape → Shape
no_help_flag s = record s { disable_help_flag = true }

no_help : Shape → Shape
no_help s = record s { disable_help_subcommand = true }

wants_program : Shape → Shape
wants_program s = record s { subcommand_required = true }

abbrev top : App
unfolding no_help_flag no_help wants_program
top = on_top wants_program (on_top no_help (on_top no_help_flag (new_app (codes "netrev"))))

pub returns : goal.returns
unfolding no_help_flag no_help wants_program
returns c =
    let run_is : app_of c.in_ok-run.run' ≡ file_program (codes "run") = c.in_ok-run.ensures.app in
    let check_is : app_of c.in_ok-check.check ≡ file_program (codes "check") = c.in_ok-check.ensures.app in
    let upgrade_is : app_of c.in_ok-upgrade.upgrade ≡ file_program (codes "upgrade") = c.in_ok-upgrade.ensures.app in
    let changes_is : app_of c.in_ok-changes.changes ≡ file_program (codes "changes") = c.in_ok-changes.ensures.app in
    let suspects_is : app_of c.in_ok-suspects.suspects ≡ file_program (codes "suspects") = c.in_ok-suspects.ensures.app in
    let new_is : app_of c.new.result ≡ new_app (codes "netrev") = search rules in
    let flag_is : app_of c.disable_help_flag.result ≡ on_top no_help_flag (app_of c.new.result) = ap app_of_fields c.disable_help_flag.ensures in
    let help_is : app_of c.disable_help_subcommand.result ≡ on_top no_help (app_of c.disable_help_flag.result) = ap app_of_fields c.disable_help_subcommand.ensures in
    let wants_is : app_of c.subcommand_required.result ≡ on_top wants_program (app_of c.disable_help_subcommand.result) = ap app_of_fields c.subcommand_required.ensures in
    let top_is : app_of c.subcommand_required.result ≡ top = wants_is ∙ ap (on_top wants_program) (help_is ∙ ap (on_top no_help) (flag_is ∙ ap (on_top no_help_flag) new_is)) in
    let first_is : app_of c.in_ok-subcommand.field-0 ≡ with_subcommand top (file_program (codes "run")).top =
    c.in_ok-subcommand.ensures.shape c.in_ok-run.ensures.local ∙ ap₂ with_subcommand top_is (ap (λ (a : App). a.top) run_is) in
    let second_is : app_of c.in_ok-subcommand-2.field-0 ≡ with_subcommand (with_subcommand top (file_program (codes "run")).top) (file_program (codes "check")).top =
    c.in_ok-subcommand-2.ensures.shape c.in_ok-check.ensures.local ∙ ap₂ with_subcommand first_is (ap (λ (a : App). a.top) check_is) in
    let third_is : app_of c.in_ok-subcommand-3.field-0 ≡ with_subcommand (with_subcommand (with_subcommand top (file_program (codes "run")).top) (file_program (codes "check")).top) (file_program (codes "upgrade")).top =
    c.in_ok-subcommand-3.ensures.shape c.in_ok-upgrade.ensures.local ∙ ap₂ with_subcommand second_is (ap (λ (a : App). a.top) upgrade_is) in
    let fourth_is : app_of c.in_ok-subcommand-4.field-0 ≡ with_subcommand (with_subcommand (with_subcommand (with_subcommand top (file_program (codes "run")).top) (file_program (codes "check")).top) (file_program (codes "upgrade")).top) (file_program (codes "changes")).top =
    c.in_ok-subcommand-4.ensures.shape c.in_ok-changes.ensures.local ∙ ap₂ with_subcommand third_is (ap (λ (a : App). a.top) changes_is) in
    let fifth_is : app_of c.in_ok-subcommand-5.field-0 ≡ with_subcommand (with_subcommand (with_subcommand (with_subcommand (with_subcommand top (file_program (codes "run")).top) (file_program (codes "check")).top) (file_program (codes "upgrade")).top) (file_program (codes "changes")).top) (file_program (codes "suspects")).top =
    c.in_ok-subcommand-5.ensures.shape c.in_ok-suspects.ensures.local ∙ ap₂ with_subcommand fourth_is (ap (λ (a : App). a.top) suspects_is) in
    IfOk-weaker c.subcommand-6.result _ _ (λ command h. h.shape c.in_ok-serve.ensures.local ∙ ap₂ with_subcommand fifth_is (ap (λ (a : App). a.top) c.in_ok-serve.ensures.app)) c.subcommand-6.ensures
