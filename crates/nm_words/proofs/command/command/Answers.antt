use Rattle.std.proofs.Common.{rules, ap₂, ◌≡◌, ◌∙◌}
use Rattle.std.specs.Prelude.{pos}
use Rattle.std.proofs.lemmas.Result.{IfOk-weaker}
use Rattle.clap.specs.Words.{app_of, rule_of, with_rule}
use Rattle.clap.specs.declared.builder.value_parser.ValueParser.TheVariants as vp
use Rattle.nm_words.specs.Command.{app_rule, budget_rule, mode_rule, nescmote, schedule_rule}
use Rattle.nm_words.proofs.Built.{bare, bare_of, required_local, required_word}
use Rattle.nm_words.proofs.command.command.Goals as goal

pub returns : goal.returns
unfolding nescmote
returns c =
    let mode_is : rule_of c.required-mode.result ≡ mode_rule = required_word _ _ _ _ c.new.ensures.rule c.action.ensures c.required-mode.ensures in
    let app_is : rule_of c.required-app.result ≡ app_rule = search rules in
    let schedule_is : rule_of c.action-schedule.result ≡ schedule_rule = search rules in
    let given = c.value_parser-2.ensures.given in
    let made : c.range.result ≡ vp.Signed (pos 0) (pos 1000000) = rw c.value_parser.ensures at c.range.ensures in
    let parser_is : given.0 ≡ vp.Signed (pos 0) (pos 1000000) = given.2 ∙ made in
    let budget_is : rule_of c.default_value-budget.result ≡ budget_rule = search rules in
    let bare_is : app_of c.version.result ≡ bare = bare_of _ _ _ _ c.new-5.ensures.app c.no_binary_name.ensures c.version.ensures in
    let with_mode = c.in_ok-arg.ensures.shape (required_local c.new.result c.action.result c.required-mode.result c.new.ensures.optional.1 c.action.ensures c.required-mode.ensures) ∙ ap₂ with_rule bare_is mode_is in
    let with_app = c.in_ok-arg-2.ensures.shape (search rules) ∙ ap₂ with_rule with_mode app_is in
    let with_schedule = c.in_ok-arg-3.ensures.shape (search rules) ∙ ap₂ with_rule with_app schedule_is in
    IfOk-weaker c.arg-4.result _ _ (λ r h. h.shape (search rules) ∙ ap₂ with_rule with_schedule budget_is) c.arg-4.ensures
