use Rattle.std.proofs.Common.{◌≡◌, sym, subst, ◌∙◌}
use Rattle.nesc_tree.specs.declared.sorts.Sort.TheVariants as s
use Rattle.nesc_parse_types.specs.Gives.{Gives}
use Rattle.nesc_parse_types.proofs.Bases.{untagged_enum_case, tagged_enum_case}
use Rattle.nesc_parse_types.proofs.reader.Reader.enum_base.Goals as goal

pub returns-in-LBrace : goal.returns-in-LBrace
returns-in-LBrace g c = subst (Gives c.args.self.now.names.now c.untagged_enum.result) (sym (untagged_enum_case c.args.self.now.spare c.args.self.now.names.now c.args.ts.now c.in_ok-keyword.rest.now c.in_ok-keyword.keyword.now c.in_ok-keyword.ensures (sym c.ahead.ensures ∙ c.in-LBrace.is))) c.untagged_enum.ensures

pub returns-in_default : goal.returns-in_default
returns-in_default g c = subst (Gives c.args.self.now.names.now c.tagged_enum.result) (sym (tagged_enum_case c.args.self.now.spare c.args.self.now.names.now c.args.ts.now c.in_ok-keyword.rest.now c.in_ok-keyword.keyword.now c.in_ok-keyword.ensures (λ e. c.in_default.not-LBrace (c.ahead.ensures ∙ e)))) c.tagged_enum.ensures
