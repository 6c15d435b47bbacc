use Rattle.std.proofs.Common.{◌≡◌, sym, subst, ◌∙◌}
use Rattle.nesc_tree.specs.declared.sorts.Sort.TheVariants as s
use Rattle.nesc_parse_types.specs.Gives.{Gives}
use Rattle.nesc_parse_types.proofs.Bases.{untagged_case, tagged_case}
use Rattle.nesc_parse_types.proofs.reader.Reader.struct_base.Goals as goal

pub returns-in-LBrace : goal.returns-in-LBrace
returns-in-LBrace g c = subst (Gives c.args.self.now.names.now c.untagged_struct.result) (sym (untagged_case c.args.self.now.spare c.args.self.now.names.now c.args.ts.now c.in_ok-keyword.rest.now c.in_ok-keyword.keyword.now c.in_ok-keyword.ensures (sym c.ahead.ensures ∙ c.in-LBrace.is))) c.untagged_struct.ensures

pub returns-in_default : goal.returns-in_default
returns-in_default g c = subst (Gives c.args.self.now.names.now c.tagged_struct.result) (sym (tagged_case c.args.self.now.spare c.args.self.now.names.now c.args.ts.now c.in_ok-keyword.rest.now c.in_ok-keyword.keyword.now c.in_ok-keyword.ensures (λ e. c.in_default.not-LBrace (c.ahead.ensures ∙ e)))) c.tagged_struct.ensures
