use Rattle.std.proofs.Common.{true, false, refl, sym, subst, ◌∙◌}
use Rattle.nesc_tree.specs.Sorts.{ahead}
use Rattle.nesc_tree.specs.Phrase.{begins_type}
use Rattle.nesc_parse_types.specs.Gives.{Gives}
use Rattle.nesc_parse_types.proofs.Many.{tested}
use Rattle.nesc_declarators.proofs.Forms.{typedef_case, type_case, no_case}
use Rattle.nesc_declarators.proofs.locals.local_of.Goals as goal

pub returns-in-Typedef-clause-gives : goal.returns-in-Typedef-clause-gives
returns-in-Typedef-clause-gives c = subst (Gives c.local_typedef.new.names c.local_typedef.result) (sym (typedef_case c.args.spare c.args.names.now c.args.ts.now (sym c.ahead-first.ensures ∙ c.in-Typedef.is))) c.local_typedef.ensures.gives

pub returns-then-begins_type : goal.returns-then-begins_type
returns-then-begins_type c =
    let h = tested begins_type c.ahead-first.result (ahead c.args.names.now c.args.ts.now) true c.begins_type.result c.ahead-first.ensures c.begins_type.ensures c.if-begins_type.true in
    record {
      gives = subst (Gives c.local_variables.new.names c.local_variables.result) (sym (type_case c.args.spare c.args.names.now c.args.ts.now (λ e. c.in_default.not-Typedef (c.ahead-first.ensures ∙ e)) h)) c.local_variables.ensures.gives;
      noted = c.local_variables.ensures.noted;
    }

pub returns-else-begins_type : goal.returns-else-begins_type
returns-else-begins_type c =
    let h = tested begins_type c.ahead-first.result (ahead c.args.names.now c.args.ts.now) false c.begins_type.result c.ahead-first.ensures c.begins_type.ensures c.if-begins_type.false in
    record { gives = no_case c.args.spare c.args.names.now c.args.ts.now (λ e. c.in_default.not-Typedef (c.ahead-first.ensures ∙ e)) h; noted = refl }
