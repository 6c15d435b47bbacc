use Rattle.std.proofs.Common.{refl, sym, subst, ◌∙◌}
use Rattle.nesc_heads.specs.Gives.{GivesAs}
use Rattle.nesc_declarations.specs.Views.{declaring_of}
use Rattle.nesc_declarations.proofs.Forms.{norace_case, typed_case, no_case}
use Rattle.nesc_declarations.proofs.declaring.declaring.Goals as goal

pub returns-else-has_variables-clause-gives : goal.returns-else-has_variables-clause-gives
returns-else-has_variables-clause-gives c = norace_case c.args.spare c.args.names.now c.args.ts.now c.args.site c.args.first c.in-Norace.is (sym c.has_variables.ensures ∙ c.if-has_variables.false)

pub returns-then-begins_type : goal.returns-then-begins_type
returns-then-begins_type c =
    record {
      gives = subst (GivesAs declaring_of c.typed.new.names c.typed.result) (sym (typed_case c.args.spare c.args.site c.args.names.now c.args.ts.now c.args.first (sym c.begins_type.ensures ∙ c.if-begins_type.true))) c.typed.ensures.gives;
      noted = c.typed.ensures.noted;
    }

pub returns-else-begins_type : goal.returns-else-begins_type
returns-else-begins_type c =
    record {
      gives = no_case c.args.spare c.args.site c.args.names.now c.args.ts.now c.args.first (sym c.begins_type.ensures ∙ c.if-begins_type.false) c.in_default.not-Norace c.in_default.not-Static c.in_default.not-Async c.in_default.not-Default c.in_default.not-Inline c.in_default.not-Task c.in_default.not-Item;
      noted = refl;
    }
