use Rattle.std.proofs.Common.{refl, sym, ◌∙◌}
use Rattle.nesc_declarations.proofs.Forms.{no_static}
use Rattle.nesc_declarations.proofs.declaring.static_of.Goals as goal

pub returns-else-begins_type : goal.returns-else-begins_type
returns-else-begins_type c =
    record {
      gives = no_static c.args.spare c.args.names.now c.args.ts.now c.args.first (sym c.begins_type.ensures ∙ c.if-begins_type.false) c.in_default.not-Norace c.in_default.not-Async c.in_default.not-Default c.in_default.not-Inline c.in_default.not-Task c.in_default.not-Item;
      noted = refl;
    }
