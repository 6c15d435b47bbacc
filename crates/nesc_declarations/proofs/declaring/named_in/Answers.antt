use Rattle.std.proofs.Common.{sym, subst, ap, ◌∙◌}
use Rattle.nesc_grammar.specs.Declarations as spec
use Rattle.nesc_parse_types.specs.Gives.{form_in}
use Rattle.nesc_heads.specs.Gives.{GivesAs}
use Rattle.nesc_declarations.specs.declared.ends.Behind.TheVariants as b
use Rattle.nesc_declarations.specs.Forms as forms
use Rattle.nesc_declarations.specs.Views.{declaring_of}
use Rattle.nesc_declarations.proofs.Forms.{named_in_is}
use Rattle.nesc_declarations.proofs.declaring.named_in.Goals as goal

pub returns-clause-gives : goal.returns-clause-gives
returns-clause-gives c =
    subst (GivesAs declaring_of c.named.new.names c.named.result)
    (ap (λ (w : spec.Words). form_in c.args.spare (forms.named w c.args.shared (b.Either c.args.site)) c.args.names.now c.args.ts.now) c.no_words.ensures ∙ sym (named_in_is c.args.spare c.args.site c.args.shared c.args.names.now c.args.ts.now)) c.named.ensures.gives
