use Rattle.std.proofs.Common.{List, ◌∙◌, sym, ap}
use Rattle.nesc_tree.specs.declared.tree.Expr.{Expr}
use Rattle.nesc_tree.specs.View.{base_of, exprs_of}
use Rattle.nesc_types.specs.Constant.{plain_type, cast_type}
use Rattle.nesc_types.proofs.Casts.{spec_is}
use Rattle.nesc_types.proofs.operators.cast_type.Goals as goal

pub returns : goal.returns
returns c =
    c.plain_type.ensures ∙ ap (λ (dims : List Expr). plain_type c.args.at (base_of c.args.t.now.base) c.args.t.now.stars (exprs_of dims)) c.as_slice.ensures
    ∙ sym (ap (cast_type c.args.at) (spec_is c.args.t.now))
