-- Where places are, as definitions have it.
use Rattle.expr_emitter.specs.declared.kinds.Kind as declared
use Rattle.expr_emitter.specs.declared.kinds.Kind.TheVariants as of
use Rattle.lower_expr.specs.Code.{Kind, InValues, InFrame, InMemory}

abbrev pub kind_seen : declared.Kind → Kind
kind_seen (of.Values regs) = InValues regs
kind_seen of.Frame = InFrame
kind_seen of.Memory = InMemory
