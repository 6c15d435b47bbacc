use Rattle.std.proofs.Common.{◌∙◌}
use Rattle.nesc_core.specs.View.{structs_of, type_of}
use Rattle.nesc_core.proofs.LayoutLemmas.{names_whole, small_whole, type_whole}
use Rattle.nesc_core.proofs.layouts.Layouts.layout.Goals as goal

pub layout_among-requires-clause-names : goal.layout_among-requires-clause-names
layout_among-requires-clause-names c =
    names_whole (structs_of c.args.self.now.structs.now) (type_of c.args.t.now) c.requires c.as_slice.result.now (c.as_slice.ensures.value ∙ c.args.self.now.whole)

pub layout_among-requires-clause-small : goal.layout_among-requires-clause-small
layout_among-requires-clause-small c =
    small_whole (structs_of c.args.self.now.structs.now) (type_of c.args.t.now) c.requires c.as_slice.result.now (c.as_slice.ensures.value ∙ c.args.self.now.whole)

pub returns : goal.returns
returns c =
    c.layout_among.ensures ∙ type_whole (structs_of c.args.self.now.structs.now) (type_of c.args.t.now) c.requires c.as_slice.result.now (c.as_slice.ensures.value ∙ c.args.self.now.whole)
