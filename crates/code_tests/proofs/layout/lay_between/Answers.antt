-- So many returns between two items call nothing.
use Rattle.std.proofs.Common.{◌≡◌, ℕ, List, [], ◌∷◌, ◌++◌, replicate, arith, refl, ◌∙◌}
use Rattle.msp_isa.specs.declared.code.Item.{Item}
use Rattle.msp_layout.specs.Rows.{ret}
use Rattle.msp_layout.proofs.Onward.{alone_is_onward}
use Rattle.msp_layout.proofs.Between.{between, between_is_link}
use Rattle.code_tests.proofs.layout.lay_between.Goals as goal

joined : (first last : Item) (n : ℕ) (none one middle more all : List Item) → none ≡ [] → one ≡ none ++ first ∷ [] → middle ≡ replicate n ret → more ≡ one ++ middle → all ≡ more ++ last ∷ [] → all ≡ between first n last
joined first last n none one middle more all z o m d a = rw (a, d, o, z, m) refl

pub lay-requires-clause-onward : goal.lay-requires-clause-onward
lay-requires-clause-onward c =
    let middle = c.as_slice.ensures.value ∙ c.in_ok-many_returns.ensures in
    let items = joined c.args.first c.args.last c.args.returns c.new-items.result.items c.push.new.self.items c.as_slice.result.now c.extend_from_slice.new.self.items c.push-2.new.self.items c.new-items.ensures.items c.in_ok-push.ensures.items middle c.in_ok-extend_from_slice.ensures.items c.in_ok-push-2.ensures.items in
    alone_is_onward _ (between_is_link c.args.first c.args.last c.args.returns _ c.requires (omega arith) (c.new.ensures ∙ items) (c.new-3.ensures ∙ c.new-2.ensures.items))
