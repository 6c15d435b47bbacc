use Rattle.std.proofs.Common.{◌∙◌, ◌++◌, ◌∷◌, [], List, ap, sym, append_assoc}
use Rattle.std.proofs.lemmas.List.{map-append}
use Rattle.nm_base.specs.declared.token.Token.{Token}
use Rattle.nesc_macros.specs.declared.definition.NumberedToken.{NumberedToken}
use Rattle.nesc_macros.specs.Invocation.{PreprocessingToken}
use Rattle.nesc_macros.specs.Expansion.{unhidden}
use Rattle.nesc_macros.specs.Groups.{parts}
use Rattle.nesc_macros.specs.Numbers.{all_shown, named}
use Rattle.nesc_macros.proofs.waiting.all_waiting.Goals as goal

pub loop-token-preserved : goal.loop-token-preserved
loop-token-preserved c = record {
  tokens = λ scope.
      let left = c.pop.new.self.items in
      let behind = all_shown scope (parts c.loop-token.all.items) in
      ap (λ (l : List NumberedToken). unhidden left ++ all_shown scope l) c.in_ok-put_before.ensures.put
      ∙ (λ i. unhidden left ++ record { token = c.in-Some.token; hide_set = named scope (c.empty-nothing.ensures scope.links i) } ∷ behind)
      ∙ sym (append_assoc (unhidden left) (unhidden (c.in-Some.token ∷ [])) behind)
      ∙ ap (λ (l : List PreprocessingToken). l ++ behind) (sym (map-append (λ (t : Token). record { token = t; hide_set = [] }) left (c.in-Some.token ∷ [])) ∙ ap unhidden (sym c.in-Some.ensures.items))
      ∙ c.loop-token.invariant.tokens scope;
  grouped = c.put_before.ensures.grouped;
  closing = c.in_ok-put_before.ensures.closing;
}
