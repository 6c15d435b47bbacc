use Rattle.std.proofs.Common.{◌∙◌, sym}
use Rattle.nesc_macros.specs.Numbers.{scope_of}
use Rattle.nesc_macros.proofs.Naming.{hidden_in_it, no_macro, no_word, used_there}
use Rattle.nesc_macros.proofs.invocation.candidate.Goals as goal

pub returns-then-not-is_word : goal.returns-then-not-is_word
returns-then-not-is_word c links extends ts = no_word (scope_of c.args.table.now links) c.args.token.now ts (sym c.is_word.ensures ∙ c.if-not-is_word.true)

pub returns-in_default : goal.returns-in_default
returns-in_default c links extends ts = no_macro (scope_of c.args.table.now links) c.args.token.now ts (rw c.in_default.is at c.find.ensures)

pub returns-then-branch : goal.returns-then-branch
returns-then-branch c links extends ts =
    let h = rw c.in-Some.is at c.find.ensures in
    hidden_in_it (scope_of c.args.table.now links) c.args.token.now c.in-Some.found.definition.now c.in-Some.found.number ts h.1 h.2 (sym (c.in_ok-contains.ensures links extends) ∙ c.if-branch.true)

pub returns : goal.returns
returns c links extends =
    let h = rw c.in-Some.is at c.find.ensures in (
      h.1,
      λ ts. used_there (scope_of c.args.table.now links) c.args.token.now c.in-Some.found.definition.now c.in-Some.found.number ts (sym c.is_word.ensures ∙ c.if-not-is_word.false) h.0 h.1 h.2 (sym (c.in_ok-contains.ensures links extends) ∙ c.if-branch.false),
    )
