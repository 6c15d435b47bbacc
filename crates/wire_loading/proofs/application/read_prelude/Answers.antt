use Rattle.std.proofs.Common.{rules, ◌≡◌, ◌∷◌, [], Ok, Err, List, subst}
use Rattle.nm_base.specs.declared.token.Token.{Token}
use Rattle.wire_loading.specs.Opened.{declared, prelude}
use Rattle.wire_loading.proofs.Opening.{begins, fails_to_declare, fails_to_begin}
use Rattle.wire_loading.proofs.application.read_prelude.Goals as goal

pub returns-in_err-text-clause-refused : goal.returns-in_err-text-clause-refused
returns-in_err-text-clause-refused g c = λ told tells fault h refusal.
    let e : c.text_of.result ≡ Err fault = search rules in
    let at : c.in_ok-prelude.prelude ≡ prelude = search rules in
    fails_to_begin g.P.UnitParser.Declares told _ _ _ fault (c.text_of.ensures.refused told tells fault e refusal) c.requires.unread at

pub returns-in_err-decls-clause-refused : goal.returns-in_err-decls-clause-refused
returns-in_err-decls-clause-refused g c = λ told tells fault h refusal.
    let e : c.parse_declarations.result ≡ Err fault = search rules in
    let at : c.in_ok-prelude.prelude ≡ prelude = search rules in
    let same : c.as_slice-tokens.result.now ≡ c.in_ok-text.text.tokens.items = search rules in
    let declares = subst (λ (ts : List Token). g.P.UnitParser.Declares c.in_ok-text.text.file ts c.args.loader.now.names c.parse_declarations.new.names c.parse_declarations.result) same c.parse_declarations.ensures.parsed in
    fails_to_declare g.P.UnitParser.Declares told _ _ _ c.in_ok-text.text.tokens.items _ _ _ _ fault
    (c.in_ok-text.ensures.expanded told tells) declares c.requires.unread at c.requires.unnamed c.in_ok-text.ensures.file e

pub returns-clause-begun : goal.returns-clause-begun
returns-clause-begun g c = λ told tells.
    let at : c.in_ok-prelude.prelude ≡ prelude = search rules in
    let units : c.push.new.self.items ≡ declared c.in_ok-decls.decls ∷ [] = search rules in
    let same : c.as_slice-tokens.result.now ≡ c.in_ok-text.text.tokens.items = search rules in
    let declares = subst (λ (ts : List Token). g.P.UnitParser.Declares c.in_ok-text.text.file ts c.args.loader.now.names c.parse_declarations.new.names (Ok c.in_ok-decls.decls)) same c.in_ok-decls.ensures.parsed in
    begins g.P.UnitParser.Declares told _ _ _ c.in_ok-text.text.tokens.items _ _ _ _ _
    (c.in_ok-text.ensures.expanded told tells) declares c.requires.unread at c.requires.unnamed c.in_ok-text.ensures.file units
