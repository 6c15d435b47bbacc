use Rattle.std.proofs.Common.{rules, ◌≡◌, [], refl, sym, ◌∙◌, None}
use Rattle.nesc_preproc.specs.Conditionals.{outermost}
use Rattle.nesc_preproc.specs.declared.scan.Scan.{Scan}
use Rattle.nesc_preproc.proofs.Closing.{close_refused, close_last, close_goes}
use Rattle.nesc_preproc.proofs.Sizes.{closed_file}
use Rattle.nesc_preproc.proofs.scan.Scan.close.Goals as goal

pub returns-in-Some-clause-leads : goal.returns-in-Some-clause-leads
returns-in-Some-clause-leads c world = rw c.malformed.ensures (close_refused world c.args.self.now c.in-Some.unclosed c.requires.empty (sym c.outermost.ensures ∙ c.in-Some.is))

pub returns-in_default-pop_front-clause-leads : goal.returns-in_default-pop_front-clause-leads
returns-in_default-pop_front-clause-leads c world =
    let closed : outermost c.args.self.now.context.conditionals.items ≡ None = search rules in
    let alone : c.args.self.now.outer.items ≡ [] = search rules in
    close_last world c.args.self.now c.requires.empty alone closed

pub returns-clause-leads : goal.returns-clause-leads
returns-clause-leads c world =
    let closed : outermost c.args.self.now.context.conditionals.items ≡ None = search rules in
    let new : Scan = record {
      context = record { known = c.args.self.now.context.known; macros = c.args.self.now.context.macros; conditionals = c.in-Some-pop_front.file.conditionals };
      rest = c.in-Some-pop_front.file.rest;
      outer = c.pop_front.new.self;
      out = c.args.self.now.out;
    } in
    close_goes world c.args.self.now new c.in-Some-pop_front.file c.requires.empty c.in-Some-pop_front.ensures.items closed refl refl refl refl refl

pub returns-clause-size : goal.returns-clause-size
returns-clause-size c = rw (c.requires.empty, c.in-Some-pop_front.ensures.items) (closed_file _ 0 _)
