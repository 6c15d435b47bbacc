use Rattle.std.proofs.Common.{rules, arith, ◌≡◌, ◌+◌, refl, ap, sym, ◌∙◌, length, ◌<◌, ◌^◌, Vec, Ok, Err, Some, None}
use Rattle.std.proofs.lemmas.Result.{err_from_is_err_and}
use Rattle.nesc_preproc.specs.Lines.{behind_line}
use Rattle.std.specs.declared.alloc.Global.{Global}
use Rattle.nm_base.specs.declared.token.Token.{Token}
use Rattle.nesc_preproc.specs.declared.known.KnownFiles.{KnownFiles}
use Rattle.nesc_preproc.specs.Kept.{BreaksFrom, known_of}
use Rattle.nesc_preproc.specs.Scanned.{put_file, situation}
use Rattle.nesc_preproc.specs.Scan.{outer_items, state_in}
use Rattle.nesc_preproc.specs.declared.scan.Scan.{Scan}
use Rattle.nesc_preproc.proofs.Closing.{depth_is, directive_fault, directive_leads, header_leads, obeyed_at}
use Rattle.nesc_preproc.proofs.Sizes.{fewer_left, header_opened, line_shorter}
use Rattle.nesc_preproc.proofs.scan.Scan.obey_line.Goals as goal

pub returns-in_err-header-clause-leads : goal.returns-in_err-header-clause-leads
returns-in_err-header-clause-leads g c world told lexing allows =
    let p = err_from_is_err_and c.from_residual-in_err-header.result c.from_residual-in_err-header.ensures.1 in
    let old = c.args.self.now in
    let new : Scan = record { context = c.obey.new.context; rest = c.take_line.new.rest; outer = old.outer; out = old.out } in
    let outer : c.len-depth.result ≡ length old.outer.items = search rules in
    rw (p.1, p.2) (directive_fault world c.args.hash old new c.obey.new.context c.in_err-header.field-0.0 c.requires.directive
    (obeyed_at world _ _ c.args.hash.pos _ _ (situation (state_in old)) c.obey.new.context (Err c.in_err-header.field-0.0) (ap (λ n. n + 1) outer ∙ sym (depth_is old)) (c.deref.ensures.value ∙ c.in_ok-line.ensures.line)
    (c.in_err-header.ensures.obeyed world told lexing (rw (p.1, p.2) at allows)))
    refl)

pub returns-clause-leads : goal.returns-clause-leads
returns-clause-leads g c world told lexing breaks =
    let old = c.args.self.now in
    let new : Scan = record { context = c.obey.new.context; rest = c.take_line.new.rest; outer = old.outer; out = old.out } in
    let outer : c.len-depth.result ≡ length old.outer.items = search rules in
    directive_leads world c.args.hash old new c.requires.directive
    (obeyed_at world _ _ c.args.hash.pos _ _ (situation (state_in old)) c.obey.new.context (Ok None) (ap (λ n. n + 1) outer ∙ sym (depth_is old)) (c.deref.ensures.value ∙ c.in_ok-line.ensures.line)
    (rw c.in-None.is at c.in_ok-header.ensures.obeyed world told lexing breaks))
    refl refl c.in_ok-line.ensures.rest refl

pub returns-in-Some-clause-leads : goal.returns-in-Some-clause-leads
returns-in-Some-clause-leads g c world told lexing breaks =
    let old = c.args.self.now in
    let outer : c.len-depth.result ≡ length old.outer.items = search rules in
    let breaks-now : BreaksFrom world.broken (length c.obey.new.context.known.files.texts) = rw (← ap (λ (k : KnownFiles). length k.files.texts) c.in_ok-open-in-Some.ensures.known) breaks in
    header_leads world c.args.hash old c.open.new.self c.obey.new.context c.in-Some.header.items c.requires.directive
    (obeyed_at world _ _ c.args.hash.pos _ _ (situation (state_in old)) c.obey.new.context (Ok (Some c.in-Some.header)) (ap (λ n. n + 1) outer ∙ sym (depth_is old)) (c.deref.ensures.value ∙ c.in_ok-line.ensures.line)
    (rw c.in-Some.is at c.in_ok-header.ensures.obeyed world told lexing breaks-now))
    (ap known_of c.in_ok-open-in-Some.ensures.known) c.in_ok-open-in-Some.ensures.macros c.in_ok-open-in-Some.ensures.conditionals c.in_ok-open-in-Some.ensures.files
    (c.in_ok-open-in-Some.ensures.outer ∙ ap (λ ts. put_file ts (outer_items old.outer.items)) c.in_ok-line.ensures.rest) c.in_ok-open-in-Some.ensures.rest (ap (λ (v : Vec Token Global). v.items) c.in_ok-open-in-Some.ensures.out)

pub returns-in-Some-clause-size : goal.returns-in-Some-clause-size
returns-in-Some-clause-size g c =
    let old = c.args.self.now in
    let outer : c.len-depth.result ≡ length old.outer.items = search rules in
    let few : c.len-depth.result + 1 < 200 = rw c.in-Some.is at c.in_ok-header.ensures.depth in
    let small : length c.in-Some.header.items + 1 < 2 ^ 64 = search rules in
    rw (c.in_ok-open-in-Some.ensures.depth, c.in_ok-open-in-Some.ensures.rest, c.in_ok-open-in-Some.ensures.size, c.in_ok-line.ensures.rest)
    (header_opened (length old.outer.items) (length c.in-Some.header.items) (length (behind_line old.rest.items)) (length old.rest.items + 1) _ (omega (arith, few, outer)) small (omega (arith, line_shorter old.rest.items)))

pub returns-clause-size : goal.returns-clause-size
returns-clause-size g c = rw c.in_ok-line.ensures.rest (fewer_left _ _ _ _ (omega (arith, line_shorter c.args.self.now.rest.items)))
