use Rattle.std.proofs.Common.{◌∙◌, ap, refl, None, Err}
use Rattle.nesc_preproc.specs.Kept.{known_of}
use Rattle.nesc_preproc.specs.Scan.{ended}
use Rattle.nesc_preproc.proofs.Whole.{Lexable, fault_keeps, from_start, is_lexing, lexing, open_refused, run_refused, scan_settles, tokens_keep, world_of}
use Rattle.nesc_preproc.proofs.expansion.expand_known.Goals as goal

pub returns-in-Err-clause-expanded : goal.returns-in-Err-clause-expanded
returns-in-Err-clause-expanded g c told h =
    let some : Lexable = c.one_lexing.ensures.some in
    fault_keeps told some (known_of c.args.known) c.args.name.now c.in-Err.fault c.open_file.new.known
    (open_refused told some (known_of c.args.known) c.args.name.now c.in-Err.fault c.open_file.new.known (λ broken allows. c.in-Err.ensures.opened (world_of told broken (lexing some)) h (is_lexing some) allows))

pub returns-in-Ok-result-clause-expanded : goal.returns-in-Ok-result-clause-expanded
returns-in-Ok-result-clause-expanded g c told h =
    let some : Lexable = c.one_lexing.ensures.some in
    let world = world_of told None (lexing some) in
    let scan = c.new-scan in
    tokens_keep told some (known_of c.args.known) c.args.name.now c.run-result.new.self.out.items c.run-result.new.self.context.known
    (scan_settles world (known_of c.args.known) c.args.name.now (known_of c.open_file.new.known) c.in-Ok.tokens.items (ended c.run-result.new.self)
    (c.in-Ok.ensures.opened world h (is_lexing some) (λ j k. refl))
    (from_start world scan.result c.open_file.new.known c.in-Ok.tokens.items _ scan.ensures.known scan.ensures.macros scan.ensures.conditionals scan.ensures.rest scan.ensures.outer scan.ensures.out
    (c.in-Ok-result.ensures.leads world (c.in-Ok.ensures.outside.same ∙ h) (is_lexing some) (λ j k. refl))))

pub returns-clause-expanded : goal.returns-clause-expanded
returns-clause-expanded g c told h =
    let some : Lexable = c.one_lexing.ensures.some in
    let scan = c.new-scan in
    fault_keeps told some (known_of c.args.known) c.args.name.now c.in-Err-result.fault c.run-result.new.self.context.known
    (run_refused told some (known_of c.args.known) c.args.name.now c.in-Err-result.fault c.open_file.new.known c.in-Ok.tokens scan.result c.run-result.new.self
    (λ broken breaks. c.in-Ok.ensures.opened (world_of told broken (lexing some)) h (is_lexing some) breaks)
    (λ world r ends. from_start world scan.result c.open_file.new.known c.in-Ok.tokens.items r scan.ensures.known scan.ensures.macros scan.ensures.conditionals scan.ensures.rest scan.ensures.outer scan.ensures.out ends)
    (λ e. rw (← scan.ensures.known) (c.in-Err-result.ensures.unread (ap Err e)))
    (λ broken allows. c.in-Err-result.ensures.leads (world_of told broken (lexing some)) (c.in-Ok.ensures.outside.same ∙ h) (is_lexing some) allows))
