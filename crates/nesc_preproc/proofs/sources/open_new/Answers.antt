use Rattle.std.proofs.Common.{rules, ◌≡◌, ◌+◌, ap, ◌∙◌, length, false, Ok}
use Rattle.nesc_preproc.specs.Sources.{is_number, weight, fetched}
use Rattle.nesc_preproc.specs.Kept.{known_of}
use Rattle.nesc_preproc.proofs.Opening.{does_not_break, new_file}
use Rattle.nesc_preproc.proofs.sources.open_new.Goals as goal

-- src/sources.rt:81:1
pub returns-clause-opened : goal.returns-clause-opened
returns-clause-opened g c world told lexing breaks =
    let calm : is_number world.broken (length c.args.known.now.files.texts) ≡ false = does_not_break _ _ _ c.scan_file.ensures.read breaks in
    let found : fetched world (length c.args.known.now.files.texts) c.args.name.now ≡ Ok c.in_ok-text.text.items = c.in_ok-text.ensures.text world (length c.args.known.now.files.texts) told calm in
    let size : c.len.result ≡ length c.in_ok-text.text.items = search rules in
    let number : c.len-number.result ≡ length c.args.known.now.files.texts = search rules in
    rw (found, new_file world c.args.built_in c.args.name.now c.in_ok-text.text.items c.in_ok-bytes.bytes (known_of c.args.known.now) (known_of c.add.new.self) (rw c.deref.ensures.value at c.in_ok-check_size.ensures.ok) (c.in_ok-bytes.ensures.ok.0 ∙ ap (λ n. c.args.known.now.bytes + n) (c.weight.ensures ∙ ap (weight c.args.built_in) size)) c.in_ok-bytes.ensures.ok.1 c.in_ok-add.ensures) (rw number at c.scan_file.ensures.opened world lexing)
