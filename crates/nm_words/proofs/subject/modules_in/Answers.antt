use Rattle.std.proofs.Common.{◌≡◌, ◌∙◌, ◌<◌, arith, sym}
use Rattle.std.specs.Prelude.{decimal, slice_index}
use Rattle.nm_words.proofs.Subjects.{begins, read_back, some_modules, too_many, unread}
use Rattle.nm_words.proofs.subject.modules_in.Goals as goal

pub returns-then-first_byte-le48 : goal.returns-then-first_byte-le48
returns-then-first_byte-le48 c h =
    let first : 48 < slice_index c.args.word.now 0 = begins c.args.word.now h in
    omega (arith, first, c.first_byte.ensures, c.if-first_byte-le48.true)

pub returns-in_err-n : goal.returns-in_err-n
returns-in_err-n c =
    rw c.from_residual.ensures (unread _ c.args.word.now c.parse.result c.parse.ensures.value.0 (sym c.ok.ensures.value ∙ c.in_err-n.was))

pub returns-then-n-gt-MAX_MODULES : goal.returns-then-n-gt-MAX_MODULES
returns-then-n-gt-MAX_MODULES c =
    too_many _ c.args.word.now c.parse.result c.in_ok-n.n c.parse.ensures.value.0 (sym c.ok.ensures.value ∙ c.in_ok-n.was) c.if-n-gt-MAX_MODULES.true

pub returns : goal.returns
returns c =
    let first : 48 < slice_index c.args.word.now 0 = omega (arith, c.first_byte.ensures, c.if-first_byte-le48.false) in
    let spelled : c.args.word.now ≡ decimal c.in_ok-n.n =
    read_back _ c.args.word.now c.parse.result c.in_ok-n.n first c.parse.ensures.value.0 (sym c.ok.ensures.value ∙ c.in_ok-n.was) in
    (some_modules c.in_ok-n.n c.args.word.now first spelled, c.if-n-gt-MAX_MODULES.false, spelled)
