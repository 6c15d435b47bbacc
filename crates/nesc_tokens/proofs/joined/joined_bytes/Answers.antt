use Rattle.std.proofs.Common.{◌∙◌, false, sym, ap}
use Rattle.nesc_tokens.specs.Joined.{joined_of}
use Rattle.nesc_tokens.proofs.Joining.{none_joined}
use Rattle.nesc_tokens.proofs.joined.joined_bytes.Goals as goal

pub returns-then-not-has_splice : goal.returns-then-not-has_splice
returns-then-not-has_splice c =
    c.new.ensures.items ∙ sym (ap (joined_of false) (c.has_splice.ensures (c.if-not-has_splice.true)) ∙ none_joined 1 1 c.args.text.now)
