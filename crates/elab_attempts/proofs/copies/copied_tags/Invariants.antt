use Rattle.std.proofs.Common.{◌≡◌, map, take}
use Rattle.elab_meaning.specs.View.{tag_of}
use Rattle.elab_attempts.proofs.copies.copied_tags.Given as goal

abbrev pub invariant-loop-tag : goal.invariant-loop-tag
invariant-loop-tag l = map tag_of l.copies.items ≡ map tag_of (take l.tag-index l.tags)
