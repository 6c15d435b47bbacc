use Rattle.std.proofs.Common.{◌≡◌, map, drop}
use Rattle.elab_meaning.specs.Scope.{declares_tag}
use Rattle.elab_meaning.specs.View.{tag_of}
use Rattle.elab_types.proofs.scope.declares_tag.Given as goal

abbrev pub invariant-loop-tag : goal.invariant-loop-tag
invariant-loop-tag l = declares_tag (map tag_of (drop l.tag-index l.tags)) l.name ≡ declares_tag (map tag_of l.tags) l.name
