use Rattle.std.proofs.Common.{◌≡◌, length, map}
use Rattle.elab_meaning.specs.Scope.{lookup_tag}
use Rattle.elab_meaning.specs.View.{tag_of}
use Rattle.elab_types.proofs.scope.look_up_tag.Given as goal

abbrev pub invariant-tags : goal.invariant-tags
invariant-tags l = lookup_tag (map tag_of l.older) l.fn.name ≡ lookup_tag (map tag_of l.fn.tags) l.fn.name

abbrev pub decreases-tags : goal.decreases-tags
decreases-tags l = length l.older
