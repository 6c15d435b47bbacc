-- Scopes seen as plain data (own).
use Rattle.std.specs.Prelude.{map}
use Rattle.elab_meaning.specs.View.{entry_of, tag_of}
use Rattle.wire_facts.specs.Scopes as plain
use Rattle.wire_scopes.specs.declared.scopes.Base as base
use Rattle.wire_scopes.specs.declared.scopes.Scope as scope
use Rattle.wire_scopes.specs.declared.scopes.Own as own

abbrev pub base_view : base.Base → plain.Base
base_view b = record { names = b.names; tags = b.tags }

abbrev pub scope_of : scope.Scope → plain.Scope
scope_of s = record { names = map entry_of s.names.items; tags = map tag_of s.tags.items }

abbrev pub own_of : own.Own → plain.Own
own_of x = record { scope = scope_of x.scope; first_name = x.first_name; first_tag = x.first_tag }
