-- Heads, parameters, items of interfaces and attributes seen as plain data (own).
use Rattle.std.specs.Prelude.{map}
use Rattle.nesc_core.specs.View.{type_of}
use Rattle.nesc_tree.specs.View.{spec_of}
use Rattle.nesc_tree.specs.declared.components.Sig as sig
use Rattle.elab_meaning.specs.View.{entry_of, tag_of}
use Rattle.elab_facts.specs.View.{form_of}
use Rattle.body_meaning.specs.View.{param_of}
use Rattle.program_meaning.specs.Heads.{Heading, Passed}
use Rattle.program_meaning.specs.Parts.{Sig}
use Rattle.elab_heads.specs.declared.headings.Parameters as parameters
use Rattle.elab_heads.specs.declared.shapes.Heading as heading
use Rattle.elab_heads.specs.declared.shapes.Passed as passed
use Rattle.elab_heads.specs.Parts.{Parameters}

abbrev pub heading_of : heading.Heading → Heading
heading_of g = record { form = form_of g.form; names = map entry_of g.names.items; tags = map tag_of g.tags.items }

abbrev pub parameters_of : parameters.Parameters → Parameters
parameters_of p = record { bracket = p.bracket; types = map type_of p.types.items; names = map entry_of p.names.items; tags = map tag_of p.tags.items }

abbrev pub passed_of : passed.Passed → Passed
passed_of p = record { ty = type_of p.ty; is_const = p.is_const }

abbrev pub sig_of : sig.Sig → Sig
sig_of x = record {
  name = x.name;
  is_event = x.is_event;
  is_async = x.is_async;
  result = spec_of x.result;
  params = map param_of x.params;
  at = x.pos;
}
