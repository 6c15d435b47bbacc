-- What elaboration is given seen as plain data (own).
use Rattle.std.specs.Prelude.{List, map, flat_map}
use Rattle.nesc_core.specs.View.{type_of}
use Rattle.nesc_tree.specs.declared.components.Sig as sig
use Rattle.nesc_tree.specs.View.{spec_of}
use Rattle.elab_meaning.specs.View.{struct_of, unique_of, unique_count_of}
use Rattle.body_meaning.specs.Tree.{Decl}
use Rattle.body_meaning.specs.View.{decl_of, param_of}
use Rattle.program_meaning.specs.Parts as p
use Rattle.program_meaning.specs.Parts.{Application, Argument, Elem, Given, Instance, Sig, Wired}
use Rattle.elab_targets.specs.declared.application.Application as application
use Rattle.elab_targets.specs.declared.application.Argument as argument
use Rattle.elab_targets.specs.declared.application.Argument.TheVariants as A
use Rattle.elab_targets.specs.declared.application.Element as element
use Rattle.elab_targets.specs.declared.application.Given as given
use Rattle.elab_targets.specs.declared.application.Instance as instance
use Rattle.elab_targets.specs.declared.application.Wired as wired

abbrev pub sig_of : sig.Sig → Sig
sig_of x = record {
  name = x.name;
  is_event = x.is_event;
  is_async = x.is_async;
  result = spec_of x.result;
  params = map param_of x.params;
  at = x.pos;
}

abbrev pub wired_of : wired.Wired → Wired
wired_of w = record { value = w.value; ends = w.ends.items }

abbrev pub element_of : element.Element → Elem
element_of x = record {
  provides = x.provides;
  name = x.name.now;
  interface = record { params = x.params.now; items = map sig_of x.items.now };
  args = map spec_of x.args.now;
  parameter = x.parameter;
  named = map wired_of x.named.items;
  others = x.others.items;
  at = x.at;
}

abbrev pub argument_of : argument.Argument → Argument
argument_of (A.Type t is_const) = p.a_type (type_of t) is_const
argument_of (A.Constant x) = p.a_constant x

abbrev pub given_of : given.Given → Given
given_of g = record { name = g.name; argument = argument_of g.argument }

abbrev pub instance_of : instance.Instance → Instance
instance_of i = record {
  component = i.component.now;
  copy = i.copy;
  given = map given_of i.given.items;
  elems = map element_of i.elems.items;
  uniques = map unique_of i.uniques;
  decls = map decl_of i.decls.now;
}

abbrev pub headers_of : application.Application → List Decl
headers_of app = flat_map (λ ds. map decl_of ds.now) app.headers.items

-- the headers' declarations are one list
abbrev pub application_of : application.Application → Application
application_of app = record {
  headers = headers_of app;
  uniques = map unique_of app.uniques;
  counts = map unique_count_of app.counts;
  structs = map struct_of app.structs.items;
  instances = map instance_of app.instances.items;
}
