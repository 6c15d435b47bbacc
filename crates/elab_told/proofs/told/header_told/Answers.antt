use Rattle.std.proofs.Common.{refl, sym, ◌∙◌}
use Rattle.elab_targets.specs.View.{application_of}
use Rattle.elab_told.proofs.told.header_told.Goals as goal

pub returns : goal.returns
returns c = λ are has. record {
  env = sym (c.in_ok-env.ensures are);
  values = sym (c.new-2.ensures ∙ c.new.ensures.items);
  facts = refl;
  places = c.headers.ensures (application_of c.args.app.now) are;
  used = has;
  first_body = refl;
  first_task = refl;
  instance = refl;
  is_main = refl;
  headers = refl;
  header_places = c.headers-2.ensures (application_of c.args.app.now) are;
}
