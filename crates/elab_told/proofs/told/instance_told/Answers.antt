use Rattle.std.proofs.Common.{◌≡◌, ℕ, List, Result, IfOk, Some, refl, sym, ap, subst, ◌∙◌}
use Rattle.nm_base.specs.declared.no_memory.NoMemory.{NoMemory}
use Rattle.program_meaning.specs.Items.{instance_text}
use Rattle.elab_forms.specs.declared.forms.Told as rust_told
use Rattle.elab_meaning.specs.View.{env_of}
use Rattle.elab_targets.specs.View.{application_of, instance_of}
use Rattle.elab_told.proofs.told.instance_told.Goals as goal

pub returns : goal.returns
returns c = λ are has h there at.
    let app = application_of c.args.app.now in
    let i = instance_of c.args.instance.now in
    let kept = c.in_ok-told-2.ensures.kept in
    let named : c.in_ok-told-2.name ≡ instance_text i = subst (λ (r : Result (List ℕ) NoMemory). IfOk r (λ n. n ≡ instance_text i)) kept.1 c.instance_text.ensures in
    record {
      env = sym (ap (λ (t : rust_told.Told). env_of t.env) kept.0 ∙ c.in_ok-told.ensures.env are h);
      values = sym (ap (λ (t : rust_told.Told). t.values) kept.0 ∙ c.in_ok-told.ensures.values h);
      facts = refl;
      places = c.in_ok-places.ensures app i are at;
      used = has;
      first_body = sym (c.first_body.ensures app are);
      first_task = sym (c.first_task.ensures app are);
      instance = ap Some (sym named);
      is_main = sym c.is_main.ensures;
      headers = there;
      header_places = c.headers.ensures app are;
    }
