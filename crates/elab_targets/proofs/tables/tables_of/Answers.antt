use Rattle.std.proofs.Common.{◌≡◌, ℕ, Vec, Result, IfOk, sym, ap, subst, ◌∙◌}
use Rattle.std.specs.declared.alloc.Global.{Global}
use Rattle.nm_base.specs.declared.no_memory.NoMemory.{NoMemory}
use Rattle.elab_targets.specs.Places.{ArePlaces}
use Rattle.elab_targets.specs.Starts.{AllPlaces, bodies_of, starts, tasks_of}
use Rattle.elab_targets.specs.View.{application_of}
use Rattle.elab_targets.specs.declared.places.Places.{Places}
use Rattle.elab_targets.proofs.Beginning.{tables_made}
use Rattle.elab_targets.proofs.tables.tables_of.Goals as goal

pub returns : goal.returns
returns c =
    let app = application_of c.args.app.now in
    let kept = c.in_ok-headers-2.ensures.kept in
    let same_headers : c.in_ok-headers-2.headers ≡ c.in_ok-headers.headers = ap (λ p. p.0) kept.0 in
    let same_instances : c.in_ok-headers-2.instances ≡ c.in_ok-headers.instances = ap (λ p. p.1) kept.0 in
    let same_items : c.as_slice.result.now ≡ c.in_ok-headers-2.instances.items = c.as_slice.ensures.value ∙ ap (λ (v : Vec Places Global). v.items) (sym same_instances) in
    let bodies = subst (λ (r : Result (Vec ℕ Global × Vec ℕ Global) NoMemory). IfOk r (λ p. p.0.items ≡ starts bodies_of (bodies_of c.in_ok-headers.headers) c.as_slice.result.now)) kept.1 c.both_starts-found.ensures.bodies in
    let tasks = subst (λ (r : Result (Vec ℕ Global × Vec ℕ Global) NoMemory). IfOk r (λ p. p.1.items ≡ starts tasks_of 0 c.as_slice.result.now)) kept.1 c.both_starts-found.ensures.tasks in
    tables_made app _
    (subst (ArePlaces app.headers) (sym same_headers) c.in_ok-headers.ensures.headers)
    (subst (λ (v : Vec Places Global). AllPlaces app.instances v.items) (sym same_instances) c.in_ok-headers.ensures.instances)
    (bodies ∙ ap (λ (h : Places). starts bodies_of (bodies_of h) c.as_slice.result.now) (sym same_headers) ∙ ap (starts bodies_of (bodies_of c.in_ok-headers-2.headers)) same_items)
    (tasks ∙ ap (starts tasks_of 0) same_items)
