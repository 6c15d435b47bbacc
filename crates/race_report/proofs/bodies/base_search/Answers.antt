use Rattle.std.proofs.Common.{◌≡◌, ◌∙◌, IfOk, List, ℕ, length, ap, sym, subst}
use Rattle.std.proofs.Math.ListN as list
use Rattle.nesc_core.specs.View.{body_of, program_of}
use Rattle.call_graph.specs.Graph.{row_at}
use Rattle.call_graph.specs.Paths.{bare_callees, base_roots}
use Rattle.least_paths.specs.Searched.{IsSearch}
use Rattle.race_report.proofs.bodies.base_search.Goals as goal

pub returns : goal.returns
returns c =
    let p = program_of c.args.p.now in
    let size : length c.deref.result.now ≡ length p.bodies = ap length c.deref.ensures.value ∙ c.in_ok-table.ensures.size ∙ sym (list.length-map c.args.p.now.bodies body_of) in
    let steps : row_at c.deref.result.now ≡ bare_callees p = ap row_at c.deref.ensures.value ∙ c.in_ok-table.ensures.rows in
    let roots : c.deref-2.result.now ≡ base_roots p = c.deref-2.ensures.value ∙ c.in_ok-roots.ensures in
    subst (λ (n : ℕ). IfOk c.search.result (λ s. IsSearch (base_roots p) (bare_callees p) n s)) size
    (subst (λ (f : ℕ → List ℕ). IfOk c.search.result (λ s. IsSearch (base_roots p) f (length c.deref.result.now) s)) steps
    (subst (λ (q : List ℕ). IfOk c.search.result (λ s. IsSearch q (row_at c.deref.result.now) (length c.deref.result.now) s)) roots c.search.ensures))
