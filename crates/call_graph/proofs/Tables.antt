-- The table of callees, one body after the other.
use Rattle.std.proofs.Common.{◌≡◌, ℕ, zero, suc, ◌+◌, ◌<◌, ◌≤◌, ◌^◌, ◌++◌, Bool, true, false, List, [], ◌∷◌, drop, take, take_all, arith, length, get_or, map, Option, Some, None, refl, sym, subst, ap, ◌∙◌}
use Rattle.std.specs.Prelude.{slice_get, option_map}
use Rattle.std.specs.List.{flat_map}
use Rattle.std.proofs.Math.Path.{fun_ext}
use Rattle.std.proofs.Math.ListN.{drop_of_length-le}
use Rattle.std.proofs.lemmas.Option.{slice_get-map, slice_get_read}
use Rattle.nesc_core.specs.declared.tree.Body as tree
use Rattle.nesc_core.specs.declared.tree.Program as tree_program
use Rattle.nesc_core.specs.Nodes.{stmt_nodes_of}
use Rattle.nesc_core.specs.View.{stmt_of, body_of, program_of}
use Rattle.call_graph.specs.declared.uses.Use as listed
use Rattle.call_graph.specs.Uses.{stmt_uses, uses_of}
use Rattle.call_graph.specs.View.{use_of}
use Rattle.call_graph.specs.Graph.{IsCounted, called, callees_by, row_at}
use Rattle.call_graph.proofs.ViewLists.{next_of}

pub called_next : (is_bare : Bool) (xs : List listed.Use) (k : ℕ) (x : listed.Use) → k < length xs → x ≡ get_or xs k x
    → flat_map (called is_bare) (map use_of (drop k xs)) ≡ called is_bare (use_of x) ++ flat_map (called is_bare) (map use_of (drop (k + 1) xs))
called_next is_bare xs k x below is = ap (λ ys. flat_map (called is_bare) (map use_of ys)) (next_of xs k x below is)

pub ruleset steps = (called_next, drop_of_length-le)

-- the bodies that a body calls
abbrev pub row_of : (is_bare : Bool) → tree.Body → List ℕ
row_of is_bare b = flat_map (called is_bare) (stmt_uses 0 false (stmt_of b.code))

pub counted_body : (p : tree_program.Program) (bodies : List tree.Body) (k : ℕ) (b : tree.Body) → IsCounted (program_of p) → bodies ≡ p.bodies → k < length bodies → b ≡ get_or bodies k b
    → stmt_nodes_of (stmt_of b.code) < 2 ^ 32
counted_body p bodies k b counted same below is =
    counted.nodes k (body_of b) (slice_get-map body_of p.bodies k ∙ ap (λ o. option_map body_of o) (subst (λ bs. slice_get bs k ≡ Some b) same (slice_get_read bodies (length bodies) k b refl below is)))

rows_are : (is_bare : Bool) (bs : List tree.Body) (f : ℕ) → row_at (map (row_of is_bare) bs) f ≡ flat_map (called is_bare) (uses_of (slice_get (map body_of bs) f))
rows_are is_bare [] f = refl
rows_are is_bare (b ∷ bs) zero = refl
rows_are is_bare (b ∷ bs) (suc f) = rows_are is_bare bs f

by_kind : (is_bare : Bool) (p : tree_program.Program) (f : ℕ) → row_at (map (row_of is_bare) p.bodies) f ≡ callees_by is_bare (program_of p) f
by_kind true p f = rows_are true p.bodies f
by_kind false p f = rows_are false p.bodies f

pub table_is : (is_bare : Bool) (p : tree_program.Program) (bodies : List tree.Body) → bodies ≡ p.bodies → row_at (map (row_of is_bare) bodies) ≡ callees_by is_bare (program_of p)
table_is is_bare p bodies same = ap (λ bs. row_at (map (row_of is_bare) bs)) same ∙ fun_ext (λ f. by_kind is_bare p f)

pub table_at_end : (is_bare : Bool) (p : tree_program.Program) (bodies : List tree.Body) (k : ℕ) (table : List (List ℕ)) → bodies ≡ p.bodies → length bodies ≤ k
    → table ≡ map (row_of is_bare) (take k bodies) → row_at table ≡ callees_by is_bare (program_of p)
table_at_end is_bare p bodies k table same past is =
    ap row_at (is ∙ ap (map (row_of is_bare)) (take_all k bodies past)) ∙ table_is is_bare p bodies same

pub ruleset bodies = (counted_body)
