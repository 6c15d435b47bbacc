-- Trees of headers whose types name functions that combine results, and of modules with such results.
use Rattle.std.specs.Prelude.{ℕ, false, List, [], ◌∷◌, codes, Some, None}
use Rattle.nm_base.specs.declared.int_type.IntType.TheVariants.{I16}
use Rattle.nm_base.specs.declared.pos.Pos.{Pos}
use Rattle.nesc_tree.specs.Plain as s
use Rattle.nesc_tree.specs.declared.tree.InOp.TheVariants as op
use Rattle.nesc_tree.specs.declared.declarations.FuncKind.TheVariants as kind
use Rattle.body_meaning.specs.Tree as tree
use Rattle.body_meaning.specs.Tree.{Decl, no_stmt, some_stmt, one, many}
use Rattle.program_meaning.specs.Parts.{Interface}
use Rattle.program_meaning.specs.RowForms.{place, plain, block, attr, param, head, plain_head, sig, interface}

abbrev pub at : (line col : ℕ) → Pos
at line col = place 5 line col

abbrev pub in_a : (line col : ℕ) → Pos
in_a line col = place 6 line col

abbrev pub in_header : (line col : ℕ) → Pos
in_header line col = place 7 line col

abbrev pub in_res : (line col : ℕ) → Pos
in_res line col = place 8 line col

abbrev pub n : List ℕ → Pos → s.Expr
n text at = s.number text at

abbrev pub v : List ℕ → Pos → s.Expr
v name at = s.name name at

--     typedef uint8_t r_t @combine("least");
abbrev pub missing : List Decl
missing =
    tree.typedef (codes "r_t") (plain (s.named (codes "uint8_t"))) (attr (codes "combine") (tree.text (codes "\"least\"") ∷ []) ∷ []) (in_header 1 17) ∷ []

--     typedef uint8_t r_t @combine("least");
--     r_t least(r_t a) { return a; }
abbrev pub of_one : List Decl
of_one =
    tree.typedef (codes "r_t") (plain (s.named (codes "uint8_t"))) (attr (codes "combine") (tree.text (codes "\"least\"") ∷ []) ∷ []) (in_header 1 17) ∷
    tree.function (plain_head (codes "least") (plain (s.named (codes "r_t"))) (param (plain (s.named (codes "r_t"))) (Some (codes "a")) ∷ []) [] (in_header 2 5)) (some_stmt (block ((tree.return (s.some_expr (v (codes "a") (in_header 2 27))) (in_header 2 20)) ∷ []) (in_header 2 18))) ∷ []

--     typedef uint8_t r_t @combine("least");
--     int least(r_t a, r_t b) { return a; }
abbrev pub of_int : List Decl
of_int =
    tree.typedef (codes "r_t") (plain (s.named (codes "uint8_t"))) (attr (codes "combine") (tree.text (codes "\"least\"") ∷ []) ∷ []) (in_header 1 17) ∷
    tree.function (plain_head (codes "least") (plain (s.int I16)) (param (plain (s.named (codes "r_t"))) (Some (codes "a")) ∷ param (plain (s.named (codes "r_t"))) (Some (codes "b")) ∷ []) [] (in_header 2 5)) (some_stmt (block ((tree.return (s.some_expr (v (codes "a") (in_header 2 34))) (in_header 2 27)) ∷ []) (in_header 2 25))) ∷ []

--     typedef uint8_t r_t @combine("least");
--     r_t least(r_t a, r_t b);
abbrev pub without_body : List Decl
without_body =
    tree.typedef (codes "r_t") (plain (s.named (codes "uint8_t"))) (attr (codes "combine") (tree.text (codes "\"least\"") ∷ []) ∷ []) (in_header 1 17) ∷
    tree.function (plain_head (codes "least") (plain (s.named (codes "r_t"))) (param (plain (s.named (codes "r_t"))) (Some (codes "a")) ∷ param (plain (s.named (codes "r_t"))) (Some (codes "b")) ∷ []) [] (in_header 2 5)) no_stmt ∷ []

--     typedef uint8_t r_t @combine("least");
--     r_t least(r_t a, r_t b) { return a < b ? a : b; }
abbrev pub behind : List Decl
behind =
    tree.typedef (codes "r_t") (plain (s.named (codes "uint8_t"))) (attr (codes "combine") (tree.text (codes "\"least\"") ∷ []) ∷ []) (in_header 1 17) ∷
    tree.function (plain_head (codes "least") (plain (s.named (codes "r_t"))) (param (plain (s.named (codes "r_t"))) (Some (codes "a")) ∷ param (plain (s.named (codes "r_t"))) (Some (codes "b")) ∷ []) [] (in_header 2 5)) (some_stmt (block ((tree.return (s.some_expr (s.choice (s.binary op.Lt (v (codes "a") (in_header 2 34)) (v (codes "b") (in_header 2 38)) (in_header 2 34)) (v (codes "a") (in_header 2 42)) (v (codes "b") (in_header 2 46)) (in_header 2 34))) (in_header 2 27)) ∷ []) (in_header 2 25))) ∷ []

--     typedef error_t r_t;
abbrev pub of_another : List Decl
of_another =
    tree.typedef (codes "r_t") (plain (s.named (codes "error_t"))) [] (in_header 1 17) ∷ []

--     module CallC { uses interface Boot; uses interface Res; }
--     implementation {
--       event void Boot.booted() { call Res.get(); }
--     }
abbrev pub caller : List Decl
caller =
    tree.function (head kind.Event (codes "Boot") (Some (codes "booted")) None false false (plain s.void) [] [] (at 3 14)) (some_stmt (block ((tree.eval (s.call_item false (codes "Res") (codes "get") s.no_expr s.no_exprs (at 3 30)) (at 3 30)) ∷ []) (at 3 28))) ∷ []

--     module ResC { provides interface Res; }
--     implementation {
--       command r_t Res.get() { return 1; }
--     }
abbrev pub giver : List Decl
giver =
    tree.function (head kind.Command (codes "Res") (Some (codes "get")) None false false (plain (s.named (codes "r_t"))) [] [] (in_a 3 15)) (some_stmt (block ((tree.return (s.some_expr (n (codes "1") (in_a 3 34))) (in_a 3 27)) ∷ []) (in_a 3 25))) ∷ []

--     interface Res { command r_t get(); }
abbrev pub res : Interface
res = interface (sig (codes "get") false false (plain (s.named (codes "r_t"))) [] (in_res 1 29) ∷ [])
