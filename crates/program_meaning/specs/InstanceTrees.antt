-- Trees of modules with initial values, with parameters, and of a generic one.
use Rattle.std.specs.Prelude.{ℕ, true, false, List, [], ◌∷◌, codes, Some, None}
use Rattle.nm_base.specs.declared.pos.Pos.{Pos}
use Rattle.nesc_tree.specs.Plain as s
use Rattle.nesc_tree.specs.declared.tree.InOp.TheVariants as op
use Rattle.nesc_tree.specs.declared.declarations.FuncKind.TheVariants as kind
use Rattle.body_meaning.specs.Tree as tree
use Rattle.body_meaning.specs.Tree.{Decl, no_stmt, some_stmt, one, many}
use Rattle.program_meaning.specs.RowForms.{place, plain, inits, var, simple, block, param, head, plain_head}
use Rattle.program_meaning.specs.RowForms.{tree_exprs as exprs}

abbrev pub at : (line col : ℕ) → Pos
at line col = place 5 line col

abbrev pub in_a : (line col : ℕ) → Pos
in_a line col = place 6 line col

abbrev pub n : List ℕ → Pos → s.Expr
n text at = s.number text at

abbrev pub v : List ℕ → Pos → s.Expr
v name at = s.name name at

--     module InitC { uses interface Boot; }
--     implementation {
--       uint8_t same(uint8_t n);
--       uint16_t x = 5 > 3, y[2] = { 7, 1 };
--       norace uint8_t z = same(2);
--       uint8_t same(uint8_t n) { return n; }
--       event void Boot.booted() { }
--     }
abbrev pub initial : List Decl
initial =
    tree.function (plain_head (codes "same") (plain (s.named (codes "uint8_t"))) (param (plain (s.named (codes "uint8_t"))) (Some (codes "n")) ∷ []) [] (at 3 11)) no_stmt ∷
    tree.variables (plain (s.named (codes "uint16_t"))) false (simple (codes "x") (Some (one (s.binary op.Gt (n (codes "5") (at 4 16)) (n (codes "3") (at 4 20)) (at 4 16)))) (at 4 12) ∷ var 0 (codes "y") (exprs ((n (codes "2") (at 4 25)) ∷ [])) (Some (many (inits ((one (n (codes "7") (at 4 32))) ∷ (one (n (codes "1") (at 4 35))) ∷ [])))) (at 4 23) ∷ []) ∷
    tree.variables (plain (s.named (codes "uint8_t"))) true (simple (codes "z") (Some (one (s.call_fn (v (codes "same") (at 5 22)) (exprs ((n (codes "2") (at 5 27)) ∷ [])) (at 5 22)))) (at 5 18) ∷ []) ∷
    tree.function (plain_head (codes "same") (plain (s.named (codes "uint8_t"))) (param (plain (s.named (codes "uint8_t"))) (Some (codes "n")) ∷ []) [] (at 6 11)) (some_stmt (block ((tree.return (s.some_expr (v (codes "n") (at 6 36))) (at 6 29)) ∷ []) (at 6 27))) ∷
    tree.function (head kind.Event (codes "Boot") (Some (codes "booted")) None false false (plain s.void) [] [] (at 7 14)) (some_stmt (block ([]) (at 7 28))) ∷ []

--     generic module GenC(typedef t, uint8_t n) { provides interface Init; }
--     implementation {
--       enum { ID = unique("s") };
--       t kept[n];
--       command error_t Init.init() { kept[ID] = n; return SUCCESS; }
--     }
abbrev pub generic : List Decl
generic =
    tree.type_only (plain (s.enum_of None (s.more_items (codes "ID") (s.some_expr ((s.unique (codes "\"s\"") (in_a 3 15)))) (in_a 3 10) s.no_items))) (in_a 3 3) ∷
    tree.variables (plain (s.named (codes "t"))) false (var 0 (codes "kept") (exprs ((v (codes "n") (in_a 4 10)) ∷ [])) None (in_a 4 5) ∷ []) ∷
    tree.function (head kind.Command (codes "Init") (Some (codes "init")) None false false (plain (s.named (codes "error_t"))) [] [] (in_a 5 19)) (some_stmt (block ((tree.eval (s.assign None (s.index (v (codes "kept") (in_a 5 33)) (v (codes "ID") (in_a 5 38)) (in_a 5 33)) (v (codes "n") (in_a 5 44)) (in_a 5 33)) (in_a 5 33)) ∷ (tree.return (s.some_expr (v (codes "SUCCESS") (in_a 5 54))) (in_a 5 47)) ∷ []) (in_a 5 31))) ∷ []

--     module UserC { uses interface Boot; uses interface Init as A; uses interface Init as B; }
--     implementation {
--       event void Boot.booted() { call A.init(); call B.init(); }
--     }
abbrev pub user : List Decl
user =
    tree.function (head kind.Event (codes "Boot") (Some (codes "booted")) None false false (plain s.void) [] [] (at 3 14)) (some_stmt (block ((tree.eval (s.call_item false (codes "A") (codes "init") s.no_expr s.no_exprs (at 3 30)) (at 3 30)) ∷ (tree.eval (s.call_item false (codes "B") (codes "init") s.no_expr s.no_exprs (at 3 45)) (at 3 45)) ∷ []) (at 3 28))) ∷ []

--     module GivC {
--       uses interface Boot; uses interface Get as G; uses interface Get as H;
--       uses interface Get as R[uint8_t id];
--     }
--     implementation {
--       event void Boot.booted() {
--         call G.get();
--         call H.get();
--         call R.get[7]();
--       }
--     }
abbrev pub given : List Decl
given =
    tree.function (head kind.Event (codes "Boot") (Some (codes "booted")) None false false (plain s.void) [] [] (at 6 14)) (some_stmt (block ((tree.eval (s.call_item false (codes "G") (codes "get") s.no_expr s.no_exprs (at 7 5)) (at 7 5)) ∷ (tree.eval (s.call_item false (codes "H") (codes "get") s.no_expr s.no_exprs (at 8 5)) (at 8 5)) ∷ (tree.eval (s.call_item false (codes "R") (codes "get") (s.some_expr (n (codes "7") (at 9 16))) s.no_exprs (at 9 5)) (at 9 5)) ∷ []) (at 6 28))) ∷ []

--     module ParP { provides interface Get as P[uint8_t id]; }
--     implementation {
--       command uint8_t P.get[uint8_t id]() { return id; }
--     }
abbrev pub passed : List Decl
passed =
    tree.function (head kind.Command (codes "P") (Some (codes "get")) (Some (param (plain (s.named (codes "uint8_t"))) (Some (codes "id")))) false false (plain (s.named (codes "uint8_t"))) [] [] (in_a 3 19)) (some_stmt (block ((tree.return (s.some_expr (v (codes "id") (in_a 3 48))) (in_a 3 41)) ∷ []) (in_a 3 39))) ∷ []
