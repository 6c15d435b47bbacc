-- Trees of modules that configurations wire.
use Rattle.std.specs.Prelude.{ℕ, true, false, List, [], ◌∷◌, codes, Some, None}
use Rattle.nm_base.specs.declared.pos.Pos.{Pos}
use Rattle.nesc_tree.specs.Plain as s
use Rattle.nesc_tree.specs.declared.tree.InOp.TheVariants as op
use Rattle.nesc_tree.specs.declared.declarations.FuncKind.TheVariants as kind
use Rattle.body_meaning.specs.Tree as tree
use Rattle.body_meaning.specs.Tree.{Decl, no_stmt, some_stmt, one, many}
use Rattle.program_meaning.specs.Parts.{Interface}
use Rattle.program_meaning.specs.RowForms.{place, plain, block, param, head, sig, interface}

abbrev pub at : (line col : ℕ) → Pos
at line col = place 5 line col

abbrev pub in_a : (line col : ℕ) → Pos
in_a line col = place 6 line col

abbrev pub in_b : (line col : ℕ) → Pos
in_b line col = place 7 line col

abbrev pub in_get : (line col : ℕ) → Pos
in_get line col = place 8 line col

abbrev pub n : List ℕ → Pos → s.Expr
n text at = s.number text at

abbrev pub v : List ℕ → Pos → s.Expr
v name at = s.name name at

--     module FanC { uses interface Boot; uses interface Init; }
--     implementation {
--       event void Boot.booted() {
--         port_write(0x0130, call Init.init());
--       }
--     }
abbrev pub fan : List Decl
fan =
    tree.function (head kind.Event (codes "Boot") (Some (codes "booted")) None false false (plain s.void) [] [] (at 3 14)) (some_stmt (block ((tree.eval (s.port_write (n (codes "0x0130") (at 4 16)) (s.call_item false (codes "Init") (codes "init") s.no_expr s.no_exprs (at 4 24)) (at 4 5)) (at 4 5)) ∷ []) (at 3 28))) ∷ []

--     module AC { provides interface Init; }
--     implementation {
--       command error_t Init.init() { port_write(0x0130, 1); return SUCCESS; }
--     }
abbrev pub a : List Decl
a =
    tree.function (head kind.Command (codes "Init") (Some (codes "init")) None false false (plain (s.named (codes "error_t"))) [] [] (in_a 3 19)) (some_stmt (block ((tree.eval (s.port_write (n (codes "0x0130") (in_a 3 44)) (n (codes "1") (in_a 3 52)) (in_a 3 33)) (in_a 3 33)) ∷ (tree.return (s.some_expr (v (codes "SUCCESS") (in_a 3 63))) (in_a 3 56)) ∷ []) (in_a 3 31))) ∷ []

--     module BC { provides interface Init; }
--     implementation {
--       command error_t Init.init() { port_write(0x0130, 2); return FAIL; }
--     }
abbrev pub b : List Decl
b =
    tree.function (head kind.Command (codes "Init") (Some (codes "init")) None false false (plain (s.named (codes "error_t"))) [] [] (in_b 3 19)) (some_stmt (block ((tree.eval (s.port_write (n (codes "0x0130") (in_b 3 44)) (n (codes "2") (in_b 3 52)) (in_b 3 33)) (in_b 3 33)) ∷ (tree.return (s.some_expr (v (codes "FAIL") (in_b 3 63))) (in_b 3 56)) ∷ []) (in_b 3 31))) ∷ []

--     module ParC { uses interface Boot; uses interface Get as G[uint8_t id]; }
--     implementation {
--       default command uint8_t G.get[uint8_t id]() { return id + 6; }
--       event void Boot.booted() {
--         port_write(0x0130, call G.get[3]());
--         port_write(0x0130, call G.get[1]());
--       }
--     }
abbrev pub parameters : List Decl
parameters =
    tree.function (head kind.Command (codes "G") (Some (codes "get")) (Some (param (plain (s.named (codes "uint8_t"))) (Some (codes "id")))) false true (plain (s.named (codes "uint8_t"))) [] [] (at 3 27)) (some_stmt (block ((tree.return (s.some_expr (s.binary op.Add (v (codes "id") (at 3 56)) (n (codes "6") (at 3 61)) (at 3 56))) (at 3 49)) ∷ []) (at 3 47))) ∷
    tree.function (head kind.Event (codes "Boot") (Some (codes "booted")) None false false (plain s.void) [] [] (at 4 14)) (some_stmt (block ((tree.eval (s.port_write (n (codes "0x0130") (at 5 16)) (s.call_item false (codes "G") (codes "get") (s.some_expr (n (codes "3") (at 5 35))) s.no_exprs (at 5 24)) (at 5 5)) (at 5 5)) ∷ (tree.eval (s.port_write (n (codes "0x0130") (at 6 16)) (s.call_item false (codes "G") (codes "get") (s.some_expr (n (codes "1") (at 6 35))) s.no_exprs (at 6 24)) (at 6 5)) (at 6 5)) ∷ []) (at 4 28))) ∷ []

--     module OneG { provides interface Get; }
--     implementation {
--       command uint8_t Get.get() { return 4; }
--     }
abbrev pub one_get : List Decl
one_get =
    tree.function (head kind.Command (codes "Get") (Some (codes "get")) None false false (plain (s.named (codes "uint8_t"))) [] [] (in_a 3 19)) (some_stmt (block ((tree.return (s.some_expr (n (codes "4") (in_a 3 38))) (in_a 3 31)) ∷ []) (in_a 3 29))) ∷ []

--     interface Get { command uint8_t get(); }
abbrev pub get : Interface
get = interface (sig (codes "get") false false (plain (s.named (codes "uint8_t"))) [] (in_get 1 33) ∷ [])
