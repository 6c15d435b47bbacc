-- Trees of modules that are applications.
use Rattle.std.specs.Prelude.{ℕ, false, List, [], ◌∷◌, codes, Some, None}
use Rattle.nm_base.specs.declared.pos.Pos.{Pos}
use Rattle.nesc_tree.specs.Plain as s
use Rattle.nesc_tree.specs.declared.tree.InOp.TheVariants as op
use Rattle.nesc_tree.specs.declared.tree.PreOp.TheVariants as pre
use Rattle.nesc_tree.specs.declared.declarations.FuncKind.TheVariants as kind
use Rattle.body_meaning.specs.Tree as tree
use Rattle.body_meaning.specs.Tree.{Decl, no_stmt, some_stmt, one, many}
use Rattle.program_meaning.specs.RowForms.{place, plain, var, simple, block, attr, param, head, plain_head}
use Rattle.program_meaning.specs.RowForms.{tree_exprs as exprs}

abbrev pub at : (line col : ℕ) → Pos
at line col = place 1 line col

abbrev pub n : List ℕ → Pos → s.Expr
n text at = s.number text at

abbrev pub v : List ℕ → Pos → s.Expr
v name at = s.name name at

--     module NumC { uses interface Boot; }
--     implementation {
--       event void Boot.booted() {
--         uint8_t a = 200; uint8_t b = 100;
--         port_write(0x0130, a + b);
--         port_write(0x0130, (uint8_t)(a + b));
--         port_write(0x0130, 1 << 15);
--         port_write(0x0130, 1 << 16);
--         port_write(0x0130, -1 >> 20);
--         port_write(0x0130, -1 < 1u);
--         port_write(0x0130, 40000 + 30000);
--         port_write(0x0130, -7 / 2);
--         port_write(0x0130, -7 % 2);
--       }
--     }
abbrev pub numbers : List Decl
numbers =
    tree.function (head kind.Event (codes "Boot") (Some (codes "booted")) None false false (plain s.void) [] [] (at 3 14)) (some_stmt (block ((tree.local (tree.variables (plain (s.named (codes "uint8_t"))) false (simple (codes "a") (Some (one (n (codes "200") (at 4 17)))) (at 4 13) ∷ [])) (at 4 5)) ∷ (tree.local (tree.variables (plain (s.named (codes "uint8_t"))) false (simple (codes "b") (Some (one (n (codes "100") (at 4 34)))) (at 4 30) ∷ [])) (at 4 22)) ∷ (tree.eval (s.port_write (n (codes "0x0130") (at 5 16)) (s.binary op.Add (v (codes "a") (at 5 24)) (v (codes "b") (at 5 28)) (at 5 24)) (at 5 5)) (at 5 5)) ∷ (tree.eval (s.port_write (n (codes "0x0130") (at 6 16)) (s.cast (plain (s.named (codes "uint8_t"))) (s.binary op.Add (v (codes "a") (at 6 34)) (v (codes "b") (at 6 38)) (at 6 34)) (at 6 24)) (at 6 5)) (at 6 5)) ∷ (tree.eval (s.port_write (n (codes "0x0130") (at 7 16)) (s.binary op.Shl (n (codes "1") (at 7 24)) (n (codes "15") (at 7 29)) (at 7 24)) (at 7 5)) (at 7 5)) ∷ (tree.eval (s.port_write (n (codes "0x0130") (at 8 16)) (s.binary op.Shl (n (codes "1") (at 8 24)) (n (codes "16") (at 8 29)) (at 8 24)) (at 8 5)) (at 8 5)) ∷ (tree.eval (s.port_write (n (codes "0x0130") (at 9 16)) (s.binary op.Shr (s.unary pre.Neg (n (codes "1") (at 9 25)) (at 9 24)) (n (codes "20") (at 9 30)) (at 9 24)) (at 9 5)) (at 9 5)) ∷ (tree.eval (s.port_write (n (codes "0x0130") (at 10 16)) (s.binary op.Lt (s.unary pre.Neg (n (codes "1") (at 10 25)) (at 10 24)) (n (codes "1u") (at 10 29)) (at 10 24)) (at 10 5)) (at 10 5)) ∷ (tree.eval (s.port_write (n (codes "0x0130") (at 11 16)) (s.binary op.Add (n (codes "40000") (at 11 24)) (n (codes "30000") (at 11 32)) (at 11 24)) (at 11 5)) (at 11 5)) ∷ (tree.eval (s.port_write (n (codes "0x0130") (at 12 16)) (s.binary op.Div (s.unary pre.Neg (n (codes "7") (at 12 25)) (at 12 24)) (n (codes "2") (at 12 29)) (at 12 24)) (at 12 5)) (at 12 5)) ∷ (tree.eval (s.port_write (n (codes "0x0130") (at 13 16)) (s.binary op.Rem (s.unary pre.Neg (n (codes "7") (at 13 25)) (at 13 24)) (n (codes "2") (at 13 29)) (at 13 24)) (at 13 5)) (at 13 5)) ∷ []) (at 3 28))) ∷ []

--     module TornC { uses interface Boot; }
--     implementation {
--       uint32_t t;
--       void rx() @atomic_hwevent() @vector(2) { t = port_read(0x0130); }
--       event void Boot.booted() {
--         uint16_t h;
--         port_write(0x0100, 4);
--         h = t >> 16;
--         port_write(0x0120, h);
--       }
--     }
abbrev pub torn : List Decl
torn =
    tree.variables (plain (s.named (codes "uint32_t"))) false (simple (codes "t") None (at 3 12) ∷ []) ∷
    tree.function (plain_head (codes "rx") (plain s.void) [] (attr (codes "atomic_hwevent") ([]) ∷ attr (codes "vector") (tree.value (n (codes "2") (at 4 39)) ∷ []) ∷ []) (at 4 8)) (some_stmt (block ((tree.eval (s.assign None (v (codes "t") (at 4 44)) (s.port_read (n (codes "0x0130") (at 4 58)) (at 4 48)) (at 4 44)) (at 4 44)) ∷ []) (at 4 42))) ∷
    tree.function (head kind.Event (codes "Boot") (Some (codes "booted")) None false false (plain s.void) [] [] (at 5 14)) (some_stmt (block ((tree.local (tree.variables (plain (s.named (codes "uint16_t"))) false (simple (codes "h") None (at 6 14) ∷ [])) (at 6 5)) ∷ (tree.eval (s.port_write (n (codes "0x0100") (at 7 16)) (n (codes "4") (at 7 24)) (at 7 5)) (at 7 5)) ∷ (tree.eval (s.assign None (v (codes "h") (at 8 5)) (s.binary op.Shr (v (codes "t") (at 8 9)) (n (codes "16") (at 8 14)) (at 8 9)) (at 8 5)) (at 8 5)) ∷ (tree.eval (s.port_write (n (codes "0x0120") (at 9 16)) (v (codes "h") (at 9 24)) (at 9 5)) (at 9 5)) ∷ []) (at 5 28))) ∷ []

--     module NestC { uses interface Boot; }
--     implementation {
--       void put(uint16_t v) {
--         atomic {
--           port_write(0x0130, v);
--           atomic { port_write(0x0130, v + 1); }
--           port_write(0x0130, v + 2);
--         }
--       }
--       void rx() @atomic_hwevent() @vector(2) { put(20); }
--       event void Boot.booted() { port_write(0x0100, 4); put(10); }
--     }
abbrev pub nested : List Decl
nested =
    tree.function (plain_head (codes "put") (plain s.void) (param (plain (s.named (codes "uint16_t"))) (Some (codes "v")) ∷ []) [] (at 3 8)) (some_stmt (block ((tree.atomic (block ((tree.eval (s.port_write (n (codes "0x0130") (at 5 18)) (v (codes "v") (at 5 26)) (at 5 7)) (at 5 7)) ∷ (tree.atomic (block ((tree.eval (s.port_write (n (codes "0x0130") (at 6 27)) (s.binary op.Add (v (codes "v") (at 6 35)) (n (codes "1") (at 6 39)) (at 6 35)) (at 6 16)) (at 6 16)) ∷ []) (at 6 14)) (at 6 7)) ∷ (tree.eval (s.port_write (n (codes "0x0130") (at 7 18)) (s.binary op.Add (v (codes "v") (at 7 26)) (n (codes "2") (at 7 30)) (at 7 26)) (at 7 7)) (at 7 7)) ∷ []) (at 4 12)) (at 4 5)) ∷ []) (at 3 24))) ∷
    tree.function (plain_head (codes "rx") (plain s.void) [] (attr (codes "atomic_hwevent") ([]) ∷ attr (codes "vector") (tree.value (n (codes "2") (at 10 39)) ∷ []) ∷ []) (at 10 8)) (some_stmt (block ((tree.eval (s.call_fn (v (codes "put") (at 10 44)) (exprs ((n (codes "20") (at 10 48)) ∷ [])) (at 10 44)) (at 10 44)) ∷ []) (at 10 42))) ∷
    tree.function (head kind.Event (codes "Boot") (Some (codes "booted")) None false false (plain s.void) [] [] (at 11 14)) (some_stmt (block ((tree.eval (s.port_write (n (codes "0x0100") (at 11 41)) (n (codes "4") (at 11 49)) (at 11 30)) (at 11 30)) ∷ (tree.eval (s.call_fn (v (codes "put") (at 11 53)) (exprs ((n (codes "10") (at 11 57)) ∷ [])) (at 11 53)) (at 11 53)) ∷ []) (at 11 28))) ∷ []

--     module PostC { uses interface Boot; }
--     implementation {
--       uint8_t again;
--       task void t() {
--         port_write(0x0130, 9);
--         if (!again) { again = 1; port_write(0x0130, post t()); }
--       }
--       void rx() @atomic_hwevent() @vector(2) {
--         port_write(0x0130, post t());
--         port_write(0x0130, post t());
--       }
--       event void Boot.booted() {
--         port_write(0x0100, 4);
--         port_write(0x0130, post t());
--         port_write(0x0130, post t());
--       }
--     }
abbrev pub posts : List Decl
posts =
    tree.variables (plain (s.named (codes "uint8_t"))) false (simple (codes "again") None (at 3 11) ∷ []) ∷
    tree.function (head kind.Task (codes "t") None None false false (plain s.void) [] [] (at 4 13)) (some_stmt (block ((tree.eval (s.port_write (n (codes "0x0130") (at 5 16)) (n (codes "9") (at 5 24)) (at 5 5)) (at 5 5)) ∷ (tree.branch (s.unary pre.IsZero (v (codes "again") (at 6 10)) (at 6 9)) (block ((tree.eval (s.assign None (v (codes "again") (at 6 19)) (n (codes "1") (at 6 27)) (at 6 19)) (at 6 19)) ∷ (tree.eval (s.port_write (n (codes "0x0130") (at 6 41)) (s.post (codes "t") (at 6 49)) (at 6 30)) (at 6 30)) ∷ []) (at 6 17)) no_stmt (at 6 5)) ∷ []) (at 4 17))) ∷
    tree.function (plain_head (codes "rx") (plain s.void) [] (attr (codes "atomic_hwevent") ([]) ∷ attr (codes "vector") (tree.value (n (codes "2") (at 8 39)) ∷ []) ∷ []) (at 8 8)) (some_stmt (block ((tree.eval (s.port_write (n (codes "0x0130") (at 9 16)) (s.post (codes "t") (at 9 24)) (at 9 5)) (at 9 5)) ∷ (tree.eval (s.port_write (n (codes "0x0130") (at 10 16)) (s.post (codes "t") (at 10 24)) (at 10 5)) (at 10 5)) ∷ []) (at 8 42))) ∷
    tree.function (head kind.Event (codes "Boot") (Some (codes "booted")) None false false (plain s.void) [] [] (at 12 14)) (some_stmt (block ((tree.eval (s.port_write (n (codes "0x0100") (at 13 16)) (n (codes "4") (at 13 24)) (at 13 5)) (at 13 5)) ∷ (tree.eval (s.port_write (n (codes "0x0130") (at 14 16)) (s.post (codes "t") (at 14 24)) (at 14 5)) (at 14 5)) ∷ (tree.eval (s.port_write (n (codes "0x0130") (at 15 16)) (s.post (codes "t") (at 15 24)) (at 15 5)) (at 15 5)) ∷ []) (at 12 28))) ∷ []

--     module PtrC { uses interface Boot; }
--     implementation {
--       uint8_t a[2]; uint8_t b[2]; uint8_t *p;
--       event void Boot.booted() {
--         p = b; p = a; p[2] = 5; port_write(0x0130, b[0]); p[4] = 1; port_write(0x0130, 6);
--       }
--     }
abbrev pub pointers : List Decl
pointers =
    tree.variables (plain (s.named (codes "uint8_t"))) false (var 0 (codes "a") (exprs ((n (codes "2") (at 3 13)) ∷ [])) None (at 3 11) ∷ []) ∷
    tree.variables (plain (s.named (codes "uint8_t"))) false (var 0 (codes "b") (exprs ((n (codes "2") (at 3 27)) ∷ [])) None (at 3 25) ∷ []) ∷
    tree.variables (plain (s.named (codes "uint8_t"))) false (var 1 (codes "p") s.no_exprs None (at 3 40) ∷ []) ∷
    tree.function (head kind.Event (codes "Boot") (Some (codes "booted")) None false false (plain s.void) [] [] (at 4 14)) (some_stmt (block ((tree.eval (s.assign None (v (codes "p") (at 5 5)) (v (codes "b") (at 5 9)) (at 5 5)) (at 5 5)) ∷ (tree.eval (s.assign None (v (codes "p") (at 5 12)) (v (codes "a") (at 5 16)) (at 5 12)) (at 5 12)) ∷ (tree.eval (s.assign None (s.index (v (codes "p") (at 5 19)) (n (codes "2") (at 5 21)) (at 5 19)) (n (codes "5") (at 5 26)) (at 5 19)) (at 5 19)) ∷ (tree.eval (s.port_write (n (codes "0x0130") (at 5 40)) (s.index (v (codes "b") (at 5 48)) (n (codes "0") (at 5 50)) (at 5 48)) (at 5 29)) (at 5 29)) ∷ (tree.eval (s.assign None (s.index (v (codes "p") (at 5 55)) (n (codes "4") (at 5 57)) (at 5 55)) (n (codes "1") (at 5 62)) (at 5 55)) (at 5 55)) ∷ (tree.eval (s.port_write (n (codes "0x0130") (at 5 76)) (n (codes "6") (at 5 84)) (at 5 65)) (at 5 65)) ∷ []) (at 4 28))) ∷ []
