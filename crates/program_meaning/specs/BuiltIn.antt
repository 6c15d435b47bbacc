-- Trees of the texts that are built in: the prelude, Boot, Init and MainC.
use Rattle.std.specs.Prelude.{ℕ, true, false, List, [], ◌∷◌, codes, Some, None}
use Rattle.nm_base.specs.declared.int_type.IntType.TheVariants.{I8, U8, I16, U16, I32, U32}
use Rattle.nm_base.specs.declared.pos.Pos.{Pos}
use Rattle.nesc_tree.specs.Plain as s
use Rattle.nesc_tree.specs.declared.tree.InOp.TheVariants as op
use Rattle.nesc_tree.specs.declared.declarations.FuncKind.TheVariants as kind
use Rattle.body_meaning.specs.Tree as tree
use Rattle.body_meaning.specs.Tree.{Decl, no_stmt, some_stmt, one, many}
use Rattle.program_meaning.specs.Parts.{Interface}
use Rattle.program_meaning.specs.RowForms.{place, plain, block, attr, param, head, plain_head, sig, interface}

abbrev pub in_prelude : (line col : ℕ) → Pos
in_prelude line col = place 0 line col

abbrev pub in_boot : (line col : ℕ) → Pos
in_boot line col = place 2 line col

abbrev pub in_main : (line col : ℕ) → Pos
in_main line col = place 3 line col

abbrev pub in_init : (line col : ℕ) → Pos
in_init line col = place 4 line col

abbrev pub n : List ℕ → Pos → s.Expr
n text at = s.number text at

abbrev pub v : List ℕ → Pos → s.Expr
v name at = s.name name at

--     typedef char int8_t;            typedef unsigned char uint8_t;
--     typedef int int16_t;            typedef unsigned int uint16_t;
--     typedef long int32_t;           typedef unsigned long uint32_t;
--     typedef uint8_t bool;           enum { FALSE = 0, TRUE = 1 };
--     typedef uint8_t error_t @combine("ecombine");
--     enum { SUCCESS = 0, FAIL = 1, ESIZE = 2, ECANCEL = 3, EOFF = 4, EBUSY = 5, EINVAL = 6,
--            ERETRY = 7, ERESERVE = 8, EALREADY = 9, ENOMEM = 10, ENOACK = 11 };
--     error_t ecombine(error_t r1, error_t r2) { return r1 == r2 ? r1 : FAIL; }
abbrev pub prelude : List Decl
prelude =
    tree.typedef (codes "int8_t") (plain (s.int I8)) [] (in_prelude 1 14) ∷
    tree.typedef (codes "uint8_t") (plain (s.int U8)) [] (in_prelude 1 55) ∷
    tree.typedef (codes "int16_t") (plain (s.int I16)) [] (in_prelude 2 13) ∷
    tree.typedef (codes "uint16_t") (plain (s.int U16)) [] (in_prelude 2 54) ∷
    tree.typedef (codes "int32_t") (plain (s.int I32)) [] (in_prelude 3 14) ∷
    tree.typedef (codes "uint32_t") (plain (s.int U32)) [] (in_prelude 3 55) ∷
    tree.typedef (codes "bool") (plain (s.named (codes "uint8_t"))) [] (in_prelude 4 17) ∷
    tree.type_only (plain (s.enum_of None (s.more_items (codes "FALSE") (s.some_expr ((n (codes "0") (in_prelude 4 48)))) (in_prelude 4 40) (s.more_items (codes "TRUE") (s.some_expr ((n (codes "1") (in_prelude 4 58)))) (in_prelude 4 51) s.no_items)))) (in_prelude 4 33) ∷
    tree.typedef (codes "error_t") (plain (s.named (codes "uint8_t"))) (attr (codes "combine") (tree.text (codes "\"ecombine\"") ∷ []) ∷ []) (in_prelude 5 17) ∷
    tree.type_only (plain (s.enum_of None (s.more_items (codes "SUCCESS") (s.some_expr ((n (codes "0") (in_prelude 6 18)))) (in_prelude 6 8) (s.more_items (codes "FAIL") (s.some_expr ((n (codes "1") (in_prelude 6 28)))) (in_prelude 6 21) (s.more_items (codes "ESIZE") (s.some_expr ((n (codes "2") (in_prelude 6 39)))) (in_prelude 6 31) (s.more_items (codes "ECANCEL") (s.some_expr ((n (codes "3") (in_prelude 6 52)))) (in_prelude 6 42) (s.more_items (codes "EOFF") (s.some_expr ((n (codes "4") (in_prelude 6 62)))) (in_prelude 6 55) (s.more_items (codes "EBUSY") (s.some_expr ((n (codes "5") (in_prelude 6 73)))) (in_prelude 6 65) (s.more_items (codes "EINVAL") (s.some_expr ((n (codes "6") (in_prelude 6 85)))) (in_prelude 6 76) (s.more_items (codes "ERETRY") (s.some_expr ((n (codes "7") (in_prelude 7 17)))) (in_prelude 7 8) (s.more_items (codes "ERESERVE") (s.some_expr ((n (codes "8") (in_prelude 7 31)))) (in_prelude 7 20) (s.more_items (codes "EALREADY") (s.some_expr ((n (codes "9") (in_prelude 7 45)))) (in_prelude 7 34) (s.more_items (codes "ENOMEM") (s.some_expr ((n (codes "10") (in_prelude 7 57)))) (in_prelude 7 48) (s.more_items (codes "ENOACK") (s.some_expr ((n (codes "11") (in_prelude 7 70)))) (in_prelude 7 61) s.no_items)))))))))))))) (in_prelude 6 1) ∷
    tree.function (plain_head (codes "ecombine") (plain (s.named (codes "error_t"))) (param (plain (s.named (codes "error_t"))) (Some (codes "r1")) ∷ param (plain (s.named (codes "error_t"))) (Some (codes "r2")) ∷ []) [] (in_prelude 8 9)) (some_stmt (block ((tree.return (s.some_expr (s.choice (s.binary op.Eq (v (codes "r1") (in_prelude 8 51)) (v (codes "r2") (in_prelude 8 57)) (in_prelude 8 51)) (v (codes "r1") (in_prelude 8 62)) (v (codes "FAIL") (in_prelude 8 67)) (in_prelude 8 51))) (in_prelude 8 44)) ∷ []) (in_prelude 8 42))) ∷ []

--     interface Boot { event void booted(); }
abbrev pub boot : Interface
boot = interface (sig (codes "booted") true false (plain s.void) [] (in_boot 1 29) ∷ [])

--     interface Init { command error_t init(); }
abbrev pub init : Interface
init = interface (sig (codes "init") false false (plain (s.named (codes "error_t"))) [] (in_init 1 34) ∷ [])

--     module MainC { provides interface Boot; uses interface Init as SoftwareInit; }
--     implementation {
--       default command error_t SoftwareInit.init() { return SUCCESS; }
--       default event void Boot.booted() { }
--       void boot() @spontaneous() {
--         atomic { call SoftwareInit.init(); }
--         signal Boot.booted();
--       }
--     }
abbrev pub main : List Decl
main =
    tree.function (head kind.Command (codes "SoftwareInit") (Some (codes "init")) None false true (plain (s.named (codes "error_t"))) [] [] (in_main 3 27)) (some_stmt (block ((tree.return (s.some_expr (v (codes "SUCCESS") (in_main 3 56))) (in_main 3 49)) ∷ []) (in_main 3 47))) ∷
    tree.function (head kind.Event (codes "Boot") (Some (codes "booted")) None false true (plain s.void) [] [] (in_main 4 22)) (some_stmt (block ([]) (in_main 4 36))) ∷
    tree.function (plain_head (codes "boot") (plain s.void) [] (attr (codes "spontaneous") ([]) ∷ []) (in_main 5 8)) (some_stmt (block ((tree.atomic (block ((tree.eval (s.call_item false (codes "SoftwareInit") (codes "init") s.no_expr s.no_exprs (in_main 6 14)) (in_main 6 14)) ∷ []) (in_main 6 12)) (in_main 6 5)) ∷ (tree.eval (s.call_item true (codes "Boot") (codes "booted") s.no_expr s.no_exprs (in_main 7 5)) (in_main 7 5)) ∷ []) (in_main 5 30))) ∷ []
