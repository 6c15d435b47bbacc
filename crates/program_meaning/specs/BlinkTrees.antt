-- Trees of the modules of Blink: a header, two interfaces and three modules.
use Rattle.std.specs.Prelude.{ℕ, true, false, List, [], ◌∷◌, codes, Some, None}
use Rattle.nm_base.specs.declared.int_type.IntType.TheVariants.{I16}
use Rattle.nm_base.specs.declared.pos.Pos.{Pos}
use Rattle.nesc_tree.specs.Plain as s
use Rattle.nesc_tree.specs.declared.tree.InOp.TheVariants as op
use Rattle.nesc_tree.specs.declared.tree.PostOp.TheVariants as post
use Rattle.nesc_tree.specs.declared.declarations.FuncKind.TheVariants as kind
use Rattle.body_meaning.specs.Tree as tree
use Rattle.body_meaning.specs.Tree.{Decl, no_stmt, some_stmt, one, many}
use Rattle.program_meaning.specs.Parts.{Interface}
use Rattle.program_meaning.specs.RowForms.{place, plain, var, simple, block, attr, param, head, plain_head, sig, interface}
use Rattle.program_meaning.specs.RowForms.{tree_exprs as exprs}

abbrev pub in_header : (line col : ℕ) → Pos
in_header line col = place 5 line col

abbrev pub at : (line col : ℕ) → Pos
at line col = place 6 line col

abbrev pub in_leds_c : (line col : ℕ) → Pos
in_leds_c line col = place 7 line col

abbrev pub in_timer_p : (line col : ℕ) → Pos
in_timer_p line col = place 8 line col

abbrev pub in_leds : (line col : ℕ) → Pos
in_leds line col = place 9 line col

abbrev pub in_timer : (line col : ℕ) → Pos
in_timer line col = place 10 line col

abbrev pub n : List ℕ → Pos → s.Expr
n text at = s.number text at

abbrev pub v : List ℕ → Pos → s.Expr
v name at = s.name name at

--     typedef struct { int notUsed; } TMilli;
abbrev pub timer_header : List Decl
timer_header =
    tree.typedef (codes "TMilli") (plain (s.struct_of None (s.more_groups (plain (s.int I16)) (s.more_declarators 0 (codes "notUsed") s.no_exprs s.no_declarators) s.no_groups))) [] (in_header 1 33) ∷ []

--     #include "Timer.h"
--     module BlinkC @safe() {
--       uses interface Timer<TMilli> as Timer0;
--       uses interface Timer<TMilli> as Timer1;
--       uses interface Timer<TMilli> as Timer2;
--       uses interface Leds;
--       uses interface Boot;
--     }
--     implementation {
--       event void Boot.booted() {
--         call Timer0.startPeriodic(250);
--         call Timer1.startPeriodic(500);
--         call Timer2.startPeriodic(1000);
--       }
--       event void Timer0.fired() { call Leds.led0Toggle(); }
--       event void Timer1.fired() { call Leds.led1Toggle(); }
--       event void Timer2.fired() { call Leds.led2Toggle(); }
--     }
abbrev pub blink : List Decl
blink =
    tree.function (head kind.Event (codes "Boot") (Some (codes "booted")) None false false (plain s.void) [] [] (at 10 14)) (some_stmt (block ((tree.eval (s.call_item false (codes "Timer0") (codes "startPeriodic") s.no_expr (exprs ((n (codes "250") (at 11 31)) ∷ [])) (at 11 5)) (at 11 5)) ∷ (tree.eval (s.call_item false (codes "Timer1") (codes "startPeriodic") s.no_expr (exprs ((n (codes "500") (at 12 31)) ∷ [])) (at 12 5)) (at 12 5)) ∷ (tree.eval (s.call_item false (codes "Timer2") (codes "startPeriodic") s.no_expr (exprs ((n (codes "1000") (at 13 31)) ∷ [])) (at 13 5)) (at 13 5)) ∷ []) (at 10 28))) ∷
    tree.function (head kind.Event (codes "Timer0") (Some (codes "fired")) None false false (plain s.void) [] [] (at 15 14)) (some_stmt (block ((tree.eval (s.call_item false (codes "Leds") (codes "led0Toggle") s.no_expr s.no_exprs (at 15 31)) (at 15 31)) ∷ []) (at 15 29))) ∷
    tree.function (head kind.Event (codes "Timer1") (Some (codes "fired")) None false false (plain s.void) [] [] (at 16 14)) (some_stmt (block ((tree.eval (s.call_item false (codes "Leds") (codes "led1Toggle") s.no_expr s.no_exprs (at 16 31)) (at 16 31)) ∷ []) (at 16 29))) ∷
    tree.function (head kind.Event (codes "Timer2") (Some (codes "fired")) None false false (plain s.void) [] [] (at 17 14)) (some_stmt (block ((tree.eval (s.call_item false (codes "Leds") (codes "led2Toggle") s.no_expr s.no_exprs (at 17 31)) (at 17 31)) ∷ []) (at 17 29))) ∷ []

--     module LedsC { provides interface Leds; }
--     implementation {
--       uint16_t on;
--       async command void Leds.led0Toggle() { atomic { on = on ^ 1; port_write(0x0120, on); } }
--       async command void Leds.led1Toggle() { atomic { on = on ^ 2; port_write(0x0120, on); } }
--       async command void Leds.led2Toggle() { atomic { on = on ^ 4; port_write(0x0120, on); } }
--     }
abbrev pub lamps : List Decl
lamps =
    tree.variables (plain (s.named (codes "uint16_t"))) false (simple (codes "on") None (in_leds_c 3 12) ∷ []) ∷
    tree.function (head kind.Command (codes "Leds") (Some (codes "led0Toggle")) None true false (plain s.void) [] [] (in_leds_c 4 22)) (some_stmt (block ((tree.atomic (block ((tree.eval (s.assign None (v (codes "on") (in_leds_c 4 51)) (s.binary op.Xor (v (codes "on") (in_leds_c 4 56)) (n (codes "1") (in_leds_c 4 61)) (in_leds_c 4 56)) (in_leds_c 4 51)) (in_leds_c 4 51)) ∷ (tree.eval (s.port_write (n (codes "0x0120") (in_leds_c 4 75)) (v (codes "on") (in_leds_c 4 83)) (in_leds_c 4 64)) (in_leds_c 4 64)) ∷ []) (in_leds_c 4 49)) (in_leds_c 4 42)) ∷ []) (in_leds_c 4 40))) ∷
    tree.function (head kind.Command (codes "Leds") (Some (codes "led1Toggle")) None true false (plain s.void) [] [] (in_leds_c 5 22)) (some_stmt (block ((tree.atomic (block ((tree.eval (s.assign None (v (codes "on") (in_leds_c 5 51)) (s.binary op.Xor (v (codes "on") (in_leds_c 5 56)) (n (codes "2") (in_leds_c 5 61)) (in_leds_c 5 56)) (in_leds_c 5 51)) (in_leds_c 5 51)) ∷ (tree.eval (s.port_write (n (codes "0x0120") (in_leds_c 5 75)) (v (codes "on") (in_leds_c 5 83)) (in_leds_c 5 64)) (in_leds_c 5 64)) ∷ []) (in_leds_c 5 49)) (in_leds_c 5 42)) ∷ []) (in_leds_c 5 40))) ∷
    tree.function (head kind.Command (codes "Leds") (Some (codes "led2Toggle")) None true false (plain s.void) [] [] (in_leds_c 6 22)) (some_stmt (block ((tree.atomic (block ((tree.eval (s.assign None (v (codes "on") (in_leds_c 6 51)) (s.binary op.Xor (v (codes "on") (in_leds_c 6 56)) (n (codes "4") (in_leds_c 6 61)) (in_leds_c 6 56)) (in_leds_c 6 51)) (in_leds_c 6 51)) ∷ (tree.eval (s.port_write (n (codes "0x0120") (in_leds_c 6 75)) (v (codes "on") (in_leds_c 6 83)) (in_leds_c 6 64)) (in_leds_c 6 64)) ∷ []) (in_leds_c 6 49)) (in_leds_c 6 42)) ∷ []) (in_leds_c 6 40))) ∷ []

--     #include "Timer.h"
--     module TimerP {
--       provides interface Init;
--       provides interface Timer<TMilli> as Timer[uint8_t id];
--     }
--     implementation {
--       enum { N = uniqueCount("TimerMilliC") };
--       uint32_t period[N];
--       uint32_t left[N];
--       command error_t Init.init() {
--         port_write(0x012A, 250);
--         port_write(0x0128, 1);
--         port_write(0x0100, 2);
--         return SUCCESS;
--       }
--       task void tick() {
--         uint8_t i;
--         for (i = 0; i < N; i++) {
--           if (period[i] == 0) continue;
--           left[i] -= 250;
--           if (left[i] == 0) { left[i] = period[i]; signal Timer.fired[i](); }
--         }
--       }
--       void line() @atomic_hwevent() @C() @spontaneous() @vector(1) { post tick(); }
--       command void Timer.startPeriodic[uint8_t id](uint32_t dt) { period[id] = dt; left[id] = dt; }
--       default event void Timer.fired[uint8_t id]() { }
--     }
abbrev pub timers : List Decl
timers =
    tree.type_only (plain (s.enum_of None (s.more_items (codes "N") (s.some_expr ((s.unique_count (codes "\"TimerMilliC\"") (in_timer_p 7 14)))) (in_timer_p 7 10) s.no_items))) (in_timer_p 7 3) ∷
    tree.variables (plain (s.named (codes "uint32_t"))) false (var 0 (codes "period") (exprs ((v (codes "N") (in_timer_p 8 19)) ∷ [])) None (in_timer_p 8 12) ∷ []) ∷
    tree.variables (plain (s.named (codes "uint32_t"))) false (var 0 (codes "left") (exprs ((v (codes "N") (in_timer_p 9 17)) ∷ [])) None (in_timer_p 9 12) ∷ []) ∷
    tree.function (head kind.Command (codes "Init") (Some (codes "init")) None false false (plain (s.named (codes "error_t"))) [] [] (in_timer_p 10 19)) (some_stmt (block ((tree.eval (s.port_write (n (codes "0x012A") (in_timer_p 11 16)) (n (codes "250") (in_timer_p 11 24)) (in_timer_p 11 5)) (in_timer_p 11 5)) ∷ (tree.eval (s.port_write (n (codes "0x0128") (in_timer_p 12 16)) (n (codes "1") (in_timer_p 12 24)) (in_timer_p 12 5)) (in_timer_p 12 5)) ∷ (tree.eval (s.port_write (n (codes "0x0100") (in_timer_p 13 16)) (n (codes "2") (in_timer_p 13 24)) (in_timer_p 13 5)) (in_timer_p 13 5)) ∷ (tree.return (s.some_expr (v (codes "SUCCESS") (in_timer_p 14 12))) (in_timer_p 14 5)) ∷ []) (in_timer_p 10 31))) ∷
    tree.function (head kind.Task (codes "tick") None None false false (plain s.void) [] [] (in_timer_p 16 13)) (some_stmt (block ((tree.local (tree.variables (plain (s.named (codes "uint8_t"))) false (simple (codes "i") None (in_timer_p 17 13) ∷ [])) (in_timer_p 17 5)) ∷ (tree.for (tree.first (s.assign None (v (codes "i") (in_timer_p 18 10)) (n (codes "0") (in_timer_p 18 14)) (in_timer_p 18 10))) (s.some_expr (s.binary op.Lt (v (codes "i") (in_timer_p 18 17)) (v (codes "N") (in_timer_p 18 21)) (in_timer_p 18 17))) (s.some_expr (s.postfix post.Inc (v (codes "i") (in_timer_p 18 24)) (in_timer_p 18 24))) (block ((tree.branch (s.binary op.Eq (s.index (v (codes "period") (in_timer_p 19 11)) (v (codes "i") (in_timer_p 19 18)) (in_timer_p 19 11)) (n (codes "0") (in_timer_p 19 24)) (in_timer_p 19 11)) (tree.continue (in_timer_p 19 27)) no_stmt (in_timer_p 19 7)) ∷ (tree.eval (s.assign (Some op.Sub) (s.index (v (codes "left") (in_timer_p 20 7)) (v (codes "i") (in_timer_p 20 12)) (in_timer_p 20 7)) (n (codes "250") (in_timer_p 20 18)) (in_timer_p 20 7)) (in_timer_p 20 7)) ∷ (tree.branch (s.binary op.Eq (s.index (v (codes "left") (in_timer_p 21 11)) (v (codes "i") (in_timer_p 21 16)) (in_timer_p 21 11)) (n (codes "0") (in_timer_p 21 22)) (in_timer_p 21 11)) (block ((tree.eval (s.assign None (s.index (v (codes "left") (in_timer_p 21 27)) (v (codes "i") (in_timer_p 21 32)) (in_timer_p 21 27)) (s.index (v (codes "period") (in_timer_p 21 37)) (v (codes "i") (in_timer_p 21 44)) (in_timer_p 21 37)) (in_timer_p 21 27)) (in_timer_p 21 27)) ∷ (tree.eval (s.call_item true (codes "Timer") (codes "fired") (s.some_expr (v (codes "i") (in_timer_p 21 67))) s.no_exprs (in_timer_p 21 48)) (in_timer_p 21 48)) ∷ []) (in_timer_p 21 25)) no_stmt (in_timer_p 21 7)) ∷ []) (in_timer_p 18 29)) (in_timer_p 18 5)) ∷ []) (in_timer_p 16 20))) ∷
    tree.function (plain_head (codes "line") (plain s.void) [] (attr (codes "atomic_hwevent") ([]) ∷ attr (codes "C") ([]) ∷ attr (codes "spontaneous") ([]) ∷ attr (codes "vector") (tree.value (n (codes "1") (in_timer_p 24 61)) ∷ []) ∷ []) (in_timer_p 24 8)) (some_stmt (block ((tree.eval (s.post (codes "tick") (in_timer_p 24 66)) (in_timer_p 24 66)) ∷ []) (in_timer_p 24 64))) ∷
    tree.function (head kind.Command (codes "Timer") (Some (codes "startPeriodic")) (Some (param (plain (s.named (codes "uint8_t"))) (Some (codes "id")))) false false (plain s.void) (param (plain (s.named (codes "uint32_t"))) (Some (codes "dt")) ∷ []) [] (in_timer_p 25 16)) (some_stmt (block ((tree.eval (s.assign None (s.index (v (codes "period") (in_timer_p 25 63)) (v (codes "id") (in_timer_p 25 70)) (in_timer_p 25 63)) (v (codes "dt") (in_timer_p 25 76)) (in_timer_p 25 63)) (in_timer_p 25 63)) ∷ (tree.eval (s.assign None (s.index (v (codes "left") (in_timer_p 25 80)) (v (codes "id") (in_timer_p 25 85)) (in_timer_p 25 80)) (v (codes "dt") (in_timer_p 25 91)) (in_timer_p 25 80)) (in_timer_p 25 80)) ∷ []) (in_timer_p 25 61))) ∷
    tree.function (head kind.Event (codes "Timer") (Some (codes "fired")) (Some (param (plain (s.named (codes "uint8_t"))) (Some (codes "id")))) false true (plain s.void) [] [] (in_timer_p 26 22)) (some_stmt (block ([]) (in_timer_p 26 48))) ∷ []

--     interface Timer<tag> { command void startPeriodic(uint32_t dt); event void fired(); }
abbrev pub timer : Interface
timer = record { params = codes "tag" ∷ []; items = (sig (codes "startPeriodic") false false (plain s.void) (param (plain (s.named (codes "uint32_t"))) (Some (codes "dt")) ∷ []) (in_timer 1 37) ∷ sig (codes "fired") true false (plain s.void) [] (in_timer 1 76) ∷ []) }

--     interface Leds {
--       async command void led0Toggle();
--       async command void led1Toggle();
--       async command void led2Toggle();
--     }
abbrev pub leds : Interface
leds = interface (sig (codes "led0Toggle") false true (plain s.void) [] (in_leds 2 22) ∷ sig (codes "led1Toggle") false true (plain s.void) [] (in_leds 3 22) ∷ sig (codes "led2Toggle") false true (plain s.void) [] (in_leds 4 22) ∷ [])
