-- Worked rows: modules that are refused, with the place, worked out by hand; a module's text begins at its third line, behind
-- `module M { uses interface Boot; }` and `implementation {`.
use Rattle.std.specs.Prelude.{◌≡◌, ℕ, map, true, false, List, [], ◌∷◌, codes, Some, None}
use Rattle.nm_base.specs.declared.int_type.IntType.TheVariants.{I16}
use Rattle.nm_base.specs.declared.pos.Pos.{Pos}
use Rattle.nesc_tree.specs.Plain as s
use Rattle.nesc_tree.specs.declared.tree.PreOp.TheVariants as pre
use Rattle.nesc_tree.specs.declared.declarations.FuncKind.TheVariants as kind
use Rattle.body_meaning.specs.Tree as tree
use Rattle.body_meaning.specs.Tree.{Decl, no_stmt, some_stmt, one, many}
use Rattle.program_meaning.specs.RowForms.{place, plain, var, simple, block, attr, param, head, plain_head}
use Rattle.program_meaning.specs.RowForms.{tree_exprs as exprs}
use Rattle.nm_base.specs.declared.refusal.Refusal.{Refusal}
use Rattle.nm_base.specs.declared.refusal.Refusal.TheVariants.{BadType, NotConstant, UnknownName, DuplicateName, AddressOfLocal, ArgumentMismatch, VectorTwice, NotAssignable}
use Rattle.nesc_types.specs.Rule.{refuse}
use Rattle.program_meaning.specs.PlainRows.{application}
use Rattle.program_meaning.specs.Program.{wired}

abbrev pub at : (line col : ℕ) → Pos
at line col = place 1 line col

abbrev pub n : List ℕ → Pos → s.Expr
n text at = s.number text at

abbrev pub v : List ℕ → Pos → s.Expr
v name at = s.name name at

pub record Stopped : Type 0 where
  pub decls : List Decl
  pub refusal : Refusal

abbrev pub refused : List Decl → Refusal → Stopped
refused decls r = record { decls = decls; refusal = r }

abbrev pub AreRefused : List Stopped → Type 0
AreRefused rows = map (λ (r : Stopped). wired (application (codes "M") r.decls)) rows ≡ map (λ (r : Stopped). refuse r.refusal) rows

pub record RefusedRows : Type 0 where
  --   event void Boot.booted() {   5 = 1;   }
  --   event void Boot.booted() {   uint8_t a; a.b = 1;   }
  --   event void Boot.booted() {   b = 1;   }
  --   event void Boot.booted() {   uint8_t a; uint8_t a;   }
  --   event void Boot.booted() {   uint8_t a; uint8_t *p; p = &a;   }
  --   event void Boot.booted() {   ecombine(1);   }
  --   event void Boot.booted() {   port_read(0x0121);   }
  pub statements : AreRefused (
      refused (tree.function (head kind.Event (codes "Boot") (Some (codes "booted")) None false false (plain s.void) [] [] (at 3 14)) (some_stmt (block ((tree.eval (s.assign None (n (codes "5") (at 4 5)) (n (codes "1") (at 4 9)) (at 4 5)) (at 4 5)) ∷ []) (at 3 28))) ∷ []) (NotAssignable (at 4 5))
      ∷ refused (tree.function (head kind.Event (codes "Boot") (Some (codes "booted")) None false false (plain s.void) [] [] (at 3 14)) (some_stmt (block ((tree.local (tree.variables (plain (s.named (codes "uint8_t"))) false (simple (codes "a") None (at 4 13) ∷ [])) (at 4 5)) ∷ (tree.eval (s.assign None (s.member (v (codes "a") (at 4 16)) (codes "b") (at 4 16)) (n (codes "1") (at 4 22)) (at 4 16)) (at 4 16)) ∷ []) (at 3 28))) ∷ []) (BadType (at 4 16))
      ∷ refused (tree.function (head kind.Event (codes "Boot") (Some (codes "booted")) None false false (plain s.void) [] [] (at 3 14)) (some_stmt (block ((tree.eval (s.assign None (v (codes "b") (at 4 5)) (n (codes "1") (at 4 9)) (at 4 5)) (at 4 5)) ∷ []) (at 3 28))) ∷ []) (UnknownName (at 4 5))
      ∷ refused (tree.function (head kind.Event (codes "Boot") (Some (codes "booted")) None false false (plain s.void) [] [] (at 3 14)) (some_stmt (block ((tree.local (tree.variables (plain (s.named (codes "uint8_t"))) false (simple (codes "a") None (at 4 13) ∷ [])) (at 4 5)) ∷ (tree.local (tree.variables (plain (s.named (codes "uint8_t"))) false (simple (codes "a") None (at 4 24) ∷ [])) (at 4 16)) ∷ []) (at 3 28))) ∷ []) (DuplicateName (at 4 24))
      ∷ refused (tree.function (head kind.Event (codes "Boot") (Some (codes "booted")) None false false (plain s.void) [] [] (at 3 14)) (some_stmt (block ((tree.local (tree.variables (plain (s.named (codes "uint8_t"))) false (simple (codes "a") None (at 4 13) ∷ [])) (at 4 5)) ∷ (tree.local (tree.variables (plain (s.named (codes "uint8_t"))) false (var 1 (codes "p") s.no_exprs None (at 4 25) ∷ [])) (at 4 16)) ∷ (tree.eval (s.assign None (v (codes "p") (at 4 28)) (s.unary pre.Addr (v (codes "a") (at 4 33)) (at 4 32)) (at 4 28)) (at 4 28)) ∷ []) (at 3 28))) ∷ []) (AddressOfLocal (at 4 32))
      ∷ refused (tree.function (head kind.Event (codes "Boot") (Some (codes "booted")) None false false (plain s.void) [] [] (at 3 14)) (some_stmt (block ((tree.eval (s.call_fn (v (codes "ecombine") (at 4 5)) (exprs ((n (codes "1") (at 4 14)) ∷ [])) (at 4 5)) (at 4 5)) ∷ []) (at 3 28))) ∷ []) (ArgumentMismatch (at 4 5))
      ∷ refused (tree.function (head kind.Event (codes "Boot") (Some (codes "booted")) None false false (plain s.void) [] [] (at 3 14)) (some_stmt (block ((tree.eval (s.port_read (n (codes "0x0121") (at 4 15)) (at 4 5)) (at 4 5)) ∷ []) (at 3 28))) ∷ []) (NotConstant (at 4 15))
      ∷ [])
  --   void a() @atomic_hwevent() @vector(2) { }   void b() @atomic_hwevent() @vector(2) { }   event void Boot.booted() { }
  --   void a() @vector(2) { }   event void Boot.booted() { }
  --   void a() @atomic_hwevent() { }   event void Boot.booted() { }
  --   uint8_t a() @atomic_hwevent() @vector(2) { }   event void Boot.booted() { }
  --   void a(int x) @atomic_hwevent() @vector(2) { }   event void Boot.booted() { }
  --   task void t() @atomic_hwevent() @vector(2) { }   event void Boot.booted() { }
  --   void a() @atomic_hwevent() @vector(8) { }   event void Boot.booted() { }
  --   uint8_t n;   void a() @atomic_hwevent() @vector(n) { }   event void Boot.booted() { }
  --   void a() @atomic_hwevent() @vector(2);   event void Boot.booted() { }
  --   void a() @atomic_hwevent() @vector(2);   void a() { }   void b() @atomic_hwevent() @vector(2) { }   event void Boot.booted() { }
  pub handlers : AreRefused (
      refused (tree.function (plain_head (codes "a") (plain s.void) [] (attr (codes "atomic_hwevent") ([]) ∷ attr (codes "vector") (tree.value (n (codes "2") (at 3 38)) ∷ []) ∷ []) (at 3 8)) (some_stmt (block ([]) (at 3 41))) ∷ tree.function (plain_head (codes "b") (plain s.void) [] (attr (codes "atomic_hwevent") ([]) ∷ attr (codes "vector") (tree.value (n (codes "2") (at 4 38)) ∷ []) ∷ []) (at 4 8)) (some_stmt (block ([]) (at 4 41))) ∷ tree.function (head kind.Event (codes "Boot") (Some (codes "booted")) None false false (plain s.void) [] [] (at 5 14)) (some_stmt (block ([]) (at 5 28))) ∷ []) (VectorTwice (at 4 8))
      ∷ refused (tree.function (plain_head (codes "a") (plain s.void) [] (attr (codes "vector") (tree.value (n (codes "2") (at 3 20)) ∷ []) ∷ []) (at 3 8)) (some_stmt (block ([]) (at 3 23))) ∷ tree.function (head kind.Event (codes "Boot") (Some (codes "booted")) None false false (plain s.void) [] [] (at 4 14)) (some_stmt (block ([]) (at 4 28))) ∷ []) (BadType (at 3 8))
      ∷ refused (tree.function (plain_head (codes "a") (plain s.void) [] (attr (codes "atomic_hwevent") ([]) ∷ []) (at 3 8)) (some_stmt (block ([]) (at 3 30))) ∷ tree.function (head kind.Event (codes "Boot") (Some (codes "booted")) None false false (plain s.void) [] [] (at 4 14)) (some_stmt (block ([]) (at 4 28))) ∷ []) (BadType (at 3 8))
      ∷ refused (tree.function (plain_head (codes "a") (plain (s.named (codes "uint8_t"))) [] (attr (codes "atomic_hwevent") ([]) ∷ attr (codes "vector") (tree.value (n (codes "2") (at 3 41)) ∷ []) ∷ []) (at 3 11)) (some_stmt (block ([]) (at 3 44))) ∷ tree.function (head kind.Event (codes "Boot") (Some (codes "booted")) None false false (plain s.void) [] [] (at 4 14)) (some_stmt (block ([]) (at 4 28))) ∷ []) (BadType (at 3 11))
      ∷ refused (tree.function (plain_head (codes "a") (plain s.void) (param (plain (s.int I16)) (Some (codes "x")) ∷ []) (attr (codes "atomic_hwevent") ([]) ∷ attr (codes "vector") (tree.value (n (codes "2") (at 3 43)) ∷ []) ∷ []) (at 3 8)) (some_stmt (block ([]) (at 3 46))) ∷ tree.function (head kind.Event (codes "Boot") (Some (codes "booted")) None false false (plain s.void) [] [] (at 4 14)) (some_stmt (block ([]) (at 4 28))) ∷ []) (BadType (at 3 8))
      ∷ refused (tree.function (head kind.Task (codes "t") None None false false (plain s.void) [] (attr (codes "atomic_hwevent") ([]) ∷ attr (codes "vector") (tree.value (n (codes "2") (at 3 43)) ∷ []) ∷ []) (at 3 13)) (some_stmt (block ([]) (at 3 46))) ∷ tree.function (head kind.Event (codes "Boot") (Some (codes "booted")) None false false (plain s.void) [] [] (at 4 14)) (some_stmt (block ([]) (at 4 28))) ∷ []) (BadType (at 3 13))
      ∷ refused (tree.function (plain_head (codes "a") (plain s.void) [] (attr (codes "atomic_hwevent") ([]) ∷ attr (codes "vector") (tree.value (n (codes "8") (at 3 38)) ∷ []) ∷ []) (at 3 8)) (some_stmt (block ([]) (at 3 41))) ∷ tree.function (head kind.Event (codes "Boot") (Some (codes "booted")) None false false (plain s.void) [] [] (at 4 14)) (some_stmt (block ([]) (at 4 28))) ∷ []) (NotConstant (at 3 38))
      ∷ refused (tree.variables (plain (s.named (codes "uint8_t"))) false (simple (codes "n") None (at 3 11) ∷ []) ∷ tree.function (plain_head (codes "a") (plain s.void) [] (attr (codes "atomic_hwevent") ([]) ∷ attr (codes "vector") (tree.value (v (codes "n") (at 4 38)) ∷ []) ∷ []) (at 4 8)) (some_stmt (block ([]) (at 4 41))) ∷ tree.function (head kind.Event (codes "Boot") (Some (codes "booted")) None false false (plain s.void) [] [] (at 5 14)) (some_stmt (block ([]) (at 5 28))) ∷ []) (NotConstant (at 4 38))
      ∷ refused (tree.function (plain_head (codes "a") (plain s.void) [] (attr (codes "atomic_hwevent") ([]) ∷ attr (codes "vector") (tree.value (n (codes "2") (at 3 38)) ∷ []) ∷ []) (at 3 8)) no_stmt ∷ tree.function (head kind.Event (codes "Boot") (Some (codes "booted")) None false false (plain s.void) [] [] (at 4 14)) (some_stmt (block ([]) (at 4 28))) ∷ []) (UnknownName (at 3 8))
      ∷ refused (tree.function (plain_head (codes "a") (plain s.void) [] (attr (codes "atomic_hwevent") ([]) ∷ attr (codes "vector") (tree.value (n (codes "2") (at 3 38)) ∷ []) ∷ []) (at 3 8)) no_stmt ∷ tree.function (plain_head (codes "a") (plain s.void) [] [] (at 4 8)) (some_stmt (block ([]) (at 4 12))) ∷ tree.function (plain_head (codes "b") (plain s.void) [] (attr (codes "atomic_hwevent") ([]) ∷ attr (codes "vector") (tree.value (n (codes "2") (at 5 38)) ∷ []) ∷ []) (at 5 8)) (some_stmt (block ([]) (at 5 41))) ∷ tree.function (head kind.Event (codes "Boot") (Some (codes "booted")) None false false (plain s.void) [] [] (at 6 14)) (some_stmt (block ([]) (at 6 28))) ∷ []) (VectorTwice (at 5 8))
      ∷ [])
  --   void f();   event void Boot.booted() { f(); }
  --   task void t();   event void Boot.booted() { post t(); }
  --   event void Boot.booted() { f(); }   void f() { }
  --   void f();   void f();   void f() { }   event void Boot.booted() { }
  --   void f() { }   void f() { }   event void Boot.booted() { }
  --   void f(uint8_t x);   void f(uint16_t x) { }   event void Boot.booted() { }
  --   uint8_t f();   void f() { }   event void Boot.booted() { }
  --   uint8_t f;   void f() { }   event void Boot.booted() { }
  --   void f() { }   uint8_t f;   event void Boot.booted() { }
  pub prototypes : AreRefused (
      refused (tree.function (plain_head (codes "f") (plain s.void) [] [] (at 3 8)) no_stmt ∷ tree.function (head kind.Event (codes "Boot") (Some (codes "booted")) None false false (plain s.void) [] [] (at 4 14)) (some_stmt (block ((tree.eval (s.call_fn (v (codes "f") (at 4 30)) s.no_exprs (at 4 30)) (at 4 30)) ∷ []) (at 4 28))) ∷ []) (UnknownName (at 3 8))
      ∷ refused (tree.function (head kind.Task (codes "t") None None false false (plain s.void) [] [] (at 3 13)) no_stmt ∷ tree.function (head kind.Event (codes "Boot") (Some (codes "booted")) None false false (plain s.void) [] [] (at 4 14)) (some_stmt (block ((tree.eval (s.post (codes "t") (at 4 30)) (at 4 30)) ∷ []) (at 4 28))) ∷ []) (UnknownName (at 3 13))
      ∷ refused (tree.function (head kind.Event (codes "Boot") (Some (codes "booted")) None false false (plain s.void) [] [] (at 3 14)) (some_stmt (block ((tree.eval (s.call_fn (v (codes "f") (at 3 30)) s.no_exprs (at 3 30)) (at 3 30)) ∷ []) (at 3 28))) ∷ tree.function (plain_head (codes "f") (plain s.void) [] [] (at 4 8)) (some_stmt (block ([]) (at 4 12))) ∷ []) (UnknownName (at 3 30))
      ∷ refused (tree.function (plain_head (codes "f") (plain s.void) [] [] (at 3 8)) no_stmt ∷ tree.function (plain_head (codes "f") (plain s.void) [] [] (at 4 8)) no_stmt ∷ tree.function (plain_head (codes "f") (plain s.void) [] [] (at 5 8)) (some_stmt (block ([]) (at 5 12))) ∷ tree.function (head kind.Event (codes "Boot") (Some (codes "booted")) None false false (plain s.void) [] [] (at 6 14)) (some_stmt (block ([]) (at 6 28))) ∷ []) (DuplicateName (at 4 8))
      ∷ refused (tree.function (plain_head (codes "f") (plain s.void) [] [] (at 3 8)) (some_stmt (block ([]) (at 3 12))) ∷ tree.function (plain_head (codes "f") (plain s.void) [] [] (at 4 8)) (some_stmt (block ([]) (at 4 12))) ∷ tree.function (head kind.Event (codes "Boot") (Some (codes "booted")) None false false (plain s.void) [] [] (at 5 14)) (some_stmt (block ([]) (at 5 28))) ∷ []) (DuplicateName (at 4 8))
      ∷ refused (tree.function (plain_head (codes "f") (plain s.void) (param (plain (s.named (codes "uint8_t"))) (Some (codes "x")) ∷ []) [] (at 3 8)) no_stmt ∷ tree.function (plain_head (codes "f") (plain s.void) (param (plain (s.named (codes "uint16_t"))) (Some (codes "x")) ∷ []) [] (at 4 8)) (some_stmt (block ([]) (at 4 22))) ∷ tree.function (head kind.Event (codes "Boot") (Some (codes "booted")) None false false (plain s.void) [] [] (at 5 14)) (some_stmt (block ([]) (at 5 28))) ∷ []) (ArgumentMismatch (at 4 8))
      ∷ refused (tree.function (plain_head (codes "f") (plain (s.named (codes "uint8_t"))) [] [] (at 3 11)) no_stmt ∷ tree.function (plain_head (codes "f") (plain s.void) [] [] (at 4 8)) (some_stmt (block ([]) (at 4 12))) ∷ tree.function (head kind.Event (codes "Boot") (Some (codes "booted")) None false false (plain s.void) [] [] (at 5 14)) (some_stmt (block ([]) (at 5 28))) ∷ []) (ArgumentMismatch (at 4 8))
      ∷ refused (tree.variables (plain (s.named (codes "uint8_t"))) false (simple (codes "f") None (at 3 11) ∷ []) ∷ tree.function (plain_head (codes "f") (plain s.void) [] [] (at 4 8)) (some_stmt (block ([]) (at 4 12))) ∷ tree.function (head kind.Event (codes "Boot") (Some (codes "booted")) None false false (plain s.void) [] [] (at 5 14)) (some_stmt (block ([]) (at 5 28))) ∷ []) (DuplicateName (at 4 8))
      ∷ refused (tree.function (plain_head (codes "f") (plain s.void) [] [] (at 3 8)) (some_stmt (block ([]) (at 3 12))) ∷ tree.variables (plain (s.named (codes "uint8_t"))) false (simple (codes "f") None (at 4 11) ∷ []) ∷ tree.function (head kind.Event (codes "Boot") (Some (codes "booted")) None false false (plain s.void) [] [] (at 5 14)) (some_stmt (block ([]) (at 5 28))) ∷ []) (DuplicateName (at 4 11))
      ∷ [])
  --   task uint8_t t() { }   event void Boot.booted() { }
  --   task void t(uint8_t x) { }   event void Boot.booted() { }
  --   struct S { int a; };   void f(struct S s) { }   event void Boot.booted() { }
  --   struct S { int a; };   struct S f() { }   event void Boot.booted() { }
  --   void f(void *p, uint8_t q) { }   event void Boot.booted() { }
  --   void v;   event void Boot.booted() { }
  --   uint8_t a[32768];   event void Boot.booted() { }
  --   void f(uint8_t x, uint8_t x) { }   event void Boot.booted() { }
  --   void f(uint8_t x) { uint8_t x; }   event void Boot.booted() { }
  --   void f() { uint8_t a[9960]; a[0] = 1; }   event void Boot.booted() { }
  --   void I.x() { }   event void Boot.booted() { }
  --   void f[uint8_t i]() { }   event void Boot.booted() { }
  --   uint8_t x = y;   uint8_t y;   event void Boot.booted() { }
  pub types : AreRefused (
      refused (tree.function (head kind.Task (codes "t") None None false false (plain (s.named (codes "uint8_t"))) [] [] (at 3 16)) (some_stmt (block ([]) (at 3 20))) ∷ tree.function (head kind.Event (codes "Boot") (Some (codes "booted")) None false false (plain s.void) [] [] (at 4 14)) (some_stmt (block ([]) (at 4 28))) ∷ []) (BadType (at 3 16))
      ∷ refused (tree.function (head kind.Task (codes "t") None None false false (plain s.void) (param (plain (s.named (codes "uint8_t"))) (Some (codes "x")) ∷ []) [] (at 3 13)) (some_stmt (block ([]) (at 3 26))) ∷ tree.function (head kind.Event (codes "Boot") (Some (codes "booted")) None false false (plain s.void) [] [] (at 4 14)) (some_stmt (block ([]) (at 4 28))) ∷ []) (BadType (at 3 13))
      ∷ refused (tree.type_only (plain (s.struct_of (Some (codes "S")) (s.more_groups (plain (s.int I16)) (s.more_declarators 0 (codes "a") s.no_exprs s.no_declarators) s.no_groups))) (at 3 3) ∷ tree.function (plain_head (codes "f") (plain s.void) (param (plain (s.struct (Some (codes "S")))) (Some (codes "s")) ∷ []) [] (at 4 8)) (some_stmt (block ([]) (at 4 22))) ∷ tree.function (head kind.Event (codes "Boot") (Some (codes "booted")) None false false (plain s.void) [] [] (at 5 14)) (some_stmt (block ([]) (at 5 28))) ∷ []) (BadType (at 4 8))
      ∷ refused (tree.type_only (plain (s.struct_of (Some (codes "S")) (s.more_groups (plain (s.int I16)) (s.more_declarators 0 (codes "a") s.no_exprs s.no_declarators) s.no_groups))) (at 3 3) ∷ tree.function (plain_head (codes "f") (plain (s.struct (Some (codes "S")))) [] [] (at 4 12)) (some_stmt (block ([]) (at 4 16))) ∷ tree.function (head kind.Event (codes "Boot") (Some (codes "booted")) None false false (plain s.void) [] [] (at 5 14)) (some_stmt (block ([]) (at 5 28))) ∷ []) (BadType (at 4 12))
      ∷ refused (tree.function (plain_head (codes "f") (plain s.void) (param (s.type_spec s.void 1 s.no_exprs false) (Some (codes "p")) ∷ param (plain (s.named (codes "uint8_t"))) (Some (codes "q")) ∷ []) [] (at 3 8)) (some_stmt (block ([]) (at 3 30))) ∷ tree.function (head kind.Event (codes "Boot") (Some (codes "booted")) None false false (plain s.void) [] [] (at 4 14)) (some_stmt (block ([]) (at 4 28))) ∷ []) (BadType (at 3 8))
      ∷ refused (tree.variables (plain s.void) false (simple (codes "v") None (at 3 8) ∷ []) ∷ tree.function (head kind.Event (codes "Boot") (Some (codes "booted")) None false false (plain s.void) [] [] (at 4 14)) (some_stmt (block ([]) (at 4 28))) ∷ []) (BadType (at 3 8))
      ∷ refused (tree.variables (plain (s.named (codes "uint8_t"))) false (var 0 (codes "a") (exprs ((n (codes "32768") (at 3 13)) ∷ [])) None (at 3 11) ∷ []) ∷ tree.function (head kind.Event (codes "Boot") (Some (codes "booted")) None false false (plain s.void) [] [] (at 4 14)) (some_stmt (block ([]) (at 4 28))) ∷ []) (BadType (at 3 11))
      ∷ refused (tree.function (plain_head (codes "f") (plain s.void) (param (plain (s.named (codes "uint8_t"))) (Some (codes "x")) ∷ param (plain (s.named (codes "uint8_t"))) (Some (codes "x")) ∷ []) [] (at 3 8)) (some_stmt (block ([]) (at 3 32))) ∷ tree.function (head kind.Event (codes "Boot") (Some (codes "booted")) None false false (plain s.void) [] [] (at 4 14)) (some_stmt (block ([]) (at 4 28))) ∷ []) (DuplicateName (at 3 8))
      ∷ refused (tree.function (plain_head (codes "f") (plain s.void) (param (plain (s.named (codes "uint8_t"))) (Some (codes "x")) ∷ []) [] (at 3 8)) (some_stmt (block ((tree.local (tree.variables (plain (s.named (codes "uint8_t"))) false (simple (codes "x") None (at 3 31) ∷ [])) (at 3 23)) ∷ []) (at 3 21))) ∷ tree.function (head kind.Event (codes "Boot") (Some (codes "booted")) None false false (plain s.void) [] [] (at 4 14)) (some_stmt (block ([]) (at 4 28))) ∷ []) (DuplicateName (at 3 31))
      ∷ refused (tree.function (plain_head (codes "f") (plain s.void) [] [] (at 3 8)) (some_stmt (block ((tree.local (tree.variables (plain (s.named (codes "uint8_t"))) false (var 0 (codes "a") (exprs ((n (codes "9960") (at 3 24)) ∷ [])) None (at 3 22) ∷ [])) (at 3 14)) ∷ (tree.eval (s.assign None (s.index (v (codes "a") (at 3 31)) (n (codes "0") (at 3 33)) (at 3 31)) (n (codes "1") (at 3 38)) (at 3 31)) (at 3 31)) ∷ []) (at 3 12))) ∷ tree.function (head kind.Event (codes "Boot") (Some (codes "booted")) None false false (plain s.void) [] [] (at 4 14)) (some_stmt (block ([]) (at 4 28))) ∷ []) (BadType (at 3 8))
      ∷ refused (tree.function (head kind.Plain (codes "I") (Some (codes "x")) None false false (plain s.void) [] [] (at 3 8)) (some_stmt (block ([]) (at 3 14))) ∷ tree.function (head kind.Event (codes "Boot") (Some (codes "booted")) None false false (plain s.void) [] [] (at 4 14)) (some_stmt (block ([]) (at 4 28))) ∷ []) (BadType (at 3 8))
      ∷ refused (tree.function (head kind.Plain (codes "f") None (Some (param (plain (s.named (codes "uint8_t"))) (Some (codes "i")))) false false (plain s.void) [] [] (at 3 8)) (some_stmt (block ([]) (at 3 23))) ∷ tree.function (head kind.Event (codes "Boot") (Some (codes "booted")) None false false (plain s.void) [] [] (at 4 14)) (some_stmt (block ([]) (at 4 28))) ∷ []) (BadType (at 3 8))
      ∷ refused (tree.variables (plain (s.named (codes "uint8_t"))) false (simple (codes "x") (Some (one (v (codes "y") (at 3 15)))) (at 3 11) ∷ []) ∷ tree.variables (plain (s.named (codes "uint8_t"))) false (simple (codes "y") None (at 4 11) ∷ []) ∷ tree.function (head kind.Event (codes "Boot") (Some (codes "booted")) None false false (plain s.void) [] [] (at 5 14)) (some_stmt (block ([]) (at 5 28))) ∷ []) (UnknownName (at 3 15))
      ∷ [])
  --   event void Boot.gone() { }   event void Boot.booted() { }
  --   event void Boat.booted() { }   event void Boot.booted() { }
  --   event void booted() { }   event void Boot.booted() { }
  --   event uint8_t Boot.booted() { return 0; }
  --   event void Boot.booted(uint8_t x) { }
  --   async event void Boot.booted() { }
  --   default event void Boot.booted() { }
  --   command void Boot.booted() { }
  --   event void Boot.booted[uint8_t i]() { }
  --   event void Boot.booted() { }   event void Boot.booted() { }
  --   event void Boot.booted() {   call Boot.booted();   }
  --   event void Boot.booted() {   signal Boot.booted();   }
  --   event void Boot.booted() {   call Boot.gone();   }
  --   event void Boot.booted() {   post f();   }
  --   void f() { }   event void Boot.booted() { post f(); }
  --   task void t() { }   event void Boot.booted() { t(); }
  pub items : AreRefused (
      refused (tree.function (head kind.Event (codes "Boot") (Some (codes "gone")) None false false (plain s.void) [] [] (at 3 14)) (some_stmt (block ([]) (at 3 26))) ∷ tree.function (head kind.Event (codes "Boot") (Some (codes "booted")) None false false (plain s.void) [] [] (at 4 14)) (some_stmt (block ([]) (at 4 28))) ∷ []) (UnknownName (at 3 14))
      ∷ refused (tree.function (head kind.Event (codes "Boat") (Some (codes "booted")) None false false (plain s.void) [] [] (at 3 14)) (some_stmt (block ([]) (at 3 28))) ∷ tree.function (head kind.Event (codes "Boot") (Some (codes "booted")) None false false (plain s.void) [] [] (at 4 14)) (some_stmt (block ([]) (at 4 28))) ∷ []) (UnknownName (at 3 14))
      ∷ refused (tree.function (head kind.Event (codes "booted") None None false false (plain s.void) [] [] (at 3 14)) (some_stmt (block ([]) (at 3 23))) ∷ tree.function (head kind.Event (codes "Boot") (Some (codes "booted")) None false false (plain s.void) [] [] (at 4 14)) (some_stmt (block ([]) (at 4 28))) ∷ []) (UnknownName (at 3 14))
      ∷ refused (tree.function (head kind.Event (codes "Boot") (Some (codes "booted")) None false false (plain (s.named (codes "uint8_t"))) [] [] (at 3 17)) (some_stmt (block ((tree.return (s.some_expr (n (codes "0") (at 3 40))) (at 3 33)) ∷ []) (at 3 31))) ∷ []) (ArgumentMismatch (at 3 17))
      ∷ refused (tree.function (head kind.Event (codes "Boot") (Some (codes "booted")) None false false (plain s.void) (param (plain (s.named (codes "uint8_t"))) (Some (codes "x")) ∷ []) [] (at 3 14)) (some_stmt (block ([]) (at 3 37))) ∷ []) (ArgumentMismatch (at 3 14))
      ∷ refused (tree.function (head kind.Event (codes "Boot") (Some (codes "booted")) None true false (plain s.void) [] [] (at 3 20)) (some_stmt (block ([]) (at 3 34))) ∷ []) (ArgumentMismatch (at 3 20))
      ∷ refused (tree.function (head kind.Event (codes "Boot") (Some (codes "booted")) None false true (plain s.void) [] [] (at 3 22)) (some_stmt (block ([]) (at 3 36))) ∷ []) (ArgumentMismatch (at 3 22))
      ∷ refused (tree.function (head kind.Command (codes "Boot") (Some (codes "booted")) None false false (plain s.void) [] [] (at 3 16)) (some_stmt (block ([]) (at 3 30))) ∷ []) (ArgumentMismatch (at 3 16))
      ∷ refused (tree.function (head kind.Event (codes "Boot") (Some (codes "booted")) (Some (param (plain (s.named (codes "uint8_t"))) (Some (codes "i")))) false false (plain s.void) [] [] (at 3 14)) (some_stmt (block ([]) (at 3 39))) ∷ []) (ArgumentMismatch (at 3 14))
      ∷ refused (tree.function (head kind.Event (codes "Boot") (Some (codes "booted")) None false false (plain s.void) [] [] (at 3 14)) (some_stmt (block ([]) (at 3 28))) ∷ tree.function (head kind.Event (codes "Boot") (Some (codes "booted")) None false false (plain s.void) [] [] (at 4 14)) (some_stmt (block ([]) (at 4 28))) ∷ []) (DuplicateName (at 4 14))
      ∷ refused (tree.function (head kind.Event (codes "Boot") (Some (codes "booted")) None false false (plain s.void) [] [] (at 3 14)) (some_stmt (block ((tree.eval (s.call_item false (codes "Boot") (codes "booted") s.no_expr s.no_exprs (at 4 5)) (at 4 5)) ∷ []) (at 3 28))) ∷ []) (BadType (at 4 5))
      ∷ refused (tree.function (head kind.Event (codes "Boot") (Some (codes "booted")) None false false (plain s.void) [] [] (at 3 14)) (some_stmt (block ((tree.eval (s.call_item true (codes "Boot") (codes "booted") s.no_expr s.no_exprs (at 4 5)) (at 4 5)) ∷ []) (at 3 28))) ∷ []) (BadType (at 4 5))
      ∷ refused (tree.function (head kind.Event (codes "Boot") (Some (codes "booted")) None false false (plain s.void) [] [] (at 3 14)) (some_stmt (block ((tree.eval (s.call_item false (codes "Boot") (codes "gone") s.no_expr s.no_exprs (at 4 5)) (at 4 5)) ∷ []) (at 3 28))) ∷ []) (UnknownName (at 4 5))
      ∷ refused (tree.function (head kind.Event (codes "Boot") (Some (codes "booted")) None false false (plain s.void) [] [] (at 3 14)) (some_stmt (block ((tree.eval (s.post (codes "f") (at 4 5)) (at 4 5)) ∷ []) (at 3 28))) ∷ []) (UnknownName (at 4 5))
      ∷ refused (tree.function (plain_head (codes "f") (plain s.void) [] [] (at 3 8)) (some_stmt (block ([]) (at 3 12))) ∷ tree.function (head kind.Event (codes "Boot") (Some (codes "booted")) None false false (plain s.void) [] [] (at 4 14)) (some_stmt (block ((tree.eval (s.post (codes "f") (at 4 30)) (at 4 30)) ∷ []) (at 4 28))) ∷ []) (BadType (at 4 30))
      ∷ refused (tree.function (head kind.Task (codes "t") None None false false (plain s.void) [] [] (at 3 13)) (some_stmt (block ([]) (at 3 17))) ∷ tree.function (head kind.Event (codes "Boot") (Some (codes "booted")) None false false (plain s.void) [] [] (at 4 14)) (some_stmt (block ((tree.eval (s.call_fn (v (codes "t") (at 4 30)) s.no_exprs (at 4 30)) (at 4 30)) ∷ []) (at 4 28))) ∷ []) (BadType (at 4 30))
      ∷ [])
