-- Worked rows of statements, written from the C standard and the order of evaluation; columns are those of the texts above the rows, and
-- a statement stands at column 1.
use Rattle.std.specs.Prelude.{◌≡◌, pos, true, false, [], ◌∷◌, codes, Some, None, Ok}
use Rattle.nm_base.specs.declared.int_type.IntType.TheVariants.{I8, U8, I16, U16, I32}
use Rattle.nm_base.specs.declared.refusal.Refusal.TheVariants.{BadType, NotConstant, UnknownName, DuplicateName, NotAssignable}
use Rattle.nesc_core.specs.Plain as core
use Rattle.nesc_core.specs.Plain.{convert, void, int, pointer, array, struct}
use Rattle.nesc_core.specs.declared.tree.UnOp.TheVariants as un_op
use Rattle.nesc_core.specs.declared.tree.BinOp.TheVariants as bin_op
use Rattle.nesc_tree.specs.declared.tree.PreOp.TheVariants as pre_op
use Rattle.nesc_tree.specs.declared.tree.PostOp.TheVariants as post_op
use Rattle.nesc_tree.specs.declared.tree.InOp.TheVariants as op
use Rattle.nesc_tree.specs.Plain as s
use Rattle.elab_meaning.specs.RowForms.{at, n, v, bin, post, set, num, rd}
use Rattle.body_meaning.specs.Tree.{one, many, no_inits, nothing, first, declared, no_stmt, some_stmt, typedef, type_only}
use Rattle.body_meaning.specs.Tree as tree
use Rattle.body_meaning.specs.StmtForms.{list, block, eval, plain, const, braces, var, of_length, pointer_to, local, code, blocked, AreWired, making, gives, AreRefused, refused, outcome}

pub record StmtRows : Type 0 where
  -- ;   i = 1;   atomic i = 1;   break;   continue;   return i;   return a;
  pub plain_ones : AreWired (
      gives (tree.empty (at 1)) (blocked [])
      ∷ gives (eval (set (v (codes "i") 1) (n (codes "1") 5))) (core.eval (core.assign (core.local 3) (num I16 1) (at 1)))
      ∷ gives (tree.atomic (eval (set (v (codes "i") 8) (n (codes "1") 12))) (at 1)) (core.atomic (core.eval (core.assign (core.local 3) (num I16 1) (at 8))))
      ∷ gives (tree.break (at 1)) core.break
      ∷ gives (tree.continue (at 1)) core.continue
      ∷ gives (tree.return (s.some_expr (v (codes "i") 8)) (at 1)) (core.return (Some (rd 3 8)))
      ∷ gives (tree.return (s.some_expr (v (codes "a") 8)) (at 1)) (core.return (Some (convert I16 (rd 1 8))))
      ∷ [])
  -- return; where no result is due
  pub nothing_returned : outcome void (tree.return s.no_expr (at 1)) ≡ Ok (record { code = core.return None; made = [] })
  -- if (i) ; else break;   if (p) break;   while (i) ;   do break; while (a);
  pub branches : AreWired (
      gives (tree.branch (v (codes "i") 5) (tree.empty (at 8)) (some_stmt (tree.break (at 15))) (at 1)) (core.branch (rd 3 5) (blocked []) core.break)
      ∷ gives (tree.branch (v (codes "p") 5) (tree.break (at 8)) no_stmt (at 1)) (core.branch (rd 7 5) core.break (blocked []))
      ∷ gives (tree.while (v (codes "i") 8) (tree.empty (at 11)) (at 1)) (core.loop true (rd 3 8) None (blocked []))
      ∷ gives (tree.do_while (tree.break (at 4)) (v (codes "a") 18) (at 1)) (core.loop false (rd 1 18) None core.break)
      ∷ [])
  -- for (;;) ;   for (i = 0; i < u; i++) ;   for (int d = 1; d; ) break;
  pub loops : AreWired (
      gives (tree.for nothing s.no_expr s.no_expr (tree.empty (at 10)) (at 1)) (core.loop true (num I16 1) None (blocked []))
      ∷ gives (tree.for (first (set (v (codes "i") 6) (n (codes "0") 10))) (s.some_expr (bin op.Lt (v (codes "i") 13) (v (codes "u") 17))) (s.some_expr (post post_op.Inc (v (codes "i") 20))) (tree.empty (at 25)) (at 1))
      (blocked (core.eval (core.assign (core.local 3) (num I16 0) (at 6))
      ∷ core.loop true (core.bin bin_op.Lt U16 (convert U16 (rd 3 13)) (rd 4 17)) (Some (core.update (core.local 3) bin_op.Add I16 (num I16 1) true (at 20))) (blocked [])
      ∷ []))
      ∷ making (tree.for (declared (plain (s.int I16)) (var (codes "d") 10 (Some (one (n (codes "1") 14))) ∷ [])) (s.some_expr (v (codes "d") 17)) s.no_expr (tree.break (at 22)) (at 1))
      (blocked (core.clear 11 ∷ core.eval (core.assign (core.local 11) (num I16 1) (at 10)) ∷ core.loop true (rd 11 17) None core.break ∷ []))
      (int I16 ∷ [])
      ∷ [])
  -- { int d; d = 1; }   { uint8_t d = i, e[2] = { a, b }; }   { struct S d = { 1, { 2 } }; }   { int * d = NULL; }   { int d = { 3 }; }
  pub declarations : AreWired (
      making (block (local 3 (plain (s.int I16)) (var (codes "d") 7 None ∷ []) ∷ eval (set (v (codes "d") 10) (n (codes "1") 14)) ∷ []))
      (blocked (core.clear 11 ∷ core.eval (core.assign (core.local 11) (num I16 1) (at 10)) ∷ []))
      (int I16 ∷ [])
      ∷ making (block (local 3 (plain (s.named (codes "uint8_t"))) (var (codes "d") 11 (Some (one (v (codes "i") 15))) ∷ of_length (n (codes "2") 20) (var (codes "e") 18 (Some (braces (one (v (codes "a") 27) ∷ one (v (codes "b") 30) ∷ [])))) ∷ []) ∷ []))
      (blocked (core.clear 11 ∷ core.eval (core.assign (core.local 11) (convert U8 (rd 3 15)) (at 11))
      ∷ core.clear 12
      ∷ core.eval (core.assign (core.index (core.local 12) (num I16 0)) (rd 1 27) (at 18))
      ∷ core.eval (core.assign (core.index (core.local 12) (num I16 1)) (rd 2 30) (at 18))
      ∷ []))
      (int U8 ∷ array (int U8) 2 ∷ [])
      ∷ making (block (local 3 (plain (s.struct (Some (codes "S")))) (var (codes "d") 12 (Some (braces (one (n (codes "1") 18) ∷ braces (one (n (codes "2") 23) ∷ []) ∷ []))) ∷ []) ∷ []))
      (blocked (core.clear 11
      ∷ core.eval (core.assign (core.field (core.local 11) 0) (convert U8 (num I16 1)) (at 12))
      ∷ core.eval (core.assign (core.index (core.field (core.local 11) 1) (num I16 0)) (num I16 2) (at 12))
      ∷ []))
      (struct 0 ∷ [])
      ∷ making (block (local 3 (plain (s.int I16)) (pointer_to (var (codes "d") 9 (Some (one (s.null (at 13))))) ∷ []) ∷ []))
      (blocked (core.clear 11 ∷ core.eval (core.assign (core.local 11) core.null (at 9)) ∷ []))
      (pointer (int I16) ∷ [])
      ∷ making (block (local 3 (plain (s.int I16)) (var (codes "d") 7 (Some (braces (one (n (codes "3") 13) ∷ []))) ∷ []) ∷ []))
      (blocked (core.clear 11 ∷ core.eval (core.assign (core.local 11) (num I16 3) (at 7)) ∷ []))
      (int I16 ∷ [])
      ∷ [])
  -- { struct F d = o; }: no field, so nothing is stored   { struct S d = s; }: field by field
  pub copies : AreWired (
      making (block (local 3 (plain (s.struct (Some (codes "F")))) (var (codes "d") 12 (Some (one (v (codes "o") 16))) ∷ []) ∷ []))
      (blocked (core.clear 11 ∷ []))
      (struct 1 ∷ [])
      ∷ making (block (local 3 (plain (s.struct (Some (codes "S")))) (var (codes "d") 12 (Some (one (v (codes "s") 16))) ∷ []) ∷ []))
      (blocked (core.clear 11
      ∷ core.eval (core.assign (core.field (core.local 11) 0) (core.read (core.field (core.object 2) 0) (at 16)) (at 12))
      ∷ core.eval (core.assign (core.index (core.field (core.local 11) 1) (num I16 0)) (core.read (core.index (core.field (core.object 2) 1) (num I16 0)) (at 16)) (at 12))
      ∷ core.eval (core.assign (core.index (core.field (core.local 11) 1) (num I16 1)) (core.read (core.index (core.field (core.object 2) 1) (num I16 1)) (at 16)) (at 12))
      ∷ core.eval (core.assign (core.field (core.local 11) 2) (core.read (core.field (core.object 2) 2) (at 16)) (at 12))
      ∷ []))
      (struct 0 ∷ [])
      ∷ [])
  -- { int i; { int i; i = 1; } i = 2; } i = 3;   { typedef uint8_t w; w d; } w[0];   { enum { ONE = 5 }; i = ONE; }
  pub scopes : AreWired (
      making (block (block (local 5 (plain (s.int I16)) (var (codes "i") 9 None ∷ []) ∷ block (local 14 (plain (s.int I16)) (var (codes "i") 18 None ∷ []) ∷ eval (set (v (codes "i") 21) (n (codes "1") 25)) ∷ []) ∷ eval (set (v (codes "i") 30) (n (codes "2") 34)) ∷ []) ∷ eval (set (v (codes "i") 39) (n (codes "3") 43)) ∷ []))
      (blocked (blocked (core.clear 11 ∷ blocked (core.clear 12 ∷ core.eval (core.assign (core.local 12) (num I16 1) (at 21)) ∷ []) ∷ core.eval (core.assign (core.local 11) (num I16 2) (at 30)) ∷ [])
      ∷ core.eval (core.assign (core.local 3) (num I16 3) (at 39)) ∷ []))
      (int I16 ∷ int I16 ∷ [])
      ∷ making (block (block (tree.local (typedef (codes "w") (plain (s.named (codes "uint8_t"))) [] (at 21)) (at 5) ∷ local 24 (plain (s.named (codes "w"))) (var (codes "d") 26 None ∷ []) ∷ []) ∷ eval (s.index (v (codes "w") 31) (n (codes "0") 33) (at 31)) ∷ []))
      (blocked (blocked (core.clear 11 ∷ []) ∷ core.eval (core.read (core.index (core.local 10) (num I16 0)) (at 31)) ∷ []))
      (int U8 ∷ [])
      ∷ gives (block (tree.local (type_only (plain (s.enum_of None (s.more_items (codes "ONE") (s.some_expr (n (codes "5") 16)) (at 10) s.no_items))) (at 3)) (at 3) ∷ eval (set (v (codes "i") 21) (v (codes "ONE") 25)) ∷ []))
      (blocked (core.eval (core.assign (core.local 3) (num I16 5) (at 21)) ∷ []))
      ∷ [])
  -- switch (a) { case 1: break; case 2: default: ; i = 3; }   switch (u) { case -1: int d; }   switch (i) break;
  pub switches : AreWired (
      gives (tree.switch (v (codes "a") 9) (block (
      tree.case (n (codes "1") 19) (tree.break (at 22)) (at 14)
      ∷ tree.case (n (codes "2") 34) (tree.default (tree.empty (at 46)) (at 37)) (at 29)
      ∷ eval (set (v (codes "i") 48) (n (codes "3") 52)) ∷ [])) (at 1))
      (core.switch (convert I16 (rd 1 9))
      (record { value = Some (pos 1); start = 0 } ∷ record { value = Some (pos 2); start = 2 } ∷ record { value = None; start = 3 } ∷ [])
      (code (blocked [] ∷ core.break ∷ blocked [] ∷ blocked [] ∷ blocked [] ∷ core.eval (core.assign (core.local 3) (num I16 3) (at 48)) ∷ [])))
      ∷ making (tree.switch (v (codes "u") 9) (block (
      tree.case (s.unary pre_op.Neg (n (codes "1") 20) (at 19)) (tree.empty (at 22)) (at 14)
      ∷ local 24 (plain (s.int I16)) (var (codes "d") 28 None ∷ []) ∷ [])) (at 1))
      (core.switch (rd 4 9) (record { value = Some (pos 65535); start = 0 } ∷ []) (code (blocked [] ∷ blocked [] ∷ core.clear 11 ∷ [])))
      (int I16 ∷ [])
      ∷ gives (tree.switch (v (codes "i") 9) (tree.break (at 12)) (at 1)) (core.switch (rd 3 9) [] (code (core.break ∷ [])))
      ∷ [])

pub record RefusedStmts : Type 0 where
  -- return;   return p;   if (s) ;   while (s) ;   switch (p) ;   { void d; }   { int d[2] = 1; }   { struct S d = o; }
  pub bad_types : AreRefused (
      refused (tree.return s.no_expr (at 1)) (BadType (at 1))
      ∷ refused (tree.return (s.some_expr (v (codes "p") 8)) (at 1)) (BadType (at 8))
      ∷ refused (tree.branch (v (codes "s") 5) (tree.empty (at 8)) no_stmt (at 1)) (BadType (at 5))
      ∷ refused (tree.while (v (codes "s") 8) (tree.empty (at 11)) (at 1)) (BadType (at 8))
      ∷ refused (tree.switch (v (codes "p") 9) (tree.empty (at 12)) (at 1)) (BadType (at 9))
      ∷ refused (block (local 3 (plain s.void) (var (codes "d") 8 None ∷ []) ∷ [])) (BadType (at 8))
      ∷ refused (block (local 3 (plain (s.int I16)) (of_length (n (codes "2") 9) (var (codes "d") 7 (Some (one (n (codes "1") 14)))) ∷ []) ∷ [])) (BadType (at 14))
      ∷ refused (block (local 3 (plain (s.struct (Some (codes "S")))) (var (codes "d") 12 (Some (one (v (codes "o") 16))) ∷ []) ∷ [])) (BadType (at 16))
      ∷ [])
  -- { int d[2] = { 1, 2, 3 }; }   { int d = { 1, 2 }; }   { struct F d = { { 1 } }; }: in braces, so at the name
  pub too_many : AreRefused (
      refused (block (local 3 (plain (s.int I16)) (of_length (n (codes "2") 9) (var (codes "d") 7 (Some (braces (one (n (codes "1") 16) ∷ one (n (codes "2") 19) ∷ one (n (codes "3") 22) ∷ [])))) ∷ []) ∷ [])) (BadType (at 22))
      ∷ refused (block (local 3 (plain (s.int I16)) (var (codes "d") 7 (Some (braces (one (n (codes "1") 13) ∷ one (n (codes "2") 16) ∷ []))) ∷ []) ∷ [])) (BadType (at 16))
      ∷ refused (block (local 3 (plain (s.struct (Some (codes "F")))) (var (codes "d") 12 (Some (braces (braces (one (n (codes "1") 20) ∷ []) ∷ []))) ∷ []) ∷ [])) (BadType (at 12))
      ∷ [])
  -- { int d; int d; }   { int d = z; }   { const int d = 1; d = 2; }   { int d[i]; }   switch (i) { case u: ; }   for (int d; ; ) ; d = 1;
  pub of_names : AreRefused (
      refused (block (local 3 (plain (s.int I16)) (var (codes "d") 7 None ∷ []) ∷ local 10 (plain (s.int I16)) (var (codes "d") 14 None ∷ []) ∷ [])) (DuplicateName (at 14))
      ∷ refused (block (local 3 (plain (s.int I16)) (var (codes "d") 7 (Some (one (v (codes "z") 11))) ∷ []) ∷ [])) (UnknownName (at 11))
      ∷ refused (block (local 3 (const (s.int I16)) (var (codes "d") 13 (Some (one (n (codes "1") 17))) ∷ []) ∷ eval (set (v (codes "d") 20) (n (codes "2") 24)) ∷ [])) (NotAssignable (at 20))
      ∷ refused (block (local 3 (plain (s.int I16)) (of_length (v (codes "i") 9) (var (codes "d") 7 None) ∷ []) ∷ [])) (NotConstant (at 9))
      ∷ refused (tree.switch (v (codes "i") 9) (block (tree.case (v (codes "u") 19) (tree.empty (at 22)) (at 14) ∷ [])) (at 1)) (NotConstant (at 19))
      ∷ refused (block (tree.for (declared (plain (s.int I16)) (var (codes "d") 12 None ∷ [])) s.no_expr s.no_expr (tree.empty (at 19)) (at 3) ∷ eval (set (v (codes "d") 21) (n (codes "1") 25)) ∷ [])) (UnknownName (at 21))
      ∷ [])
  -- the first in the text: while (z) return p;   do return p; while (z);   for (z; p = i; ) ;   { void d[z]; }   switch (p) { case z: ; }
  pub first_of_two : AreRefused (
      refused (tree.while (v (codes "z") 8) (tree.return (s.some_expr (v (codes "p") 18)) (at 11)) (at 1)) (UnknownName (at 8))
      ∷ refused (tree.do_while (tree.return (s.some_expr (v (codes "p") 11)) (at 4)) (v (codes "z") 21) (at 1)) (BadType (at 11))
      ∷ refused (tree.for (first (v (codes "z") 6)) (s.some_expr (set (v (codes "p") 9) (v (codes "i") 13))) s.no_expr (tree.empty (at 18)) (at 1)) (UnknownName (at 6))
      ∷ refused (block (local 3 (plain s.void) (of_length (v (codes "z") 10) (var (codes "d") 8 None) ∷ []) ∷ [])) (UnknownName (at 10))
      ∷ refused (tree.switch (v (codes "p") 9) (block (tree.case (v (codes "z") 19) (tree.empty (at 22)) (at 14) ∷ [])) (at 1)) (BadType (at 9))
      ∷ [])
