-- Worked rows of operators on numbers and pointers, written from the C standard and the order of evaluation; columns are those of the
-- texts above the rows.
use Rattle.std.specs.Prelude.{true, false, [], ◌∷◌, codes, Some}
use Rattle.nm_base.specs.declared.int_type.IntType.TheVariants.{U8, I16, U16, I32, U32}
use Rattle.nesc_core.specs.Plain as core
use Rattle.nesc_core.specs.Plain.{convert, void, int, pointer, array, struct}
use Rattle.nesc_core.specs.declared.tree.UnOp.TheVariants as un_op
use Rattle.nesc_core.specs.declared.tree.BinOp.TheVariants as bin_op
use Rattle.nesc_tree.specs.declared.tree.PreOp.TheVariants as pre_op
use Rattle.nesc_tree.specs.declared.tree.InOp.TheVariants as op
use Rattle.nesc_tree.specs.Plain as s
use Rattle.elab_meaning.specs.RowForms.{at, n, v, bin, pre, choice, comma, fn, spec, num, rd, core_exprs, AreWired, gives, making}

pub record ValueRows : Type 0 where
  -- 5; 40000; 0x9c40; 'a'; NULL; ONE; unique("s"); uniqueCount("s")
  pub literals : AreWired (
      gives (n (codes "5") 1) (num I16 5) (int I16)
      ∷ gives (n (codes "40000") 1) (num I32 40000) (int I32)
      ∷ gives (n (codes "0x9c40") 1) (num U16 40000) (int U16)
      ∷ gives (s.char (codes "'a'") (at 1)) (num I16 97) (int I16)
      ∷ gives (s.null (at 1)) core.null (pointer void)
      ∷ gives (v (codes "ONE") 1) (num I16 1) (int I16)
      ∷ gives (s.unique (codes "\"s\"") (at 1)) (num I16 3) (int I16)
      ∷ gives (s.unique (codes "\"t\"") (at 5)) (num I32 40000) (int I32)
      ∷ gives (s.unique_count (codes "\"s\"") (at 1)) (num I16 7) (int I16)
      ∷ [])
  -- sizeof(int); sizeof i; sizeof v; sizeof s; sizeof(struct S *); sizeof NULL; of v + 1 and a > b, which take and make nothing
  pub sizes : AreWired (
      gives (s.size_of_type (spec (s.int I16) 0) (at 1)) (num U16 2) (int U16)
      ∷ gives (s.size_of_expr (v (codes "i") 8) (at 1)) (num U16 2) (int U16)
      ∷ gives (s.size_of_expr (v (codes "v") 8) (at 1)) (num U16 8) (int U16)
      ∷ gives (s.size_of_expr (v (codes "s") 8) (at 1)) (num U16 8) (int U16)
      ∷ gives (s.size_of_type (spec (s.struct (Some (codes "S"))) 1) (at 1)) (num U16 2) (int U16)
      ∷ gives (s.size_of_expr (s.null (at 8)) (at 1)) (num U16 2) (int U16)
      ∷ gives (s.size_of_expr (bin op.Add (v (codes "v") 9) (n (codes "1") 13)) (at 1)) (num U16 2) (int U16)
      ∷ gives (s.size_of_expr (bin op.Gt (v (codes "a") 9) (v (codes "b") 13)) (at 1)) (num U16 2) (int U16)
      ∷ [])
  -- -c; ~u; !a; !p; +a; +i; -m
  pub prefixes : AreWired (
      gives (pre pre_op.Neg (v (codes "c") 2) 1) (core.un un_op.Neg I16 (convert I16 (rd 0 2))) (int I16)
      ∷ gives (pre pre_op.Not (v (codes "u") 2) 1) (core.un un_op.Not U16 (rd 4 2)) (int U16)
      ∷ gives (pre pre_op.IsZero (v (codes "a") 2) 1) (core.un un_op.IsZero U8 (rd 1 2)) (int I16)
      ∷ gives (pre pre_op.IsZero (v (codes "p") 2) 1) (core.un un_op.IsZero U16 (convert U16 (rd 7 2))) (int I16)
      ∷ gives (pre pre_op.Plus (v (codes "a") 2) 1) (convert I16 (rd 1 2)) (int I16)
      ∷ gives (pre pre_op.Plus (v (codes "i") 2) 1) (rd 3 2) (int I16)
      ∷ gives (pre pre_op.Neg (v (codes "m") 2) 1) (core.un un_op.Neg U32 (rd 6 2)) (int U32)
      ∷ [])
  -- a + b; c * l; i / u; u + l; l % m; a & c; i ^ i; m | a; u - c
  pub arithmetic : AreWired (
      gives (bin op.Add (v (codes "a") 1) (v (codes "b") 5)) (core.bin bin_op.Add I16 (convert I16 (rd 1 1)) (convert I16 (rd 2 5))) (int I16)
      ∷ gives (bin op.Mul (v (codes "c") 1) (v (codes "l") 5)) (core.bin bin_op.Mul I32 (convert I32 (rd 0 1)) (rd 5 5)) (int I32)
      ∷ gives (bin op.Div (v (codes "i") 1) (v (codes "u") 5)) (core.bin bin_op.Div U16 (convert U16 (rd 3 1)) (rd 4 5)) (int U16)
      ∷ gives (bin op.Add (v (codes "u") 1) (v (codes "l") 5)) (core.bin bin_op.Add I32 (convert I32 (rd 4 1)) (rd 5 5)) (int I32)
      ∷ gives (bin op.Rem (v (codes "l") 1) (v (codes "m") 5)) (core.bin bin_op.Rem U32 (convert U32 (rd 5 1)) (rd 6 5)) (int U32)
      ∷ gives (bin op.And (v (codes "a") 1) (v (codes "c") 5)) (core.bin bin_op.And I16 (convert I16 (rd 1 1)) (convert I16 (rd 0 5))) (int I16)
      ∷ gives (bin op.Xor (v (codes "i") 1) (v (codes "i") 5)) (core.bin bin_op.Xor I16 (rd 3 1) (rd 3 5)) (int I16)
      ∷ gives (bin op.Or (v (codes "m") 1) (v (codes "a") 5)) (core.bin bin_op.Or U32 (rd 6 1) (convert U32 (rd 1 5))) (int U32)
      ∷ gives (bin op.Sub (v (codes "u") 1) (v (codes "c") 5)) (core.bin bin_op.Sub U16 (rd 4 1) (convert U16 (rd 0 5))) (int U16)
      ∷ [])
  -- a << l; u >> c; l << u; c >> m
  pub shifts : AreWired (
      gives (bin op.Shl (v (codes "a") 1) (v (codes "l") 6)) (core.bin bin_op.Shl I16 (convert I16 (rd 1 1)) (rd 5 6)) (int I16)
      ∷ gives (bin op.Shr (v (codes "u") 1) (v (codes "c") 6)) (core.bin bin_op.Shr U16 (rd 4 1) (convert I16 (rd 0 6))) (int U16)
      ∷ gives (bin op.Shl (v (codes "l") 1) (v (codes "u") 6)) (core.bin bin_op.Shl I32 (rd 5 1) (rd 4 6)) (int I32)
      ∷ gives (bin op.Shr (v (codes "c") 1) (v (codes "m") 6)) (core.bin bin_op.Shr I16 (convert I16 (rd 0 1)) (rd 6 6)) (int I16)
      ∷ [])
  -- c < u; a <= b; i == l; p == q; p != NULL; NULL == p
  pub comparisons : AreWired (
      gives (bin op.Lt (v (codes "c") 1) (v (codes "u") 5)) (core.bin bin_op.Lt U16 (convert U16 (rd 0 1)) (rd 4 5)) (int I16)
      ∷ gives (bin op.Le (v (codes "a") 1) (v (codes "b") 6)) (core.bin bin_op.Le I16 (convert I16 (rd 1 1)) (convert I16 (rd 2 6))) (int I16)
      ∷ gives (bin op.Eq (v (codes "i") 1) (v (codes "l") 6)) (core.bin bin_op.Eq I32 (convert I32 (rd 3 1)) (rd 5 6)) (int I16)
      ∷ gives (bin op.Eq (v (codes "p") 1) (v (codes "q") 6)) (core.bin bin_op.Eq U16 (convert U16 (rd 7 1)) (convert U16 (rd 8 6))) (int I16)
      ∷ gives (bin op.Ne (v (codes "p") 1) (s.null (at 6))) (core.bin bin_op.Ne U16 (convert U16 (rd 7 1)) (convert U16 core.null)) (int I16)
      ∷ gives (bin op.Eq (s.null (at 1)) (v (codes "p") 9)) (core.bin bin_op.Eq U16 (convert U16 core.null) (convert U16 (rd 7 9))) (int I16)
      ∷ [])
  -- c > u; i >= l; p > q; (c > u) >= i
  pub exchanged : AreWired (
      making (bin op.Gt (v (codes "c") 1) (v (codes "u") 5))
      (core.comma (core.assign (core.local 11) (convert U16 (rd 0 1)) (at 1)) (core.bin bin_op.Lt U16 (rd 4 5) (rd 11 1))) (int I16) (int U16 ∷ [])
      ∷ making (bin op.Ge (v (codes "i") 1) (v (codes "l") 6))
      (core.comma (core.assign (core.local 11) (convert I32 (rd 3 1)) (at 1)) (core.bin bin_op.Le I32 (rd 5 6) (rd 11 1))) (int I16) (int I32 ∷ [])
      ∷ making (bin op.Gt (v (codes "p") 1) (v (codes "q") 5))
      (core.comma (core.assign (core.local 11) (convert U16 (rd 7 1)) (at 1)) (core.bin bin_op.Lt U16 (convert U16 (rd 8 5)) (rd 11 1))) (int I16)
      (int U16 ∷ [])
      ∷ making (s.binary op.Ge (bin op.Gt (v (codes "c") 2) (v (codes "u") 6)) (v (codes "i") 12) (at 1))
      (core.comma
      (core.assign (core.local 12)
      (core.comma (core.assign (core.local 11) (convert U16 (rd 0 2)) (at 2)) (core.bin bin_op.Lt U16 (rd 4 6) (rd 11 2))) (at 1))
      (core.bin bin_op.Le I16 (rd 3 12) (rd 12 1))) (int I16) (int U16 ∷ int I16 ∷ [])
      ∷ [])
  -- p + a; a + p; p - a; p - u; p - q; p - NULL; r + i; r - r
  pub pointers : AreWired (
      gives (bin op.Add (v (codes "p") 1) (v (codes "a") 5)) (core.offset (rd 7 1) (rd 1 5) 2) (pointer (int I16))
      ∷ making (bin op.Add (v (codes "a") 1) (v (codes "p") 5))
      (core.comma (core.assign (core.local 11) (rd 1 1) (at 1)) (core.offset (rd 7 5) (rd 11 1) 2)) (pointer (int I16)) (int U8 ∷ [])
      ∷ gives (bin op.Sub (v (codes "p") 1) (v (codes "a") 5)) (core.offset (rd 7 1) (core.un un_op.Neg I16 (convert I16 (rd 1 5))) 2) (pointer (int I16))
      ∷ gives (bin op.Sub (v (codes "p") 1) (v (codes "u") 5)) (core.offset (rd 7 1) (core.un un_op.Neg U16 (rd 4 5)) 2) (pointer (int I16))
      ∷ gives (bin op.Sub (v (codes "p") 1) (v (codes "q") 5)) (core.distance (rd 7 1) (rd 8 5) 2) (int I16)
      ∷ gives (bin op.Sub (v (codes "p") 1) (s.null (at 5))) (core.distance (rd 7 1) core.null 2) (int I16)
      ∷ gives (bin op.Add (v (codes "r") 1) (v (codes "i") 5)) (core.offset (core.read (core.object 4) (at 1)) (rd 3 5) 8) (pointer (struct 0))
      ∷ gives (bin op.Sub (v (codes "r") 1) (v (codes "r") 5)) (core.distance (core.read (core.object 4) (at 1)) (core.read (core.object 4) (at 5)) 8) (int I16)
      ∷ [])
  -- a && p; i || c; a ? i : u; a ? p : NULL; a ? NULL : p; p ? nop() : nop(); a ? c : c; i, l; nop(), a
  pub choices : AreWired (
      gives (bin op.AndAnd (v (codes "a") 1) (v (codes "p") 6)) (core.both (rd 1 1) (rd 7 6)) (int I16)
      ∷ gives (bin op.OrOr (v (codes "i") 1) (v (codes "c") 6)) (core.either (rd 3 1) (rd 0 6)) (int I16)
      ∷ gives (choice (v (codes "a") 1) (v (codes "i") 5) (v (codes "u") 9)) (core.choice (rd 1 1) (convert U16 (rd 3 5)) (rd 4 9)) (int U16)
      ∷ gives (choice (v (codes "a") 1) (v (codes "p") 5) (s.null (at 9))) (core.choice (rd 1 1) (rd 7 5) core.null) (pointer (int I16))
      ∷ gives (choice (v (codes "a") 1) (s.null (at 5)) (v (codes "p") 12)) (core.choice (rd 1 1) core.null (rd 7 12)) (pointer (int I16))
      ∷ gives (choice (v (codes "p") 1) (fn (v (codes "nop") 5) []) (fn (v (codes "nop") 13) []))
      (core.choice (rd 7 1) (core.call 4 core.no_exprs (at 5)) (core.call 4 core.no_exprs (at 13))) void
      ∷ gives (choice (v (codes "a") 1) (v (codes "c") 5) (v (codes "c") 9)) (core.choice (rd 1 1) (convert I16 (rd 0 5)) (convert I16 (rd 0 9))) (int I16)
      ∷ gives (comma (v (codes "i") 1) (v (codes "l") 4)) (core.comma (rd 3 1) (rd 5 4)) (int I32)
      ∷ gives (comma (fn (v (codes "nop") 1) []) (v (codes "a") 8)) (core.comma (core.call 4 core.no_exprs (at 1)) (rd 1 8)) (int U8)
      ∷ [])
  -- (uint8_t)(a + b); (int)i; (int *)p; (int *)NULL; (enum E)l; (uint8_t)a
  pub casts : AreWired (
      gives (s.cast (spec (s.named (codes "uint8_t")) 0) (bin op.Add (v (codes "a") 11) (v (codes "b") 15)) (at 1))
      (convert U8 (core.bin bin_op.Add I16 (convert I16 (rd 1 11)) (convert I16 (rd 2 15)))) (int U8)
      ∷ gives (s.cast (spec (s.int I16) 0) (v (codes "i") 6) (at 1)) (rd 3 6) (int I16)
      ∷ gives (s.cast (spec (s.int I16) 1) (v (codes "p") 8) (at 1)) (rd 7 8) (pointer (int I16))
      ∷ gives (s.cast (spec (s.int I16) 1) (s.null (at 8)) (at 1)) core.null (pointer (int I16))
      ∷ gives (s.cast (spec (s.enum (Some (codes "E"))) 0) (v (codes "l") 9) (at 1)) (convert I16 (rd 5 9)) (int I16)
      ∷ gives (s.cast (spec (s.named (codes "uint8_t")) 0) (v (codes "a") 10) (at 1)) (rd 1 10) (int U8)
      ∷ [])
  -- fun(a, p); port_read(0x0130); port_write(0x0120, a); post tick()
  pub calls : AreWired (
      gives (fn (v (codes "fun") 1) (v (codes "a") 5 ∷ v (codes "p") 8 ∷ [])) (core.call 3 (core_exprs (convert I16 (rd 1 5) ∷ rd 7 8 ∷ [])) (at 1)) (int U8)
      ∷ gives (s.port_read (n (codes "0x0130") 11) (at 1)) (core.port_in 304) (int U16)
      ∷ gives (s.port_write (n (codes "0x0120") 12) (v (codes "a") 20) (at 1)) (core.port_out 288 (convert U16 (rd 1 20))) void
      ∷ gives (s.post (codes "tick") (at 1)) (core.post 2) (int U8)
      ∷ [])
  -- call I.go(a); call T.start(a); call P.go[i](a); signal I.done(); signal I.done(), call P.go[a](i), signal I.done()
  pub items : AreWired (
      gives (s.call_item false (codes "I") (codes "go") s.no_expr (s.more_exprs (v (codes "a") 11) s.no_exprs) (at 1))
      (core.call 9 (core_exprs (convert I16 (rd 1 11) ∷ [])) (at 1)) (int U8)
      ∷ gives (s.call_item false (codes "T") (codes "start") s.no_expr (s.more_exprs (v (codes "a") 14) s.no_exprs) (at 1))
      (core.call 12 (core_exprs (num U8 2 ∷ convert I16 (rd 1 14) ∷ [])) (at 1)) void
      ∷ gives (s.call_item false (codes "P") (codes "go") (s.some_expr (v (codes "i") 11)) (s.more_exprs (v (codes "a") 14) s.no_exprs) (at 1))
      (core.call 20 (core_exprs (convert U8 (rd 3 11) ∷ convert I16 (rd 1 14) ∷ [])) (at 1)) (int U8)
      ∷ gives (s.call_item true (codes "I") (codes "done") s.no_expr s.no_exprs (at 1)) (core.call 20 core.no_exprs (at 1)) void
      ∷ gives (comma (comma (s.call_item true (codes "I") (codes "done") s.no_expr s.no_exprs (at 1))
      (s.call_item false (codes "P") (codes "go") (s.some_expr (v (codes "a") 26)) (s.more_exprs (v (codes "i") 29) s.no_exprs) (at 16)))
      (s.call_item true (codes "I") (codes "done") s.no_expr s.no_exprs (at 33)))
      (core.comma (core.comma (core.call 20 core.no_exprs (at 1)) (core.call 21 (core_exprs (rd 1 26 ∷ rd 3 29 ∷ [])) (at 16)))
      (core.call 20 core.no_exprs (at 33))) void
      ∷ [])
