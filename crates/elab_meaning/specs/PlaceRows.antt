-- Worked rows of places, addresses and assignments, written from the C standard and the order of evaluation; columns are those of the
-- texts above the rows.
use Rattle.std.specs.Prelude.{ℕ, true, false, [], ◌∷◌, codes}
use Rattle.nm_base.specs.declared.int_type.IntType.TheVariants.{I8, U8, I16, U16, I32, U32}
use Rattle.nesc_core.specs.Plain as core
use Rattle.nesc_core.specs.Plain.{Expr, Place, convert, void, int, pointer, array, struct}
use Rattle.nesc_core.specs.declared.tree.BinOp.TheVariants as bin_op
use Rattle.nesc_tree.specs.declared.tree.PreOp.TheVariants as pre_op
use Rattle.nesc_tree.specs.declared.tree.PostOp.TheVariants as post_op
use Rattle.nesc_tree.specs.declared.tree.InOp.TheVariants as op
use Rattle.nesc_tree.specs.Plain as s
use Rattle.elab_meaning.specs.RowForms.{at, n, v, bin, pre, post, set, update, at_index, dot, arrow, num, rd, AreWired, gives, making, taking}

-- what the pointers p and r point to, each read at a column
abbrev pub behind_p : ℕ → Place
behind_p col = core.deref (rd 7 col) (int I16)

abbrev pub behind_r : ℕ → Place
behind_r col = core.deref (core.read (core.object 4) (at col)) (struct 0)

abbrev pub elem : Place → ℕ → Place
elem p i = core.index p (num I16 i)

-- fields of struct 0
abbrev pub f : Place → Place
f p = core.field p 0

abbrev pub e : Place → Place
e p = core.field p 1

abbrev pub d : Place → Place
d p = core.field p 2

-- one part of a copy, of which the left side stands at one column and the right side at another
abbrev pub copy : Place → Place → (col col_value : ℕ) → Expr
copy p q col col_value = core.assign p (core.read q (at col_value)) (at col)

-- one part behind the others
abbrev pub then : Expr → Expr → Expr
then a b = core.comma a b

-- the four parts of struct 0, copied behind what came before
abbrev pub copied_behind : Expr → Place → Place → (col col_value : ℕ) → Expr
copied_behind before p q col col_value =
    then (then (then (then before (copy (f p) (f q) col col_value)) (copy (elem (e p) 0) (elem (e q) 0) col col_value))
    (copy (elem (e p) 1) (elem (e q) 1) col col_value)) (copy (d p) (d q) col col_value)

abbrev pub copied : Place → Place → (col col_value : ℕ) → Expr
copied p q col col_value =
    then (then (then (copy (f p) (f q) col col_value) (copy (elem (e p) 0) (elem (e q) 0) col col_value))
    (copy (elem (e p) 1) (elem (e q) 1) col col_value)) (copy (d p) (d q) col col_value)

pub record PlaceRows : Type 0 where
  -- a; x; k
  pub variables : AreWired (
      gives (v (codes "a") 1) (rd 1 1) (int U8)
      ∷ gives (v (codes "x") 1) (core.read (core.object 0) (at 1)) (int U16)
      ∷ gives (v (codes "k") 1) (rd 9 1) (int I16)
      ∷ [])
  -- v; g; g[1]; s.e; v + 1; *v
  pub arrays : AreWired (
      taking (v (codes "v") 1) (core.addr (elem (core.object 1) 0)) (pointer (int I16)) (1 ∷ [])
      ∷ taking (v (codes "g") 1) (core.addr (elem (core.object 6) 0)) (pointer (array (int U8) 3)) (6 ∷ [])
      ∷ taking (at_index (v (codes "g") 1) (n (codes "1") 3)) (core.addr (elem (elem (core.object 6) 1) 0)) (pointer (int U8)) (6 ∷ [])
      ∷ taking (dot (v (codes "s") 1) (codes "e")) (core.addr (elem (e (core.object 2)) 0)) (pointer (int I16)) (2 ∷ [])
      ∷ taking (bin op.Add (v (codes "v") 1) (n (codes "1") 5)) (core.offset (core.addr (elem (core.object 1) 0)) (num I16 1) 2) (pointer (int I16)) (1 ∷ [])
      ∷ taking (pre pre_op.Deref (v (codes "v") 2) 1) (core.read (core.deref (core.addr (elem (core.object 1) 0)) (int I16)) (at 1)) (int I16) (1 ∷ [])
      ∷ [])
  -- &x; &v[i]; &v; &s.e[1]; &*p; &r->f; &p[2]
  pub addresses : AreWired (
      taking (pre pre_op.Addr (v (codes "x") 2) 1) (core.addr (core.object 0)) (pointer (int U16)) (0 ∷ [])
      ∷ taking (pre pre_op.Addr (at_index (v (codes "v") 2) (v (codes "i") 4)) 1) (core.addr (core.index (core.object 1) (rd 3 4))) (pointer (int I16)) (1 ∷ [])
      ∷ taking (pre pre_op.Addr (v (codes "v") 2) 1) (core.addr (core.object 1)) (pointer (array (int I16) 4)) (1 ∷ [])
      ∷ taking (pre pre_op.Addr (at_index (dot (v (codes "s") 2) (codes "e")) (n (codes "1") 6)) 1) (core.addr (elem (e (core.object 2)) 1))
      (pointer (int I16)) (2 ∷ [])
      ∷ gives (pre pre_op.Addr (pre pre_op.Deref (v (codes "p") 3) 2) 1) (core.addr (behind_p 3)) (pointer (int I16))
      ∷ gives (pre pre_op.Addr (arrow (v (codes "r") 2) (codes "f")) 1) (core.addr (f (behind_r 2))) (pointer (int U8))
      ∷ gives (pre pre_op.Addr (at_index (v (codes "p") 2) (n (codes "2") 4)) 1) (core.addr (core.deref (core.offset (rd 7 2) (num I16 2) 2) (int I16)))
      (pointer (int I16))
      ∷ [])
  -- *p; r->f; r->e[i]; s.f; h[i].f; v[i]; p[c]; w[0]; g[1][2]; v[v[i]]
  pub elements : AreWired (
      gives (pre pre_op.Deref (v (codes "p") 2) 1) (core.read (behind_p 2) (at 1)) (int I16)
      ∷ gives (arrow (v (codes "r") 1) (codes "f")) (core.read (f (behind_r 1)) (at 1)) (int U8)
      ∷ gives (at_index (arrow (v (codes "r") 1) (codes "e")) (v (codes "i") 6)) (core.read (core.index (e (behind_r 1)) (rd 3 6)) (at 1)) (int I16)
      ∷ gives (dot (v (codes "s") 1) (codes "f")) (core.read (f (core.object 2)) (at 1)) (int U8)
      ∷ gives (dot (at_index (v (codes "h") 1) (v (codes "i") 3)) (codes "f")) (core.read (f (core.index (core.object 5) (rd 3 3))) (at 1)) (int U8)
      ∷ gives (at_index (v (codes "v") 1) (v (codes "i") 3)) (core.read (core.index (core.object 1) (rd 3 3)) (at 1)) (int I16)
      ∷ gives (at_index (v (codes "p") 1) (v (codes "c") 3)) (core.read (core.deref (core.offset (rd 7 1) (rd 0 3) 2) (int I16)) (at 1)) (int I16)
      ∷ gives (at_index (v (codes "w") 1) (n (codes "0") 3)) (core.read (elem (core.local 10) 0) (at 1)) (int I16)
      ∷ gives (at_index (at_index (v (codes "g") 1) (n (codes "1") 3)) (n (codes "2") 6)) (core.read (elem (elem (core.object 6) 1) 2) (at 1)) (int U8)
      ∷ gives (at_index (v (codes "v") 1) (at_index (v (codes "v") 3) (v (codes "i") 5)))
      (core.read (core.index (core.object 1) (core.read (core.index (core.object 1) (rd 3 5)) (at 3))) (at 1)) (int I16)
      ∷ [])
  -- a = i; p = NULL; p = v; x = 5; i = c = u; v[i] = a; *p = 1; r->f = 300
  pub assignments : AreWired (
      gives (set (v (codes "a") 1) (v (codes "i") 5)) (core.assign (core.local 1) (convert U8 (rd 3 5)) (at 1)) (int U8)
      ∷ gives (set (v (codes "p") 1) (s.null (at 5))) (core.assign (core.local 7) core.null (at 1)) (pointer (int I16))
      ∷ taking (set (v (codes "p") 1) (v (codes "v") 5)) (core.assign (core.local 7) (core.addr (elem (core.object 1) 0)) (at 1)) (pointer (int I16)) (1 ∷ [])
      ∷ gives (set (v (codes "x") 1) (n (codes "5") 5)) (core.assign (core.object 0) (convert U16 (num I16 5)) (at 1)) (int U16)
      ∷ gives (set (v (codes "i") 1) (set (v (codes "c") 5) (v (codes "u") 9)))
      (core.assign (core.local 3) (convert I16 (core.assign (core.local 0) (convert I8 (rd 4 9)) (at 5))) (at 1)) (int I16)
      ∷ gives (set (at_index (v (codes "v") 1) (v (codes "i") 3)) (v (codes "a") 8)) (core.assign (core.index (core.object 1) (rd 3 3)) (convert I16 (rd 1 8)) (at 1))
      (int I16)
      ∷ gives (set (pre pre_op.Deref (v (codes "p") 2) 1) (n (codes "1") 6)) (core.assign (behind_p 2) (num I16 1) (at 1)) (int I16)
      ∷ gives (set (arrow (v (codes "r") 1) (codes "f")) (n (codes "300") 8)) (core.assign (f (behind_r 1)) (convert U8 (num I16 300)) (at 1)) (int U8)
      ∷ [])
  -- a += i; c *= m; u <<= l; a >>= c; p += a; p -= 1; l %= c; r += 2
  pub updates : AreWired (
      gives (update op.Add (v (codes "a") 1) (v (codes "i") 6)) (core.update (core.local 1) bin_op.Add I16 (rd 3 6) false (at 1)) (int U8)
      ∷ gives (update op.Mul (v (codes "c") 1) (v (codes "m") 6)) (core.update (core.local 0) bin_op.Mul U32 (rd 6 6) false (at 1)) (int I8)
      ∷ gives (update op.Shl (v (codes "u") 1) (v (codes "l") 7)) (core.update (core.local 4) bin_op.Shl U16 (rd 5 7) false (at 1)) (int U16)
      ∷ gives (update op.Shr (v (codes "a") 1) (v (codes "c") 7)) (core.update (core.local 1) bin_op.Shr I16 (convert I16 (rd 0 7)) false (at 1)) (int U8)
      ∷ gives (update op.Add (v (codes "p") 1) (v (codes "a") 6))
      (core.update (core.local 7) bin_op.Add U16 (core.bin bin_op.Mul U16 (convert U16 (rd 1 6)) (num U16 2)) false (at 1)) (pointer (int I16))
      ∷ gives (update op.Sub (v (codes "p") 1) (n (codes "1") 6))
      (core.update (core.local 7) bin_op.Sub U16 (core.bin bin_op.Mul U16 (convert U16 (num I16 1)) (num U16 2)) false (at 1)) (pointer (int I16))
      ∷ gives (update op.Rem (v (codes "l") 1) (v (codes "c") 6)) (core.update (core.local 5) bin_op.Rem I32 (convert I32 (rd 0 6)) false (at 1)) (int I32)
      ∷ gives (update op.Add (v (codes "r") 1) (n (codes "2") 6))
      (core.update (core.object 4) bin_op.Add U16 (core.bin bin_op.Mul U16 (convert U16 (num I16 2)) (num U16 8)) false (at 1)) (pointer (struct 0))
      ∷ [])
  -- a++; --l; p++; ++v[i]; m--
  pub steps : AreWired (
      gives (post post_op.Inc (v (codes "a") 1)) (core.update (core.local 1) bin_op.Add I16 (num I16 1) true (at 1)) (int U8)
      ∷ gives (pre pre_op.Dec (v (codes "l") 3) 1) (core.update (core.local 5) bin_op.Sub I32 (convert I32 (num I16 1)) false (at 1)) (int I32)
      ∷ gives (post post_op.Inc (v (codes "p") 1))
      (core.update (core.local 7) bin_op.Add U16 (core.bin bin_op.Mul U16 (convert U16 (num I16 1)) (num U16 2)) true (at 1)) (pointer (int I16))
      ∷ gives (pre pre_op.Inc (at_index (v (codes "v") 3) (v (codes "i") 5)) 1)
      (core.update (core.index (core.object 1) (rd 3 5)) bin_op.Add I16 (num I16 1) false (at 1)) (int I16)
      ∷ gives (post post_op.Dec (v (codes "m") 1)) (core.update (core.local 6) bin_op.Sub U32 (convert U32 (num I16 1)) true (at 1)) (int U32)
      ∷ [])
  -- s = t; o = o; h[i] = *r: index and pointer first go to locals
  pub structs : AreWired (
      gives (set (v (codes "s") 1) (v (codes "t") 5)) (copied (core.object 2) (core.object 3) 1 5) (struct 0)
      ∷ gives (set (v (codes "o") 1) (v (codes "o") 5)) (num I16 0) (struct 1)
      ∷ making (set (at_index (v (codes "h") 1) (v (codes "i") 3)) (pre pre_op.Deref (v (codes "r") 9) 8))
      (copied_behind
      (then (core.assign (core.local 11) (rd 3 3) (at 1)) (core.assign (core.local 12) (core.read (core.object 4) (at 9)) (at 8)))
      (core.index (core.object 5) (rd 11 1)) (core.deref (rd 12 8) (struct 0)) 1 8)
      (struct 0) (int I16 ∷ pointer (struct 0) ∷ [])
      ∷ [])
  -- s = t = *r; h[a] = h[b] = s: what was stored to first is not evaluated again
  pub chains : AreWired (
      making (set (v (codes "s") 1) (set (v (codes "t") 5) (pre pre_op.Deref (v (codes "r") 10) 9)))
      (copied_behind
      (copied_behind (core.assign (core.local 11) (core.read (core.object 4) (at 10)) (at 9)) (core.object 3) (core.deref (rd 11 9) (struct 0)) 5 9)
      (core.object 2) (core.object 3) 1 5)
      (struct 0) (pointer (struct 0) ∷ [])
      ∷ making (set (at_index (v (codes "h") 1) (v (codes "a") 3)) (set (at_index (v (codes "h") 8) (v (codes "b") 10)) (v (codes "s") 15)))
      (copied_behind
      (then
      (copied_behind (core.assign (core.local 11) (rd 2 10) (at 8)) (core.index (core.object 5) (rd 11 8)) (core.object 2) 8 15)
      (core.assign (core.local 12) (rd 1 3) (at 1)))
      (core.index (core.object 5) (rd 12 1)) (core.index (core.object 5) (rd 11 8)) 1 8)
      (struct 0) (int U8 ∷ int U8 ∷ [])
      ∷ [])
