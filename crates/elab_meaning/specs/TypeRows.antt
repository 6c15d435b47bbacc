-- Worked rows of types and constants: the sizes and numbers of structs, enum constants, and their refusals (C99, 6.6 and 6.7; what C
-- leaves open is own); columns are those of the texts above the rows.
use Rattle.std.specs.Prelude.{◌≡◌, ℕ, pos, ◌-ℤ◌, Bool, true, false, List, [], ◌∷◌, codes, map, drop, Some, None, Ok, Err}
use Rattle.nm_base.specs.declared.int_type.IntType.{IntType}
use Rattle.nm_base.specs.declared.int_type.IntType.TheVariants.{I8, U8, I16, U16, I32}
use Rattle.nm_base.specs.declared.refusal.Refusal.{Refusal}
use Rattle.nm_base.specs.declared.refusal.Refusal.TheVariants.{BadType, NotConstant, UnknownName, DuplicateName}
use Rattle.nesc_core.specs.declared.layout.Layout.{Layout}
use Rattle.nesc_core.specs.Size.{layout}
use Rattle.nesc_core.specs.Plain.{Ty, Field, int, pointer, array, struct}
use Rattle.nesc_tree.specs.declared.tree.PreOp.TheVariants as pre_op
use Rattle.nesc_tree.specs.declared.tree.InOp.TheVariants as op
use Rattle.nesc_tree.specs.Plain as s
use Rattle.nesc_types.specs.Rule.{Rule, refuse}
use Rattle.nesc_types.specs.Values.{Constant}
use Rattle.elab_meaning.specs.Scope.{Entry, constant, Struct}
use Rattle.elab_meaning.specs.Elab.{State}
use Rattle.elab_meaning.specs.Wired.{whole_constant, type_of}
use Rattle.elab_meaning.specs.RowForms.{at, n, v, bin, pre, choice, comma, at_index, spec, exprs, world, values, start, entry, field, structs}

-- ---- constants

abbrev pub constant_of : Rule (Constant × State) → Rule Constant
constant_of (Ok x) = Ok x.0
constant_of (Err e) = Err e

pub record Number : Type 0 where
  pub expr : s.Expr
  pub gives : Rule Constant

abbrev pub is : s.Expr → IntType → ℕ → Number
is e t x = record { expr = e; gives = Ok (t, pos x) }

abbrev pub is_minus : s.Expr → IntType → ℕ → Number
is_minus e t x = record { expr = e; gives = Ok (t, pos 0 -ℤ pos x) }

abbrev pub is_none : s.Expr → Refusal → Number
is_none e r = record { expr = e; gives = refuse r }

abbrev pub AreNumbers : List Number → Type 0
AreNumbers rows = map (λ (r : Number). constant_of (whole_constant world values r.expr start)) rows ≡ map (λ (r : Number). r.gives) rows

-- ---- types: the type, and the structs and names that it declares

pub record Declared : Type 0 where
  pub ty : Ty
  pub structs : List Struct
  pub names : List Entry

abbrev pub declared_by : Rule (Ty × State) → Rule Declared
declared_by (Ok x) = Ok (record { ty = x.0; structs = drop 2 x.1.structs; names = drop 26 x.1.names })
declared_by (Err e) = Err e

pub record TypeRow : Type 0 where
  pub spec : s.TypeSpec
  pub gives : Rule Declared

abbrev pub declares : s.TypeSpec → Ty → List Struct → List Entry → TypeRow
declares t u structs names = record { spec = t; gives = Ok (record { ty = u; structs = structs; names = names }) }

abbrev pub is_type : s.TypeSpec → Ty → TypeRow
is_type t u = declares t u [] []

abbrev pub no_type : s.TypeSpec → Refusal → TypeRow
no_type t r = record { spec = t; gives = refuse r }

abbrev pub AreTypes : List TypeRow → Type 0
AreTypes rows = map (λ (r : TypeRow). declared_by (type_of world values (at 1) r.spec start)) rows ≡ map (λ (r : TypeRow). r.gives) rows

-- ---- short forms

-- one field, with stars and lengths
abbrev pub one : s.Base → (stars : ℕ) → List ℕ → List s.Expr → s.Groups → s.Groups
one base stars name dims rest = s.more_groups (spec base 0) (s.more_declarators stars name (exprs dims) s.no_declarators) rest

abbrev pub int_field : List ℕ → s.Groups → s.Groups
int_field name rest = one (s.int I16) 0 name [] rest

abbrev pub tagged : List ℕ → s.Base
tagged name = s.struct (Some name)

abbrev pub with_dims : s.Base → List s.Expr → s.TypeSpec
with_dims base dims = s.type_spec base 0 (exprs dims) false

abbrev pub made : List Field → List Bool → Layout → Struct
made fields consts l = record { fields = fields; consts = consts; layout = l }

abbrev pub item : List ℕ → (col : ℕ) → s.Items → s.Items
item name col rest = s.more_items name s.no_expr (at col) rest

abbrev pub item_at : List ℕ → s.Expr → (col : ℕ) → s.Items → s.Items
item_at name e col rest = s.more_items name (s.some_expr e) (at col) rest

abbrev pub enum_of : s.Items → s.TypeSpec
enum_of items = spec (s.enum_of None items) 0

abbrev pub struct_of : s.Groups → s.TypeSpec
struct_of groups = spec (s.struct_of None groups) 0

pub record TypeRows : Type 0 where
  -- ONE + 1; -ONE; 'a' ? 1 : 70000; unique("s"); uniqueCount("s"); sizeof(int) * 3; sizeof v / sizeof v[0]; (uint8_t)300; (enum E)70000; 0 && 1 / 0;
  -- sizeof (a > b) + 1
  pub constants : AreNumbers (
      is (bin op.Add (v (codes "ONE") 1) (n (codes "1") 7)) I16 2
      ∷ is_minus (pre pre_op.Neg (v (codes "ONE") 2) 1) I16 1
      ∷ is (choice (s.char (codes "'a'") (at 1)) (n (codes "1") 7) (n (codes "70000") 11)) I32 1
      ∷ is (s.unique (codes "\"s\"") (at 1)) I16 3
      ∷ is (s.unique_count (codes "\"s\"") (at 1)) I16 7
      ∷ is (bin op.Mul (s.size_of_type (spec (s.int I16) 0) (at 1)) (n (codes "3") 15)) U16 6
      ∷ is (bin op.Div (s.size_of_expr (v (codes "v") 8) (at 1)) (s.size_of_expr (at_index (v (codes "v") 19) (n (codes "0") 21)) (at 12))) U16 4
      ∷ is (s.cast (spec (s.named (codes "uint8_t")) 0) (n (codes "300") 10) (at 1)) U8 44
      ∷ is (s.cast (spec (s.enum (Some (codes "E"))) 0) (n (codes "70000") 9) (at 1)) I16 4464
      ∷ is (bin op.AndAnd (n (codes "0") 1) (bin op.Div (n (codes "1") 6) (n (codes "0") 10))) I16 0
      ∷ is (bin op.Add (s.size_of_expr (bin op.Gt (v (codes "a") 9) (v (codes "b") 13)) (at 1)) (n (codes "1") 18)) U16 3
      ∷ [])
  -- 1 + a; 1 + z; 1 / 0; 1 + fun; ++a; v[0]; (1, 2); 1 || z; (int *)1; (z_t)1; 1 + sizeof z; 1 + sizeof(void); 1 + NULL
  pub no_constants : AreNumbers (
      is_none (bin op.Add (n (codes "1") 1) (v (codes "a") 5)) (NotConstant (at 1))
      ∷ is_none (bin op.Add (n (codes "1") 1) (v (codes "z") 5)) (UnknownName (at 5))
      ∷ is_none (bin op.Div (n (codes "1") 1) (n (codes "0") 5)) (NotConstant (at 1))
      ∷ is_none (bin op.Add (n (codes "1") 1) (v (codes "fun") 5)) (NotConstant (at 1))
      ∷ is_none (pre pre_op.Inc (v (codes "a") 3) 1) (NotConstant (at 1))
      ∷ is_none (at_index (v (codes "v") 1) (n (codes "0") 3)) (NotConstant (at 1))
      ∷ is_none (comma (n (codes "1") 2) (n (codes "2") 5)) (NotConstant (at 2))
      ∷ is_none (bin op.OrOr (n (codes "1") 1) (v (codes "z") 6)) (UnknownName (at 6))
      ∷ is_none (s.cast (spec (s.int I16) 1) (n (codes "1") 8) (at 1)) (BadType (at 8))
      ∷ is_none (s.cast (spec (s.named (codes "z_t")) 0) (n (codes "1") 6) (at 1)) (UnknownName (at 1))
      ∷ is_none (bin op.Add (n (codes "1") 1) (s.size_of_expr (v (codes "z") 12) (at 5))) (UnknownName (at 12))
      ∷ is_none (bin op.Add (n (codes "1") 1) (s.size_of_type (spec s.void 0) (at 5))) (BadType (at 5))
      ∷ is_none (bin op.Add (n (codes "1") 1) (s.null (at 5))) (NotConstant (at 1))
      ∷ [])
  -- uint8_t; struct S *; enum E; int[2][3]; int[0]; struct F[70000]
  pub types : AreTypes (
      is_type (spec (s.named (codes "uint8_t")) 0) (int U8)
      ∷ is_type (spec (tagged (codes "S")) 1) (pointer (struct 0))
      ∷ is_type (spec (s.enum (Some (codes "E"))) 0) (int I16)
      ∷ is_type (with_dims (s.int I16) (n (codes "2") 5 ∷ n (codes "3") 8 ∷ [])) (array (array (int I16) 3) 2)
      ∷ is_type (with_dims (s.int I16) (n (codes "0") 5 ∷ [])) (array (int I16) 0)
      ∷ is_type (with_dims (tagged (codes "F")) (n (codes "70000") 10 ∷ [])) (array (struct 1) 70000)
      ∷ [])
  -- int[16384]; int[-1]; int[z]; int[a]; void *; struct F *; z_t; struct Z; int[-1][z]
  pub bad_types : AreTypes (
      no_type (with_dims (s.int I16) (n (codes "16384") 5 ∷ [])) (BadType (at 1))
      ∷ no_type (with_dims (s.int I16) (pre pre_op.Neg (n (codes "1") 6) 5 ∷ [])) (NotConstant (at 5))
      ∷ no_type (with_dims (s.int I16) (v (codes "z") 5 ∷ [])) (UnknownName (at 5))
      ∷ no_type (with_dims (s.int I16) (v (codes "a") 5 ∷ [])) (NotConstant (at 5))
      ∷ no_type (spec s.void 1) (BadType (at 1))
      ∷ no_type (spec (tagged (codes "F")) 1) (BadType (at 1))
      ∷ no_type (spec (s.named (codes "z_t")) 0) (UnknownName (at 1))
      ∷ no_type (spec (tagged (codes "Z")) 0) (UnknownName (at 1))
      ∷ no_type (with_dims (s.int I16) (pre pre_op.Neg (n (codes "1") 6) 5 ∷ v (codes "z") 9 ∷ [])) (NotConstant (at 5))
      ∷ [])
  -- struct { char y; long z; }; struct {}; struct G { struct G *next; }; struct H { struct { struct H *up; } d; int y; }: the inner one ends first;
  -- struct { fixed_t y; char z[sizeof(struct { int a; })]; }
  pub structs_made : AreTypes (
      declares (struct_of (one (s.int I8) 0 (codes "y") [] (one (s.int I32) 0 (codes "z") [] s.no_groups))) (struct 2)
      (made (field (codes "y") (int I8) ∷ field (codes "z") (int I32) ∷ []) (false ∷ false ∷ []) (layout 6 2) ∷ []) []
      ∷ declares (struct_of s.no_groups) (struct 2) (made [] [] (layout 0 1) ∷ []) []
      ∷ declares (spec (s.struct_of (Some (codes "G")) (one (tagged (codes "G")) 1 (codes "next") [] s.no_groups)) 0) (struct 2)
      (made (field (codes "next") (pointer (struct 2)) ∷ []) (false ∷ []) (layout 2 2) ∷ []) []
      ∷ declares (spec (s.struct_of (Some (codes "H")) (one (s.struct_of None (one (tagged (codes "H")) 1 (codes "up") [] s.no_groups)) 0 (codes "d") []
      (int_field (codes "y") s.no_groups))) 0) (struct 3)
      (made (field (codes "up") (pointer (struct 3)) ∷ []) (false ∷ []) (layout 2 2)
      ∷ made (field (codes "d") (struct 2) ∷ field (codes "y") (int I16) ∷ []) (false ∷ false ∷ []) (layout 4 2) ∷ []) []
      ∷ declares (struct_of (one (s.named (codes "fixed_t")) 0 (codes "y") []
      (one (s.int I8) 0 (codes "z") (s.size_of_type (struct_of (int_field (codes "a") s.no_groups)) (at 27) ∷ []) s.no_groups))) (struct 3)
      (made (field (codes "a") (int I16) ∷ []) (false ∷ []) (layout 2 2)
      ∷ made (field (codes "y") (int I16) ∷ field (codes "z") (array (int I8) 2) ∷ []) (true ∷ false ∷ []) (layout 4 2) ∷ []) []
      ∷ [])
  -- struct { int y; int y; }; struct F { .. } where F is declared in this scope; struct G { struct G g; }; struct S { .. } hides; struct G { struct G *p[0]; };
  -- struct { char y[32767]; char z; }; struct { void y; }; struct G { struct { struct G *p; } d[0]; }
  pub bad_structs : AreTypes (
      no_type (struct_of (int_field (codes "y") (int_field (codes "y") s.no_groups))) (DuplicateName (at 1))
      ∷ no_type (spec (s.struct_of (Some (codes "F")) (int_field (codes "y") s.no_groups)) 0) (DuplicateName (at 1))
      ∷ no_type (spec (s.struct_of (Some (codes "G")) (one (tagged (codes "G")) 0 (codes "g") [] s.no_groups)) 0) (UnknownName (at 1))
      ∷ declares (spec (s.struct_of (Some (codes "S")) (int_field (codes "y") s.no_groups)) 0) (struct 2)
      (made (field (codes "y") (int I16) ∷ []) (false ∷ []) (layout 2 2) ∷ []) []
      ∷ no_type (spec (s.struct_of (Some (codes "G")) (one (tagged (codes "G")) 1 (codes "p") (n (codes "0") 24 ∷ []) s.no_groups)) 0) (BadType (at 1))
      ∷ no_type (struct_of (one (s.int I8) 0 (codes "y") (n (codes "32767") 17 ∷ []) (one (s.int I8) 0 (codes "z") [] s.no_groups))) (BadType (at 1))
      ∷ no_type (struct_of (one s.void 0 (codes "y") [] s.no_groups)) (BadType (at 1))
      ∷ no_type (spec (s.struct_of (Some (codes "G"))
      (one (s.struct_of None (one (tagged (codes "G")) 1 (codes "p") [] s.no_groups)) 0 (codes "d") (n (codes "0") 36 ∷ []) s.no_groups)) 0) (BadType (at 1))
      ∷ [])
  -- enum { A, B = 40000, C, D = -32769 }; enum { A, B = A + 1 }; enum E { }: E is of an outer scope
  pub enums : AreTypes (
      declares (enum_of (item (codes "A") 8 (item_at (codes "B") (n (codes "40000") 15) 11 (item (codes "C") 22
      (item_at (codes "D") (pre pre_op.Neg (n (codes "32769") 30) 29) 25 s.no_items))))) (int I16) []
      (entry (codes "A") (constant I16 (pos 0)) ∷ entry (codes "B") (constant U16 (pos 40000)) ∷ entry (codes "C") (constant U16 (pos 40001))
      ∷ entry (codes "D") (constant I32 (pos 0 -ℤ pos 32769)) ∷ [])
      ∷ declares (enum_of (item (codes "A") 8 (item_at (codes "B") (bin op.Add (v (codes "A") 15) (n (codes "1") 19)) 11 s.no_items))) (int I16) []
      (entry (codes "A") (constant I16 (pos 0)) ∷ entry (codes "B") (constant I16 (pos 1)) ∷ [])
      ∷ is_type (spec (s.enum_of (Some (codes "E")) s.no_items) 0) (int I16)
      ∷ [])
  -- enum { A, A }; enum { w }, where w is declared in this scope; enum { A = z }; enum { A = 4294967295u, B }; enum F { A }; enum { A = a }
  pub bad_enums : AreTypes (
      no_type (enum_of (item (codes "A") 8 (item (codes "A") 11 s.no_items))) (DuplicateName (at 11))
      ∷ no_type (enum_of (item (codes "w") 8 s.no_items)) (DuplicateName (at 8))
      ∷ no_type (enum_of (item_at (codes "A") (v (codes "z") 12) 8 s.no_items)) (UnknownName (at 12))
      ∷ no_type (enum_of (item_at (codes "A") (n (codes "4294967295u") 12) 8 (item (codes "B") 25 s.no_items))) (BadType (at 25))
      ∷ no_type (spec (s.enum_of (Some (codes "F")) (item (codes "A") 10 s.no_items)) 0) (DuplicateName (at 1))
      ∷ no_type (enum_of (item_at (codes "A") (v (codes "a") 12) 8 s.no_items)) (NotConstant (at 12))
      ∷ [])
