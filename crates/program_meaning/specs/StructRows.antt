-- A worked row: types that wires name by the numbers of structs as wires met them, worked out by hand.
use Rattle.std.specs.Prelude.{◌≡◌, ℕ, false, List, [], ◌∷◌, ◌++◌, map, codes, Some, None, Ok, Err}
use Rattle.nm_base.specs.declared.int_type.IntType.TheVariants.{I16, I32}
use Rattle.nm_base.specs.declared.pos.Pos.{Pos}
use Rattle.nesc_core.specs.Plain as core
use Rattle.nesc_core.specs.Plain.{Field, Program, Ty, int, pointer, struct}
use Rattle.nesc_tree.specs.Plain as s
use Rattle.nesc_tree.specs.declared.declarations.FuncKind.TheVariants as kind
use Rattle.nesc_types.specs.Rule.{Rule}
use Rattle.elab_meaning.specs.Scope.{Struct}
use Rattle.body_meaning.specs.Tree as tree
use Rattle.body_meaning.specs.Tree.{Decl, no_stmt, some_stmt}
use Rattle.program_meaning.specs.Parts.{Application, Instance, a_type}
use Rattle.program_meaning.specs.RowForms.{place, plain, simple, block, head, plain_head, instance}
use Rattle.program_meaning.specs.BuiltIn as built_in
use Rattle.program_meaning.specs.WiredRows.{application, uses_boot}
use Rattle.program_meaning.specs.Program.{wired}

abbrev pub in_header : (line col : ℕ) → Pos
in_header line col = place 6 line col

abbrev pub at : (line col : ℕ) → Pos
at line col = place 7 line col

abbrev pub one_field : s.TypeSpec → List ℕ → s.TypeSpec
one_field t name = plain (s.struct_of None (s.more_groups t (s.more_declarators 0 name s.no_exprs s.no_declarators) s.no_groups))

--     typedef struct { int a; } A;
--     void f() { struct { int b; } x; }
--     typedef struct { long c; } C;
abbrev pub headers : List Decl
headers =
    tree.typedef (codes "A") (one_field (plain (s.int I16)) (codes "a")) [] (in_header 1 27) ∷
    tree.function (plain_head (codes "f") (plain s.void) [] [] (in_header 2 6)) (some_stmt (block ((tree.local (tree.variables (one_field (plain (s.int I16)) (codes "b")) false (simple (codes "x") None (in_header 2 30) ∷ [])) (in_header 2 12)) ∷ []) (in_header 2 10))) ∷
    tree.typedef (codes "C") (one_field (plain (s.int I32)) (codes "c")) [] (in_header 3 28) ∷ []

--     event void Boot.booted() { }
abbrev pub booted : List Decl
booted = tree.function (head kind.Event (codes "Boot") (Some (codes "booted")) None false false (plain s.void) [] [] (at 3 14)) (some_stmt (block [] (at 3 28))) ∷ []

--     t kept;
abbrev pub keeping : List Decl
keeping = tree.variables (plain (s.named (codes "t"))) false (simple (codes "kept") None (place 8 3 5) ∷ []) ∷ []

abbrev pub field : List ℕ → Ty → Field
field name t = record { name = name; ty = t }

-- a configuration's `struct { C *d; }`: wires met A, C and it
abbrev pub met : Struct
met = record { fields = field (codes "d") (pointer (struct 1)) ∷ []; consts = false ∷ []; layout = record { size = 2; align = 2 } }

abbrev pub keeps : (copy number : ℕ) → Instance
keeps copy number = record (instance (codes "KeepC") [] keeping) {
  copy = Some copy;
  given = record { name = codes "t"; argument = a_type (struct number) false } ∷ [];
}

-- KeepC of C, and of the configuration's
abbrev pub given : Application
given = record (application (instance (codes "UserC") (uses_boot ∷ []) booted ∷ keeps 0 1 ∷ keeps 1 2 ∷ [])) {
  headers = built_in.prelude ++ headers;
  structs = met ∷ [];
}

abbrev pub Types : Type 0
Types = List Ty × List (List Field)

abbrev pub types_in : Program → Types
types_in p = (map (λ (o : core.Object). o.ty) p.objects, p.structs)

abbrev pub types_of : Rule Program → Rule Types
types_of (Ok p) = Ok (types_in p)
types_of (Err e) = Err e

-- the function's own struct stands between A and C
abbrev pub expected : Types
expected = (
  struct 2 ∷ struct 3 ∷ [],
  (field (codes "a") (int I16) ∷ [])
      ∷ (field (codes "b") (int I16) ∷ [])
      ∷ (field (codes "c") (int I32) ∷ [])
      ∷ (field (codes "d") (pointer (struct 2)) ∷ [])
      ∷ [],
)

pub record StructRows : Type 0 where
  pub given_structs : types_of (wired given) ≡ Ok expected
