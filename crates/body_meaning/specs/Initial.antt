-- What initialisers stand for (C99, 6.7.8; own: no braces are left out, and a value need not be constant).
use Rattle.std.specs.Prelude.{ℕ, zero, suc, nat_lt, if◌then◌else◌, List, [], ◌∷◌, ◌++◌, slice_get, Option, Some, None}
use Rattle.std.specs.Option.{option_map, option_and_then}
use Rattle.nm_base.specs.declared.pos.Pos.{Pos}
use Rattle.nm_base.specs.declared.int_type.IntType.{IntType}
use Rattle.nm_base.specs.declared.int_type.IntType.TheVariants.{I16}
use Rattle.nm_base.specs.declared.refusal.Refusal.TheVariants.{BadType}
use Rattle.nesc_core.specs.Plain as core
use Rattle.nesc_core.specs.Plain.{Ty, Place, void, int, pointer, array, struct, Expr, Field}
use Rattle.nesc_types.specs.Constant.{pos_of}
use Rattle.nesc_types.specs.Rule.{or_refuse}
use Rattle.nesc_types.specs.Values.{Constant}
use Rattle.elab_meaning.specs.Scope.{Env, Struct}
use Rattle.elab_meaning.specs.Elab.{Elab, by, ◌>>=◌, ◌>>◌, give, state}
use Rattle.elab_meaning.specs.Convert.{Found, a_place, a_value, a_copy, Target, target}
use Rattle.elab_meaning.specs.Places.{stored, element_number}
use Rattle.elab_meaning.specs.Wired.{found}
use Rattle.body_meaning.specs.Tree.{Init, Inits, one, many, no_inits, more_inits}

-- the initialiser of a part stands at its expression, one in braces at what it is for
abbrev pub init_pos : Pos → Init → Pos
init_pos at (one e) = pos_of e
init_pos at (many is) = at

abbrev pub element_part : Target → Ty → (n k : ℕ) → Option Target
element_part p t n k = if nat_lt k n then Some (target (element_number p.place k) (I16 ∷ p.indexes) t) else None

abbrev pub field_part : Target → (k : ℕ) → Field → Target
field_part p k f = target (core.field p.place k) p.indexes f.ty

abbrev pub field_part_of : Target → (k : ℕ) → Struct → Option Target
field_part_of p k s = option_map (field_part p k) (slice_get s.fields k)

abbrev pub itself : Target → (k : ℕ) → Option Target
itself p zero = Some p
itself p (suc k) = None

-- the part that the k-th initialiser in braces is for: an element, a field, or the number or pointer itself
abbrev pub part_of : List Struct → Target → (k : ℕ) → Ty → Option Target
part_of structs p k void = None
part_of structs p k (int t) = itself p k
part_of structs p k (pointer t) = itself p k
part_of structs p k (array t n) = element_part p t n k
part_of structs p k (struct j) = option_and_then (field_part_of p k) (slice_get structs j)

-- what is done, part by part
abbrev pub steps_of : Found → List Expr
steps_of (a_place p types t is_const) = []
steps_of (a_value v) = v.expr ∷ []
steps_of (a_copy steps p k) = steps

module _ (env : Env) (values : List (Option Constant)) where
  abbrev mutual
    -- the assignments that give a place its initial value, at the variable's name
    pub initial : Pos → Target → Init → Elab (List Expr)
    initial at p (one e) = do
      f ← found env values e
      g ← stored None at (pos_of e) p f
      give (steps_of g)
    initial at p (many is) = initials at p 0 is

    pub initials : Pos → Target → (k : ℕ) → Inits → Elab (List Expr)
    initials at p k no_inits = give []
    initials at p k (more_inits i rest) = do
      s ← state
      q ← by (or_refuse (BadType (init_pos at i)) (part_of s.structs p k p.ty))
      xs ← initial at q i
      ys ← initials at p (suc k) rest
      give (xs ++ ys)
