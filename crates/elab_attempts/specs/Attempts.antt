-- Work that may be refused: what it gives, and what is in force behind it (own: a refusal comes later, and leaves what was in force).
use Rattle.std.specs.Prelude.{List, [], Option, Some, None, Ok, Err}
use Rattle.nm_base.specs.declared.pos.Pos.{Pos}
use Rattle.nesc_types.specs.Rule.{Rule}
use Rattle.elab_meaning.specs.Scope.{Env}
use Rattle.elab_meaning.specs.Elab.{State, Elab, give}
use Rattle.body_meaning.specs.Tree as tree
use Rattle.body_meaning.specs.Tree.{Decl}
use Rattle.body_meaning.specs.Stmts.{declaration}
use Rattle.nesc_unwired.specs.Calls.{declares, quietly}

abbrev pub unless_refused : {A : Type 0} → State → Rule (A × State) → Option A × State
unless_refused old (Ok x) = (Some x.0, x.1)
unless_refused old (Err e) = (None, old)

-- what work gives, or that it is refused, and the state behind it, which a refusal leaves alone
abbrev pub attempted : {A : Type 0} → Elab A → State → Option A × State
attempted work = λ x. unless_refused x (work x)

-- the name of a type, or a tag, in a block
abbrev pub type_in_force : Env → Pos → Decl → Elab (Unit {0})
type_in_force env at (tree.typedef name t attrs name_at) = declares name (declaration env [] at (tree.typedef name t attrs name_at))
type_in_force env at (tree.type_only t type_at) = quietly (declaration env [] at (tree.type_only t type_at))
type_in_force env at (tree.variables t norace vs) = give tt
type_in_force env at (tree.function head body) = give tt
