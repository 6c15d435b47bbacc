-- What a frozen place and what was done before it are to the definition, and what is left to do behind them (own).
use Rattle.std.specs.Prelude.{ℕ, ◌++◌, List, map}
use Rattle.nm_base.specs.declared.pos.Pos.{Pos}
use Rattle.nm_base.specs.declared.int_type.IntType.{IntType}
use Rattle.nesc_core.specs.Plain as core
use Rattle.nesc_core.specs.Plain.{Expr, Place}
use Rattle.nesc_core.specs.View.{expr_of}
use Rattle.nesc_core.specs.declared.tree.CoreExpr.{CoreExpr}
use Rattle.elab_meaning.specs.Convert.{Found, a_copy}
use Rattle.elab_meaning.specs.Elab.{Elab, ◌>>=◌, give, state}
use Rattle.elab_meaning.specs.Places.{Frozen, frozen, copies}
use Rattle.elab_meaning.specs.View.{frozen_place_of}
use Rattle.elab_meaning.specs.declared.found.FrozenPlace.{FrozenPlace}

-- a value in a local, behind what was done
abbrev pub kept_in : List CoreExpr → ℕ → Frozen
kept_in done x = record { steps = map expr_of done; place = core.local x }

abbrev pub frozen_in : List CoreExpr → FrozenPlace → Frozen
frozen_in done f = record { steps = map expr_of done; place = frozen_place_of f }

-- from one frozen place to another, behind what was done
abbrev pub copied_between : (at at_value : Pos) → (struct : ℕ) → List Expr → (p q : Place) → Elab Found
copied_between at at_value k steps p q = do
  s ← state
  give (a_copy (steps ++ copies s.structs at at_value k p q) p k)

-- to a frozen place from another
abbrev pub copied_to : (at at_value : Pos) → (struct : ℕ) → Frozen → Place → (indexes : List IntType) → Elab Found
copied_to at at_value k f q types = do
  g ← frozen at_value q types f.steps
  copied_between at at_value k g.steps f.place g.place
