-- What elaboration has of the whole program so far, and work that is done on it step by step and stops at the first refusal (own).
use Rattle.std.specs.Prelude.{ℕ, Bool, List, [], ◌∷◌, ◌++◌, Option, Some, Ok, Err}
use Rattle.nm_base.specs.declared.pos.Pos.{Pos}
use Rattle.nesc_core.specs.Plain as core
use Rattle.nesc_core.specs.Plain.{Ty, Body, Warning}
use Rattle.nesc_types.specs.Rule.{Rule}
use Rattle.elab_meaning.specs.Elab.{State, Elab}
use Rattle.program_meaning.specs.Heads.{Form}

-- a function, a task, or an implementation of an item, of the headers or of the module that is looked at
pub record Declared : Type 0 where
  pub name : List ℕ
  pub item : Option (List ℕ)
  pub form : Form
  pub line : Option ℕ
  pub is_defined : Bool

-- a variable of a module
pub record Variable : Type 0 where
  pub name : List ℕ
  pub ty : Ty
  pub norace : Bool

-- the boot function, at its name
pub record Boot : Type 0 where
  pub body : ℕ
  pub at : Pos

-- Names, structs and what bodies ask for are in the work. The initial values of variables are statements of the boot function, and so are
-- its locals. A handler is its line and its body
pub record Whole : Type 0 where
  pub work : State
  pub declared : List Declared
  pub variables : List Variable
  pub initial : List core.Stmt
  pub boot_locals : List Ty
  pub boot : Option Boot
  pub bodies : List Body
  pub handlers : List (ℕ × ℕ)
  pub dispatch : List Body
  pub warnings : List Warning

abbrev pub Made : Type 0 → Type 0
Made A = Whole → Rule (A × Whole)

abbrev pub after : {A B : Type 0} → Rule (A × Whole) → (A → Made B) → Rule (B × Whole)
after (Ok x) next = next x.0 x.1
after (Err e) next = Err e

infixl 10 ◌>>=◌ ◌>>◌
abbrev pub ◌>>=◌ : {A B : Type 0} → Made A → (A → Made B) → Made B
◌>>=◌ work next = λ w. after (work w) next

abbrev pub ◌>>◌ : {A B : Type 0} → Made A → Made B → Made B
◌>>◌ work next = λ w. after (work w) (λ _. next)

abbrev pub give : {A : Type 0} → A → Made A
give x = λ w. Ok (x, w)

-- by a rule that looks at nothing
abbrev pub by : {A : Type 0} → Rule A → Made A
by (Ok x) = λ w. Ok (x, w)
by (Err e) = λ w. Err e

abbrev pub whole : Made Whole
whole = λ w. Ok (w, w)

abbrev pub with_work : {A : Type 0} → Whole → Rule (A × State) → Rule (A × Whole)
with_work w (Ok x) = Ok (x.0, record w { work = x.1 })
with_work w (Err e) = Err e

-- a part of it that looks at names, structs and locals alone
abbrev pub part : {A : Type 0} → Elab A → Made A
part work = λ w. with_work w (work w.work)

-- ---- the boot function's locals

abbrev pub boot_state : Whole → State
boot_state w = record w.work { locals = w.boot_locals }

abbrev pub behind_boot : {A : Type 0} → Whole → Rule (A × State) → Rule (A × Whole)
behind_boot w (Ok x) = Ok (x.0, record w { work = record x.1 { locals = [] }; boot_locals = x.1.locals })
behind_boot w (Err e) = Err e

-- a part of the boot function
abbrev pub in_boot : {A : Type 0} → Elab A → Made A
in_boot work = λ w. behind_boot w (work (boot_state w))

-- ---- what is added

abbrev pub add_declared : Declared → Made (Unit {0})
add_declared d = λ w. Ok (tt, record w { declared = w.declared ++ (d ∷ []) })

abbrev pub add_variable : Variable → Made (Unit {0})
add_variable v = λ w. Ok (tt, record w { variables = w.variables ++ (v ∷ []) })

abbrev pub add_initial : List core.Stmt → Made (Unit {0})
add_initial xs = λ w. Ok (tt, record w { initial = w.initial ++ xs })

abbrev pub add_body : Body → Made (Unit {0})
add_body b = λ w. Ok (tt, record w { bodies = w.bodies ++ (b ∷ []) })

abbrev pub add_handler : (line body : ℕ) → Made (Unit {0})
add_handler line body = λ w. Ok (tt, record w { handlers = w.handlers ++ ((line, body) ∷ []) })

abbrev pub add_dispatch : Body → Made (Unit {0})
add_dispatch b = λ w. Ok (tt, record w { dispatch = w.dispatch ++ (b ∷ []) })

abbrev pub add_warning : Warning → Made (Unit {0})
add_warning x = λ w. Ok (tt, record w { warnings = w.warnings ++ (x ∷ []) })

abbrev pub boots_by : Boot → Made (Unit {0})
boots_by b = λ w. Ok (tt, record w { boot = Some b })

abbrev pub nothing_declared : Made (Unit {0})
nothing_declared = λ w. Ok (tt, record w { declared = [] })
