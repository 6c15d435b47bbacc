-- The order of elaboration: work that is done step by step, on what a body has so far, and stops at the first refusal (own).
use Rattle.std.specs.Prelude.{ℕ, List, [], ◌∷◌, ◌++◌, length, Ok, Err}
use Rattle.nm_base.specs.declared.pos.Pos.{Pos}
use Rattle.nesc_core.specs.Plain.{Ty}
use Rattle.nesc_types.specs.Rule.{Rule}
use Rattle.elab_meaning.specs.Scope.{Entry, Meaning, Tag, Kind, Struct}

-- a dispatch body that some call needs, and its first call
pub record Asked : Type 0 where
  pub instance : ℕ
  pub item : ℕ
  pub at : Pos

-- the names and tags in force, the first of the innermost scope, the structs in the order in which their definitions ended, the
-- types of the locals made so far, the objects whose address is taken, and the dispatch bodies that are needed
pub record State : Type 0 where
  pub names : List Entry
  pub tags : List Tag
  pub first_name : ℕ
  pub first_tag : ℕ
  pub structs : List Struct
  pub locals : List Ty
  pub taken : List ℕ
  pub asked : List Asked

abbrev pub Elab : Type 0 → Type 0
Elab A = State → Rule (A × State)

abbrev pub after : {A B : Type 0} → Rule (A × State) → (A → Elab B) → Rule (B × State)
after (Ok x) next = next x.0 x.1
after (Err e) next = Err e

infixl 10 ◌>>=◌ ◌>>◌
abbrev pub ◌>>=◌ : {A B : Type 0} → Elab A → (A → Elab B) → Elab B
◌>>=◌ work next = λ s. after (work s) next

abbrev pub ◌>>◌ : {A B : Type 0} → Elab A → Elab B → Elab B
◌>>◌ work next = λ s. after (work s) (λ _. next)

abbrev pub give : {A : Type 0} → A → Elab A
give x = λ s. Ok (x, s)

-- by a rule that looks at no state
abbrev pub by : {A : Type 0} → Rule A → Elab A
by (Ok x) = λ s. Ok (x, s)
by (Err e) = λ s. Err e

abbrev pub state : Elab State
state = λ s. Ok (s, s)

-- a new local of this type
abbrev pub fresh : Ty → Elab ℕ
fresh t = λ s. Ok (length s.locals, record s { locals = s.locals ++ (t ∷ []) })

abbrev pub mark_taken : ℕ → Elab (Unit {0})
mark_taken k = λ s. Ok (tt, record s { taken = s.taken ++ (k ∷ []) })

abbrev pub add_name : List ℕ → Meaning → Elab (Unit {0})
add_name name m = λ s. Ok (tt, record s { names = s.names ++ (record { name = name; meaning = m } ∷ []) })

abbrev pub add_tag : List ℕ → Kind → Elab (Unit {0})
add_tag name kind = λ s. Ok (tt, record s { tags = s.tags ++ (record { name = name; kind = kind } ∷ []) })

abbrev pub add_struct : Struct → Elab (Unit {0})
add_struct x = λ s. Ok (tt, record s { structs = s.structs ++ (x ∷ []) })

-- ---- what `sizeof` looks at is not evaluated: of the work on it the names and structs alone stay

pub record Aside : Type 0 where
  pub locals : List Ty
  pub taken : List ℕ
  pub asked : List Asked

abbrev pub aside : State → Aside
aside s = record { locals = s.locals; taken = s.taken; asked = s.asked }

abbrev pub with_aside : Aside → State → State
with_aside a s = record s { locals = a.locals; taken = a.taken; asked = a.asked }

abbrev pub alone : State → State
alone s = with_aside (record { locals = []; taken = []; asked = [] }) s

abbrev pub back_in : {A : Type 0} → (old : State) → Rule (A × State) → Rule (A × State)
back_in old (Ok x) = Ok (x.0, with_aside (aside old) x.1)
back_in old (Err e) = Err e

abbrev pub unevaluated : {A : Type 0} → Elab A → Elab A
unevaluated work = λ s. back_in s (work (alone s))
