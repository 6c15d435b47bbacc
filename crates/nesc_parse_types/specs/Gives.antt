-- What a function answers is what reading by a form gives, unless memory ran out.
use Rattle.std.specs.Prelude.{◌≡◌, ℕ, List, Result, Ok, Err}
use Rattle.std.specs.declared.alloc.Global.{Global}
use denote.Ref.{Bor}
use Rattle.nm_base.specs.declared.token.Token.{Token}
use Rattle.nesc_tree.specs.declared.operand.Operand.{Operand}
use Rattle.nesc_tree.specs.declared.operand.Fields.{Fields}
use Rattle.nesc_tree.specs.Sorts.{Names}
use Rattle.nesc_tree.specs.Form.{Form, Place}
use Rattle.nesc_tree.specs.Phrase.{Phrase}
use Rattle.nesc_tree.specs.Reading.{Fault, Syntax, Deep, Answer, read, phrase, ◌>>=◌}
use Rattle.nesc_grammar.specs.Production.{production}
use Rattle.nesc_parse_types.specs.declared.stop.Stop.{Stop}
use Rattle.nesc_parse_types.specs.declared.stop.Stop.TheVariants as rust

-- what was read, and the tokens behind it
abbrev pub Found : Type 0 → Type 0
Found X = Result (X × Bor (List Token)) Stop

abbrev pub Fails : {Y : Type 0} → Stop → Result Y Fault → Type 0
Fails rust.Memory x = Unit {0}
Fails (rust.Syntax ts) x = x ≡ Err (Syntax ts.now)
Fails (rust.Deep ts) x = x ≡ Err (Deep ts.now)

-- the names in force stay as they are
abbrev pub Gives : {X : Type 0} → Names → Found X → Answer X → Type 0
Gives names (Ok x) y = y ≡ Ok (x.0, record { names = names; rest = x.1.now })
Gives names (Err e) y = Fails e y

abbrev pub GivesToken : Names → Found (Bor Token) → Answer Token → Type 0
GivesToken names (Ok x) y = y ≡ Ok (x.0.now, record { names = names; rest = x.1.now })
GivesToken names (Err e) y = Fails e y

abbrev pub place : Names → List Token → Place
place names ts = record { names = names; rest = ts }

-- a form whose phrases have at most so many levels
abbrev pub form_in : {A : Type 0} → ℕ → Form A → Names → List Token → Answer A
form_in spare g names ts = read spare (phrase production spare) g (place names ts)

abbrev pub expr_in : ℕ → ℕ → Names → List Token → Answer Operand
expr_in spare least names ts = phrase production spare (Phrase.expr least) (place names ts)

-- an opened expression that starts at this `(`
abbrev pub opened_in : ℕ → Token → Names → List Token → Answer Operand
opened_in spare o names ts = phrase production spare Phrase.opened (place names ts) >>= λ x. Ok (x.0 o, x.1)

abbrev pub pointers_in : ℕ → Names → List Token → Answer ℕ
pointers_in spare names ts = phrase production spare Phrase.pointers (place names ts)

abbrev pub fields_in : ℕ → Names → List Token → Answer Fields
fields_in spare names ts = phrase production spare Phrase.fields (place names ts)

-- function values that read expressions, opened expressions and the fields of struct definitions, each with at most so many levels
pub record Nests (spare : ℕ)
    (expr-pre : Global → Bor Names → ℕ → ℕ → Bor (List Token) → Type 0)
    (expr-post : Global → Bor Names → ℕ → ℕ → Bor (List Token) → Found Operand → Type 0)
    (opened-pre : Global → Bor Names → ℕ → Bor Token → Bor (List Token) → Type 0)
    (opened-post : Global → Bor Names → ℕ → Bor Token → Bor (List Token) → Found Operand → Type 0)
    (fields-pre : Global → Bor Names → ℕ → Bor (List Token) → Type 0)
    (fields-post : Global → Bor Names → ℕ → Bor (List Token) → Found Fields → Type 0) : Type 0 where
  pub expr_called : (alloc : Global) (names : Bor Names) (least : ℕ) (ts : Bor (List Token)) → expr-pre alloc names spare least ts
  pub expr_reads : (alloc : Global) (names : Bor Names) (least : ℕ) (ts : Bor (List Token)) (r : Found Operand)
      → expr-post alloc names spare least ts r → Gives names.now r (expr_in spare least names.now ts.now)
  pub opened_called : (alloc : Global) (names : Bor Names) (o : Bor Token) (ts : Bor (List Token)) → opened-pre alloc names spare o ts
  pub opened_reads : (alloc : Global) (names : Bor Names) (o : Bor Token) (ts : Bor (List Token)) (r : Found Operand)
      → opened-post alloc names spare o ts r → Gives names.now r (opened_in spare o.now names.now ts.now)
  pub fields_called : (alloc : Global) (names : Bor Names) (ts : Bor (List Token)) → fields-pre alloc names spare ts
  pub fields_reads : (alloc : Global) (names : Bor Names) (ts : Bor (List Token)) (r : Found Fields)
      → fields-post alloc names spare ts r → Gives names.now r (fields_in spare names.now ts.now)
