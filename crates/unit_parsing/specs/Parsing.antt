-- What the tokens of a file of an application give (nesC 1.3 Reference): a component or an interface of a name, or declarations alone.
use Rattle.std.specs.Prelude.{◌≡◌, ℕ, Bool, true, false, List, slice_get, Some, None, Result, Ok, Err}
use Rattle.nm_base.specs.declared.token.Token.{Token}
use Rattle.nm_base.specs.declared.fault.Fault.{Fault}
use Rattle.nm_base.specs.declared.fault.Fault.TheVariants as fault
use Rattle.nm_base.specs.declared.refusal.Refusal.TheVariants as refusal
use Rattle.nesc_tree.specs.declared.contexts.Site.TheVariants as site
use Rattle.nesc_tree.specs.declared.components.Unit as unit
use Rattle.nesc_tree.specs.declared.declarations.Decl.{Decl}
use Rattle.nesc_tree.specs.Sorts.{Names}
use Rattle.nesc_parse_list.specs.Listed as listed
use Rattle.nesc_parse_comp.specs.Units as units
use Rattle.nesc_parse_comp.specs.declared.kinds.UnitKind.{UnitKind}
use Rattle.nesc_parse_comp.specs.declared.kinds.UnitKind.TheVariants as kind

abbrev pub kind_of : (is_interface : Bool) → UnitKind
kind_of true = kind.Interface
kind_of false = kind.Component

abbrev pub Parses : (is_interface : Bool) → ℕ → List Token → (name : List ℕ) → Names → Names → Result unit.Unit Fault → Type 0
Parses is_interface file ts name names after answer = units.Parses (kind_of is_interface) file ts name names after answer

-- declarations end at this token, which begins none
pub record IsBehind (file : ℕ) (ts : List Token) (names : Names) (e : Fault) : Type 0 where
  pub decls : List Decl
  pub end : ℕ
  pub after : Names
  pub listed : listed.IsListed site.Header file ts 0 names decls end after
  pub token : Token
  pub stands : slice_get ts end ≡ Some token
  pub refused : e ≡ fault.Refused (refusal.Syntax token.pos)

pub data Fails (file : ℕ) (ts : List Token) (names : Names) (e : Fault) : Type 0 where
  in_one : listed.Fails site.Header file ts 0 names e → Fails file ts names e
  behind : IsBehind file ts names e → Fails file ts names e

-- all the tokens spell these declarations
pub record Declare (file : ℕ) (ts : List Token) (names : Names) (decls : List Decl) (after : Names) : Type 0 where
  pub end : ℕ
  pub listed : listed.IsListed site.Header file ts 0 names decls end after
  pub whole : slice_get ts end ≡ None

abbrev pub Declares : ℕ → List Token → Names → Names → Result (List Decl) Fault → Type 0
Declares file ts names after (Ok decls) = Declare file ts names decls after
Declares file ts names after (Err e) = Fails file ts names e
