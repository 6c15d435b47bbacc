-- What a declaration of a configuration declares, in one block (C99 6.2.1 and 6.2.3): names, and the tags of structs and enums
-- beside them. A tag, and a field of a struct, is told at the place of the whole declaration, since trees have no other.
use Rattle.std.specs.Prelude.{ℕ, List, [], Option, Some, None, Result, Ok}
use Rattle.nm_base.specs.declared.pos.Pos.{Pos}
use Rattle.nesc_tree.specs.Plain.{TypeSpec, Base, Groups, Declarators, Items}
use Rattle.nesc_tree.specs.Plain as p
use Rattle.wire_instances.specs.declared.plan.Unmet.{Unmet}
use Rattle.wire_units.specs.declared.block.Block.{Block}
use Rattle.wire_units.specs.Scope.{Scope, Judged, ◌>>=◌, declare}

abbrev pub Blocked : Type 0
Blocked = Result Block Unmet

abbrev pub name_in : Block → List ℕ → Pos → Blocked
name_in b name at = declare b.names name at >>= λ names. Ok (record { names = names; tags = b.tags })

abbrev pub tag_in : Block → Option (List ℕ) → Pos → Blocked
tag_in b None at = Ok b
tag_in b (Some tag) at = declare b.tags tag at >>= λ tags. Ok (record { names = b.names; tags = tags })

-- the constants of an enum are names of the block
abbrev pub items_in : Block → Items → Blocked
items_in b p.no_items = Ok b
items_in b (p.more_items name value at items) = name_in b name at >>= λ more. items_in more items

-- the fields of one struct are a scope of their own
abbrev pub fields_in : Pos → Scope → Declarators → Judged
fields_in at fields p.no_declarators = Ok fields
fields_in at fields (p.more_declarators stars name dims ds) = declare fields name at >>= λ more. fields_in at more ds

abbrev pub enum_in : Pos → Option (List ℕ) → Items → Block → Blocked
enum_in at tag items b = tag_in b tag at >>= λ more. items_in more items

abbrev pub both : Block → Scope → Result (Block × Scope) Unmet
both b fields = Ok (b, fields)

abbrev mutual
  pub type_in : Pos → TypeSpec → Block → Blocked
  type_in at (p.type_spec base stars dims is_const) b = base_in at base b

  pub base_in : Pos → Base → Block → Blocked
  base_in at p.void b = Ok b
  base_in at (p.int t) b = Ok b
  base_in at (p.named name) b = Ok b
  base_in at (p.struct tag) b = Ok b
  base_in at (p.struct_of tag groups) b = tag_in b tag at >>= λ more. groups_in at groups more []
  base_in at (p.enum tag) b = Ok b
  base_in at (p.enum_of tag items) b = enum_in at tag items b

  -- behind the fields of earlier groups of the struct
  pub groups_in : Pos → Groups → Block → Scope → Blocked
  groups_in at p.no_groups b fields = Ok b
  groups_in at (p.more_groups t ds groups) b fields = (type_in at t b >>= λ more. fields_in at fields ds >>= λ others. both more others) >>= λ behind. groups_in at groups behind.0 behind.1

abbrev pub struct_in : Pos → Option (List ℕ) → Groups → Block → Blocked
struct_in at tag groups b = tag_in b tag at >>= λ more. groups_in at groups more []

abbrev pub group_in : Pos → TypeSpec × Declarators → Block → Scope → Result (Block × Scope) Unmet
group_in at g b fields = type_in at g.0 b >>= λ more. fields_in at fields g.1 >>= λ others. both more others

abbrev pub nothing : Block
nothing = record { names = []; tags = [] }
