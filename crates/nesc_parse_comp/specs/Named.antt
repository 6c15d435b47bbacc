-- The name of what a file declares (nesC 1.3 Reference): the token behind the first word that begins an interface or a component.
use Rattle.std.specs.Prelude.{ℕ, Bool, true, false, if◌then◌else◌, List, [], ◌∷◌, Option, Some, None}
use Rattle.nm_base.specs.declared.token.Token.{Token}
use Rattle.nesc_tree.specs.declared.sorts.Sort.{Sort}
use Rattle.nesc_tree.specs.declared.sorts.Sort.TheVariants as s
use Rattle.nesc_tree.specs.declared.components.Part.{Part}
use Rattle.nesc_tree.specs.declared.components.Part.TheVariants as part
use Rattle.nesc_tree.specs.Sorts.{class}

-- words that a name stands behind
abbrev pub opens : Sort → Bool
opens s.Interface = true
opens s.Module = true
opens s.Configuration = true
opens _ = false

abbrev pub first_of : List Token → Option Token
first_of [] = None
first_of (t ∷ ts) = Some t

abbrev pub named : List Token → Option Token
named [] = None
named (t ∷ ts) = if opens (class t) then first_of ts else named ts

-- the name in the tree
abbrev pub name_of : Part → Option (List ℕ)
name_of (part.Interface i) = Some i.name
name_of (part.Module m) = Some m.head.name
name_of (part.Config c) = Some c.head.name
name_of part.Header = None
