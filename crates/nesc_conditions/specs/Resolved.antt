-- `defined X` and `defined ( X )` in the expression of a conditional line (C99 6.10.1).
use Rattle.std.specs.Prelude.{◌≡◌, Vec, Bool, false, ◌&&◌, List, [], ◌∷◌, ◌++◌, cond, codes, Option, Some, None}
use Rattle.std.specs.Option.{option_map, option_to_list}
use Rattle.std.specs.List.{list_any}
use Rattle.std.specs.declared.alloc.Global.{Global}
use Rattle.nm_base.specs.declared.token.Kind.TheVariants.{Number}
use Rattle.nm_base.specs.declared.token.Token.{Token}
use Rattle.nm_base.specs.declared.pos.Pos.{Pos}
use Rattle.nesc_macros.specs.declared.definition.Macro.{Macro}
use Rattle.nesc_macros.specs.Invocation.{Name, same_name, is_word, is_sign}
use Rattle.nesc_conditions.specs.declared.defined.Seen.{Seen}
use Rattle.nesc_conditions.specs.declared.defined.Seen.TheVariants.{Plain, Defined, Opened, Named}
use Rattle.nesc_conditions.specs.declared.defined.Step.{Step}

abbrev pub digit : Bool → Name
digit b = cond b (codes "1") (codes "0")

-- the number in the place of a `defined`
abbrev pub told : Pos → Bool → Token
told pos b = record { kind = Number; text = digit b; pos = pos; first = false }

abbrev pub names_macro : List Macro → Token → Bool
names_macro macros t = list_any (λ (m : Macro). same_name m.name t.text) macros

abbrev pub is_defined : Token → Bool
is_defined t = is_word t && same_name t.text (codes "defined")

abbrev pub silent : Seen → Option Step
silent seen = Some (record { seen = seen; out = None })

abbrev pub plain : Token → Option Step
plain t = Some (record { seen = Plain; out = Some t })

-- what is seen behind the next token, and what is put out; None where the token cannot stand there
abbrev pub next : List Macro → Seen → Token → Option Step
next macros Plain t = cond (is_defined t) (silent (Defined t.pos)) (plain t)
next macros (Defined pos) t = cond (is_word t) (plain (told pos (names_macro macros t))) (cond (is_sign (codes "(") t) (silent (Opened pos)) None)
next macros (Opened pos) t = cond (is_word t) (silent (Named pos (names_macro macros t))) None
next macros (Named pos b) t = cond (is_sign (codes ")") t) (plain (told pos b)) None

abbrev pub put_out : Option Step → (Seen → Option (List Token)) → Option (List Token)
put_out None go = None
put_out (Some n) go = option_map (λ rest. option_to_list n.out ++ rest) (go n.seen)

abbrev pub if_plain : Seen → Option (List Token)
if_plain Plain = Some []
if_plain _ = None

-- the tokens from here on, behind what was seen
abbrev pub resolved_behind : List Macro → Seen → List Token → Option (List Token)
resolved_behind macros seen [] = if_plain seen
resolved_behind macros seen (t ∷ ts) = put_out (next macros seen t) (λ seen. resolved_behind macros seen ts)

-- the tokens of a line with 1 or 0 for each `defined`, None where no word follows one
abbrev pub resolved : List Macro → List Token → Option (List Token)
resolved macros = resolved_behind macros Plain

abbrev pub IsResolved : List Macro → List Token → Option (Vec Token Global) → Type 0
IsResolved macros ts None = resolved macros ts ≡ None
IsResolved macros ts (Some v) = resolved macros ts ≡ Some v.items
