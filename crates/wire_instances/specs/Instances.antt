-- The instances of an application (nesC Language Reference, generic components; own: the numbering, the limit and the places
-- of refusals). The lines of a configuration are read in order; a named component that has no instance yet, or each `new`, gets
-- the next number, and its own lines are read before the next one.
use Rattle.std.specs.Prelude.{◌≡◌, ℕ, zero, suc, ◌+◌, Bool, cond, ◌==◌, nat_lt, List, [], ◌∷◌, ◌++◌, length, Option, Some, None, Result, Ok, Err, option_and_then, slice_get, count_by, ◌<◌}
use Rattle.std.specs.List.{list_any}
use Rattle.nm_base.specs.declared.pos.Pos.{Pos}
use Rattle.nm_base.specs.declared.limit.TheConstants.{MAX_INSTANCES}
use Rattle.wire_instances.specs.declared.plan.Plan.{Plan}
use Rattle.wire_instances.specs.declared.plan.Line.{Line}
use Rattle.wire_instances.specs.declared.plan.Line.TheVariants as line
use Rattle.wire_instances.specs.declared.plan.Unmet.{Unmet}
use Rattle.wire_instances.specs.declared.plan.Unmet.TheVariants as unmet
use Rattle.wire_instances.specs.declared.plan.Made.{Made}
use Rattle.wire_instances.specs.declared.plan.Maker.{Maker}
use Rattle.wire_instances.specs.declared.naming.Naming.{Naming}
use Rattle.wire_instances.specs.declared.naming.Naming.TheVariants as naming
use Rattle.wire_instances.specs.declared.naming.Stop.{Stop}
use Rattle.wire_instances.specs.declared.naming.Stop.TheVariants as stop

abbrev pub lines_in : Option Plan → List Line
lines_in None = []
lines_in (Some p) = p.lines

abbrev pub lines_of : List Plan → ℕ → List Line
lines_of plans component = lines_in (slice_get plans component)

abbrev pub unless_unmet : Option Unmet → Result (Unit {0}) Stop
unless_unmet None = Ok tt
unless_unmet (Some e) = Err (stop.Unmet e)

-- what is wrong with a component's specification is found where an instance of it is created
abbrev pub specified : List Plan → ℕ → Result (Unit {0}) Stop
specified plans component = unless_unmet (option_and_then (λ (p : Plan). p.refused) (slice_get plans component))

abbrev pub unless_generic : Pos → Option ℕ → Result (Unit {0}) Stop
unless_generic pos None = Ok tt
unless_generic pos (Some wanted) = Err (stop.Unmet (unmet.ArgumentMismatch pos))

-- the application is not generic
abbrev pub permitted : List Plan → ℕ → Pos → Result (Unit {0}) Stop
permitted plans app pos = unless_generic pos (option_and_then (λ (p : Plan). p.generic) (slice_get plans app))

abbrev pub has_instance : ℕ → List Made → Bool
has_instance component made = list_any (λ (m : Made). m.component == component) made

-- a name with or without `new`, of a component with or without parameters
abbrev pub fitting : Option ℕ → Option ℕ → ℕ → Pos → List ℕ → List Made → Result Naming Stop
fitting None None component pos around made = Ok (cond (has_instance component made) naming.Has (naming.New component))
fitting (Some given) (Some wanted) component pos around made =
    cond (list_any (λ c. c == component) around)
    (Err (stop.Unmet (unmet.ComponentLoop pos)))
    (cond (given == wanted) (Ok (naming.New component)) (Err (stop.Unmet (unmet.ArgumentMismatch pos))))
fitting (Some given) None component pos around made = Err (stop.Unmet (unmet.ArgumentMismatch pos))
fitting None (Some wanted) component pos around made = Err (stop.Unmet (unmet.ArgumentMismatch pos))

abbrev pub fitting_in : Option Plan → Option ℕ → ℕ → Pos → List ℕ → List Made → Result Naming Stop
fitting_in None given component pos around made = Err (stop.Unmet (unmet.UnknownName pos))
fitting_in (Some p) given component pos around made = fitting given p.generic component pos around made

-- what a line asks for, inside the creation of the components `around`
abbrev pub asks : List Plan → List ℕ → Line → List Made → Result Naming Stop
asks plans around line.Nothing made = Ok naming.Has
asks plans around (line.Refused e) made = Err (stop.Unmet e)
asks plans around (line.Names component given pos) made = fitting_in (slice_get plans component) given component pos around made

-- creates a component by a maker, inside the creation of others, after what is made
abbrev pub Creates : Type 0
Creates = List ℕ → ℕ → Option Maker → List Made → Result (List Made) Stop

abbrev pub go_on : {A : Type 0} → Result A Stop → (A → Result (List Made) Stop) → Result (List Made) Stop
go_on (Ok made) go = go made
go_on (Err e) go = Err e

abbrev pub done_as : Creates → List ℕ → Maker → List Made → Result Naming Stop → Result (List Made) Stop
done_as create around maker made (Ok naming.Has) = Ok made
done_as create around maker made (Ok (naming.New component)) = create around component (Some maker) made
done_as create around maker made (Err e) = Err e

abbrev pub named : Creates → List Plan → List ℕ → ℕ → ℕ → Line → List Made → Result (List Made) Stop
named create plans around number at l made =
    done_as create around (record { instance = number; line = at }) made (asks plans around l made)

-- the lines of instance `number` from place `at` on
abbrev pub all_named : Creates → List Plan → List ℕ → ℕ → ℕ → List Line → List Made → Result (List Made) Stop
all_named create plans around number at [] made = Ok made
all_named create plans around number at (l ∷ ls) made =
    go_on (named create plans around number at l made) (λ more. all_named create plans around number (at + 1) ls more)

-- creation, at most so many levels deep: no level lies below the limit of instances
abbrev pub created : ℕ → List Plan → Creates
created zero plans around component maker made = Err stop.Instances
created (suc levels) plans around component maker made =
    cond (nat_lt (length made) MAX_INSTANCES)
    (go_on (specified plans component)
    (λ _. all_named (created levels plans) plans (around ++ component ∷ []) (length made) 0 (lines_of plans component)
    (made ++ record { component = component; copy = count_by (λ (m : Made). m.component == component) made; maker = maker } ∷ [])))
    (Err stop.Instances)

-- as many levels as no creation passes
unfoldable pub all_levels : ℕ
all_levels = MAX_INSTANCES + 1

-- the instances of the application `app`, whose name stands at `pos`; the component `main` is created last where no component
-- names it
abbrev pub instances_of : List Plan → ℕ → Pos → ℕ → Result (List Made) Stop
instances_of plans app pos main =
    go_on (permitted plans app pos)
    (λ _. go_on (created all_levels plans [] app None [])
    (λ made. cond (has_instance main made) (Ok made) (created all_levels plans [] main None made)))

abbrev pub IsRefusal : Stop → Type 0
IsRefusal e = e ≡ stop.NoMemory → ⊥

-- so many levels are enough behind what is made
abbrev pub Enough : ℕ → List Made → Type 0
Enough levels made = MAX_INSTANCES < levels + length made
