-- Lists of trees, one element after the other.
use Rattle.std.proofs.Common.{◌≡◌, ℕ, suc, ◌+◌, ◌<◌, List, ◌∷◌, drop, length, get_or, sym, ap, ◌∙◌, arith, refl, [], Err, map}
use Rattle.std.proofs.Math.Seq.{drop-cons}
use Rattle.std.proofs.Math.ListN.{drop_of_length-le}
use Rattle.nm_base.specs.declared.pos.Pos.{Pos}
use Rattle.nesc_tree.specs.declared.tree.FieldGroup as field_group
use Rattle.nesc_tree.specs.declared.components.ConfLine.{ConfLine}
use Rattle.wire_units.specs.declared.loaded.Loaded.{Loaded}
use Rattle.wire_units.specs.declared.block.Block.{Block}
use Rattle.wire_instances.specs.declared.plan.Unmet.{Unmet}
use Rattle.wire_instances.specs.declared.plan.Line.TheVariants as line
use Rattle.wire_units.specs.Plans.{plan_of}
use Rattle.wire_units.specs.Lines.{asked, and_behind, lines_from}
use Rattle.wire_units.specs.Scope.{Scope, ◌>>=◌}
use Rattle.wire_units.specs.Block.{groups_in, group_in}
use Rattle.wire_units.specs.BlockView.{group_of, groups_of}

-- element k stands at the front of what is left
pub next_of : {A : Type 0} (xs : List A) (k : ℕ) (x : A) → k < length xs → x ≡ get_or xs k x → drop k xs ≡ x ∷ drop (k + 1) xs
next_of xs k x below is = let more : suc k ≡ k + 1 = omega arith in
    drop-cons xs k x below ∙ ap (λ y. y ∷ drop (suc k) xs) (sym is) ∙ ap (λ j. x ∷ drop j xs) more

pub groups_next : (at : Pos) (b : Block) (fields : Scope) (xs : List field_group.FieldGroup) (k : ℕ) (x : field_group.FieldGroup) → k < length xs → x ≡ get_or xs k x
    → groups_in at (groups_of (drop k xs)) b fields ≡ (group_in at (group_of x) b fields >>= λ behind. groups_in at (groups_of (drop (k + 1) xs)) behind.0 behind.1)
groups_next at b fields xs k x below is = ap (λ ys. groups_in at (groups_of ys) b fields) (next_of xs k x below is)

pub lines_next : (units : List Loaded) (b : Block) (xs : List ConfLine) (k : ℕ) (x : ConfLine) → k < length xs → x ≡ get_or xs k x
    → lines_from units b (drop k xs) ≡ lines_from units b (x ∷ drop (k + 1) xs)
lines_next units b xs k x below is = ap (lines_from units b) (next_of xs k x below is)

pub ruleset lines = (lines_next, drop_of_length-le)

pub ruleset lists = (groups_next, drop_of_length-le)

pub plans_next : (units xs : List Loaded) (k : ℕ) (x : Loaded) → k < length xs → x ≡ get_or xs k x
    → map (plan_of units) (drop k xs) ≡ plan_of units x ∷ map (plan_of units) (drop (k + 1) xs)
plans_next units xs k x below is = ap (map (plan_of units)) (next_of xs k x below is)

pub ruleset plans = (plans_next, drop_of_length-le)

-- a refused line is the last one
pub refused_line : (units : List Loaded) (b : Block) (x : ConfLine) (xs : List ConfLine) (e : Unmet) → asked units b x ≡ Err e → lines_from units b (x ∷ xs) ≡ line.Refused e ∷ []
refused_line units b x xs e h = ap (λ o. and_behind o (λ more. lines_from units more xs)) h
