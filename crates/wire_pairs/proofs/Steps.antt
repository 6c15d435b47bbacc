-- Lines, instances and elements, one after the other.
use Rattle.std.proofs.Common.{◌≡◌, ℕ, suc, ◌+◌, ◌<◌, Bool, false, cond, List, [], ◌∷◌, None, length, drop, get_or, sym, ap, ◌∙◌, arith}
use Rattle.std.proofs.Math.Seq.{drop-cons}
use Rattle.std.proofs.Math.ListN.{drop_of_length-le}
use Rattle.nesc_tree.specs.declared.components.ConfLine.{ConfLine}
use Rattle.nesc_tree.specs.declared.components.Elem.{Elem}
use Rattle.wire_instances.specs.declared.plan.Made.{Made}
use Rattle.wire_pairs.specs.declared.ends.Pair.{Pair}
use Rattle.wire_pairs.specs.Application.{Application, Scope, scope_behind}
use Rattle.wire_pairs.specs.Ends.{◌>>=◌}
use Rattle.wire_pairs.specs.Fits.{places}
use Rattle.wire_pairs.specs.Pairs.{line_paired, lines_paired, instance_paired, instances_paired, boot_paired, boots_paired}

-- element k stands at the front of what is left
pub next_of : {A : Type 0} (xs : List A) (k : ℕ) (x : A) → k < length xs → x ≡ get_or xs k x → drop k xs ≡ x ∷ drop (k + 1) xs
next_of xs k x below is = let more : suc k ≡ k + 1 = omega arith in
    drop-cons xs k x below ∙ ap (λ y. y ∷ drop (suc k) xs) (sym is) ∙ ap (λ j. x ∷ drop j xs) more

pub line_next : (app : Application) (instance line : ℕ) (scope : Scope) (ls : List ConfLine) (k : ℕ) (l : ConfLine) (done : List Pair) → k < length ls → l ≡ get_or ls k l
    → lines_paired app instance line scope (drop k ls) done
    ≡ (line_paired app instance line scope l done >>= λ more. lines_paired app instance (line + 1) (scope_behind app instance line l scope) (drop (k + 1) ls) more)
line_next app instance line scope ls k l done below is = ap (λ xs. lines_paired app instance line scope xs done) (next_of ls k l below is)

pub ruleset lines = (line_next, drop_of_length-le)

none_made : Made
none_made = record { component = 0; copy = 0; maker = None }

pub instance_next : (app : Application) (ms : List Made) (k : ℕ) (done : List Pair) → k < length ms
    → instances_paired app k (drop k ms) done ≡ (instance_paired app k done >>= λ more. instances_paired app (k + 1) (drop (k + 1) ms) more)
instance_next app ms k done below =
    let more : suc k ≡ k + 1 = omega arith in
    ap (λ xs. instances_paired app k xs done) (drop-cons ms k none_made below ∙ ap (λ j. get_or ms k none_made ∷ drop j ms) more)

pub ruleset instances = (instance_next, drop_of_length-le)

pub boot_next : (app : Application) (element : ℕ) (es : List Elem) (k : ℕ) (e : Elem) (done : List Pair) → k < length es → e ≡ get_or es k e
    → boots_paired app element (drop k es) done ≡ (boot_paired app element e done >>= λ more. boots_paired app (element + 1) (drop (k + 1) es) more)
boot_next app element es k e done below is = ap (λ xs. boots_paired app element xs done) (next_of es k e below is)

pub ruleset boots = (boot_next, drop_of_length-le)

none_there : Elem
none_there = record { provides = false; iface = []; args = []; name = []; param = None; pos = record { file = 0; line = 0; col = 0 } }

pub place_next : (test : ℕ → Bool) (es : List Elem) (k : ℕ) → k < length es
    → places test k (drop k es) ≡ cond (test k) (k ∷ places test (k + 1) (drop (k + 1) es)) (places test (k + 1) (drop (k + 1) es))
place_next test es k below =
    let more : suc k ≡ k + 1 = omega arith in
    ap (places test k) (drop-cons es k none_there below ∙ ap (λ j. get_or es k none_there ∷ drop j es) more)

pub ruleset elements = (place_next, drop_of_length-le)
