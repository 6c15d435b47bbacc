-- Lists of bodies and of lines, one element after the other.
use Rattle.std.proofs.Common.{◌≡◌, ℕ, ◌+◌, ◌<◌, List, ◌++◌, length, drop, map, get_or, sym, ap, ◌∙◌, append_assoc}
use Rattle.std.specs.List.{flat_map}
use Rattle.std.proofs.Math.ListN.{drop_of_length-le}
use Rattle.nesc_core.specs.declared.tree.Warning as tree
use Rattle.nesc_core.specs.Plain.{Program, Warning}
use Rattle.nesc_core.specs.View.{warning_of}
use Rattle.call_graph.proofs.ViewLists.{next_of}
use Rattle.race_checker.specs.declared.row.Row.{Row}
use Rattle.race_text.specs.Text.{behind_text}

-- ---- lines

pub warnings_next : (g : Warning → List ℕ) (xs : List tree.Warning) (k : ℕ) (w : tree.Warning) → k < length xs → w ≡ get_or xs k w
    → flat_map g (map warning_of (drop k xs)) ≡ g (warning_of w) ++ flat_map g (map warning_of (drop (k + 1) xs))
warnings_next g xs k w below is = ap (λ ys. flat_map g (map warning_of ys)) (next_of xs k w below is)

pub rows_next : (g : Row → List ℕ) (xs : List Row) (k : ℕ) (r : Row) → k < length xs → r ≡ get_or xs k r
    → flat_map g (drop k xs) ≡ g r ++ flat_map g (drop (k + 1) xs)
rows_next g xs k r below is = ap (flat_map g) (next_of xs k r below is)

pub behind_rest : (p : Program) (xs : List ℕ) (k f : ℕ) → k < length xs → f ≡ get_or xs k f
    → flat_map (behind_text p) (drop k xs) ≡ behind_text p f ++ flat_map (behind_text p) (drop (k + 1) xs)
behind_rest p xs k f below is = ap (flat_map (behind_text p)) (next_of xs k f below is)

pub ruleset lines = (warnings_next, rows_next, behind_rest, drop_of_length-le)

-- ---- one step of a loop

pub warnings_step : (g : Warning → List ℕ) (xs : List tree.Warning) (k : ℕ) (w : tree.Warning) (text new whole : List ℕ) → k < length xs → w ≡ get_or xs k w
    → text ++ flat_map g (map warning_of (drop k xs)) ≡ whole → new ≡ text ++ g (warning_of w) → new ++ flat_map g (map warning_of (drop (k + 1) xs)) ≡ whole
warnings_step g xs k w text new whole below is so_far step =
    ap (λ ys. ys ++ flat_map g (map warning_of (drop (k + 1) xs))) step
    ∙ append_assoc text (g (warning_of w)) (flat_map g (map warning_of (drop (k + 1) xs)))
    ∙ ap (λ ys. text ++ ys) (sym (warnings_next g xs k w below is)) ∙ so_far
