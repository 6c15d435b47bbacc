-- The text of a race report (own).
use Rattle.std.specs.Prelude.{ℕ, List, [], ◌∷◌, ◌++◌, length, Option, Some, None, slice_get, codes, decimal}
use Rattle.std.specs.List.{flat_map}
use Rattle.nm_base.specs.declared.pos.Pos.{Pos}
use Rattle.nesc_core.specs.Plain.{Object, Body, Warning, Program}
use Rattle.race_checker.specs.declared.row.Row.{Row}

abbrev pub file_name : Option (List ℕ) → List ℕ
file_name None = []
file_name (Some name) = name

abbrev pub object_name : Option Object → List ℕ
object_name None = []
object_name (Some o) = o.name

abbrev pub body_name : Option Body → List ℕ
body_name None = []
body_name (Some b) = b.name

abbrev pub count_text : ℕ → List ℕ
count_text n = codes "races " ++ (decimal n ++ 10 ∷ [])

abbrev pub behind_text : Program → (f : ℕ) → List ℕ
behind_text p f = codes " > " ++ body_name (slice_get p.bodies f)

-- the names of a path's bodies
abbrev pub path_text : Program → List ℕ → List ℕ
path_text p [] = []
path_text p (f ∷ rest) = body_name (slice_get p.bodies f) ++ flat_map (behind_text p) rest

abbrev pub paths_text : Program → Row → List ℕ
paths_text p r = codes "  path " ++ (path_text p r.path ++ (10 ∷ codes "  async " ++ (path_text p r.async_path ++ 10 ∷ [])))

-- given the names of the files
module _ (files : ℕ → Option (List ℕ)) where
  abbrev pub place_text : Pos → List ℕ
  place_text at = file_name (files at.file) ++ (codes ":" ++ (decimal at.line ++ (codes ":" ++ decimal at.col)))

  abbrev pub warning_text : Warning → List ℕ
  warning_text w = codes "warning " ++ (place_text w.pos ++ (codes " no combine for " ++ (w.name ++ 10 ∷ [])))

  module _ (p : Program) where
    abbrev pub site_text : Row → List ℕ
    site_text r = codes "race " ++ (object_name (slice_get p.objects r.object) ++ (codes " at " ++ (place_text r.pos ++ 10 ∷ [])))

    abbrev pub row_text : Row → List ℕ
    row_text r = site_text r ++ paths_text p r

    -- warnings, the number of rows, rows
    abbrev pub report_text : List Row → List ℕ
    report_text rows = flat_map warning_text p.warnings ++ (count_text (length rows) ++ flat_map row_text rows)
