-- The rows of a site that begins with a pointer.
use Rattle.std.proofs.Common.{◌≡◌, ℕ, false, if◌then◌else◌, List, [], ◌∷◌, ◌++◌, length, Option, Some, None, refl, sym, subst, ap, ◌∙◌}
use Rattle.std.proofs.lemmas.Bool.{false≢true}
use Rattle.nesc_core.specs.Calls.{HasNoCycle}
use Rattle.nesc_core.specs.Plain.{Ty, Program}
use Rattle.nesc_core.specs.View.{type_of}
use Rattle.call_graph.specs.Paths.{callees, handler_roots}
use Rattle.least_paths.specs.declared.ways.Search.{Search}
use Rattle.least_paths.specs.Searched.{IsSearch}
use Rattle.race_checker.specs.declared.row.Row.{Row}
use Rattle.race_report.specs.declared.kinds.Kind.{Kind}
use Rattle.race_report.specs.declared.rows.Gathered.{Gathered}
use Rattle.race_report.specs.declared.rows.Site.{Site}
use Rattle.race_report.specs.Firsts.{is_some, shared_from}
use Rattle.race_report.specs.Kinds.{is_shared, shared_objects, objects_in, AreKinds}
use Rattle.race_report.specs.Sites.{site_rows, Grows, Gathers}
use Rattle.race_report.specs.Starts.{is_pointed}
use Rattle.race_report.proofs.KindLemmas.{by_kind, kind_more, known_objects}
use Rattle.race_report.proofs.PathLemmas.{unshared}
use Rattle.race_report.proofs.RowLemmas.{grows_as, no_other, parts_of}

-- an object that is not shared has no rows
pub unshared_rows : (p : Program) (ranked : HasNoCycle p) (s : Search) → IsSearch (handler_roots p) (callees p) (length p.bodies) s → (site : Site) (x : ℕ)
    → is_shared p s.order.items x ≡ false → site_rows p site x ≡ []
unshared_rows p ranked s h site x is = by_case (shared_from p s.order.items x) refl is
  where
    by_case : (o : Option ℕ) → shared_from p s.order.items x ≡ o → is_some o ≡ false → site_rows p site x ≡ []
    by_case None none is = no_other p x site (unshared p ranked s x h none)
    by_case (Some f) some is = absurd (false≢true (sym is))

module _ (p : Program) (order : List ℕ) (site : Site) (none : (x : ℕ) → is_shared p order x ≡ false → site_rows p site x ≡ []) where
  abbrev pub pointed_rows : Ty → ℕ → List Row
  pointed_rows t y = if is_pointed p t y then site_rows p site y else []

  grown : (t : Ty) (objects : List ℕ) (a b : List Row) → objects ≡ shared_objects p order t → Grows (parts_of p site objects) a b → Grows (pointed_rows t) a b
  grown t objects a b are = grows_as (parts_of p site objects) (pointed_rows t) a b (λ y. ap (λ xs. parts_of p site xs y) are ∙ by_kind p order t (site_rows p site) none y)

  pub gathers_known : (t : Ty) (objects : List ℕ) (a b : Gathered) → objects_in a.kinds.items t ≡ Some objects → a.kinds.items ≡ b.kinds.items
      → Grows (parts_of p site objects) a.rows.items b.rows.items → Gathers p order (pointed_rows t) a b
  gathers_known t objects a b is same h = record {
    from = λ kinds. record {
      kinds = subst (AreKinds p order) same kinds;
      rows = grown t objects a.rows.items b.rows.items (known_objects p order t a.kinds.items objects kinds is) h;
    };
  }

  pub gathers_new : (kind : Kind) (objects : List ℕ) (a b : Gathered) → objects ≡ shared_objects p order (type_of kind.ty.now) → kind.objects ≡ objects
      → b.kinds.items ≡ a.kinds.items ++ kind ∷ [] → Grows (parts_of p site objects) a.rows.items b.rows.items → Gathers p order (pointed_rows (type_of kind.ty.now)) a b
  gathers_new kind objects a b are same more h = record {
    from = λ kinds. record {
      kinds = subst (AreKinds p order) (sym more) (kind_more p order a.kinds.items kind kinds (same ∙ are));
      rows = grown (type_of kind.ty.now) objects a.rows.items b.rows.items are h;
    };
  }
