-- Declarations of headers, one behind the other: the numbers of those that are behind stand before what the rest gives.
use Rattle.std.proofs.Common.{◌≡◌, ℕ, ◌+◌, ◌<◌, ◌≤◌, List, [], ◌∷◌, ◌++◌, map, drop, length, flat_map, get_or, Ok, Err, ap, sym, ◌∙◌, refl, append_assoc, append-nil}
use Rattle.std.proofs.lemmas.List.Concat.{flat_map-cons}
use Rattle.nm_base.specs.declared.fault.Fault.{Fault}
use Rattle.nesc_types.specs.Rule.{Rule}
use Rattle.nesc_tree.specs.declared.declarations.Decl as rust
use Rattle.body_meaning.specs.Tree.{Decl}
use Rattle.body_meaning.specs.View.{decl_of}
use Rattle.elab_exprs.proofs.Steps.{drop-past}
use Rattle.elab_forms.proofs.Lists.{next_of}
use Rattle.elab_making.proofs.Faults.{passes}
use Rattle.elab_meaning.specs.Answers.{FaultIs}
use Rattle.elab_modules.specs.Behind.{header_declared}
use Rattle.program_meaning.specs.Making.{Whole, after, give}
use Rattle.program_meaning.specs.Modules.{declared_by, headers_declared}
use Rattle.program_meaning.specs.Walk.{Told, declaration}

module _ {A : Type 0} where
  abbrev pub behind : List A → List A → Whole → Rule (List A × Whole)
  behind done more w = Ok (done ++ more, w)

  abbrev then_rest : (Whole → Rule (List A × Whole)) → List A → Whole → Rule (List A × Whole)
  then_rest rest xs w = after (rest w) (λ ys. give (xs ++ ys))

  begins : (r : Rule (List A × Whole)) → r ≡ after r (behind [])
  begins (Ok p) = refl
  begins (Err e) = refl

  move : (xs done : List A) (r : Rule (List A × Whole)) → after (after r (λ ys. give (xs ++ ys))) (behind done) ≡ after r (behind (done ++ xs))
  move xs done (Ok p) = ap (λ (l : List A). Ok (l, p.1)) (sym (append_assoc done xs p.0))
  move xs done (Err e) = refl

  -- a part with one before it, and the rest behind both
  moved : (xs : List A) (r : Rule (List A × Whole)) (rest : Whole → Rule (List A × Whole))
      → after (after r (then_rest rest)) (λ more. give (xs ++ more)) ≡ after (after r (λ more. give (xs ++ more))) (then_rest rest)
  moved xs (Err e) rest = refl
  moved xs (Ok p) rest = by_rest (rest p.1)
    where
      by_rest : (r : Rule (List A × Whole)) → after (after r (λ ys. give (p.0 ++ ys))) (λ more. give (xs ++ more)) ≡ after r (λ ys. give ((xs ++ p.0) ++ ys))
      by_rest (Ok q) = ap (λ (l : List A). Ok (l, q.1)) (sym (append_assoc xs p.0 q.0))
      by_rest (Err e) = refl

  passed : (whole one : Rule (List A × Whole)) (rest : Whole → Rule (List A × Whole)) (done xs more : List A) (w1 : Whole)
      → whole ≡ after (after one (then_rest rest)) (behind done) → one ≡ Ok (xs, w1) → more ≡ done ++ xs → whole ≡ after (rest w1) (behind more)
  passed whole one rest done xs more w1 is e m =
      is ∙ ap (λ (r : Rule (List A × Whole)). after (after r (then_rest rest)) (behind done)) e
      ∙ move xs done (rest w1)
      ∙ ap (λ (l : List A). after (rest w1) (behind l)) (sym m)

  failed : (whole one : Rule (List A × Whole)) (rest : Whole → Rule (List A × Whole)) (done : List A) (e : Fault)
      → whole ≡ after (after one (then_rest rest)) (behind done) → FaultIs e one → FaultIs e whole
  failed whole one rest done e is f = rw is (passes e _ _ (passes e _ _ f))

  ended : (whole : Rule (List A × Whole)) (done : List A) (w : Whole) → whole ≡ after (Ok ([], w)) (behind done) → whole ≡ Ok (done, w)
  ended whole done w is = is ∙ ap (λ (l : List A). Ok (l, w)) (append-nil done)

module _ (told : Told) where
  -- ---- the declarations of one header

  cut : (d : Decl) (ds : List Decl) (w : Whole) → headers_declared told (d ∷ ds) w ≡ after (header_declared told d w) (then_rest (headers_declared told ds))
  cut d ds w = by_declaration (declaration told d w)
    where
      by_declaration : (r : Rule (Unit {0} × Whole))
          → after r (λ u. λ w1. after (headers_declared told ds w1) (λ more. give (declared_by d (length w.work.structs) (length w1.work.structs) ++ more)))
          ≡ after (after r (λ u. λ w1. Ok (declared_by d (length w.work.structs) (length w1.work.structs), w1))) (then_rest (headers_declared told ds))
      by_declaration (Ok x) = refl
      by_declaration (Err e) = refl

  pub header_begins : (ds : List rust.Decl) (w : Whole) (done : List ℕ) → done ≡ [] → headers_declared told (map decl_of ds) w ≡ after (headers_declared told (map decl_of (drop 0 ds)) w) (behind done)
  header_begins ds w done none = rw none (begins (headers_declared told (map decl_of ds) w))

  next : (ds : List rust.Decl) (i : ℕ) (d : rust.Decl) (w : Whole) (whole : Rule (List ℕ × Whole)) (done : List ℕ)
      → whole ≡ after (headers_declared told (map decl_of (drop i ds)) w) (behind done) → i < length ds → d ≡ get_or ds i d
      → whole ≡ after (after (header_declared told (decl_of d) w) (then_rest (headers_declared told (map decl_of (drop (i + 1) ds))))) (behind done)
  next ds i d w whole done is h isd =
      is
      ∙ ap (λ (ys : List rust.Decl). after (headers_declared told (map decl_of ys) w) (behind done)) (next_of ds i d h isd)
      ∙ ap (λ (r : Rule (List ℕ × Whole)). after r (behind done)) (cut (decl_of d) (map decl_of (drop (i + 1) ds)) w)

  pub declaration_passed : (ds : List rust.Decl) (i : ℕ) (d : rust.Decl) (w w1 : Whole) (whole : Rule (List ℕ × Whole)) (done xs more : List ℕ)
      → whole ≡ after (headers_declared told (map decl_of (drop i ds)) w) (behind done) → i < length ds → d ≡ get_or ds i d
      → header_declared told (decl_of d) w ≡ Ok (xs, w1) → more ≡ done ++ xs
      → whole ≡ after (headers_declared told (map decl_of (drop (i + 1) ds)) w1) (behind more)
  declaration_passed ds i d w w1 whole done xs more is h isd e m =
      passed whole (header_declared told (decl_of d) w) (headers_declared told (map decl_of (drop (i + 1) ds))) done xs more w1 (next ds i d w whole done is h isd) e m

  pub declaration_failed : (ds : List rust.Decl) (i : ℕ) (d : rust.Decl) (w : Whole) (whole : Rule (List ℕ × Whole)) (done : List ℕ) (e : Fault)
      → whole ≡ after (headers_declared told (map decl_of (drop i ds)) w) (behind done) → i < length ds → d ≡ get_or ds i d
      → FaultIs e (header_declared told (decl_of d) w) → FaultIs e whole
  declaration_failed ds i d w whole done e is h isd f =
      failed whole (header_declared told (decl_of d) w) (headers_declared told (map decl_of (drop (i + 1) ds))) done e (next ds i d w whole done is h isd) f

  pub header_ends : (ds : List rust.Decl) (i : ℕ) (w : Whole) (whole : Rule (List ℕ × Whole)) (done : List ℕ)
      → whole ≡ after (headers_declared told (map decl_of (drop i ds)) w) (behind done) → length ds ≤ i → whole ≡ Ok (done, w)
  header_ends ds i w whole done is h =
      ended whole done w (is ∙ ap (λ (ys : List rust.Decl). after (headers_declared told (map decl_of ys) w) (behind done)) (drop-past ds i h))

  -- ---- all headers

  joined : (xs ys : List Decl) (w : Whole) → headers_declared told (xs ++ ys) w ≡ after (headers_declared told xs w) (then_rest (headers_declared told ys))
  joined [] ys w = begins (headers_declared told ys w)
  joined (x ∷ xs) ys w = by_declaration (λ w1. joined xs ys w1) (declaration told x w)
    where
      by_declaration : ((w1 : Whole) → headers_declared told (xs ++ ys) w1 ≡ after (headers_declared told xs w1) (then_rest (headers_declared told ys))) → (r : Rule (Unit {0} × Whole))
          → after r (λ u. λ w1. after (headers_declared told (xs ++ ys) w1) (λ more. give (declared_by x (length w.work.structs) (length w1.work.structs) ++ more)))
          ≡ after (after r (λ u. λ w1. after (headers_declared told xs w1) (λ more. give (declared_by x (length w.work.structs) (length w1.work.structs) ++ more)))) (then_rest (headers_declared told ys))
      by_declaration rest (Ok p) =
          ap (λ (r : Rule (List ℕ × Whole)). after r (λ more. give (declared_by x (length w.work.structs) (length p.1.work.structs) ++ more))) (rest p.1)
          ∙ moved (declared_by x (length w.work.structs) (length p.1.work.structs)) (headers_declared told xs p.1) (headers_declared told ys)
      by_declaration rest (Err e) = refl

  module _ {H : Type 0} (view : H → List Decl) where
    pub headers_begin : (hs : List H) (w : Whole) (done : List ℕ) → done ≡ [] → headers_declared told (flat_map view hs) w ≡ after (headers_declared told (flat_map view (drop 0 hs)) w) (behind done)
    headers_begin hs w done none = rw none (begins (headers_declared told (flat_map view hs) w))

    next_header : (hs : List H) (i : ℕ) (x : H) (w : Whole) (whole : Rule (List ℕ × Whole)) (done : List ℕ)
        → whole ≡ after (headers_declared told (flat_map view (drop i hs)) w) (behind done) → i < length hs → x ≡ get_or hs i x
        → whole ≡ after (after (headers_declared told (view x) w) (then_rest (headers_declared told (flat_map view (drop (i + 1) hs))))) (behind done)
    next_header hs i x w whole done is h isx =
        is
        ∙ ap (λ (ys : List H). after (headers_declared told (flat_map view ys) w) (behind done)) (next_of hs i x h isx)
        ∙ ap (λ (ds : List Decl). after (headers_declared told ds w) (behind done)) (flat_map-cons view x (drop (i + 1) hs))
        ∙ ap (λ (r : Rule (List ℕ × Whole)). after r (behind done)) (joined (view x) (flat_map view (drop (i + 1) hs)) w)

    pub header_passed : (hs : List H) (i : ℕ) (x : H) (w w1 : Whole) (whole : Rule (List ℕ × Whole)) (done xs more : List ℕ)
        → whole ≡ after (headers_declared told (flat_map view (drop i hs)) w) (behind done) → i < length hs → x ≡ get_or hs i x
        → headers_declared told (view x) w ≡ Ok (xs, w1) → more ≡ done ++ xs
        → whole ≡ after (headers_declared told (flat_map view (drop (i + 1) hs)) w1) (behind more)
    header_passed hs i x w w1 whole done xs more is h isx e m =
        passed whole (headers_declared told (view x) w) (headers_declared told (flat_map view (drop (i + 1) hs))) done xs more w1 (next_header hs i x w whole done is h isx) e m

    pub header_failed : (hs : List H) (i : ℕ) (x : H) (w : Whole) (whole : Rule (List ℕ × Whole)) (done : List ℕ) (e : Fault)
        → whole ≡ after (headers_declared told (flat_map view (drop i hs)) w) (behind done) → i < length hs → x ≡ get_or hs i x
        → FaultIs e (headers_declared told (view x) w) → FaultIs e whole
    header_failed hs i x w whole done e is h isx f =
        failed whole (headers_declared told (view x) w) (headers_declared told (flat_map view (drop (i + 1) hs))) done e (next_header hs i x w whole done is h isx) f

    pub headers_end : (hs : List H) (i : ℕ) (w : Whole) (whole : Rule (List ℕ × Whole)) (done : List ℕ)
        → whole ≡ after (headers_declared told (flat_map view (drop i hs)) w) (behind done) → length hs ≤ i → whole ≡ Ok (done, w)
    headers_end hs i w whole done is h =
        ended whole done w (is ∙ ap (λ (ys : List H). after (headers_declared told (flat_map view ys) w) (behind done)) (drop-past hs i h))
