-- The uses in the declarations of headers and of instances, one part more.
use Rattle.std.proofs.Common.{◌≡◌, ℕ, ◌+◌, ◌<◌, List, [], ◌∷◌, ◌++◌, length, map, take, get_or, flat_map, refl, sym, ap, ◌∙◌, append_assoc, append-nil}
use Rattle.std.proofs.lemmas.Grind.{flat_map-append}
use Rattle.std.proofs.lemmas.List.{map-append, take_more}
use denote.Ref.{Bor}
use Rattle.nesc_tree.specs.declared.declarations.Decl as rust
use Rattle.body_meaning.specs.Tree.{Decl}
use Rattle.body_meaning.specs.View.{decl_of}
use Rattle.program_meaning.specs.Modules.{foreign_uses, uses_in_instances}
use Rattle.program_meaning.specs.Parts.{Instance}
use Rattle.program_meaning.specs.Uses.{in_decl, in_decls}
use Rattle.program_meaning.specs.declared.used.Use.{Use}
use Rattle.elab_targets.specs.View.{instance_of}
use Rattle.elab_targets.specs.declared.application.Instance as rust_instance

-- with one more
one_more : {A : Type 0} (xs : List A) (i : ℕ) (x : A) → i < length xs → x ≡ get_or xs i x → take (i + 1) xs ≡ take i xs ++ x ∷ []
one_more xs i x below is = take_more xs i x below ∙ ap (λ y. take i xs ++ y ∷ []) (sym is)

decls_append : (ds es : List Decl) → in_decls (ds ++ es) ≡ in_decls ds ++ in_decls es
decls_append [] es = refl
decls_append (d ∷ ds) es = ap (λ us. in_decl d ++ us) (decls_append ds es) ∙ sym (append_assoc (in_decl d) (in_decls ds) (in_decls es))

abbrev decls_in : Bor (List rust.Decl) → List Decl
decls_in h = map decl_of h.now

pub header_more : (us : List Use) (hs : List (Bor (List rust.Decl))) (i : ℕ) (x : Bor (List rust.Decl)) → i < length hs → x ≡ get_or hs i x
    → (us ++ in_decls (flat_map decls_in (take i hs))) ++ in_decls (decls_in x) ≡ us ++ in_decls (flat_map decls_in (take (i + 1) hs))
header_more us hs i x below is =
    append_assoc us (in_decls (flat_map decls_in (take i hs))) (in_decls (decls_in x))
    ∙ ap (λ vs. us ++ vs) (sym (decls_append (flat_map decls_in (take i hs)) (decls_in x)))
    ∙ ap (λ ds. us ++ in_decls (flat_map decls_in (take i hs) ++ ds)) (sym (append-nil (decls_in x)))
    ∙ ap (λ ds. us ++ in_decls ds) (sym (flat_map-append decls_in (take i hs) (x ∷ [])))
    ∙ ap (λ (ys : List (Bor (List rust.Decl))). us ++ in_decls (flat_map decls_in ys)) (sym (one_more hs i x below is))

instances_append : (is js : List Instance) → uses_in_instances (is ++ js) ≡ uses_in_instances is ++ uses_in_instances js
instances_append [] js = refl
instances_append (i ∷ is) js = ap (λ us. foreign_uses i.decls ++ us) (instances_append is js) ∙ sym (append_assoc (foreign_uses i.decls) (uses_in_instances is) (uses_in_instances js))

pub instance_more : (us : List Use) (is : List rust_instance.Instance) (k : ℕ) (x : rust_instance.Instance) → k < length is → x ≡ get_or is k x
    → (us ++ uses_in_instances (map instance_of (take k is))) ++ foreign_uses (map decl_of x.decls.now) ≡ us ++ uses_in_instances (map instance_of (take (k + 1) is))
instance_more us is k x below at =
    append_assoc us (uses_in_instances (map instance_of (take k is))) (foreign_uses (map decl_of x.decls.now))
    ∙ ap (λ vs. us ++ (uses_in_instances (map instance_of (take k is)) ++ vs)) (sym (append-nil (foreign_uses (map decl_of x.decls.now))))
    ∙ ap (λ vs. us ++ vs) (sym (instances_append (map instance_of (take k is)) (instance_of x ∷ [])))
    ∙ ap (λ ys. us ++ uses_in_instances ys) (sym (map-append instance_of (take k is) (x ∷ [])))
    ∙ ap (λ (ys : List rust_instance.Instance). us ++ uses_in_instances (map instance_of ys)) (sym (one_more is k x below at))
