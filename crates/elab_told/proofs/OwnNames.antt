-- The names of the functions that a module declares, one declaration more.
use Rattle.std.proofs.Common.{◌≡◌, ℕ, Bool, true, false, not, ◌&&◌, ◌||◌, cond, List, [], ◌∷◌, ◌++◌, Option, Some, None, refl, sym, subst, ap, ◌∙◌, bytes_eq}
use Rattle.std.specs.List.{cons_option, list_any}
use Rattle.std.proofs.lemmas.List.{append-nil}
use Rattle.std.proofs.lemmas.List.Elements.{filter_map-append}
use Rattle.std.proofs.lemmas.List.Folds.{list_any-append}
use Rattle.std.proofs.lemmas.Slice.Eq.{bytes_eq-Decides}
use Rattle.body_meaning.specs.Tree.{Decl, Head}
use Rattle.program_meaning.specs.Modules.{head_of}
use Rattle.program_meaning.specs.Numbers.{is_function, is_item_kind}
use Rattle.wire_names.specs.Texts.{same_text}
use Rattle.elab_targets.proofs.Naming.{added, turned}
use Rattle.elab_told.specs.Uses.{AreOwn, heads_in}

or-false : (b : Bool) → (b || false) ≡ b
or-false true = refl
or-false false = refl

or-true : (b : Bool) → (b || true) ≡ true
or-true true = refl
or-true false = refl

-- of the names with one more
any_added : (a x : List ℕ) (ns : List (List ℕ)) → list_any (same_text x) (added a ns) ≡ (list_any (same_text x) ns || bytes_eq a x)
any_added a x ns = by (list_any (same_text a) ns) refl where
  there : list_any (same_text a) ns ≡ true → (b : Bool) → bytes_eq a x ≡ b → list_any (same_text x) ns ≡ (list_any (same_text x) ns || b)
  there h true e =
      let any : list_any (same_text x) ns ≡ true = ap (λ (y : List ℕ). list_any (same_text y) ns) (sym ((bytes_eq-Decides a x).0 e)) ∙ h in
      any ∙ sym (or-true (list_any (same_text x) ns))
  there h false e = sym (or-false (list_any (same_text x) ns))

  by : (t : Bool) → list_any (same_text a) ns ≡ t → list_any (same_text x) (cond t ns (ns ++ a ∷ [])) ≡ (list_any (same_text x) ns || bytes_eq a x)
  by true h = there h (bytes_eq a x) refl
  by false h = list_any-append (same_text x) ns (a ∷ []) ∙ ap (λ b. list_any (same_text x) ns || b) (or-false (bytes_eq x a) ∙ turned x a)

module _ (hs : List Head) (h : Head) (old : List (List ℕ)) (are : AreOwn hs old) where
  behind : (name : List ℕ) → list_any (is_function name) (hs ++ h ∷ []) ≡ (list_any (is_function name) hs || is_function name h)
  behind name = list_any-append (is_function name) hs (h ∷ []) ∙ ap (λ b. list_any (is_function name) hs || b) (or-false (is_function name h))

  pub function_added : (new : List (List ℕ)) → is_item_kind h.kind ≡ false → new ≡ added h.name old → AreOwn (hs ++ h ∷ []) new
  function_added new kind is = record {
    has = λ name.
        ap (list_any (same_text name)) is ∙ any_added h.name name old
        ∙ ap (λ b. b || bytes_eq h.name name) (are.has name)
        ∙ ap (λ k. list_any (is_function name) hs || (not k && bytes_eq h.name name)) (sym kind)
        ∙ sym (behind name);
  }

  pub item_passed : is_item_kind h.kind ≡ true → AreOwn (hs ++ h ∷ []) old
  item_passed kind = record {
    has = λ name.
        are.has name ∙ sym (or-false (list_any (is_function name) hs))
        ∙ ap (λ k. list_any (is_function name) hs || (not k && bytes_eq h.name name)) (sym kind)
        ∙ sym (behind name);
  }

-- ---- declarations

module _ (ds : List Decl) (d : Decl) where
  heads_behind : (o : Option Head) → head_of d ≡ o → heads_in (ds ++ d ∷ []) ≡ heads_in ds ++ cons_option o []
  heads_behind o is = filter_map-append head_of ds (d ∷ []) ∙ ap (λ (x : Option Head). heads_in ds ++ cons_option x []) is

  pub no_head : (names : List (List ℕ)) → head_of d ≡ None → AreOwn (heads_in ds) names → AreOwn (heads_in (ds ++ d ∷ [])) names
  no_head names is are = subst (λ (hs : List Head). AreOwn hs names) (sym (heads_behind None is ∙ append-nil (heads_in ds))) are

  pub one_head : (names : List (List ℕ)) (h : Head) → head_of d ≡ Some h → AreOwn (heads_in ds ++ h ∷ []) names → AreOwn (heads_in (ds ++ d ∷ [])) names
  one_head names h is are = subst (λ (hs : List Head). AreOwn hs names) (sym (heads_behind (Some h) is)) are

pub no_names : (names : List (List ℕ)) → names ≡ [] → AreOwn [] names
no_names names is = record { has = λ name. ap (list_any (same_text name)) is }
