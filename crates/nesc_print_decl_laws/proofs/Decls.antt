-- Declarations one behind the other are printed, and read again as the same up to places.
use Rattle.std.proofs.Common.{◌≡◌, ℕ, true, List, [], ◌∷◌, ◌++◌, refl}
use Rattle.nesc_tree.specs.declared.sorts.Sort.{Sort}
use Rattle.nesc_tree.specs.declared.contexts.Site.{Site}
use Rattle.nesc_tree.specs.declared.declarations.Decl.{Decl}
use Rattle.nesc_tree.specs.Sorts.{Names}
use Rattle.nesc_tree.specs.Phrase.{Phrase, begins_decl}
use Rattle.nesc_tree.specs.Form.{Form, Place, Spells, SpellsIn}
use Rattle.nesc_grammar.specs.Production.{production}
use Rattle.nesc_grammar.specs.Grammar as gr
use Rattle.nesc_grammar.specs.Declarations as inner
use Rattle.nesc_print_words.specs.Statements.{decl_words, decls_words}
use Rattle.nesc_print_laws.proofs.Texts.{Prints, Any, has_map, has_by_some}
use Rattle.nesc_print_laws.proofs.Lists.{Row, Behind}
use Rattle.nesc_print_laws.proofs.Fields.{Matched}
use Rattle.nesc_print_laws.proofs.Changed.{has_repeated, Pushes, row_pushed}
use Rattle.nesc_print_laws.proofs.Stmts.{part}
use Rattle.nesc_print_laws.proofs.Variables.{SameDecl}
use Rattle.nesc_print_decl_laws.proofs.Heads.{Decled}

abbrev pub decl_body : Site → Sort → Form (List Decl → List Decl)
decl_body m x = gr.when (begins_decl m x) (gr.map inner.added (inner.decl m))

-- each printed under the names that those before it leave
abbrev pub Decls : Site → List Decl → Names → Names → Type 0
Decls m = Row (decl_body m) decl_words Any (Pushes SameDecl) (begins_decl m)

decl_at : (m : Site) (y : Sort) → begins_decl m y ≡ true → (spare : ℕ) (u v : Place) (f : List Decl → List Decl) → Spells spare (SpellsIn production spare) (gr.map inner.added (inner.decl m)) u f v → Spells spare (SpellsIn production spare) (decl_body m y) u f v
decl_at m y c spare u v f h = rw c h

pub decl_pushed : {ns ms ls : Names} (m : Site) (xs : List Decl) (x : Decl) → Decls m xs ns ms → Decled m ms ls x → Decls m (xs ++ (x ∷ [])) ns ls
decl_pushed m xs x r k = row_pushed xs x r (has_by_some (λ y. begins_decl m y ≡ true) k.leads (decl_at m) (has_map (part {k = Phrase.decl m} k.prints) (λ d h l. (d, h, refl)))) k.leads

pub has_decls : {ns ms : Names} (m : Site) (xs : List Decl) → Decls m xs ns ms → Prints ns ms (inner.decls_before m) (decls_words xs) (Behind Any (begins_decl m)) (Matched SameDecl xs)
has_decls m xs r = has_repeated (begins_decl m) (decl_body m) decl_words Any SameDecl (λ y h. tt) xs r
