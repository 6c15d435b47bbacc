-- The words before a declaration, its type, stars and name are printed, and read again as the same up to places.
use Rattle.std.proofs.Common.{◌≡◌, ℕ, Bool, true, false, not, List, [], ◌∷◌, ◌++◌, map, refl, sym, ap, subst, ◌∙◌, append_assoc}
use Rattle.std.specs.Prelude.{codes}
use Rattle.nm_base.specs.declared.token.Token.{Token}
use Rattle.nesc_tree.specs.declared.sorts.Sort.{Sort}
use Rattle.nesc_tree.specs.declared.sorts.Sort.TheVariants as s
use Rattle.nesc_tree.specs.declared.contexts.Site.{Site}
use Rattle.nesc_tree.specs.declared.declarations.Decl.{Decl}
use Rattle.nesc_tree.specs.declared.declarations.FuncHead.{FuncHead}
use Rattle.nesc_tree.specs.declared.declarations.FuncKind.{FuncKind}
use Rattle.nesc_tree.specs.declared.declarations.FuncKind.TheVariants as kind
use Rattle.nesc_tree.specs.declared.operand.CastType.{CastType}
use Rattle.nesc_tree.specs.Plain as p
use Rattle.nesc_tree.specs.Sorts.{Names, named}
use Rattle.nesc_tree.specs.Phrase.{Phrase, begins, begins_type, begins_decl}
use Rattle.nesc_tree.specs.Form.{Form, Place, Spells, SpellsIn, starts}
use Rattle.nesc_grammar.specs.Production.{production}
use Rattle.nesc_grammar.specs.Grammar as gr
use Rattle.nesc_grammar.specs.Declarations as inner
use Rattle.nesc_print_words.specs.Lexemes.{Words, word, flagged, stars, joined}
use Rattle.nesc_print_words.specs.Expressions.{base_words}
use Rattle.nesc_print_words.specs.Declarations.{kind_words, is_plain, function_words, wants_word}
use Rattle.nesc_print_words.specs.Statements.{decl_words}
use Rattle.nesc_print_laws.proofs.Texts.{Prints, Leads, Any, lead, lead_on, lead_any, has_token, has_seq, has_map, has_by, has_by_some, has_some, has_nothing, has_words, has_less}
use Rattle.nesc_print_laws.proofs.Names.{text_is, IsName, has_name}
use Rattle.nesc_print_laws.proofs.Lists.{Row, has_row}
use Rattle.nesc_print_laws.proofs.Calls.{All}
use Rattle.nesc_print_laws.proofs.Types.{Ends, Basic, IsType, has_type, has_stars, type_leads, name_leads}
use Rattle.nesc_print_laws.proofs.Fields.{declarator_leads}
use Rattle.nesc_print_laws.proofs.Changed.{has_declare}
use Rattle.nesc_print_laws.proofs.Stmts.{default_sorted, lead_words}
use Rattle.nesc_print_laws.proofs.Variables.{SameDecl}
use Rattle.nesc_print_decl_laws.proofs.Keywords.{inline_sorted, async_sorted, task_sorted, command_sorted, event_sorted}
use Rattle.nesc_print_decl_laws.proofs.Params.{any_carries}

-- ---- the words before the type

-- those that are printed
is_printed : Sort → Bool
is_printed s.Inline = true
is_printed s.Default = true
is_printed s.Async = true
is_printed _ = false

abbrev modifier_words : Sort → Words
modifier_words s.Inline = word (codes "inline") ∷ []
modifier_words s.Default = word (codes "default") ∷ []
modifier_words s.Async = word (codes "async") ∷ []
modifier_words _ = []

abbrev Modifies : Sort → (inner.Words → inner.Words) → Type 0
Modifies x f = (w : inner.Words) → f w ≡ inner.modified x w

abbrev modifier_body : Sort → Form (inner.Words → inner.Words)
modifier_body x = gr.when (inner.is_modifier x) (gr.map (λ _. inner.modified x) (gr.one x))

abbrev folded : inner.Words → List Sort → inner.Words
folded w [] = w
folded w (x ∷ xs) = folded (inner.modified x w) xs

folded_pushed : (xs : List Sort) (x : Sort) (w : inner.Words) → inner.modified x (folded w xs) ≡ folded w (xs ++ (x ∷ []))
folded_pushed [] x w = refl
folded_pushed (y ∷ xs) x w = folded_pushed xs x (inner.modified y w)

abbrev WithFlags : Bool → Bool → inner.Words → Type 0
WithFlags b c w = w ≡ record { kind = kind.Plain; is_async = c; is_default = b }

module _ {ns : Names} where
  each_modifier : (xs : List Sort) → All (λ x. is_printed x ≡ true) xs → Row modifier_body modifier_words Any Modifies inner.is_modifier xs ns ns
  unfolding is_printed
  each_modifier [] k = Row.none
  each_modifier (s.Inline ∷ xs) k = Row.more (has_by s.Inline (lead s.Inline inline_sorted refl) (has_map (has_token inline_sorted (λ t w. w)) (λ t h w. refl))) (lead s.Inline inline_sorted refl) (each_modifier xs k.1)
  each_modifier (s.Default ∷ xs) k = Row.more (has_by s.Default (lead s.Default default_sorted refl) (has_map (has_token default_sorted (λ t w. w)) (λ t h w. refl))) (lead s.Default default_sorted refl) (each_modifier xs k.1)
  each_modifier (s.Async ∷ xs) k = Row.more (has_by s.Async (lead s.Async async_sorted refl) (has_map (has_token async_sorted (λ t w. w)) (λ t h w. refl))) (lead s.Async async_sorted refl) (each_modifier xs k.1)
  each_modifier (_ ∷ xs) k = (let z = k.0 in absurd cc)

  all_modifiers : (xs : List Sort) → All (λ x. is_printed x ≡ true) xs → Prints ns ns inner.modifiers (joined (map modifier_words xs)) (λ y. inner.is_modifier y ≡ false) (λ w. w ≡ folded inner.no_words xs)
  all_modifiers xs k = has_less (λ y h. (tt, h)) (λ w h. h) (has_row modifier_body modifier_words Any Modifies inner.is_modifier (λ xs w. w ≡ folded inner.no_words xs) (λ y h. tt)
      (λ xs x f w h g. g w ∙ (ap (inner.modified x) h ∙ folded_pushed xs x inner.no_words)) xs inner.no_words refl (each_modifier xs k))

  has_modifiers : (a b c : Bool) → Prints ns ns inner.modifiers (flagged a (codes "inline") ++ (flagged b (codes "default") ++ flagged c (codes "async"))) (λ y. inner.is_modifier y ≡ false) (WithFlags b c)
  unfolding is_printed
  has_modifiers true true true = all_modifiers (s.Inline ∷ s.Default ∷ s.Async ∷ []) (refl, (refl, (refl, tt)))
  has_modifiers true true false = all_modifiers (s.Inline ∷ s.Default ∷ []) (refl, (refl, tt))
  has_modifiers true false true = all_modifiers (s.Inline ∷ s.Async ∷ []) (refl, (refl, tt))
  has_modifiers true false false = all_modifiers (s.Inline ∷ []) (refl, tt)
  has_modifiers false true true = all_modifiers (s.Default ∷ s.Async ∷ []) (refl, (refl, tt))
  has_modifiers false true false = all_modifiers (s.Default ∷ []) (refl, tt)
  has_modifiers false false true = all_modifiers (s.Async ∷ []) (refl, tt)
  has_modifiers false false false = all_modifiers [] tt

command_back : (t : Token) → t.text ≡ codes "command" → inner.item_kind t ≡ kind.Command
unfolding inner.is_event
command_back t h = rw h refl

event_back : (t : Token) → t.text ≡ codes "event" → inner.item_kind t ≡ kind.Event
unfolding inner.is_event
event_back t h = rw h refl

no_kind : (y : Sort) → begins_type y ≡ true → starts (Form.by inner.kind_of) y ≡ false
no_kind s.Task h = absurd cc
no_kind s.Item h = absurd cc
no_kind _ h = refl

no_modifier : (y : Sort) → begins_type y ≡ true → inner.is_modifier y ≡ false
no_modifier s.Async h = absurd cc
no_modifier s.Default h = absurd cc
no_modifier s.Static h = absurd cc
no_modifier s.Inline h = absurd cc
no_modifier _ h = refl

abbrev TypeAhead : Sort → Type 0
TypeAhead y = begins_type y ≡ true

module _ {ns : Names} where
  has_kind : (k : FuncKind) → Prints ns ns (Form.maybe (Form.by inner.kind_of) kind.Plain) (kind_words k) TypeAhead (λ x. x ≡ k)
  has_kind kind.Plain = has_less no_kind (λ a h. h) (has_nothing refl)
  has_kind kind.Task = has_less (λ y h. tt) (λ a h. h) (has_some (lead s.Task task_sorted refl) (has_by s.Task (lead s.Task task_sorted refl) (has_map (has_token task_sorted (λ t w. w)) (λ t w. refl))))
  has_kind kind.Command = has_less (λ y h. tt) (λ a h. h) (has_some (lead s.Item command_sorted refl) (has_by s.Item (lead s.Item command_sorted refl) (has_map (has_token command_sorted (λ t w. w)) (λ t w. command_back t (text_is t w)))))
  has_kind kind.Event = has_less (λ y h. tt) (λ a h. h) (has_some (lead s.Item event_sorted refl) (has_by s.Item (lead s.Item event_sorted refl) (has_map (has_token event_sorted (λ t w. w)) (λ t w. event_back t (text_is t w)))))

  kind_lead : (k : FuncKind) → Leads ns ns (kind_words k) TypeAhead (λ y. inner.is_modifier y ≡ false)
  kind_lead kind.Plain = lead_on no_modifier
  kind_lead kind.Task = lead s.Task task_sorted refl
  kind_lead kind.Command = lead s.Item command_sorted refl
  kind_lead kind.Event = lead s.Item event_sorted refl

pub record IsWords (h : FuncHead) (w : inner.Words) : Type 0 where
  pub kind : w.kind ≡ h.kind
  pub is_async : w.is_async ≡ h.is_async
  pub is_default : w.is_default ≡ h.is_default

pub has_function_words : {ns : Names} (h : FuncHead) → Prints ns ns inner.function_words (function_words h) TypeAhead (IsWords h)
has_function_words h = has_words words (has_seq (has_modifiers (wants_word h) h.is_default h.is_async) (kind_lead h.kind) (has_kind h.kind) (λ w k g e. record { kind = e; is_async = ap (λ (v : inner.Words). v.is_async) g; is_default = ap (λ (v : inner.Words). v.is_default) g }))
  where
    words : (flagged (wants_word h) (codes "inline") ++ (flagged h.is_default (codes "default") ++ flagged h.is_async (codes "async"))) ++ kind_words h.kind ≡ function_words h
    words = append_assoc (flagged (wants_word h) (codes "inline")) (flagged h.is_default (codes "default") ++ flagged h.is_async (codes "async")) (kind_words h.kind) ∙ ap (λ ws. flagged (wants_word h) (codes "inline") ++ ws) (append_assoc (flagged h.is_default (codes "default")) (flagged h.is_async (codes "async")) (kind_words h.kind))

-- ---- whether there is such a word

some_word : Bool → Bool → Bool → FuncKind → Bool
some_word true b c k = true
some_word false true c k = true
some_word false false true k = true
some_word false false false k = not (is_plain k)

pub has_word : FuncHead → Bool
has_word h = some_word (wants_word h) h.is_default h.is_async h.kind

-- what a function with such a word begins with
abbrev pub begins_function : Sort → Bool
begins_function s.Inline = true
begins_function s.Default = true
begins_function s.Async = true
begins_function s.Task = true
begins_function s.Item = true
begins_function _ = false

pub words_lead : {ns ms : Names} (h : FuncHead) (vs : Words) → has_word h ≡ true → Leads ns ms (function_words h ++ vs) Any (λ y. begins_function y ≡ true)
unfolding has_word some_word
words_lead {ns = ns} {ms = ms} h vs e = by (wants_word h) h.is_default h.is_async h.kind e
  where
    by : (a b c : Bool) (k : FuncKind) → some_word a b c k ≡ true → Leads ns ms ((flagged a (codes "inline") ++ (flagged b (codes "default") ++ (flagged c (codes "async") ++ kind_words k))) ++ vs) Any (λ y. begins_function y ≡ true)
    by true b c k e = lead s.Inline inline_sorted refl
    by false true c k e = lead s.Default default_sorted refl
    by false false true k e = lead s.Async async_sorted refl
    by false false false kind.Plain e = absurd cc
    by false false false kind.Task e = lead s.Task task_sorted refl
    by false false false kind.Command e = lead s.Item command_sorted refl
    by false false false kind.Event e = lead s.Item event_sorted refl

-- where there is none
pub record Wordless (h : FuncHead) : Type 0 where
  pub wants : wants_word h ≡ false
  pub is_words : IsWords h inner.no_words
  pub words : function_words h ≡ []

pub wordless : (h : FuncHead) → has_word h ≡ false → Wordless h
unfolding has_word some_word
wordless h e = by (wants_word h) h.is_default h.is_async h.kind refl refl refl refl e
  where
    by : (a b c : Bool) (k : FuncKind) → wants_word h ≡ a → h.is_default ≡ b → h.is_async ≡ c → h.kind ≡ k → some_word a b c k ≡ false → Wordless h
    by true b c k w d a i e = absurd cc
    by false true c k w d a i e = absurd cc
    by false false true k w d a i e = absurd cc
    by false false false kind.Task w d a i e = absurd cc
    by false false false kind.Command w d a i e = absurd cc
    by false false false kind.Event w d a i e = absurd cc
    by false false false kind.Plain w d a i e = record { wants = w; is_words = record { kind = sym i; is_async = sym a; is_default = sym d }; words = four w d a i }
      where
        four : {a b c : Bool} {k : FuncKind} → a ≡ false → b ≡ false → c ≡ false → k ≡ kind.Plain → flagged a (codes "inline") ++ (flagged b (codes "default") ++ (flagged c (codes "async") ++ kind_words k)) ≡ []
        four f g h i = rw (f, g, h, i) refl

-- ---- a type, stars and a name

-- the declaration that is made of them, by what stands behind
pub record Named (n : ℕ) (name : List ℕ) (P : inner.Behind → Type 0) (f : CastType → inner.Words → inner.Declaring) : Type 0 where
  pub stars : ℕ
  pub are_stars : stars ≡ n
  pub token : Token
  pub is_name : token.text ≡ name
  pub behind : inner.Behind
  pub ok : P behind
  pub made : (t : CastType) (w : inner.Words) → f t w ≡ behind w (record { ty = t; stars = stars; name = token })

pub name_no_star : (b : Bool) → begins Phrase.pointers (named s.Word b) ≡ false
name_no_star true = refl
name_no_star false = refl

pub name_ends : (b : Bool) → Ends (named s.Word b)
name_ends true = refl
name_ends false = refl

pub has_named : {ns ms : Names} {g : Form inner.Behind} {vs : Words} {P : inner.Behind → Type 0} (n : ℕ) (name : List ℕ) → IsName name → Prints ns ms g vs Any P → Prints ns ms (inner.named g) (stars n ++ (word name ∷ vs)) Any (Named n name P)
has_named {ns = ns} {P = P} n name k u = has_seq {Q = λ f. (m : ℕ) → m ≡ n → Named n name P (f m)} (has_stars n) (name_leads name k name_no_star)
    (has_seq (has_name ns name k) lead_any u (λ x f e h m i. record { stars = m; are_stars = i; token = x; is_name = e; behind = f; ok = h; made = λ t w. refl })) (λ m f i h. h m i)

-- ---- declarations outside of blocks

-- this declaration, which hides these names
pub record Made (x : Decl) (hides : List (List ℕ)) (y : inner.Declaring) : Type 0 where
  pub same : SameDecl x y.decl
  pub hidden : y.hides ≡ hides

-- printed as a declaration of a header or a module
pub record Decled (m : Site) (ns ms : Names) (x : Decl) : Type 0 where
  pub prints : Prints ns ms (production (Phrase.decl m)) (decl_words x) Any (SameDecl x)
  pub leads : Leads ns ms (decl_words x) Any (λ y. begins_decl m y ≡ true)

pub type_begins : (m : Site) (y : Sort) → begins_type y ≡ true → begins_decl m y ≡ true
type_begins m s.Typedef h = absurd cc
type_begins m s.Norace h = absurd cc
type_begins m s.Static h = absurd cc
type_begins m s.Async h = absurd cc
type_begins m s.Default h = absurd cc
type_begins m s.Inline h = absurd cc
type_begins m s.Task h = absurd cc
type_begins m s.Item h = absurd cc
type_begins m _ h = h

function_begins : (m : Site) (y : Sort) → begins_function y ≡ true → begins_decl m y ≡ true
function_begins m s.Inline h = refl
function_begins m s.Default h = refl
function_begins m s.Async h = refl
function_begins m s.Task h = refl
function_begins m s.Item h = refl
function_begins m _ h = absurd cc

pub has_hiding : {ns ms : Names} {g : Form inner.Declaring} {ws : Words} (x : Decl) (hides : List (List ℕ)) → Prints ns ms g ws Any (Made x hides) → Prints ns (inner.all_hidden hides ms) (inner.hiding g) ws Any (SameDecl x)
has_hiding {ms = ms} x hides u = has_map (has_declare u (λ d h. ap (λ l. inner.all_hidden l ms) h.hidden) any_carries) (λ d h. h.same)

typed_form : Site → Form inner.Declaring
typed_form m = gr.with gr.type_form (Form.by (inner.typed_of m))

type_at : (m : Site) (y : Sort) → begins_type y ≡ true → (spare : ℕ) (u v : Place) (x : Decl) → Spells spare (SpellsIn production spare) (inner.hiding (typed_form m)) u x v → Spells spare (SpellsIn production spare) (inner.decl_of m y) u x v
unfolding typed_form
type_at m s.Qualifier c spare u v x h = h
type_at m s.Void c spare u v x h = h
type_at m s.Signedness c spare u v x h = h
type_at m s.CharType c spare u v x h = h
type_at m s.Length c spare u v x h = h
type_at m s.Int c spare u v x h = h
type_at m s.TypeName c spare u v x h = h
type_at m s.Struct c spare u v x h = h
type_at m s.Enum c spare u v x h = h
type_at m _ c spare u v x h = absurd cc

function_at : (m : Site) (y : Sort) → begins_function y ≡ true → (spare : ℕ) (u v : Place) (x : Decl) → Spells spare (SpellsIn production spare) (inner.hiding inner.function) u x v → Spells spare (SpellsIn production spare) (inner.decl_of m y) u x v
function_at m s.Inline c spare u v x h = h
function_at m s.Default c spare u v x h = h
function_at m s.Async c spare u v x h = h
function_at m s.Task c spare u v x h = h
function_at m s.Item c spare u v x h = h
function_at m _ c spare u v x h = absurd cc

module _ (m : Site) {ns ms : Names} {ws : Words} (x : Decl) (hides : List (List ℕ)) (words : decl_words x ≡ ws) where
  -- one that begins with a type
  pub decled_typed : Leads ns (inner.all_hidden hides ms) ws Any TypeAhead → Prints ns ms (gr.with gr.type_form (Form.by (inner.typed_of m))) ws Any (Made x hides) → Decled m ns (inner.all_hidden hides ms) x
  unfolding typed_form
  decled_typed j u = record {
    prints = has_words (sym words) (has_by_some TypeAhead j (type_at m) (has_hiding x hides u));
    leads = lead_words words (record { leads = λ ts us r f. type_begins m _ (j.leads ts us r f) });
  }

  -- a function that begins with another word
  pub decled_function : Leads ns (inner.all_hidden hides ms) ws Any (λ y. begins_function y ≡ true) → Prints ns ms inner.function ws Any (Made x hides) → Decled m ns (inner.all_hidden hides ms) x
  decled_function j u = record {
    prints = has_words (sym words) (has_by_some (λ y. begins_function y ≡ true) j (function_at m) (has_hiding x hides u));
    leads = lead_words words (record { leads = λ ts us r f. function_begins m _ (j.leads ts us r f) });
  }

-- behind a type: a variable or a function without such a word
head_name : Sort → Bool
head_name s.Star = true
head_name s.Word = true
head_name s.TypeName = true
head_name _ = false

star_head : head_name s.Star ≡ true
unfolding head_name
star_head = refl

name_head : (b : Bool) → head_name (named s.Word b) ≡ true
unfolding head_name
name_head true = refl
name_head false = refl

named_at : (m : Site) (y : Sort) → head_name y ≡ true → (spare : ℕ) (u v : Place) (f : CastType → inner.Declaring) → Spells spare (SpellsIn production spare) (inner.named_in m) u f v → Spells spare (SpellsIn production spare) (inner.typed_of m y) u f v
unfolding head_name
named_at m s.Star c spare u v f h = h
named_at m s.Word c spare u v f h = h
named_at m s.TypeName c spare u v f h = h
named_at m _ c spare u v f h = absurd cc

pub has_typed : {ns ms : Names} {vs : Words} {P : inner.Behind → Type 0} {R : inner.Declaring → Type 0} (m : Site) (b : p.Base) (c : Bool) (n : ℕ) (name : List ℕ) → Basic ns b → IsName name → Prints ns ms (Form.by (inner.ending m)) vs Any P
    → ((x : inner.Start) (f : inner.Behind) → IsType c b x.ty → x.stars ≡ n → x.name.text ≡ name → P f → R (f inner.no_words x))
    → Prints ns ms (gr.with gr.type_form (Form.by (inner.typed_of m))) ((flagged c (codes "const") ++ base_words b) ++ (stars n ++ (word name ∷ vs))) Any R
has_typed {ns = ns} {vs = vs} {R = R} m b c n name k l u j = has_seq {Q = λ f. (t : CastType) → IsType c b t → R (f t)} (has_type k c) (declarator_leads vs n name l refl name_ends)
    (has_by_some (λ y. head_name y ≡ true) (declarator_leads vs n name l star_head name_head) (named_at m) (has_map (has_named n name l u) (λ f h t i. subst R (sym (h.made t inner.no_words)) (j (record { ty = t; stars = h.stars; name = h.token }) h.behind i h.are_stars h.is_name h.ok)))) (λ t f i h. h t i)

pub typed_ahead : {ns ms : Names} {b : p.Base} (c : Bool) (n : ℕ) (name : List ℕ) (vs : Words) → Basic ns b → IsName name → Leads ns ms ((flagged c (codes "const") ++ base_words b) ++ (stars n ++ (word name ∷ vs))) Any TypeAhead
typed_ahead c n name vs k l = type_leads k c (declarator_leads vs n name l refl name_ends)
