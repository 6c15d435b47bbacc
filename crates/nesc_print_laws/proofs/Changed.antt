-- Forms that change the names that are in force.
use Rattle.std.proofs.Common.{◌≡◌, ℕ, zero, suc, ◌≤◌, Bool, true, false, List, [], ◌∷◌, ◌++◌, map, refl, sym, ap, subst, ◌∙◌, arith}
use Rattle.nm_base.specs.declared.token.Token.{Token}
use Rattle.nesc_tree.specs.declared.sorts.Sort.{Sort}
use Rattle.nesc_tree.specs.declared.sorts.Sort.TheVariants as s
use Rattle.nesc_tree.specs.Sorts.{Names, sort, ahead, named, class, is_type}
use Rattle.nesc_tree.specs.Form.{Form, Place, next, Chain, Spells, SpellsIn}
use Rattle.nesc_grammar.specs.Production.{production}
use Rattle.nesc_grammar.specs.Grammar as gr
use Rattle.nesc_grammar.specs.Declarations as inner
use Rattle.nesc_print_words.specs.Lexemes.{Words, joined, listed}
use Rattle.nesc_print_laws.proofs.Texts.{Read, at, Has, Prints, Leads, Any, has_map, has_by_some}
use Rattle.nesc_print_laws.proofs.Lists.{Each, has_listed, Last, Row, has_row, Behind}
use Rattle.nesc_print_laws.proofs.Fields.{Matched, matched_pushed}
use Rattle.nesc_print_laws.proofs.Yields.{Yields}

-- ---- tokens under other names

both_names : (f : Sort → Bool) → f s.Word ≡ f s.TypeName → (x : Sort) (b c : Bool) → f (named x b) ≡ f (named x c)
both_names f h s.Word true true = refl
both_names f h s.Word true false = sym h
both_names f h s.Word false true = h
both_names f h s.Word false false = refl
both_names f h _ b c = refl

-- what is told of no name is told under all names
pub renamed : (f : Sort → Bool) → f s.Word ≡ f s.TypeName → (ns ms : Names) (us : List Token) → f (ahead ns us) ≡ f (ahead ms us)
unfolding sort
renamed f h ns ms [] = refl
renamed f h ns ms (t ∷ us) = both_names f h (class t) (is_type ns t.text) (is_type ms t.text)

-- what may stand behind a text under other names
pub record Carries (ms ls : Names) (G F : Sort → Type 0) : Type 0 where
  pub carries : (us : List Token) → G (ahead ls us) → F (ahead ms us)

pub carries_test : (f : Sort → Bool) (b : Bool) → f s.Word ≡ f s.TypeName → {ms ls : Names} → Carries ms ls (λ y. f y ≡ b) (λ y. f y ≡ b)
carries_test f b h {ms = ms} {ls = ls} = record { carries = λ us e. renamed f h ms ls us ∙ e }

pub has_declare : {A : Type 0} {f : A → Names → Names} {g : Form A} {ns ms ls : Names} {ws : Words} {F G : Sort → Type 0} {P : A → Type 0}
    → Prints ns ms g ws F P → ((a : A) → P a → f a ms ≡ ls) → Carries ms ls G F → Prints ns ls (Form.declare f g) ws G P
unfolding Spells
has_declare {f = f} {g = g} {ns = ns} {ms = ms} {ls = ls} {P = P} u k j = record { run = λ ts us r c. by ts us (u.run ts us r (j.carries us c)) }
  where
    by : (ts us : List Token) → Has g (at ns ts) (at ms us) P → Has (Form.declare f g) (at ns ts) (at ls us) P
    by ts us a = record { value = a.value; ok = a.ok; least = a.least; spells = λ spare l. (at ms us, a.spells spare l, ap (λ n. at n us) (sym (k a.value a.ok))) }

pub has_scope : {A : Type 0} {g : Form A} {ns ms : Names} {ws : Words} {F G : Sort → Type 0} {P : A → Type 0} → Prints ns ms g ws F P → Carries ms ns G F → Prints ns ns (Form.scope g) ws G P
unfolding Spells
has_scope {g = g} {ns = ns} {ms = ms} {P = P} u j = record { run = λ ts us r c. by ts us (u.run ts us r (j.carries us c)) }
  where
    by : (ts us : List Token) → Has g (at ns ts) (at ms us) P → Has (Form.scope g) (at ns ts) (at ns us) P
    by ts us a = record { value = a.value; ok = a.ok; least = a.least; spells = λ spare l. (at ms us, a.spells spare l, refl) }

-- ---- lists of the grammar

-- with commas between them
pub has_inner_list : {X A : Type 0} (g : Form A) (words : X → Words) (F : Sort → Type 0) (S : X → A → Type 0) → F s.Comma → (x : X) (xs : List X) {ns ms : Names} → Each g words F S (x ∷ xs) ns ms
    → Prints ns ms (inner.listed g) (listed (map words (x ∷ xs))) (Last F) (Matched S (x ∷ xs))
has_inner_list g words F S on x xs (Each.more u e) = has_listed g words F S (λ _ _. true) inner.added (λ x. gr.when (gr.is_comma x) (gr.map inner.added (gr.behind (gr.one s.Comma) g))) (Matched S) on
    (λ xs x a l h k. matched_pushed S xs x l a h k) (λ xs l h. refl) (λ spare u v f h. h) x xs (has_map u (λ a h. (h, tt))) e

-- what adds the part
abbrev pub Pushes : {X A : Type 0} → (X → A → Type 0) → X → (List A → List A) → Type 0
Pushes {A = A} S x f = (l : List A) → (a : A) × S x a × (f l ≡ l ++ (a ∷ []))

-- one behind the other
pub has_repeated : {X A : Type 0} (go : Sort → Bool) (body : Sort → Form (List A → List A)) (words : X → Words) (F : Sort → Type 0) (S : X → A → Type 0) → ((y : Sort) → go y ≡ true → F y) → (xs : List X) {ns ms : Names}
    → Row body words F (Pushes S) go xs ns ms → Prints ns ms (Form.many go [] body) (joined (map words xs)) (Behind F go) (Matched S xs)
has_repeated go body words F S on xs r = has_row body words F (Pushes S) go (Matched S) on (λ xs x f l h k. (let z = k l in subst (Matched S (xs ++ (x ∷ []))) (sym z.2) (matched_pushed S xs x l z.0 h z.1))) xs [] tt r

pub matched_map : {X B : Type 0} (f : X → B) (xs l : List X) → Matched (λ x a. f a ≡ f x) xs l → map f l ≡ map f xs
matched_map f [] [] h = refl
matched_map f [] (a ∷ l) h = absurd h
matched_map f (x ∷ xs) [] h = absurd h
matched_map f (x ∷ xs) (a ∷ l) h = ap (λ b. b ∷ map f l) h.0 ∙ ap (λ bs. f x ∷ bs) (matched_map f xs l h.1)

pub each_pushed : {X A : Type 0} {g : Form A} {words : X → Words} {F : Sort → Type 0} {P : X → A → Type 0} (xs : List X) (x : X) {ns ms ls : Names} → Each g words F P xs ns ms → Prints ms ls g (words x) F (P x) → Each g words F P (xs ++ (x ∷ [])) ns ls
each_pushed [] x Each.none u = Each.more u Each.none
each_pushed (y ∷ xs) x (Each.more v e) u = Each.more v (each_pushed xs x e u)

pub row_pushed : {X B : Type 0} {body : Sort → Form (B → B)} {words : X → Words} {F : Sort → Type 0} {P : X → (B → B) → Type 0} {go : Sort → Bool} (xs : List X) (x : X) {ns ms ls : Names} → Row body words F P go xs ns ms
    → Prints ms ls (Form.by body) (words x) F (P x) → Leads ms ls (words x) F (λ y. go y ≡ true) → Row body words F P go (xs ++ (x ∷ [])) ns ls
row_pushed [] x Row.none u j = Row.more u j Row.none
row_pushed (y ∷ xs) x (Row.more v k e) u j = Row.more v k (row_pushed xs x e u j)

-- ---- what is known of texts that change the names

module _ {spare : ℕ} where
  pub y_then : {A B C : Type 0} {f : A → B → C} {g : Form A} {h : Form B} {ns : Names} {P : A → Place → Type 0} {Q : A → Place → B → Place → Type 0} {R : C → Place → Type 0}
      → Yields spare ns g P → ((a : A) (q : Place) → P a q → Yields spare q.names h (Q a q)) → ((a : A) (q : Place) (b : B) (r : Place) → P a q → Q a q b r → R (f a b) r) → Yields spare ns (Form.seq f g h) R
  unfolding Spells
  y_then {R = R} u v k = record { gives = λ p r c e t. (let a = u.gives p t.2 t.0 e t.3 in let b = (v t.0 t.2 a).gives t.2 r t.1 refl t.4 in subst (λ x. R x r) (sym t.5) (k t.0 t.2 t.1 r a b)) }

  pub y_map_to : {A B : Type 0} {f : A → B} {g : Form A} {ns : Names} {P : A → Place → Type 0} {R : B → Place → Type 0} → Yields spare ns g P → ((a : A) (q : Place) → P a q → R (f a) q) → Yields spare ns (gr.map f g) R
  unfolding Spells
  y_map_to {f = f} {P = P} {R = R} u k = record { gives = λ p r c e t. (let a = u.gives p t.2 t.0 e t.3 in subst (λ x. R x r) (sym t.5) (k t.0 r (subst (P t.0) (sym t.4.1) a))) }

  pub y_declare : {A : Type 0} {f : A → Names → Names} {g : Form A} {ns : Names} {P R : A → Place → Type 0} → Yields spare ns g P → ((a : A) (q : Place) → P a q → R a (record { names = f a q.names; rest = q.rest })) → Yields spare ns (Form.declare f g) R
  unfolding Spells
  y_declare {R = R} u k = record { gives = λ p r a e t. subst (R a) (sym t.2) (k a t.0 (u.gives p t.0 a e t.1)) }

  pub y_scope : {A : Type 0} {g : Form A} {ns : Names} {P R : A → Place → Type 0} → Yields spare ns g P → ((a : A) (q : Place) → P a q → R a (record { names = ns; rest = q.rest })) → Yields spare ns (Form.scope g) R
  unfolding Spells
  y_scope {ns = ns} {R = R} u k = record { gives = λ p r a e t. subst (R a) (sym t.2) (subst (λ n. R a (record { names = n; rest = t.0.rest })) (sym e) (k a t.0 (u.gives p t.0 a e t.1))) }

  chain_to : {A : Type 0} {go : A → Sort → Bool} {weight : A → ℕ} {body : Sort → Form (A → A)} {P : A → Names → Type 0} {b : A} {r : Place} → ((x : Sort) (ms : Names) → Yields spare ms (body x) (λ f q. (a : A) → P a ms → P (f a) q.names))
      → {a : A} {p : Place} → P a p.names → Chain spare go weight (λ x. Spells spare (SpellsIn production spare) (body x)) b r a p → P b r.names
  chain_to u h (Chain.done g) = h
  chain_to u h (Chain.turn {a = a} {p = p} {q = q} {f = f} g w t c) = chain_to u ((u (next p) p.names).gives p q f refl t a h) c

  pub y_many_to : {A : Type 0} {go : Sort → Bool} {b : A} {body : Sort → Form (A → A)} {ns : Names} (P : A → Names → Type 0) → P b ns → ((x : Sort) (ms : Names) → Yields spare ms (body x) (λ f q. (a : A) → P a ms → P (f a) q.names))
      → Yields spare ns (Form.many go b body) (λ a q. P a q.names)
  unfolding Spells
  y_many_to {b = b} P h u = record { gives = λ p q a e t. chain_to {P = P} u (subst (P b) (sym e) h) t }

  pub y_loop_to : {A : Type 0} {may : Sort → Bool} {fits : A → Sort → Bool} {weight : A → ℕ} {g : Form A} {body : Sort → Form (A → A)} {ns : Names} (P : A → Names → Type 0) → Yields spare ns g (λ a q. P a q.names)
      → ((x : Sort) (ms : Names) → Yields spare ms (body x) (λ f q. (a : A) → P a ms → P (f a) q.names)) → Yields spare ns (Form.loop may fits weight g body) (λ a q. P a q.names)
  unfolding Spells
  y_loop_to P v u = record { gives = λ p q a e t. chain_to {P = P} u (v.gives p t.1 t.0 e t.2) t.3 }

-- the same function on the value, whatever token is ahead
pub has_by_map : {A B : Type 0} {f : Sort → Form A} {ns ms : Names} {ws : Words} {F : Sort → Type 0} {P : A → Type 0} {R : B → Type 0} → Prints ns ms (Form.by f) ws F P → (k : A → B) → ((a : A) → P a → R (k a)) → Prints ns ms (Form.by (λ y. gr.map k (f y))) ws F R
unfolding Spells
has_by_map {f = f} {ns = ns} {ms = ms} {P = P} {R = R} u k h = record { run = λ ts us r c. by ts us (u.run ts us r c) }
  where
    by : (ts us : List Token) → Has (Form.by f) (at ns ts) (at ms us) P → Has (Form.by (λ y. gr.map k (f y))) (at ns ts) (at ms us) R
    by ts us a = record { value = k a.value; ok = h a.value a.ok; least = a.least; spells = λ spare l. (a.value, tt, at ms us, a.spells spare l, (refl, refl), refl) }

-- another form by the next token, with the same texts where such a token is ahead
pub has_by_other : {A : Type 0} {f g : Sort → Form A} {ns ms : Names} {ws : Words} {F : Sort → Type 0} {P : A → Type 0} (C : Sort → Type 0)
    → Leads ns ms ws F C → ((y : Sort) → C y → (spare : ℕ) (p q : Place) (a : A) → Spells spare (SpellsIn production spare) (f y) p a q → Spells spare (SpellsIn production spare) (g y) p a q)
    → Prints ns ms (Form.by f) ws F P → Prints ns ms (Form.by g) ws F P
unfolding Spells
has_by_other {A = A} {f = f} {g = g} {ns = ns} {ms = ms} {P = P} C j k u = record { run = λ ts us r c. by ts us (j.leads ts us r c) (u.run ts us r c) }
  where
    by : (ts us : List Token) → C (ahead ns ts) → Has (Form.by f) (at ns ts) (at ms us) P → Has (Form.by g) (at ns ts) (at ms us) P
    by ts us c a = record { value = a.value; ok = a.ok; least = a.least; spells = λ spare l. k (ahead ns ts) c spare (at ns ts) (at ms us) a.value (a.spells spare l) }
