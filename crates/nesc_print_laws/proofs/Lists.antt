-- Lists with commas between their parts, and lists of parts one behind the other.
use Rattle.std.proofs.Common.{◌≡◌, ℕ, ◌≤◌, ◌+◌, Bool, true, false, List, [], ◌∷◌, ◌++◌, map, refl, sym, subst, arith, append_assoc, append-nil}
use Rattle.nm_base.specs.declared.token.Token.{Token}
use Rattle.nesc_tree.specs.declared.sorts.Sort.{Sort}
use Rattle.nesc_tree.specs.declared.sorts.Sort.TheVariants as s
use Rattle.nesc_tree.specs.Sorts.{Names, ahead}
use Rattle.nesc_tree.specs.Form.{Form, Place, next, goes, Chain, Spells, SpellsIn}
use Rattle.nesc_grammar.specs.Production.{production}
use Rattle.nesc_grammar.specs.Grammar as gr
use Rattle.nesc_print_words.specs.Lexemes.{Words, comma, joined, behind_commas, listed}
use Rattle.nesc_print_laws.proofs.Texts.{Read, cut, at, Has, Prints, Leads, lead_any, has_token, has_behind, has_map}
use Rattle.nesc_print_laws.proofs.Signs.{comma_sorted}

-- turns up to a value with Q, wherever there are levels enough
pub record Turned {B : Type 0} (go : B → Sort → Bool) (body : Sort → Form (B → B)) (b : B) (p q : Place) (Q : B → Type 0) : Type 0 where
  pub value : B
  pub ok : Q value
  pub least : ℕ
  pub chain : (spare : ℕ) → least ≤ spare → Chain spare go (λ _. 0) (λ x. Spells spare (SpellsIn production spare) (body x)) value q b p

pub stopped : {B : Type 0} {go : B → Sort → Bool} {body : Sort → Form (B → B)} {b : B} {p : Place} {Q : B → Type 0} → go b (next p) ≡ false → Q b → Turned go body b p p Q
stopped {b = b} h k = record { value = b; ok = k; least = 0; chain = λ spare l. Chain.done h }

pub turned : {B : Type 0} {go : B → Sort → Bool} {body : Sort → Form (B → B)} {b : B} {p q r : Place} {P : (B → B) → Type 0} {Q : B → Type 0}
    → go b (next p) ≡ true → (h : Has (body (next p)) p q P) → Turned go body (h.value b) q r Q → Turned go body b p r Q
turned g h t = record { value = t.value; ok = t.ok; least = h.least + t.least; chain = λ spare l. Chain.turn g (omega arith) (h.spells spare (omega arith)) (t.chain spare (omega arith)) }

-- parts, each of which is printed under the names that those before it leave
pub data Each {X A : Type 0} (g : Form A) (words : X → Words) (F : Sort → Type 0) (P : X → A → Type 0) : List X → Names → Names → Type 0 where
  none : {ns : Names} → Each g words F P [] ns ns
  more : {x : X} {xs : List X} {ns ms ls : Names} → Prints ns ms g (words x) F (P x) → Each g words F P xs ms ls → Each g words F P (x ∷ xs) ns ls

-- what may stand behind a list with commas
abbrev pub Last : (Sort → Type 0) → Sort → Type 0
Last F y = F y × (gr.is_comma y ≡ false)

-- what adds the part to a list
abbrev pub Grown : {X B : Type 0} → (List X → B → Type 0) → X → (B → B) → Type 0
Grown {X = X} {B = B} R x f = (ys : List X) (b : B) → R ys b → R (ys ++ (x ∷ [])) (f b)

stops : {B : Type 0} (fits : B → Sort → Bool) (b : B) (y : Sort) → gr.is_comma y ≡ false → goes gr.is_comma fits b y ≡ false
stops fits b y h = rw h refl

module _ {X A B : Type 0} (g : Form A) (words : X → Words) (F : Sort → Type 0) (P : X → A → Type 0) (fits : B → Sort → Bool) (more : A → B → B) (body : Sort → Form (B → B))
    (R : List X → B → Type 0) (on : F s.Comma) (next_one : (xs : List X) (x : X) (a : A) (b : B) → R xs b → P x a → R (xs ++ (x ∷ [])) (more a b))
    (fit : (xs : List X) (b : B) → R xs b → fits b s.Comma ≡ true)
    (same : (spare : ℕ) (p q : Place) (f : B → B) → Spells spare (SpellsIn production spare) (gr.map more (gr.behind (gr.one s.Comma) g)) p f q → Spells spare (SpellsIn production spare) (body s.Comma) p f q) where
  follows : (xs : List X) {ms ls : Names} → Each g words F P xs ms ls → (ts us : List Token) → Read (behind_commas (map words xs)) ts us → Last F (ahead ls us) → F (ahead ms ts)
  follows [] Each.none ts us Read.ends l = l.0
  follows (x ∷ xs) {ms = ms} (Each.more u e) ts us (Read.reads t w r) l = subst F (sym (comma_sorted.is t w)) on

  -- a comma and a part
  part : (x : X) {ms ls : Names} → Prints ms ls g (words x) F (P x) → (ts us : List Token) → Read (comma ∷ words x) ts us → F (ahead ls us) → Has (body (ahead ms ts)) (at ms ts) (at ls us) (Grown R x)
  part x {ms = ms} {ls = ls} u ts us r f = ahead_is ts r (h.run ts us r f)
    where
      h : Prints ms ls (gr.map more (gr.behind (gr.one s.Comma) g)) (comma ∷ words x) F (Grown R x)
      h = has_map (has_behind (has_token comma_sorted (λ t w. w)) lead_any u) (λ a q ys b r. next_one ys x a b r q)

      as_body : (ts : List Token) → Has (gr.map more (gr.behind (gr.one s.Comma) g)) (at ms ts) (at ls us) (Grown R x) → Has (body s.Comma) (at ms ts) (at ls us) (Grown R x)
      as_body ts k = record { value = k.value; ok = k.ok; least = k.least; spells = λ spare l. same spare (at ms ts) (at ls us) k.value (k.spells spare l) }

      ahead_is : (ts : List Token) → Read (comma ∷ words x) ts us → Has (gr.map more (gr.behind (gr.one s.Comma) g)) (at ms ts) (at ls us) (Grown R x) → Has (body (ahead ms ts)) (at ms ts) (at ls us) (Grown R x)
      ahead_is [] r k = elim r [ ]
      ahead_is (t ∷ vs) (Read.reads _ w r) k = subst (λ (y : Sort). Has (body y) (at ms (t ∷ vs)) (at ls us) (Grown R x)) (sym (comma_sorted.is t w)) (as_body (t ∷ vs) k)

  goes_on : (ms : Names) (ts us vs : List Token) (ws : Words) (b : B) → Read (comma ∷ ws) ts us → fits b s.Comma ≡ true → goes gr.is_comma fits b (ahead ms ts) ≡ true
  goes_on ms [] us vs ws b r f = elim r [ ]
  goes_on ms (t ∷ ts) us vs ws b (Read.reads _ w r) f = subst (λ (y : Sort). goes gr.is_comma fits b y ≡ true) (sym (comma_sorted.is t w)) f

  rest : (xs ys : List X) (b : B) → R ys b → {ms ls : Names} → Each g words F P xs ms ls → (ts us : List Token) → Read (behind_commas (map words xs)) ts us → Last F (ahead ls us)
      → Turned (goes gr.is_comma fits) body b (at ms ts) (at ls us) (R (ys ++ xs))
  rest [] ys b h {ms = ms} Each.none ts us Read.ends l = stopped (stops fits b (ahead ms ts) l.1) (subst (λ (zs : List X). R zs b) (sym (append-nil ys)) h)
  rest (x ∷ xs) ys b h {ms = ms} {ls = ls} (Each.more {ms = ns} u e) ts us r l =
      let z = cut (comma ∷ words x) (behind_commas (map words xs)) r in
      let k = part x u ts z.middle z.front (follows xs e z.middle us z.back l) in
      turned (goes_on ms ts z.middle us (words x) b z.front (fit ys b h)) k (subst (λ (zs : List X). Turned (goes gr.is_comma fits) body (k.value b) (at ns z.middle) (at ls us) (R zs)) (append_assoc ys (x ∷ []) xs) (rest xs (ys ++ (x ∷ [])) (k.value b) (k.ok ys b h) e z.middle us z.back l))

  -- one part or more; the first has a form of its own
  pub has_listed : {h : Form B} (x : X) (xs : List X) {ns ls ms : Names} → Prints ns ls h (words x) F (R (x ∷ [])) → Each g words F P xs ls ms → Prints ns ms (Form.loop gr.is_comma fits (λ _. 0) h body) (listed (map words (x ∷ xs))) (Last F) (R (x ∷ xs))
  unfolding Spells
  has_listed {h = h} x xs {ns = ns} {ls = ls} {ms = ms} u e = record { run = λ ts us r l. (let z = cut (words x) (behind_commas (map words xs)) r in both ts us z.middle (u.run ts z.middle z.front (follows xs e z.middle us z.back l)) z.back l) }
    where
      joint : (ts us middle : List Token) (a : Has h (at ns ts) (at ls middle) (R (x ∷ []))) → Turned (goes gr.is_comma fits) body a.value (at ls middle) (at ms us) (R (x ∷ xs))
          → Has (Form.loop gr.is_comma fits (λ _. 0) h body) (at ns ts) (at ms us) (R (x ∷ xs))
      joint ts us middle a t = record { value = t.value; ok = t.ok; least = a.least + t.least; spells = λ spare l. (a.value, at ls middle, a.spells spare (omega arith), t.chain spare (omega arith)) }

      both : (ts us middle : List Token) → Has h (at ns ts) (at ls middle) (R (x ∷ [])) → Read (behind_commas (map words xs)) middle us → Last F (ahead ms us)
          → Has (Form.loop gr.is_comma fits (λ _. 0) h body) (at ns ts) (at ms us) (R (x ∷ xs))
      both ts us middle a r l = joint ts us middle a (rest xs (x ∷ []) a.value a.ok e middle us r l)

-- parts one behind the other, each of which begins with a token that goes on
pub data Row {X B : Type 0} (body : Sort → Form (B → B)) (words : X → Words) (F : Sort → Type 0) (P : X → (B → B) → Type 0) (go : Sort → Bool) : List X → Names → Names → Type 0 where
  none : {ns : Names} → Row body words F P go [] ns ns
  more : {x : X} {xs : List X} {ns ms ls : Names} → Prints ns ms (Form.by body) (words x) F (P x) → Leads ns ms (words x) F (λ y. go y ≡ true) → Row body words F P go xs ms ls
      → Row body words F P go (x ∷ xs) ns ls

abbrev pub Behind : (Sort → Type 0) → (Sort → Bool) → Sort → Type 0
Behind F go y = F y × (go y ≡ false)

module _ {X B : Type 0} (body : Sort → Form (B → B)) (words : X → Words) (F : Sort → Type 0) (P : X → (B → B) → Type 0) (go : Sort → Bool)
    (R : List X → B → Type 0) (on : (y : Sort) → go y ≡ true → F y) (next_one : (xs : List X) (x : X) (f : B → B) (b : B) → R xs b → P x f → R (xs ++ (x ∷ [])) (f b)) where
  pub follows_row : (xs : List X) {ms ls : Names} → Row body words F P go xs ms ls → (ts us : List Token) → Read (joined (map words xs)) ts us → Behind F go (ahead ls us) → F (ahead ms ts)
  follows_row [] Row.none ts us Read.ends l = l.0
  follows_row (x ∷ xs) {ms = ms} (Row.more u j e) ts us r l =
      let z = cut (words x) (joined (map words xs)) r in
      on (ahead ms ts) (j.leads ts z.middle z.front (follows_row xs e z.middle us z.back l))

  row : (xs ys : List X) (b : B) → R ys b → {ms ls : Names} → Row body words F P go xs ms ls → (ts us : List Token) → Read (joined (map words xs)) ts us → Behind F go (ahead ls us)
      → Turned (λ _ y. go y) body b (at ms ts) (at ls us) (R (ys ++ xs))
  unfolding Spells
  row [] ys b h Row.none ts us Read.ends l = stopped l.1 (subst (λ (zs : List X). R zs b) (sym (append-nil ys)) h)
  row (x ∷ xs) ys b h {ms = ms} {ls = ls} (Row.more {ms = ns} u j e) ts us r l =
      let z = cut (words x) (joined (map words xs)) r in
      let f = follows_row xs e z.middle us z.back l in
      let k = u.run ts z.middle z.front f in
      let v : Has (body (ahead ms ts)) (at ms ts) (at ns z.middle) (P x) = record { value = k.value; ok = k.ok; least = k.least; spells = k.spells } in
      turned (j.leads ts z.middle z.front f) v (subst (λ (zs : List X). Turned (λ _ y. go y) body (k.value b) (at ns z.middle) (at ls us) (R zs)) (append_assoc ys (x ∷ []) xs) (row xs (ys ++ (x ∷ [])) (k.value b) (next_one ys x k.value b h k.ok) e z.middle us z.back l))

  pub has_row : (xs : List X) {ns ms : Names} (a : B) → R [] a → Row body words F P go xs ns ms → Prints ns ms (Form.many go a body) (joined (map words xs)) (Behind F go) (R xs)
  unfolding Spells
  has_row xs {ns = ns} {ms = ms} a h e = record { run = λ ts us r l. by ts us (row xs [] a h e ts us r l) }
    where
      by : (ts us : List Token) → Turned (λ _ y. go y) body a (at ns ts) (at ms us) (R xs) → Has (Form.many go a body) (at ns ts) (at ms us) (R xs)
      by ts us t = record { value = t.value; ok = t.ok; least = t.least; spells = λ spare l. t.chain spare l }
