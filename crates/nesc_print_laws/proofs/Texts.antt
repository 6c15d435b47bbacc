-- Texts of words, and forms that spell them.
use Rattle.std.proofs.Common.{◌≡◌, ℕ, zero, suc, ◌≤◌, ◌+◌, Bool, true, false, List, [], ◌∷◌, ◌++◌, map, refl, sym, ap, subst, ◌∙◌, arith}
use Rattle.nm_base.specs.declared.token.Token.{Token}
use Rattle.nesc_tree.specs.declared.sorts.Sort.{Sort}
use Rattle.nesc_tree.specs.declared.sorts.Sort.TheVariants as s
use Rattle.nesc_tree.specs.Sorts.{Names, sort, ahead, same_sort, class_of, named, is_type}
use Rattle.nesc_tree.specs.Sorts as sorts
use Rattle.nesc_tree.specs.Phrase.{Phrase, Of}
use Rattle.nesc_tree.specs.Form.{Form, Place, next, starts, chosen, Spells, SpellsIn}
use Rattle.nesc_grammar.specs.Production.{production}
use Rattle.nesc_grammar.specs.Grammar as gr
use Rattle.printed_words.specs.LaidOut.{Lexeme, lexeme_of}
use Rattle.nesc_print_words.specs.Lexemes.{Words, word, sign}

-- the tokens from here on are these words and what is behind them
pub data Read : Words → List Token → List Token → Type 0 where
  ends : {us : List Token} → Read [] us us
  reads : {w : Lexeme} {ws : Words} {ts us : List Token} (t : Token) → lexeme_of t ≡ w → Read ws ts us → Read (w ∷ ws) (t ∷ ts) us

-- what stands between the two parts
pub record Cut (ws vs : Words) (ts us : List Token) : Type 0 where
  pub middle : List Token
  pub front : Read ws ts middle
  pub back : Read vs middle us

pub cut : (ws vs : Words) {ts us : List Token} → Read (ws ++ vs) ts us → Cut ws vs ts us
cut [] vs {ts = ts} r = record { middle = ts; front = Read.ends; back = r }
cut (w ∷ ws) vs (Read.reads t e r) = let c = cut ws vs r in record { middle = c.middle; front = Read.reads t e c.front; back = c.back }

-- tokens with these lexemes
pub read_of : (us : List Token) (rest : List Token) → Read (map lexeme_of us) (us ++ rest) rest
read_of [] rest = Read.ends
read_of (u ∷ us) rest = Read.reads u refl (read_of us rest)

abbrev pub at : Names → List Token → Place
at ns ts = record { names = ns; rest = ts }

-- a text of the form with this value, wherever there are levels enough
pub record Has {A : Type 0} (f : Form A) (p q : Place) (P : A → Type 0) : Type 0 where
  pub value : A
  pub ok : P value
  pub least : ℕ
  pub spells : (spare : ℕ) → least ≤ spare → Spells spare (SpellsIn production spare) f p value q

-- wherever the words stand before a token that may follow, the form spells them, with such a value
pub record Prints {A : Type 0} (ns ms : Names) (f : Form A) (ws : Words) (F : Sort → Type 0) (P : A → Type 0) : Type 0 where
  pub run : (ts us : List Token) → Read ws ts us → F (ahead ms us) → Has f (at ns ts) (at ms us) P

-- with these words before a token that may follow, what stands ahead is so
pub record Leads (ns ms : Names) (ws : Words) (F G : Sort → Type 0) : Type 0 where
  pub leads : (ts us : List Token) → Read ws ts us → F (ahead ms us) → G (ahead ns ts)

abbrev pub Any : Sort → Type 0
Any x = Unit {0}

-- what the word is to the grammar
pub record Sorted (ns : Names) (w : Lexeme) (x : Sort) : Type 0 where
  pub is : (t : Token) → lexeme_of t ≡ w → sort ns t ≡ x

-- keywords and signs
other_name : (x : Sort) (b : Bool) → same_sort x s.Word ≡ false → named x b ≡ x
other_name s.Word b h = absurd cc
other_name _ b h = refl

pub sorted_class : (ns : Names) (w : Lexeme) (x : Sort) → class_of w.kind w.text ≡ x → same_sort x s.Word ≡ false → Sorted ns w x
unfolding sort
sorted_class ns w x c n = record { is = λ t e. ap (λ (v : Lexeme). named (class_of v.kind v.text) (is_type ns v.text)) e ∙ (ap (λ (y : Sort). named y (is_type ns w.text)) c ∙ other_name x (is_type ns w.text) n) }

pub keyword : {ns : Names} (text : List ℕ) (x : Sort) → sorts.keyword text ≡ x → same_sort x s.Word ≡ false → Sorted ns (word text) x
keyword {ns} text x c n = sorted_class ns (word text) x c n

pub signed : {ns : Names} (text : List ℕ) (x : Sort) → sorts.sign text ≡ x → same_sort x s.Word ≡ false → Sorted ns (sign text) x
signed {ns} text x c n = sorted_class ns (sign text) x c n

pub lead : {ns ms : Names} {F G : Sort → Type 0} {w : Lexeme} {ws : Words} (x : Sort) → Sorted ns w x → G x → Leads ns ms (w ∷ ws) F G
lead {ns = ns} {G = G} {w = w} {ws = ws} x h g = record { leads = λ ts us r f. by r }
  where
    by : {ts us : List Token} → Read (w ∷ ws) ts us → G (ahead ns ts)
    by (Read.reads t e r) = subst G (sym (h.is t e)) g

pub lead_on : {ns : Names} {F G : Sort → Type 0} → ((x : Sort) → F x → G x) → Leads ns ns [] F G
lead_on {ns = ns} {F = F} {G = G} k = record { leads = λ ts us r f. by r f }
  where
    by : {ts us : List Token} → Read [] ts us → F (ahead ns us) → G (ahead ns ts)
    by {ts = ts} Read.ends f = k (ahead ns ts) f

-- whatever is ahead
pub lead_any : {ns ms : Names} {F : Sort → Type 0} {ws : Words} → Leads ns ms ws F Any
lead_any = record { leads = λ ts us r f. tt }

module _ {ns : Names} where
  pub has_token : {A : Type 0} {f : Token → A} {x : Sort} {w : Lexeme} {P : A → Type 0} → Sorted ns w x → ((t : Token) → lexeme_of t ≡ w → P (f t)) → Prints ns ns (Form.token x f) (w ∷ []) Any P
  unfolding Spells
  has_token {f = f} {x = x} {w = w} {P = P} h k = record { run = λ ts us r c. by r }
    where
      by : {ts us : List Token} → Read (w ∷ []) ts us → Has (Form.token x f) (at ns ts) (at ns us) P
      by (Read.reads t e Read.ends) = record { value = f t; ok = k t e; least = 0; spells = λ spare l. (t, refl, h.is t e, refl) }

  pub has_empty : {A : Type 0} {a : A} {P : A → Type 0} → P a → Prints ns ns (Form.empty a) [] Any P
  unfolding Spells
  has_empty {A = A} {a = a} {P = P} h = record { run = λ ts us r c. by r }
    where
      by : {ts us : List Token} → Read [] ts us → Has (Form.empty a) (at ns ts) (at ns us) P
      by Read.ends = record { value = a; ok = h; least = 0; spells = λ spare l. (refl, refl) }

pub has_seq : {A B C : Type 0} {f : A → B → C} {g : Form A} {h : Form B} {ns ms ls : Names} {ws vs : Words} {F G : Sort → Type 0} {P : A → Type 0} {Q : B → Type 0} {R : C → Type 0}
    → Prints ns ms g ws F P → Leads ms ls vs G F → Prints ms ls h vs G Q → ((a : A) (b : B) → P a → Q b → R (f a b)) → Prints ns ls (Form.seq f g h) (ws ++ vs) G R
unfolding Spells
has_seq {f = f} {g = g} {h = h} {ns = ns} {ms = ms} {ls = ls} {ws = ws} {vs = vs} {P = P} {Q = Q} {R = R} u j v k = record { run = λ ts us r c. (let z = cut ws vs r in both ts us z.middle (u.run ts z.middle z.front (j.leads z.middle us z.back c)) (v.run z.middle us z.back c)) }
  where
    both : (ts us xs : List Token) → Has g (at ns ts) (at ms xs) P → Has h (at ms xs) (at ls us) Q → Has (Form.seq f g h) (at ns ts) (at ls us) R
    both ts us xs a b =
        record { value = f a.value b.value; ok = k a.value b.value a.ok b.ok; least = a.least + b.least; spells = λ spare l. (a.value, b.value, at ms xs, a.spells spare (omega arith), b.spells spare (omega arith), refl) }

-- the value of the second is that of both
pub has_behind : {A B : Type 0} {g : Form A} {h : Form B} {ns ms ls : Names} {ws vs : Words} {F G : Sort → Type 0} {P : A → Type 0} {Q : B → Type 0}
    → Prints ns ms g ws F P → Leads ms ls vs G F → Prints ms ls h vs G Q → Prints ns ls (gr.behind g h) (ws ++ vs) G Q
has_behind u j v = has_seq u j v (λ a b p q. q)

pub has_before : {A B : Type 0} {g : Form A} {h : Form B} {ns ms ls : Names} {ws vs : Words} {F G : Sort → Type 0} {P : A → Type 0} {Q : B → Type 0}
    → Prints ns ms g ws F P → Leads ms ls vs G F → Prints ms ls h vs G Q → Prints ns ls (gr.before g h) (ws ++ vs) G P
has_before u j v = has_seq u j v (λ a b p q. p)

pub has_map : {A B : Type 0} {f : A → B} {g : Form A} {ns ms : Names} {ws : Words} {F : Sort → Type 0} {P : A → Type 0} {R : B → Type 0}
    → Prints ns ms g ws F P → ((a : A) → P a → R (f a)) → Prints ns ms (gr.map f g) ws F R
unfolding Spells
has_map {f = f} {g = g} {ns = ns} {ms = ms} {P = P} {R = R} u k = record { run = λ ts us r c. by ts us (u.run ts us r c) }
  where
    by : (ts us : List Token) → Has g (at ns ts) (at ms us) P → Has (gr.map f g) (at ns ts) (at ms us) R
    by ts us a = record { value = f a.value; ok = k a.value a.ok; least = a.least; spells = λ spare l. (a.value, tt, at ms us, a.spells spare l, (refl, refl), refl) }

pub has_by : {A : Type 0} {f : Sort → Form A} {ns ms : Names} {ws : Words} {F : Sort → Type 0} {P : A → Type 0} (x : Sort)
    → Leads ns ms ws F (λ y. y ≡ x) → Prints ns ms (f x) ws F P → Prints ns ms (Form.by f) ws F P
unfolding Spells
has_by {A = A} {f = f} {ns = ns} {ms = ms} {P = P} x j u = record { run = λ ts us r c. by ts us (j.leads ts us r c) (u.run ts us r c) }
  where
    by : (ts us : List Token) → ahead ns ts ≡ x → Has (f x) (at ns ts) (at ms us) P → Has (Form.by f) (at ns ts) (at ms us) P
    by ts us e a = record {
      value = a.value;
      ok = a.ok;
      least = a.least;
      spells = λ spare l. subst (λ (y : Sort). Spells spare (SpellsIn production spare) (f y) (at ns ts) a.value (at ms us)) (sym e) (a.spells spare l);
    }

pub has_some : {A : Type 0} {g : Form A} {b : A} {ns ms : Names} {ws : Words} {F : Sort → Type 0} {P : A → Type 0}
    → Leads ns ms ws F (λ x. starts g x ≡ true) → Prints ns ms g ws F P → Prints ns ms (Form.maybe g b) ws F P
unfolding Spells
has_some {A = A} {g = g} {b = b} {ns = ns} {ms = ms} {P = P} j u = record { run = λ ts us r c. by ts us (j.leads ts us r c) (u.run ts us r c) }
  where
    by : (ts us : List Token) → starts g (ahead ns ts) ≡ true → Has g (at ns ts) (at ms us) P → Has (Form.maybe g b) (at ns ts) (at ms us) P
    by ts us e a = record {
      value = a.value;
      ok = a.ok;
      least = a.least;
      spells = λ spare l. subst (λ (y : Bool). chosen y (Spells spare (SpellsIn production spare) g (at ns ts) a.value (at ms us)) ((a.value ≡ b) × (at ms us ≡ at ns ts))) (sym e) (a.spells spare l);
    }

pub has_nothing : {A : Type 0} {g : Form A} {b : A} {ns : Names} {P : A → Type 0} → P b → Prints ns ns (Form.maybe g b) [] (λ x. starts g x ≡ false) P
unfolding Spells
has_nothing {A = A} {g = g} {b = b} {ns = ns} {P = P} h = record { run = λ ts us r c. by r c }
  where
    by : {ts us : List Token} → Read [] ts us → starts g (ahead ns us) ≡ false → Has (Form.maybe g b) (at ns ts) (at ns us) P
    by {ts = ts} Read.ends e = record {
      value = b;
      ok = h;
      least = 0;
      spells = λ spare l. subst (λ (y : Bool). chosen y (Spells spare (SpellsIn production spare) g (at ns ts) b (at ns ts)) ((b ≡ b) × (at ns ts ≡ at ns ts))) (sym e) (refl, refl);
    }

-- a phrase has one level more than what it is made of
pub has_phrase : {k : Phrase} {ns ms : Names} {ws : Words} {F : Sort → Type 0} {P : Of k → Type 0} → Prints ns ms (production k) ws F P → {B : Type 0} {f : Of k → B} {Q : B → Type 0} → ((a : Of k) → P a → Q (f a)) → Prints ns ms (Form.sub k f) ws F Q
unfolding Spells SpellsIn
has_phrase {k = k} {ns = ns} {ms = ms} {P = P} u {f = f} {Q = Q} q = record { run = λ ts us r c. by ts us (u.run ts us r c) }
  where
    by : (ts us : List Token) → Has (production k) (at ns ts) (at ms us) P → Has (Form.sub k f) (at ns ts) (at ms us) Q
    by ts us a = record { value = f a.value; ok = q a.value a.ok; least = suc a.least; spells = λ spare l. (a.value, deeper ts us a spare l, refl) }
      where
        deeper : (ts us : List Token) (a : Has (production k) (at ns ts) (at ms us) P) (spare : ℕ) → suc a.least ≤ spare → SpellsIn production spare k (at ns ts) a.value (at ms us)
        deeper ts us a zero l = absurd (omega arith)
        deeper ts us a (suc spare) l = a.spells spare (omega arith)

-- words that are the same
pub has_words : {A : Type 0} {f : Form A} {ns ms : Names} {ws vs : Words} {F : Sort → Type 0} {P : A → Type 0} → ws ≡ vs → Prints ns ms f ws F P → Prints ns ms f vs F P
has_words {f = f} {ns = ns} {ms = ms} {F = F} {P = P} e u = subst (λ (xs : Words). Prints ns ms f xs F P) e u

-- with fewer tokens behind it, and less said of the value
pub has_less : {A : Type 0} {f : Form A} {ns ms : Names} {ws : Words} {F G : Sort → Type 0} {P Q : A → Type 0} → ((x : Sort) → G x → F x) → ((a : A) → P a → Q a) → Prints ns ms f ws F P → Prints ns ms f ws G Q
has_less {f = f} {ns = ns} {ms = ms} {P = P} {Q = Q} j k u = record { run = λ ts us r c. by ts us (u.run ts us r (j (ahead ms us) c)) }
  where
    by : (ts us : List Token) → Has f (at ns ts) (at ms us) P → Has f (at ns ts) (at ms us) Q
    by ts us a = record { value = a.value; ok = k a.value a.ok; least = a.least; spells = a.spells }

-- by a form that the next token tells, where each token that may be ahead tells one with the same texts
pub has_by_some : {A : Type 0} {f : Sort → Form A} {g : Form A} {ns ms : Names} {ws : Words} {F : Sort → Type 0} {P : A → Type 0} (C : Sort → Type 0)
    → Leads ns ms ws F C → ((y : Sort) → C y → (spare : ℕ) (p q : Place) (a : A) → Spells spare (SpellsIn production spare) g p a q → Spells spare (SpellsIn production spare) (f y) p a q)
    → Prints ns ms g ws F P → Prints ns ms (Form.by f) ws F P
unfolding Spells
has_by_some {A = A} {f = f} {g = g} {ns = ns} {ms = ms} {P = P} C j k u = record { run = λ ts us r c. by ts us (j.leads ts us r c) (u.run ts us r c) }
  where
    by : (ts us : List Token) → C (ahead ns ts) → Has g (at ns ts) (at ms us) P → Has (Form.by f) (at ns ts) (at ms us) P
    by ts us c a = record { value = a.value; ok = a.ok; least = a.least; spells = λ spare l. k (ahead ns ts) c spare (at ns ts) (at ms us) a.value (a.spells spare l) }

-- what is ahead of a text that the form spells
pub leads_of : {A : Type 0} {g : Form A} {ns ms : Names} {ws : Words} {F C : Sort → Type 0} {P : A → Type 0}
    → Prints ns ms g ws F P → ((spare : ℕ) (p q : Place) (a : A) → Spells spare (SpellsIn production spare) g p a q → C (next p)) → Leads ns ms ws F C
leads_of {A = A} {g = g} {ns = ns} {ms = ms} {C = C} {P = P} u k = record { leads = λ ts us r f. by ts us (u.run ts us r f) }
  where
    by : (ts us : List Token) → Has g (at ns ts) (at ms us) P → C (ahead ns ts)
    by ts us a = k a.least (at ns ts) (at ms us) a.value (a.spells a.least (omega arith))

-- what is ahead of these words and others behind them
pub lead_before : {ns ms ls : Names} {ws vs : Words} {F G C : Sort → Type 0} → Leads ns ms ws F C → Leads ms ls vs G F → Leads ns ls (ws ++ vs) G C
lead_before {ws = ws} {vs = vs} u v = record { leads = λ ts us r f. (let z = cut ws vs r in u.leads ts z.middle z.front (v.leads z.middle us z.back f)) }
