-- Lists with commas between their parts, and parts one behind the other, one turn at a time.
use Rattle.std.proofs.Common.{◌≡◌, ◌<◌, ℕ, Bool, true, false, List, [], ◌∷◌, length, Ok, sym, subst, ◌∙◌}
use Rattle.nm_base.specs.declared.token.Token.{Token}
use Rattle.nesc_tree.specs.declared.sorts.Sort.{Sort}
use Rattle.nesc_tree.specs.Sorts.{Names, ahead}
use Rattle.nesc_tree.specs.Form.{Form, Place, goes}
use Rattle.nesc_tree.specs.Reading.{Answer}
use Rattle.nesc_grammar.specs.Grammar as grammar
use Rattle.nesc_grammar.specs.Declarations as inner
use Rattle.nesc_tree.specs.declared.sorts.Sort.TheVariants as s
use Rattle.nesc_tree.proofs.Fine.{Fine}
use Rattle.nesc_parse_types.specs.declared.stop.Stop.{Stop}
use Rattle.nesc_parse_types.specs.Gives.{Fails, form_in, place}
use Rattle.nesc_parse_types.proofs.Guards.{open_guard}
use Rattle.nesc_parse_types.proofs.Many.{turn_stands, turn_stops, turn_free, with_true}
use Rattle.nesc_declarators.proofs.Turns as turns
use Rattle.nesc_declarators.proofs.Turns.{IsFrom, read_at}

-- a test of the next token, as the code makes it
seen : (f : Sort → Bool) (x y : Sort) (b r : Bool) → x ≡ y → r ≡ f x → r ≡ b → f y ≡ b
seen f x y b r e h k = subst (λ (z : Sort). f z ≡ b) e (sym h ∙ k)

module _ {A : Type 0} (spare : ℕ) (go : Sort → Bool) (n : Form (A → A)) where
  abbrev turn : Sort → Form (A → A)
  turn x = grammar.when (go x) n

  -- the value so far, of what the whole is
  abbrev pub IsRepeated : Answer A → A → Place → Type 0
  IsRepeated whole a p = IsFrom spare (λ _ x. go x) turn whole a p

  pub begins : (a : A) (p : Place) → IsRepeated (read_at spare (Form.many go a turn) p) a p
  begins a p = turns.begins_many spare (λ _ x. go x) turn go a p

  module _ (start : A) (fine : Fine (Form.many go start turn)) (room : 0 < spare) (whole : Answer A) (a : A) (names : Names) (ts : List Token) (is : IsRepeated whole a (place names ts)) (x : Sort) (e : x ≡ ahead names ts) (r : Bool) (h : r ≡ go x) where
    pub goes_on : r ≡ true → (b : A) (q : Place) → form_in spare (grammar.applied a n) names ts ≡ Ok (b, q) → IsRepeated whole b q
    goes_on k b q f =
        let w = seen go x (ahead names ts) true r e h k in
        turns.next_turn spare (λ _ y. go y) turn whole a (place names ts) is b q w
        (turn_free spare names n (go (ahead names ts)) w (place names ts) (λ y. open_guard spare n (place names ts) y room)) (fine.0 (ahead names ts)) (fine.2 (ahead names ts) w)
        (turn_stands spare names n (go (ahead names ts)) w a ts _ f)

    pub falls : r ≡ true → (b : A) (q : Place) → form_in spare (grammar.applied a n) names ts ≡ Ok (b, q) → length q.rest < length ts
    falls k b q f =
        let w = seen go x (ahead names ts) true r e h k in
        turns.falls spare (λ _ y. go y) turn whole a (place names ts) b q (fine.0 (ahead names ts)) (fine.2 (ahead names ts) w) (turn_stands spare names n (go (ahead names ts)) w a ts _ f)

    pub fails : r ≡ true → (t : Stop) → Fails t (form_in spare (grammar.applied a n) names ts) → Fails t whole
    fails k t f =
        let w = seen go x (ahead names ts) true r e h k in
        turns.fails spare (λ _ y. go y) turn whole a (place names ts) is t w
        (turn_free spare names n (go (ahead names ts)) w (place names ts) (λ y. open_guard spare n (place names ts) y room)) (turn_stops spare names n (go (ahead names ts)) w a ts t f)

    pub ends : r ≡ false → whole ≡ Ok (a, place names ts)
    ends k = turns.ends spare (λ _ y. go y) turn whole a (place names ts) is (seen go x (ahead names ts) false r e h k)

module _ {A : Type 0} (spare : ℕ) (g : Form A) where
  abbrev another : Form (List A → List A)
  another = grammar.map inner.added (grammar.behind (grammar.one s.Comma) g)

  abbrev part : Sort → Form (List A → List A)
  part x = grammar.when (grammar.is_comma x) another

  abbrev more : List A → Sort → Bool
  more = goes grammar.is_comma (λ _ _. true)

  -- the list so far, of what the whole is
  abbrev pub IsListed : Answer (List A) → List A → Place → Type 0
  IsListed whole l p = IsFrom spare more part whole l p

  pub lists : (a : A) (p q : Place) → read_at spare g p ≡ Ok (a, q) → IsListed (read_at spare (inner.listed g) p) (a ∷ []) q
  lists a p q h = turns.begins_loop spare grammar.is_comma (λ _ _. true) (grammar.map (λ a. a ∷ []) g) part p (a ∷ []) q (turns.mapped spare p (λ a. a ∷ []) g a q h)

  pub first_fails : (p : Place) (t : Stop) → Fails t (read_at spare g p) → Fails t (read_at spare (inner.listed g) p)
  first_fails p t f = turns.loop_fails spare grammar.is_comma (λ _ _. true) (grammar.map (λ a. a ∷ []) g) part p t (turns.mapped_fails spare p (λ a. a ∷ []) g t f)

  module _ (fine : Fine (inner.listed g)) (room : 0 < spare) (whole : Answer (List A)) (l : List A) (names : Names) (ts : List Token) (is : IsListed whole l (place names ts)) (x : Sort) (e : x ≡ ahead names ts) (r : Bool) (h : r ≡ grammar.is_comma x) where
    pub lists_on : r ≡ true → (b : List A) (q : Place) → form_in spare (grammar.applied l another) names ts ≡ Ok (b, q) → IsListed whole b q
    lists_on k b q f =
        let w = seen grammar.is_comma x (ahead names ts) true r e h k in
        turns.next_turn spare more part whole l (place names ts) is b q (with_true _ _ w)
        (turn_free spare names another (grammar.is_comma (ahead names ts)) w (place names ts) (λ y. open_guard spare another (place names ts) y room)) (fine.2 (ahead names ts)) (fine.4 (ahead names ts) w)
        (turn_stands spare names another (grammar.is_comma (ahead names ts)) w l ts _ f)

    pub list_falls : r ≡ true → (b : List A) (q : Place) → form_in spare (grammar.applied l another) names ts ≡ Ok (b, q) → length q.rest < length ts
    list_falls k b q f =
        let w = seen grammar.is_comma x (ahead names ts) true r e h k in
        turns.falls spare more part whole l (place names ts) b q (fine.2 (ahead names ts)) (fine.4 (ahead names ts) w) (turn_stands spare names another (grammar.is_comma (ahead names ts)) w l ts _ f)

    pub list_fails : r ≡ true → (t : Stop) → Fails t (form_in spare (grammar.applied l another) names ts) → Fails t whole
    list_fails k t f =
        let w = seen grammar.is_comma x (ahead names ts) true r e h k in
        turns.fails spare more part whole l (place names ts) is t (with_true _ _ w)
        (turn_free spare names another (grammar.is_comma (ahead names ts)) w (place names ts) (λ y. open_guard spare another (place names ts) y room)) (turn_stops spare names another (grammar.is_comma (ahead names ts)) w l ts t f)

    pub list_ends : r ≡ false → whole ≡ Ok (l, place names ts)
    list_ends k = let w = seen grammar.is_comma x (ahead names ts) false r e h k in turns.ends spare more part whole l (place names ts) is (with_true _ _ w)
