-- The statements of a block, one at a time; each may change the names.
use Rattle.std.proofs.Common.{◌≡◌, ℕ, zero, suc, ◌<◌, Bool, true, false, ◌||◌, List, [], length, Ok, Err, refl, sym, ap, subst, ◌∙◌, arith}
use Rattle.std.proofs.lemmas.Bool.{le-leb}
use Rattle.std.specs.Prelude.{nat_le}
use Rattle.nm_base.specs.declared.token.Token.{Token}
use Rattle.nesc_tree.specs.declared.sorts.Sort.{Sort}
use Rattle.nesc_tree.specs.declared.contexts.Jumps.{Jumps}
use Rattle.nesc_tree.specs.declared.contexts.Jumps.TheVariants as jumps
use Rattle.nesc_tree.specs.declared.declarations.Stmt.{Stmt}
use Rattle.nesc_tree.specs.Phrase.{Phrase, begins, begins_label, begins_local, begins_stmt}
use Rattle.nesc_tree.specs.Form.{Form, Place, next, either, starts}
use Rattle.nesc_tree.specs.Reading.{Fault, Syntax, Deep, Answer, Reader, read, phrase, turns, guarded, stop, ◌>>=◌}
use Rattle.nesc_grammar.specs.Grammar.{applied, map, if_type}
use Rattle.nesc_grammar.specs.Declarations.{added}
use Rattle.nesc_grammar.specs.Production.{production}
use Rattle.nesc_grammar.proofs.Instance.{reads_on}
use Rattle.nesc_tree.proofs.Fine.{Fine}
use Rattle.nesc_tree.proofs.Checked.{checked}
use Rattle.nesc_tree.proofs.Moves.{Moves, moves}
use Rattle.nesc_parse_types.specs.declared.stop.Stop.{Stop}
use Rattle.nesc_parse_types.specs.declared.stop.Stop.TheVariants as rust
use Rattle.nesc_parse_types.specs.Gives.{Fails}
use Rattle.nesc_parse_types.proofs.Guards.{open_guard}
use Rattle.nesc_simple_stmts.specs.Parts as parts
use Rattle.nesc_simple_stmts.proofs.Guards.{or_none, fails_with}

-- ---- turns, whatever one of them reads

abbrev turns_by : {A : Type 0} → ℕ → (Sort → Bool) → (Sort → Reader (A → A)) → ℕ → A → Place → Answer A
turns_by d go run n a p = turns d (λ _ x. go x) (λ _. 0) run n a p

-- the whole is what the turns from here on give
pub record IsFrom {A : Type 0} (d : ℕ) (go : Sort → Bool) (run : Sort → Reader (A → A)) (whole : Answer A) (a : A) (p : Place) : Type 0 where
  pub left : ℕ
  pub enough : length p.rest < left
  pub same : whole ≡ turns_by d go run left a p

no_weight : (n : ℕ) → nat_le 0 n ≡ true
no_weight n = le-leb 0 n (omega arith)

module _ {A : Type 0} (d : ℕ) (go : Sort → Bool) (run : Sort → Reader (A → A)) (whole : Answer A) (a : A) (p : Place) where
  stop_now : (n : ℕ) → length p.rest < n → whole ≡ turns_by d go run n a p → go (next p) ≡ false → whole ≡ Ok (a, p)
  stop_now zero l e h = absurd (omega arith)
  stop_now (suc n) l e h = e ∙ rw h refl

  pub ends : IsFrom d go run whole a p → go (next p) ≡ false → whole ≡ Ok (a, p)
  ends is h = stop_now is.left is.enough is.same h

  turn : (n : ℕ) → go (next p) ≡ true → turns_by d go run (suc n) a p ≡ (run (next p) p >>= λ x. turns_by d go run n (x.0 a) x.1)
  turn n h = rw (h, no_weight d) refl

  passed : (n : ℕ) (b : A) (q : Place) (x : Answer (A → A)) → ◌≡◌ {A = Answer A} (x >>= λ y. Ok (y.0 a, y.1)) (Ok (b, q)) → (x >>= λ y. turns_by d go run n (y.0 a) y.1) ≡ turns_by d go run n b q
  passed n b q (Ok y) h = let z : ◌≡◌ {A = A × Place} (y.0 a, y.1) (b, q) = cc in ap (λ (u : A × Place). turns_by d go run n u.0 u.1) z
  passed n b q (Err e) h = absurd cc

  refused : (n : ℕ) (f : Fault) (x : Answer (A → A)) → ◌≡◌ {A = Answer A} (x >>= λ y. Ok (y.0 a, y.1)) (Err f) → ◌≡◌ {A = Answer A} (x >>= λ y. turns_by d go run n (y.0 a) y.1) (Err f)
  refused n f (Ok y) h = absurd cc
  refused n f (Err e) h = let z : e ≡ f = cc in ap Err z

  on : (n : ℕ) → length p.rest < n → whole ≡ turns_by d go run n a p → (b : A) (q : Place) → go (next p) ≡ true → ◌≡◌ {A = Answer A} (run (next p) p >>= λ y. Ok (y.0 a, y.1)) (Ok (b, q)) → length q.rest < length p.rest → IsFrom d go run whole b q
  on zero l e b q h f k = absurd (omega arith)
  on (suc n) l e b q h f k = record { left = n; enough = omega arith; same = e ∙ (turn n h ∙ passed n b q (run (next p) p) f) }

  pub next_turn : IsFrom d go run whole a p → (b : A) (q : Place) → go (next p) ≡ true → ◌≡◌ {A = Answer A} (run (next p) p >>= λ y. Ok (y.0 a, y.1)) (Ok (b, q)) → length q.rest < length p.rest → IsFrom d go run whole b q
  next_turn is b q h f k = on is.left is.enough is.same b q h f k

  off : (n : ℕ) → length p.rest < n → whole ≡ turns_by d go run n a p → (f : Fault) → go (next p) ≡ true → ◌≡◌ {A = Answer A} (run (next p) p >>= λ y. Ok (y.0 a, y.1)) (Err f) → whole ≡ Err f
  off zero l e f h q = absurd (omega arith)
  off (suc n) l e f h q = e ∙ (turn n h ∙ refused n f (run (next p) p) q)

  pub fails : IsFrom d go run whole a p → (r : Stop) → go (next p) ≡ true → Fails {Y = A × Place} r (run (next p) p >>= λ y. Ok (y.0 a, y.1)) → Fails r whole
  fails is rust.Memory h q = tt
  fails is (rust.Syntax us) h q = off is.left is.enough is.same (Syntax us.now) h q
  fails is (rust.Deep us) h q = off is.left is.enough is.same (Deep us.now) h q

-- ---- what a block holds

abbrev pub body : Bool → Jumps → Sort → Form (List Stmt → List Stmt)
body l j x = map added (parts.item_of l j x)

abbrev pub run : ℕ → Bool → Jumps → Sort → Reader (List Stmt → List Stmt)
run d l j x p = guarded d (body l j x) p (read d (phrase production d) (body l j x) p)

abbrev pub items_at : ℕ → Bool → Jumps → Place → Answer (List Stmt)
items_at d l j p = read d (phrase production d) (parts.items l j) p

abbrev pub another_at : ℕ → Bool → Jumps → List Stmt → Place → Answer (List Stmt)
another_at d l j a p = read d (phrase production d) (applied a (parts.another_item l j)) p

abbrev pub AreFrom : ℕ → Bool → Jumps → Answer (List Stmt) → List Stmt → Place → Type 0
AreFrom d l j whole a p = IsFrom d (parts.begins_item l j) (run d l j) whole a p

pub items_begin : (d : ℕ) (l : Bool) (j : Jumps) (p : Place) → AreFrom d l j (items_at d l j p) [] p
unfolding read
items_begin d l j p = record { left = suc (length p.rest); enough = omega arith; same = refl }

abbrev adds : Answer Stmt → Answer (List Stmt → List Stmt)
adds x = x >>= λ u. Ok (added u.0, u.1)

-- the guard may stand before what is added
module _ (d : ℕ) (p : Place) where
  abbrev Inner : Form Stmt → Type 0
  Inner g = guarded d (map added g) p (read d (phrase production d) (map added g) p) ≡ adds (guarded d g p (read d (phrase production d) g p))

inner_stmt : (d : ℕ) (p : Place) (j : Jumps) → Inner d p (Form.sub (Phrase.stmt j) (λ x. x))
unfolding read phrase
inner_stmt zero p j = ap (λ (b : Bool). Err (stop b p.rest)) (or_none (begins_stmt j (next p)))
inner_stmt (suc d) p j = refl

inner_local : (d : ℕ) (p : Place) → Inner d p (Form.sub Phrase.local (λ x. x))
unfolding read phrase
inner_local zero p = ap (λ (b : Bool). Err (stop b p.rest)) (or_none (begins_local (next p)))
inner_local (suc d) p = refl

inner_label : (d : ℕ) (p : Place) (j : Jumps) → Inner d p (Form.sub (Phrase.label j) (λ x. x))
unfolding read phrase
inner_label zero p j = ap (λ (b : Bool). Err (stop b p.rest)) (or_none (begins_label (next p)))
inner_label (suc d) p j = refl

abbrev chosen : Bool → Bool → Jumps → Form Stmt
chosen a b j = if_type a (Form.sub (Phrase.label j) (λ x. x)) (if_type b (Form.sub Phrase.local (λ x. x)) (Form.sub (Phrase.stmt j) (λ x. x)))

inner_chosen : (d : ℕ) (p : Place) (j : Jumps) (a b : Bool) → Inner d p (chosen a b j)
inner_chosen d p j true b = inner_label d p j
inner_chosen d p j false true = inner_local d p
inner_chosen d p j false false = inner_stmt d p j

inner_item : (d : ℕ) (p : Place) (l : Bool) (j : Jumps) (x : Sort) → Inner d p (parts.item_of l j x)
inner_item d p true j x = inner_chosen d p j (begins_label x) (begins_local x)
inner_item d p false j x = inner_chosen d p j false (begins_local x)

applied_to : (a : List Stmt) (x : Answer Stmt) → ◌≡◌ {A = Answer (List Stmt)} (adds x >>= λ y. Ok (y.0 a, y.1)) (x >>= λ u. Ok (added u.0 a, u.1))
applied_to a (Ok u) = refl
applied_to a (Err e) = refl

module _ (d : ℕ) (l : Bool) (j : Jumps) (a : List Stmt) (p : Place) where
  abbrev one : Answer Stmt
  one = guarded d (parts.item_of l j (next p)) p (read d (phrase production d) (parts.item_of l j (next p)) p)

  another_is : another_at d l j a p ≡ (adds one >>= λ y. Ok (y.0 a, y.1))
  unfolding read
  another_is = refl

  found_added : (b : Stmt) (q : Place) (x : Answer Stmt) → x ≡ Ok (b, q) → ◌≡◌ {A = Answer (List Stmt)} (x >>= λ u. Ok (added u.0 a, u.1)) (Ok (added b a, q))
  found_added b q x h = rw h refl

  item_added : another_at d l j a p ≡ (read d (phrase production d) (parts.item l j) p >>= λ u. Ok (added u.0 a, u.1))
  unfolding read
  item_added = another_is ∙ applied_to a one

  pub another_fails : (r : Stop) → Fails r (read d (phrase production d) (parts.item l j) p) → Fails r (another_at d l j a p)
  another_fails r h = subst (Fails r) (sym item_added) (fails_with (read d (phrase production d) (parts.item l j) p) (λ u. Ok (added u.0 a, u.1)) r h)

  pub another_read : (b : Stmt) (q : Place) → read d (phrase production d) (parts.item l j) p ≡ Ok (b, q) → another_at d l j a p ≡ Ok (added b a, q)
  another_read b q h = item_added ∙ found_added b q (read d (phrase production d) (parts.item l j) p) h

  -- a turn is another statement
  pub turn_is : another_at d l j a p ≡ (run d l j (next p) p >>= λ y. Ok (y.0 a, y.1))
  turn_is = another_is ∙ sym (ap (λ (x : Answer (List Stmt → List Stmt)). x >>= λ y. Ok (y.0 a, y.1)) (inner_item d p l j (next p)))

  shorter : (b : List Stmt) (q : Place) (x : Answer (List Stmt → List Stmt)) → Moves true (length p.rest) x → ◌≡◌ {A = Answer (List Stmt)} (x >>= λ y. Ok (y.0 a, y.1)) (Ok (b, q)) → length q.rest < length p.rest
  shorter b q (Ok y) (Moves.ok k s) h = let u : ◌≡◌ {A = List Stmt × Place} (y.0 a, y.1) (b, q) = cc in let z : y.1 ≡ q = ap (λ (v : List Stmt × Place). v.1) u in let w = s refl in subst (λ (r : Place). length r.rest < length p.rest) z w
  shorter b q (Err e) m h = absurd cc

fine_another : (l : Bool) (j : Jumps) → Fine (parts.another_item l j)
fine_another true jumps.Neither = checked (parts.another_item true jumps.Neither) refl
fine_another true jumps.Break = checked (parts.another_item true jumps.Break) refl
fine_another true jumps.BreakAndContinue = checked (parts.another_item true jumps.BreakAndContinue) refl
fine_another false jumps.Neither = checked (parts.another_item false jumps.Neither) refl
fine_another false jumps.Break = checked (parts.another_item false jumps.Break) refl
fine_another false jumps.BreakAndContinue = checked (parts.another_item false jumps.BreakAndContinue) refl

chosen_starts : (a b c : Bool) (j : Jumps) (x : Sort) → begins_label x ≡ a → begins_local x ≡ b → begins_stmt j x ≡ c → (a || (b || c)) ≡ true → starts (chosen a b j) x ≡ true
chosen_starts true b c j x e f g h = e
chosen_starts false true c j x e f g h = f
chosen_starts false false true j x e f g h = g
chosen_starts false false false j x e f g h = absurd cc

unlabelled_starts : (b c : Bool) (j : Jumps) (x : Sort) → begins_local x ≡ b → begins_stmt j x ≡ c → (b || c) ≡ true → starts (chosen false b j) x ≡ true
unlabelled_starts true c j x f g h = f
unlabelled_starts false true j x f g h = g
unlabelled_starts false false j x f g h = absurd cc

item_starts : (l : Bool) (j : Jumps) (x : Sort) → parts.begins_item l j x ≡ true → starts (parts.another_item l j) x ≡ true
item_starts true j x h = or_none (starts (parts.item_of true j x) x) ∙ chosen_starts (begins_label x) (begins_local x) (begins_stmt j x) j x refl refl refl h
item_starts false j x h = or_none (starts (parts.item_of false j x) x) ∙ unlabelled_starts (begins_local x) (begins_stmt j x) j x refl refl h

-- a turn reads something
pub falls : (d : ℕ) (l : Bool) (j : Jumps) (a : List Stmt) (p : Place) (b : List Stmt) (q : Place) → parts.begins_item l j (next p) ≡ true → another_at d l j a p ≡ Ok (b, q) → length q.rest < length p.rest
unfolding read
falls d l j a p b q h e =
    shorter d l j a p b q (read d (phrase production d) (parts.another_item l j) p)
    (subst (λ (c : Bool). Moves c (length p.rest) (read d (phrase production d) (parts.another_item l j) p)) (item_starts l j (next p) h) (moves d (phrase production d) (reads_on d) (parts.another_item l j) (fine_another l j) p)) e
