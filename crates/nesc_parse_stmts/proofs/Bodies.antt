-- A `for` and its body, read one behind the other.
use Rattle.std.proofs.Common.{◌≡◌, ℕ, List, Ok, Err, sym, subst}
use Rattle.nm_base.specs.declared.token.Token.{Token}
use Rattle.nesc_tree.specs.declared.declarations.Stmt.{Stmt}
use Rattle.nesc_tree.specs.declared.declarations.Stmt.TheVariants as st
use Rattle.nesc_tree.specs.Sorts.{Names}
use Rattle.nesc_tree.specs.Form.{Place}
use Rattle.nesc_tree.specs.Reading.{Answer, ◌>>=◌}
use Rattle.nesc_grammar.specs.Statements as spec
use Rattle.nesc_parse_types.specs.Gives.{Found, Gives, form_in, place}
use Rattle.nesc_simple_stmts.specs.declared.heads.ForHead.{ForHead}
use Rattle.nesc_simple_stmts.specs.Parts as parts
use Rattle.nesc_simple_stmts.proofs.Guards.{fails_with, found_then, then_second}
use Rattle.nesc_parse_stmts.specs.Made.{MadeBy}

abbrev made : {A B : Type 0} → (A → B) → A × Place → Answer B
made f u = Ok (f u.0, u.1)

-- what is made of what was found is what reading on gives
made_gives : {A B : Type 0} (names : Names) (f : A → B) (x : Found A) (r : Found B) (y : Answer A) → MadeBy f x r → Gives names x y → Gives names r (y >>= made f)
made_gives {B = B} names f (Ok x) r y m h = subst (λ (v : Found B). Gives names v (y >>= made f)) (sym m) (found_then y (made f) x.0 (place names x.1.now) h)
made_gives {B = B} names f (Err e) r y m h = subst (λ (v : Found B). Gives names v (y >>= made f)) (sym m) (fails_with y (made f) e h)

abbrev for_of : ForHead → Stmt → Stmt
for_of h x = st.For h.start h.test h.step x h.pos

module _ (d : ℕ) (names after last : Names) (ts rest : List Token) (head : ForHead) (body r : Found Stmt) where
  pub for_gives_with : form_in d parts.for_head names ts ≡ Ok (head, place after rest) → Gives after body (form_in d spec.loop_body after rest) → MadeBy (for_of head) body r → last ≡ after → Gives last r (form_in d parts.open_for names ts)
  for_gives_with e g m k =
      subst (λ (y : Answer Stmt). Gives last r y) (sym (then_second d for_of parts.for_head spec.loop_body (place names ts) head (place after rest) e))
      (subst (λ (ns : Names). Gives ns r (form_in d spec.loop_body after rest >>= made (for_of head))) (sym k) (made_gives after (for_of head) body r (form_in d spec.loop_body after rest) m g))
