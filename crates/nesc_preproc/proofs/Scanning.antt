-- One step of a scan, on states and items.
use Rattle.std.specs.Prelude.{◌≡◌, ℕ, zero, suc, ◌+◌, ◌≤◌, true, false, List, [], ◌∷◌, length, Option, Some, None, Result, Ok, Err}
use Rattle.std.proofs.Common.{refl, ap, ◌∙◌, arith}
use Rattle.nm_base.specs.declared.pos.Pos.{Pos}
use Rattle.nm_base.specs.declared.token.Token.{Token}
use Rattle.nm_base.specs.declared.fault.Fault.{Fault}
use Rattle.nesc_macros.specs.Expansion.{Settles, expanded_tokens}
use Rattle.nesc_preproc.specs.Lines.{Item, Read, End, begins_directive, line_of, behind_line, run_of, behind_run, file_front, behind_file}
use Rattle.nesc_preproc.specs.Sources.{Known, World}
use Rattle.nesc_preproc.specs.Conditionals.{is_live, outermost}
use Rattle.nesc_preproc.specs.Obeyed.{Situation, malformed, obeyed, with_tokens}
use Rattle.nesc_preproc.specs.Scanned.{Scanned, State, at_token, behind_directive, behind_end, behind_expansion, behind_run_of, before, conditionals_of, go_on_with, outer_of, prefixed, put_file, scanned, situation, state_at}
use Rattle.nesc_preproc.specs.Scan.{ScansTo, behind, behind_value, refused}

front_of : (ts : List Token) (items : List Item) → file_front (put_file ts items) ≡ ts
front_of [] items = refl
front_of (t ∷ ts) items = ap (λ xs. t ∷ xs) (front_of ts items)

behind_of : (ts : List Token) (items : List Item) → behind_file (put_file ts items) ≡ End ∷ items
behind_of [] items = refl
behind_of (t ∷ ts) items = behind_of ts items

settled : {A : Type 0} (f g : ℕ → Option A) (x : A) (n : ℕ) → ((m : ℕ) → f (suc m) ≡ g m) → ((m : ℕ) → n ≤ m → g m ≡ Some x) → (m : ℕ) → suc n ≤ m → f m ≡ Some x
settled f g x n e p zero h = let no : ⊥ = omega (arith, h) in elim no [ ]
settled f g x n e p (suc m) h = e m ∙ p m (omega (arith, h))

-- what holds from one step more on
later : {A : Type 0} (f g : ℕ → Option A) (x : A) → ((m : ℕ) → f (suc m) ≡ g m) → Settles g x → Settles f x
later f g x e p = (suc p.0, settled f g x p.0 e p.1)

-- at a token of the innermost file
token_step : (world : World) (st : State) (t : Token) (ts : List Token) (items : List Item) (m : ℕ)
    → scanned (suc m) world st (Read t ∷ put_file ts items) ≡ at_token (begins_directive t) m (scanned m world) world st t ts (End ∷ items)
token_step world st t ts items m = rw (front_of, behind_of)

-- a directive that goes on
pub directive_goes : (world : World) (st : State) (t : Token) (ts : List Token) (items : List Item) (now : Situation) (header : Option (List Token)) (r : Scanned)
    → begins_directive t ≡ true → Settles (λ n. obeyed n world (length st.files) t.pos (line_of ts) (situation st)) (record { value = Ok header; now = now })
    → Settles (λ n. go_on_with (scanned n world) (outer_of st.files) (put_file (behind_line ts) items) now header) r
    → ScansTo world st (Read t ∷ put_file ts items) r
directive_goes world st t ts items now header r is obeys goes =
    later _ (λ m. at_token true m (scanned m world) world st t ts (End ∷ items)) r
    (λ m. token_step world st t ts items m ∙ ap (λ b. at_token b m (scanned m world) world st t ts (End ∷ items)) is)
    (obeys.0 + goes.0, λ m h. ap (behind_directive (scanned m world) (outer_of st.files) (put_file (behind_line ts) items)) (obeys.1 m (omega (arith, h))) ∙ goes.1 m (omega (arith, h)))

-- one that is refused
pub directive_refused : (world : World) (st : State) (t : Token) (ts : List Token) (items : List Item) (now : Situation) (e : Fault)
    → begins_directive t ≡ true → Settles (λ n. obeyed n world (length st.files) t.pos (line_of ts) (situation st)) (record { value = Err e; now = now })
    → ScansTo world st (Read t ∷ put_file ts items) (refused e now.known)
directive_refused world st t ts items now e is obeys =
    later _ (λ m. at_token true m (scanned m world) world st t ts (End ∷ items)) (refused e now.known)
    (λ m. token_step world st t ts items m ∙ ap (λ b. at_token b m (scanned m world) world st t ts (End ∷ items)) is)
    (obeys.0, λ m h. ap (behind_directive (scanned m world) (outer_of st.files) (put_file (behind_line ts) items)) (obeys.1 m h))

-- a run that is skipped
pub run_skipped : (world : World) (st : State) (t : Token) (ts : List Token) (items : List Item) (r : Scanned)
    → begins_directive t ≡ false → is_live (conditionals_of st.files) ≡ false → ScansTo world st (put_file (behind_run ts) items) r
    → ScansTo world st (Read t ∷ put_file ts items) r
run_skipped world st t ts items r is skips goes =
    later _ (λ m. scanned m world st (put_file (behind_run ts) items)) r
    (λ m. token_step world st t ts items m ∙ ap (λ b. at_token b m (scanned m world) world st t ts (End ∷ items)) is
    ∙ ap (λ b. behind_run_of b m (scanned m world) st (t ∷ run_of ts) (put_file (behind_run ts) items)) skips)
    goes

by_value : (front : List Token) (value : Result (List Token) Fault) (known : Known) → prefixed front value known ≡ Some (record { value = behind_value front value; known = known })
by_value front (Ok ts) known = refl
by_value front (Err e) known = refl

before_goes : (front : List Token) (r : Scanned) → before front (Some r) ≡ Some (behind front r)
before_goes front r = by_value front r.value r.known

-- a run that is expanded
pub run_goes : (world : World) (st : State) (t : Token) (ts : List Token) (items : List Item) (xs : List Token) (count : ℕ) (r : Scanned)
    → begins_directive t ≡ false → is_live (conditionals_of st.files) ≡ true
    → Settles (λ n. expanded_tokens n st.macros st.known.tokens (t ∷ run_of ts)) (record { value = Ok xs; count = count })
    → ScansTo world (state_at (with_tokens (situation st) count) (outer_of st.files)) (put_file (behind_run ts) items) r
    → ScansTo world st (Read t ∷ put_file ts items) (behind xs r)
run_goes world st t ts items xs count r is lives expands goes =
    later _ (λ m. behind_run_of true m (scanned m world) st (t ∷ run_of ts) (put_file (behind_run ts) items)) (behind xs r)
    (λ m. token_step world st t ts items m ∙ ap (λ b. at_token b m (scanned m world) world st t ts (End ∷ items)) is
    ∙ ap (λ b. behind_run_of b m (scanned m world) st (t ∷ run_of ts) (put_file (behind_run ts) items)) lives) (
      expands.0 + goes.0,
      λ m h. ap (behind_expansion (scanned m world) (outer_of st.files) (put_file (behind_run ts) items) (situation st)) (expands.1 m (omega (arith, h)))
          ∙ ap (before xs) (goes.1 m (omega (arith, h))) ∙ before_goes xs r,
    )

pub run_refused : (world : World) (st : State) (t : Token) (ts : List Token) (items : List Item) (e : Fault) (count : ℕ)
    → begins_directive t ≡ false → is_live (conditionals_of st.files) ≡ true
    → Settles (λ n. expanded_tokens n st.macros st.known.tokens (t ∷ run_of ts)) (record { value = Err e; count = count })
    → ScansTo world st (Read t ∷ put_file ts items) (refused e (with_tokens (situation st) count).known)
run_refused world st t ts items e count is lives expands =
    later _ (λ m. behind_run_of true m (scanned m world) st (t ∷ run_of ts) (put_file (behind_run ts) items)) (refused e (with_tokens (situation st) count).known)
    (λ m. token_step world st t ts items m ∙ ap (λ b. at_token b m (scanned m world) world st t ts (End ∷ items)) is
    ∙ ap (λ b. behind_run_of b m (scanned m world) st (t ∷ run_of ts) (put_file (behind_run ts) items)) lives)
    (expands.0, λ m h. ap (behind_expansion (scanned m world) (outer_of st.files) (put_file (behind_run ts) items) (situation st)) (expands.1 m h))

-- the end of a file, behind which there is another
pub end_goes : (world : World) (st : State) (items : List Item) (r : Scanned)
    → outermost (conditionals_of st.files) ≡ None → ScansTo world (record { known = st.known; macros = st.macros; files = outer_of st.files }) items r
    → ScansTo world st (End ∷ items) r
end_goes world st items r closed goes =
    later _ (λ m. scanned m world (record { known = st.known; macros = st.macros; files = outer_of st.files }) items) r (λ m. ap (behind_end (scanned m world) st items) closed) goes

-- an end with a conditional that is not closed
pub end_refused : (world : World) (st : State) (items : List Item) (at : Pos)
    → outermost (conditionals_of st.files) ≡ Some at → ScansTo world st (End ∷ items) (refused (malformed at) st.known)
end_refused world st items at unclosed =
    later _ (λ _. Some (refused (malformed at) st.known)) (refused (malformed at) st.known) (λ m. ap (behind_end (scanned m world) st items) unclosed) (0, λ m h. refl)

-- nothing is left
pub nothing_left : (world : World) (st : State) → ScansTo world st [] (record { value = Ok []; known = st.known })
nothing_left world st = later _ (λ _. Some (record { value = Ok []; known = st.known })) (record { value = Ok []; known = st.known }) (λ m. refl) (0, λ m h. refl)
