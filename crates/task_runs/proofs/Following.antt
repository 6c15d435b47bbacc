-- A list of loop moves as moves of the source, with what they cost.
use Rattle.std.proofs.Common.{◌≡◌, ℕ, zero, suc, ◌+◌, ◌*◌, ◌≤◌, ◌⊎◌, inl, inr, ⊎_elim, Bool, true, false, cond, List, [], ◌∷◌, ◌++◌, length, Option, Some, None, refl, sym, ap, subst, ◌∙◌, arith, append-nil, mul-add, mul_assoc}
use Rattle.std.specs.Prelude.{is_some, is_none, IsNone, IsSomeAnd, ◌&&◌, ◌||◌}
use Rattle.std.proofs.Math.Nat.{mul-le-mul_left}
use Rattle.mote_devices.specs.Board.{IsRequested, line_of}
use Rattle.core_meaning.specs.Source.{Source}
use Rattle.run_meaning.specs.declared.Move.{Move}
use Rattle.run_meaning.specs.declared.Move.TheVariants.{Arrive, Do, Enter, Leave, Start, Finish}
use Rattle.run_meaning.specs.State.{Context, State, acting_of, is_inside, new_context}
use Rattle.run_meaning.specs.Runs.{AreLegal, after, after_all, answers_to, base_after, shown_of, shown_by, with_made}
use Rattle.run_meaning.specs.Steps.{IsEnter, Waits, StaysOutside}
use Rattle.preempt_core.specs.Law.{is_waiting, one_effect, waiting_effects}
use Rattle.loop_runs.specs.Bodies.{Bodies, source}
use Rattle.loop_runs.specs.Kernel.{Queue}
use Rattle.loop_runs.specs.Loop.{LoopState, LoopMove, Plain, Calls, Pops, Takes, GivesPlace, LegalLoop, AreLegalLoop, after_loop, after_loop_all, shown_of_loop, shown_by_loop}
use Rattle.loop_runs.specs.Steps.{IsArrival, IsAside, IsFollowed, IsPopping, Follows, hidden_of, is_empty, loop_completes, most, own_moves, shut_of}
use Rattle.preempt_tasks.specs.Bodies.{Sizes}
use Rattle.preempt_tasks.specs.Steps.{IsEntry, IsSourceBody, WaitsThrough, cost, cost_of, effect_of, effects_of, mark_of, marks_of, turn_of, turns_of}
use Rattle.task_runs.specs.Law.{step_of, stretch_of}
use Rattle.task_runs.proofs.Kept.{aside_kept, body_kept, do_base, inside_kept, outside_all}

not_so : false ≡ true → ⊥
not_so h = cc

-- ---- states

none_of : (o o' : Option Context) → is_some o ≡ is_some o' → IsNone o' → IsNone o
none_of None o' e n = refl
none_of (Some c) None e n = absurd (not_so (sym e))
none_of (Some c) (Some c') e n = absurd (not_so (let k : false ≡ true = cc in k))

same_none : (o o' : Option Context) → is_some o ≡ is_some o' → is_none o ≡ is_none o'
same_none None None e = refl
same_none (Some c) (Some c') e = refl
same_none None (Some c) e = absurd (not_so e)
same_none (Some c) None e = absurd (not_so (sym e))

none_there : (o : Option Context) → IsNone o → o ≡ None
none_there None n = refl
none_there (Some c) n = absurd (not_so (let k : false ≡ true = cc in k))

none_so : (o : Option Context) → is_none o ≡ true → IsNone o
none_so None e = refl
none_so (Some c) e = absurd (not_so e)

-- what the move of a run needs no instructions of its own for
own_split : (m : Move) (ms : List Move) → own_moves (m ∷ ms) ≡ own_moves (m ∷ []) + own_moves ms
own_split (Arrive g) ms = omega arith
own_split (Do a) ms = omega arith
own_split (Enter v) ms = omega arith
own_split Leave ms = omega arith
own_split (Start k) ms = omega arith
own_split Finish ms = omega arith

own_one : (m : Move) → own_moves (m ∷ []) ≤ 1
own_one (Arrive g) = omega arith
own_one (Do a) = omega arith
own_one (Enter v) = omega arith
own_one Leave = omega arith
own_one (Start k) = omega arith
own_one Finish = omega arith

pub own_few : (ms : List Move) → own_moves ms ≤ length ms
own_few [] = omega arith
own_few (m ∷ ms) = let a = own_split m ms in let b = own_one m in let c = own_few ms in omega (arith, a, b, c)

arrival_is : (m : LoopMove) → IsArrival m → (g : _) × (m ≡ Plain (Arrive g))
arrival_is (Plain (Arrive g)) a = (g, refl)
arrival_is (Plain (Do x)) a = absurd a
arrival_is (Plain (Enter v)) a = absurd a
arrival_is (Plain Leave) a = absurd a
arrival_is (Plain (Start k)) a = absurd a
arrival_is (Plain Finish) a = absurd a
arrival_is Calls a = absurd a
arrival_is (Pops k) a = absurd a
arrival_is (Takes k) a = absurd a

entry_is : (m : LoopMove) → IsEntry m → (v : ℕ) × (m ≡ Plain (Enter v))
entry_is (Plain (Enter v)) e = (v, refl)
entry_is (Plain (Arrive g)) e = absurd e
entry_is (Plain (Do x)) e = absurd e
entry_is (Plain Leave) e = absurd e
entry_is (Plain (Start k)) e = absurd e
entry_is (Plain Finish) e = absurd e
entry_is Calls e = absurd e
entry_is (Pops k) e = absurd e
entry_is (Takes k) e = absurd e

-- ---- the moves with the gate closed, from the loop's call of pop to the start of a task

abbrev pub shut_moves : (gave : Option ℕ) (base : Option Context) (hidden : ℕ) → ℕ
shut_moves (Some k) base hidden = 1
shut_moves None None hidden = hidden + 1
shut_moves None (Some c) hidden = shut_of (Some c) hidden + 1

pub shut_low : (gave : Option ℕ) (base : Option Context) (hidden most : ℕ) → hidden ≤ most → 1 ≤ most → shut_moves gave base hidden ≤ most + 1
shut_low (Some k) base hidden most le some = omega (arith, some)
shut_low None None hidden most le some = omega (arith, le)
shut_low None (Some c) hidden most le some = by_test (is_inside (Some c) || is_empty c.made) refl
  where
    by_test : (t : Bool) → (is_inside (Some c) || is_empty c.made) ≡ t → shut_of (Some c) hidden + 1 ≤ most + 1
    by_test true e = let k = ap (λ t. cond t hidden 1) e in omega (arith, k, le)
    by_test false e = let k = ap (λ t. cond t hidden 1) e in omega (arith, k, some)

no_context : (A : Context → Type 0) (o : Option Context) → IsNone o → IsSomeAnd o A → ⊥
no_context A None n s = s
no_context A (Some c) n s = not_so (let k : false ≡ true = cc in k)

no_acting : (A : Context → Type 0) (handler base : Option Context) → IsNone handler → IsNone base → IsSomeAnd (acting_of handler base) A → ⊥
no_acting A None None n k s = s
no_acting A None (Some b) n k s = not_so (let k : false ≡ true = cc in k)
no_acting A (Some h) base n k s = not_so (let k : false ≡ true = cc in k)

module _ (P K : Bodies) (pop : ℕ) (Q : Queue) (Rel : LoopState → State → ℕ → Type 0) (F : Follows P K pop Q Rel) (z : Sizes) where
  abbrev S : Source
  S = source P

  -- ---- one move

  cost_low : (m : LoopMove) → cost_of z m ≤ step_of z * hidden_of m
  cost_low (Plain (Arrive g)) = omega arith
  cost_low (Plain (Do a)) = omega arith
  cost_low (Plain (Enter v)) = omega arith
  cost_low (Plain Leave) = omega arith
  cost_low (Plain (Start k)) = omega arith
  cost_low (Plain Finish) = omega arith
  cost_low Calls = omega arith
  cost_low (Pops k) = omega arith
  cost_low (Takes k) = omega arith

  cost_some : (m : LoopMove) → (IsArrival m → ⊥) → 1 ≤ cost_of z m
  cost_some (Plain (Arrive g)) n = absurd (n tt)
  cost_some (Plain (Do a)) n = omega arith
  cost_some (Plain (Enter v)) n = omega arith
  cost_some (Plain Leave) n = omega arith
  cost_some (Plain (Start k)) n = omega arith
  cost_some (Plain Finish) n = omega arith
  cost_some Calls n = omega arith
  cost_some (Pops k) n = omega arith
  cost_some (Takes k) n = omega arith

  -- what is counted is paid for
  pay_one : (m : LoopMove) (hidden hidden' own : ℕ) → hidden' + hidden_of m ≤ hidden + (most Q + 1) * own → cost_of z m + step_of z * hidden' ≤ step_of z * hidden + stretch_of Q z * own
  pay_one m hidden hidden' own counted =
      let g = step_of z in
      let c = cost_low m in
      let all = mul-le-mul_left g counted in
      let front : g * (hidden' + hidden_of m) ≡ g * hidden' + g * hidden_of m = mul-add g hidden' (hidden_of m) in
      let back : g * (hidden + (most Q + 1) * own) ≡ g * hidden + g * ((most Q + 1) * own) = mul-add g hidden ((most Q + 1) * own) in
      let whole : g * (most Q + 1) * own ≡ g * ((most Q + 1) * own) = mul_assoc g (most Q + 1) own in
      sums (cost_of z m) (g * hidden_of m) (g * hidden') (g * hidden) (g * ((most Q + 1) * own)) (g * (hidden' + hidden_of m)) (g * (hidden + (most Q + 1) * own)) (stretch_of Q z * own) c all front back whole
    where
      sums : (c d e f h x y w : ℕ) → c ≤ d → x ≤ y → x ≡ e + d → y ≡ f + h → w ≡ h → c + e ≤ f + w
      sums c d e f h x y w a b p q r = omega (arith, a, b, p, q, r)

  waits_head : (v : ℕ) (r : State) (ms : List Move) → Waits S v r ms → IsRequested r.board v × IsNone r.handler
  waits_head v r [] w = w
  waits_head v r (m ∷ ms) w = (w.0, w.1)

  -- both wait alike
  module _ (s : LoopState) (r : State) (hidden : ℕ) (rel : Rel s r hidden) where
    same_board : s.run.board ≡ r.board
    same_board = (F.beside s r hidden rel).stands.board

    waits_there : (v : ℕ) → IsRequested r.board v → IsRequested s.run.board v
    waits_there v w = subst (λ b. IsRequested b v) (sym same_board) w

    no_handler : IsNone r.handler → IsNone s.run.handler
    no_handler n = none_of s.run.handler r.handler (F.beside s r hidden rel).handlers n

    waiting_same : is_waiting s.run ≡ is_waiting r
    waiting_same =
        ap (λ b. is_some (line_of b) && is_none s.run.handler) same_board
        ∙ ap (λ t. is_some (line_of r.board) && t) (same_none s.run.handler r.handler (F.beside s r hidden rel).handlers)

    waiting_none : is_waiting r ≡ true → IsNone r.handler
    waiting_none e = none_so r.handler (second (is_some (line_of r.board)) (is_none r.handler) e)
      where
        second : (a b : Bool) → (a && b) ≡ true → b ≡ true
        second true b e = e
        second false b e = absurd (not_so e)

  -- ---- a list of moves

  pub record Followed (s : LoopState) (moves : List LoopMove) (r : State) (hidden : ℕ) : Type 0 where
    pub ms : List Move
    pub later : ℕ
    pub rel : Rel (after_loop_all K pop s moves) (after_all S r ms) later
    pub legal : AreLegal S r ms
    pub shown : shown_by S r ms ≡ shown_by_loop K pop s moves
    pub paid : cost z moves + step_of z * later ≤ step_of z * hidden + stretch_of Q z * own_moves ms
    pub effects : waiting_effects S r ms ≤ effects_of K pop s moves
    pub waits : (v : ℕ) → Waits S v r ms → WaitsThrough K pop v s moves
    pub moved : 1 ≤ own_moves ms → 1 ≤ cost z moves
    -- where no body of the source is the base, until a task starts
    pub aside : IsAside pop s.run.base → turns_of moves ≡ 0 → waiting_effects S r ms ≡ 0
    pub shuts : IsAside pop s.run.base → turns_of moves ≡ 0 → (v : ℕ) → Waits S v r ms →
        cost z moves + step_of z * shut_moves (after_loop_all K pop s moves).gave (after_loop_all K pop s moves).run.base later ≤ step_of z * shut_moves s.gave s.run.base hidden
    -- in the statement of a post, until it ends
    pub within : (v : ℕ) → Waits S v r ms → StaysOutside S r ms → IsSourceBody pop s.run.base → is_inside s.run.base ≡ true → marks_of moves ≤ 1 → turns_of moves ≡ 0 → is_inside (after_loop_all K pop s moves).run.base ≡ true → own_moves ms ≡ 0

  -- a move of the loop in front
  module _ (s : LoopState) (m : LoopMove) (moves : List LoopMove) (r : State) (hidden hidden' : ℕ) (rel : Rel s r hidden) (l : LegalLoop K pop s m) (more : AreLegalLoop K pop (after_loop K pop s m) moves) where
    abbrev s' : LoopState
    s' = after_loop K pop s m

    -- in the statement of a post: what ends it ends what stays
    still_within : is_inside s.run.base ≡ true → IsSourceBody pop s.run.base → marks_of (m ∷ moves) ≤ 1 → turns_of (m ∷ moves) ≡ 0 → is_inside (after_loop_all K pop s' moves).run.base ≡ true → is_inside s'.run.base ≡ true
    still_within i b n t last = by_inside (is_inside s'.run.base) refl
      where
        by_mark : (k : ℕ) → mark_of m ≡ k → is_inside s'.run.base ≡ false → is_inside s'.run.base ≡ true
        by_mark zero e o = inside_kept K pop s m l (omega (arith, t)) e b ∙ i
        by_mark (suc k) e o = absurd (not_so (sym (outside_all K pop moves s' more (omega (arith, n, e)) o) ∙ last))

        by_inside : (x : Bool) → is_inside s'.run.base ≡ x → is_inside s'.run.base ≡ true
        by_inside true e = e
        by_inside false e = by_mark (mark_of m) refl e

    -- with the gate closed each move counts, whatever the source does
    shut_one : (ms : List Move) → IsFollowed P K pop Q s m r ms hidden hidden' → IsAside pop s.run.base → turn_of m ≡ 0 → IsNone s.run.handler → (IsEntry m → ⊥) →
        cost_of z m + step_of z * shut_moves s'.gave s'.run.base hidden' ≤ step_of z * shut_moves s.gave s.run.base hidden
    shut_one ms f a t h e =
        let k = counts m refl in
        let p = pay_one m (shut_moves s.gave s.run.base hidden) (shut_moves s'.gave s'.run.base hidden') 0 (omega (arith, k)) in
        sums (stretch_of Q z * 0) (omega arith) p
      where
        sums : (w : ℕ) → w ≡ 0 → cost_of z m + step_of z * shut_moves s'.gave s'.run.base hidden' ≤ step_of z * shut_moves s.gave s.run.base hidden + w → cost_of z m + step_of z * shut_moves s'.gave s'.run.base hidden' ≤ step_of z * shut_moves s.gave s.run.base hidden
        sums w z p = omega (arith, z, p)

        gave_none : IsNone s.run.base ⊎ (s.gave ≡ None)
        gave_none = by_gave s.gave refl
          where
            by_gave : (o : Option ℕ) → s.gave ≡ o → IsNone s.run.base ⊎ (s.gave ≡ None)
            by_gave None q = inr q
            by_gave (Some k) q = inl ((F.beside s r hidden rel).gave (λ n. let x : Some k ≡ None = sym q ∙ n in some_none k x))
              where
                some_none : (k : ℕ) → Some k ≡ None → ⊥
                some_none k e = cc

        -- in pop
        in_pop : (base base' : Option Context) (gave gave' : Option ℕ) → IsPopping pop base → gave ≡ None → gave' ≡ None → IsPopping pop base' → shut_of base' hidden' + hidden_of m ≤ shut_of base hidden → shut_moves gave' base' hidden' + hidden_of m ≤ shut_moves gave base hidden
        in_pop (Some c) (Some c') gave gave' p n n' p' k =
            let x : shut_moves gave' (Some c') hidden' ≡ shut_of (Some c') hidden' + 1 = ap (λ o. shut_moves o (Some c') hidden') n' in
            let y : shut_moves gave (Some c) hidden ≡ shut_of (Some c) hidden + 1 = ap (λ o. shut_moves o (Some c) hidden) n in
            omega (arith, x, y, k)
        in_pop None base' gave gave' p n n' p' k = absurd p
        in_pop (Some c) None gave gave' p n n' p' k = absurd p'

        from_pop : (base : Option Context) (gave : Option ℕ) (k : ℕ) → IsPopping pop base → gave ≡ None → shut_of None hidden' + 1 ≤ shut_of base hidden → shut_moves (Some k) None hidden' + 1 ≤ shut_moves gave base hidden
        from_pop (Some c) gave k p n j = let y : shut_moves gave (Some c) hidden ≡ shut_of (Some c) hidden + 1 = ap (λ o. shut_moves o (Some c) hidden) n in omega (arith, y, j)
        from_pop None gave k p n j = absurd p

        to_pop : (base : Option Context) (gave : Option ℕ) → IsNone base → IsNone gave → hidden' + 1 ≤ hidden → shut_moves None (Some (new_context (Some pop))) hidden' + 1 ≤ shut_moves gave base hidden
        to_pop None None n g j = omega (arith, j)
        to_pop (Some c) gave n g j = absurd (not_so (let k : false ≡ true = cc in k))
        to_pop None (Some k) n g j = absurd (not_so (let k : false ≡ true = cc in k))

        popping : (base : Option Context) → IsAside pop base → (IsNone base → ⊥) → IsPopping pop base
        popping None a n = n refl
        popping (Some c) a n = a

        none_so_far : IsPopping pop s.run.base → s.gave ≡ None
        none_so_far p = ⊎_elim (λ n. absurd (not_none s.run.base n p)) (λ q. q) gave_none
          where
            not_none : (o : Option Context) → IsNone o → IsPopping pop o → ⊥
            not_none None n p = p
            not_none (Some c) n p = not_so (let k : false ≡ true = cc in k)

        gives_pop : (k : ℕ) (base : Option Context) → IsSomeAnd base (GivesPlace K pop k) → IsPopping pop base
        gives_pop k None g = g
        gives_pop k (Some c) g = g.is_pop

        counts : (x : LoopMove) → m ≡ x → shut_moves s'.gave s'.run.base hidden' + hidden_of m ≤ shut_moves s.gave s.run.base hidden
        counts (Plain (Arrive g)) q =
            let same = (f.arrives g q).1 in
            let there : shut_moves s'.gave s'.run.base hidden' ≡ shut_moves s.gave s.run.base hidden = ap (λ x. shut_moves (after_loop K pop s x).gave (after_loop K pop s x).run.base hidden') q ∙ ap (shut_moves s.gave s.run.base) same in
            let none = ap hidden_of q in
            omega (arith, there, none)
        counts (Plain (Do x)) q =
            let legal : LegalLoop K pop s (Plain (Do x)) = subst (LegalLoop K pop s) q l in
            let p = popping s.run.base a (λ n. no_acting _ s.run.handler s.run.base h n legal.0.1) in
            let there = aside_kept K pop s m l t a in
            let base : s'.run.base ≡ base_after s.run.handler (with_made x (answers_to s.run x)) s.run.base = ap (λ y. (after_loop K pop s y).run.base) q ∙ do_base (source K) s.run x in
            let p' = popping s'.run.base there (λ n. not_made s.run.handler s.run.base (with_made x (answers_to s.run x)) h p (subst IsNone base n)) in
            let gave : s'.gave ≡ None = ap (λ y. (after_loop K pop s y).gave) q ∙ none_so_far p in
            in_pop s.run.base s'.run.base s.gave s'.gave p (none_so_far p) gave p' (f.shuts p)
          where
            not_made : (handler base : Option Context) (make : Context → Context) → IsNone handler → IsPopping pop base → IsNone (base_after handler make base) → ⊥
            not_made None (Some c) make h p n = not_so (let k : false ≡ true = cc in k)
            not_made None None make h p n = p
            not_made (Some c) base make h p n = not_so (let k : false ≡ true = cc in k)
        counts (Plain (Enter v)) q = absurd (e (subst IsEntry (sym q) tt))
        counts (Plain Leave) q = absurd (no_context _ s.run.handler h (subst (LegalLoop K pop s) q l).0.1)
        counts (Plain (Start k)) q = absurd (subst (LegalLoop K pop s) q l).1
        counts (Plain Finish) q = absurd (let k = ap turn_of q in omega (arith, k, t))
        counts Calls q =
            let legal : LegalLoop K pop s Calls = subst (LegalLoop K pop s) q l in
            let none = ap own_moves (f.calls q) in
            let one = ap hidden_of q in
            let c = f.counted in
            let fewer : hidden' + 1 ≤ hidden = less (own_moves ms) none one c in
            let k = to_pop s.run.base s.gave legal.0.no_base legal.1 fewer in
            let there : shut_moves s'.gave s'.run.base hidden' ≡ shut_moves None (Some (new_context (Some pop))) hidden' = ap (λ x. shut_moves (after_loop K pop s x).gave (after_loop K pop s x).run.base hidden') q in
            omega (arith, k, there, one)
          where
            less : (n : ℕ) → n ≡ 0 → hidden_of m ≡ 1 → hidden' + hidden_of m ≤ hidden + (most Q + 1) * n → hidden' + 1 ≤ hidden
            less n z o c = let k = ap (λ x. (most Q + 1) * x) z in omega (arith, k, o, c)
        counts (Pops k) q =
            let legal : LegalLoop K pop s (Pops k) = subst (LegalLoop K pop s) q l in
            let p = gives_pop k s.run.base legal.2 in
            let one = ap hidden_of q in
            let j = f.shuts p in
            let none : shut_of s'.run.base hidden' ≡ shut_of None hidden' = ap (λ x. shut_of (after_loop K pop s x).run.base hidden') q in
            let c = from_pop s.run.base s.gave k p (none_so_far p) (omega (arith, j, none, one)) in
            let there : shut_moves s'.gave s'.run.base hidden' ≡ shut_moves (Some k) None hidden' = ap (λ x. shut_moves (after_loop K pop s x).gave (after_loop K pop s x).run.base hidden') q in
            omega (arith, c, there, one)
        counts (Takes k) q = absurd (let k = ap turn_of q in omega (arith, k, t))

    -- a move that is none of the source's
    alone : IsFollowed P K pop Q s m r [] hidden hidden' → Followed s' moves r hidden' → Followed s (m ∷ moves) r hidden
    alone f t =
        let pays = pay_one m hidden hidden' 0 f.counted in
        let paid = t.paid in
        let effects = t.effects in record {
          ms = t.ms;
          later = t.later;
          rel = t.rel;
          legal = t.legal;
          shown = t.shown ∙ ap (λ x. x ++ shown_by_loop K pop s' moves) f.shown;
          paid = sums (cost_of z m) (cost z moves) (step_of z * t.later) (step_of z * hidden') (step_of z * hidden) (stretch_of Q z * 0) (stretch_of Q z * own_moves t.ms) pays paid (omega arith);
          effects = omega (arith, effects);
          waits = λ v w. let h = waits_head v r t.ms w in (waits_there s r hidden rel v h.0, no_handler s r hidden rel h.1, no_entry, t.waits v w);
          moved = λ o. let c = t.moved o in omega (arith, c);
          aside = λ a n. t.aside (aside_kept K pop s m l (omega (arith, n)) a) (omega (arith, n));
          shuts = λ a n v w.
              let h = waits_head v r t.ms w in
              let k = shut_one [] f a (omega (arith, n)) (no_handler s r hidden rel h.1) no_entry in
              let j = t.shuts (aside_kept K pop s m l (omega (arith, n)) a) (omega (arith, n)) v w in
              omega (arith, k, j);
          within = λ v w o b i n u last.
              t.within v w o (body_kept K pop s m l (omega (arith, u)) b) (still_within i b n u last) (omega (arith, n)) (omega (arith, u)) last;
        }
      where
        sums : (c d e f g x y : ℕ) → c + f ≤ g + x → d + e ≤ f + y → x ≡ 0 → c + d + e ≤ g + y
        sums c d e f g x y a b n = omega (arith, a, b, n)

        no_entry : IsEntry m → ⊥
        no_entry e = let v = entry_is m e in none_first (v.0) ((f.enters v.0).1 v.1)
          where
            none_first : (v : ℕ) → [] ≡ Enter v ∷ [] → ⊥
            none_first v e = cc

    -- and one that is
    module _ (m0 : Move) (f : IsFollowed P K pop Q s m r (m0 ∷ []) hidden hidden') (rel' : Rel s' (after S r m0) hidden') (t : Followed s' moves (after S r m0) hidden') where
      abbrev r' : State
      r' = after S r m0

      effect_low : cond (is_waiting r) (one_effect S r m0) 0 ≤ effect_of K pop s m
      effect_low = by_waiting (is_waiting r) refl
        where
          plain : (m : LoopMove) → is_waiting s.run ≡ true → loop_completes K s m ≡ effect_of K pop s m
          plain (Plain x) e = sym (ap (λ t. cond t (one_effect (source K) s.run x) 0) e)
          plain Calls e = refl
          plain (Pops k) e = refl
          plain (Takes k) e = refl

          by_waiting : (x : Bool) → is_waiting r ≡ x → cond (is_waiting r) (one_effect S r m0) 0 ≤ effect_of K pop s m
          by_waiting false e = let k = ap (λ t. cond t (one_effect S r m0) 0) e in omega (arith, k)
          by_waiting true e =
              let k = ap (λ t. cond t (one_effect S r m0) 0) e in
              let c = f.effects (waiting_none s r hidden rel e) in
              let p = plain m (waiting_same s r hidden rel ∙ e) in
              omega (arith, k, c, p)

      effect_none : IsAside pop s.run.base → cond (is_waiting r) (one_effect S r m0) 0 ≡ 0
      effect_none a = by_waiting (is_waiting r) refl
        where
          by_waiting : (x : Bool) → is_waiting r ≡ x → cond (is_waiting r) (one_effect S r m0) 0 ≡ 0
          by_waiting false e = ap (λ t. cond t (one_effect S r m0) 0) e
          by_waiting true e =
              let k = ap (λ t. cond t (one_effect S r m0) 0) e in
              let c = f.aside (waiting_none s r hidden rel e) a in
              omega (arith, k, c)

      -- in the statement of a post, what ends it is no move in it
      in_statement : (v : ℕ) → IsNone s.run.handler → IsSourceBody pop s.run.base → is_inside s.run.base ≡ true → is_inside r.base ≡ false → marks_of (m ∷ moves) ≤ 1 → is_inside (after_loop_all K pop s' moves).run.base ≡ true → own_moves (m0 ∷ []) ≡ 0
      in_statement v h b i o n last = ⊎_elim
          (λ e. absurd (some_first e))
          (λ x. ⊎_elim
          (λ a. let g = arrival_is m a in ap own_moves (f.arrives g.0 g.1).0)
          (λ c. let k = ap mark_of c.0 in absurd (not_so (sym (outside_all K pop moves s' more (omega (arith, n, k)) c.1) ∙ last)))
          x)
          (f.closes h i o)
        where
          some_first : m0 ∷ [] ≡ [] → ⊥
          some_first e = cc

      shared : Followed s (m ∷ moves) r hidden
      shared =
          let pays = pay_one m hidden hidden' (own_moves (m0 ∷ [])) f.counted in
          let paid = t.paid in
          let low = effect_low in
          let effects = t.effects in
          let split = own_split m0 t.ms in
          record {
            ms = m0 ∷ t.ms;
            later = t.later;
            rel = t.rel;
            legal = (f.legal.0, t.legal);
            shown = ap (λ x. x ++ shown_by S r' t.ms) (sym (append-nil (shown_of r m0)) ∙ f.shown) ∙ ap (λ x. shown_of_loop K pop s m ++ x) t.shown;
            paid = sums (cost_of z m) (cost z moves) (step_of z * t.later) (step_of z * hidden') (step_of z * hidden) (stretch_of Q z * own_moves (m0 ∷ [])) (stretch_of Q z * own_moves t.ms) (stretch_of Q z * own_moves (m0 ∷ t.ms)) pays paid (ap (λ n. stretch_of Q z * n) split ∙ mul-add (stretch_of Q z) (own_moves (m0 ∷ [])) (own_moves t.ms));
            effects = omega (arith, low, effects);
            waits = λ v w. (waits_there s r hidden rel v w.0, no_handler s r hidden rel w.1, no_entry w.2, t.waits v w.3);
            moved = λ o. some_own (own_moves (m0 ∷ [])) refl (omega (arith, split, o));
            aside = λ a n. let k = effect_none a in let j = t.aside (aside_kept K pop s m l (omega (arith, n)) a) (omega (arith, n)) in omega (arith, k, j);
            shuts = λ a n v w.
                let k = shut_one (m0 ∷ []) f a (omega (arith, n)) (no_handler s r hidden rel w.1) (no_entry w.2) in
                let j = t.shuts (aside_kept K pop s m l (omega (arith, n)) a) (omega (arith, n)) v w.3 in
                omega (arith, k, j);
            within = λ v w o b i n u last.
                let h = no_handler s r hidden rel w.1 in
                let k = in_statement v h b i o.0 n last in
                let j = t.within v w.3 o.1 (body_kept K pop s m l (omega (arith, u)) b) (still_within i b n u last) (omega (arith, n)) (omega (arith, u)) last in
                omega (arith, split, k, j);
          }
        where
          sums : (c d e f g x y w : ℕ) → c + f ≤ g + x → d + e ≤ f + y → w ≡ x + y → c + d + e ≤ g + w
          sums c d e f g x y w a b q = omega (arith, a, b, q)

          no_entry : (IsEnter m0 → ⊥) → IsEntry m → ⊥
          no_entry w e =
              let v = entry_is m e in
              let first : m0 ≡ Enter v.0 = head_same ((f.enters v.0).1 v.1) in
              w (subst IsEnter (sym first) tt)
            where
              head_same : {a b : Move} → a ∷ [] ≡ b ∷ [] → a ≡ b
              head_same e = cc

          some_own : (n : ℕ) → own_moves (m0 ∷ []) ≡ n → 1 ≤ n + own_moves t.ms → 1 ≤ cost z (m ∷ moves)
          some_own zero e o = let c = t.moved (omega (arith, o)) in omega (arith, c)
          some_own (suc n) e o = let c = cost_some m none_arrives in omega (arith, c)
            where
              none_arrives : IsArrival m → ⊥
              none_arrives a = let g = arrival_is m a in let k = ap own_moves (f.arrives g.0 g.1).0 in absurd (omega (arith, k, e))

  pub follow : (moves : List LoopMove) (s : LoopState) (r : State) (hidden : ℕ) → Rel s r hidden → AreLegalLoop K pop s moves → Followed s moves r hidden
  follow [] s r hidden rel l = record {
    ms = [];
    later = hidden;
    rel = rel;
    legal = tt;
    shown = refl;
    paid = omega arith;
    effects = omega arith;
    waits = λ v w. (waits_there s r hidden rel v w.0, no_handler s r hidden rel w.1);
    moved = λ o. absurd (omega (arith, o));
    aside = λ a n. refl;
    shuts = λ a n v w. omega arith;
    within = λ v w o b i n u last. refl;
  }
  follow (m ∷ moves) s r hidden rel l =
      let t = F.step s r hidden m rel l.0 in
      by_moves t.0 t.1 t.2 t.3 (follow moves (after_loop K pop s m) (after_all S r t.0) t.1 t.3 l.1)
    where
      by_moves : (ms : List Move) (hidden' : ℕ) → IsFollowed P K pop Q s m r ms hidden hidden' → Rel (after_loop K pop s m) (after_all S r ms) hidden' → Followed (after_loop K pop s m) moves (after_all S r ms) hidden' → Followed s (m ∷ moves) r hidden
      by_moves [] hidden' f rel' rest = alone s m moves r hidden hidden' rel l.0 l.1 f rest
      by_moves (m0 ∷ []) hidden' f rel' rest = shared s m moves r hidden hidden' rel l.0 l.1 m0 f rel' rest
      by_moves (m0 ∷ m1 ∷ ms) hidden' f rel' rest = let few = f.few in absurd (omega (arith, few))
