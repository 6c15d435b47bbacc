-- The kernel's bodies against those of a well-formed program: expressions and statements.
use Rattle.std.proofs.Common.{◌≡◌, ℕ, ℤ, pos, zero, suc, ◌+◌, ◌<◌, Bool, true, false, List, [], ◌∷◌, length, take, drop, Option, Some, None, refl, sym, ap, subst, ◌∙◌, if◌then◌else◌}
use Rattle.std.specs.Prelude.{slice_get, unsigned_abs, ◌||◌}
use Rattle.nm_base.specs.declared.int_type.IntType.{IntType}
use Rattle.nm_base.specs.declared.int_type.IntType.TheVariants.{U8}
use Rattle.nm_base.specs.declared.pos.Pos.{Pos}
use Rattle.nm_base.specs.declared.action.Action.TheVariants.{Tick}
use Rattle.nesc_core.specs.declared.tree.BinOp.{BinOp}
use Rattle.nm_base.specs.IntType.{wrapped}
use Rattle.nm_base.specs.Behaviour.{Behaviour, Does}
use Rattle.nesc_core.specs.Plain.{Ty, int, pointer, Expr, Exprs, Object, Place, Stmt, Stmts, Body, Program, no_exprs, more_exprs, no_stmts, more_stmts}
use Rattle.nesc_core.specs.Plain as plain
use Rattle.nesc_core.specs.PlaceTypes.{place_type, count_of, element_of, field_offset}
use Rattle.nesc_core.specs.Parts.{is_part}
use Rattle.nesc_core.specs.Heres.{gives_value, some_gives_value}
use Rattle.nesc_core.specs.Typing.{AllHave, Has, IsCallable, IsPlace}
use Rattle.nesc_core.specs.WellFormed.{AreStmts, Exits, IsDone, IsGiven, IsStmt, by_result, in_loop, in_switch}
use Rattle.core_meaning.specs.Numbers.{is_zero, binary}
use Rattle.core_meaning.specs.Layout.{size_of, object_address}
use Rattle.core_meaning.specs.declared.access.Where.{Where}
use Rattle.core_meaning.specs.declared.access.Where.TheVariants.{At}
use Rattle.core_meaning.specs.declared.flow.Flow.TheVariants.{On}
use Rattle.core_meaning.specs.Flow.{result, start_of_value, start_of_default}
use Rattle.core_meaning.specs.Work.{Work, give, fault, or_fault, number_of, moved, store, load, ◌>>=◌, ◌>>◌}
use Rattle.core_meaning.specs.Act.{Calls, element, find, value, values, holding, fill, done, returned, run, run_from}
use Rattle.run_meaning.specs.Runs.{is_listed}
use Rattle.core_meaning.specs.SourceOf.{put_last}
use Rattle.task_queue.specs.Posting.{posting_expr, posting_exprs, posting_place, posting_maybe, posting_stmt, posting_stmts}
use Rattle.task_queue.specs.Kernel.{kernel_program}
use Rattle.queue_law.specs.Contract.{posted, answer_of}
use Rattle.queue_law.specs.Law as law
use Rattle.source_accesses.specs.Accesses.{IsInObject}
use Rattle.source_accesses.proofs.Bodies.{second_some, called_with}
use Rattle.source_accesses.proofs.Keeps.{Keeps}
use Rattle.loop_runs.specs.Kernel.{IsApart, Changes, Ticks, Expands}
use Rattle.kernel_contract.specs.Bytes.{queue_of}
use Rattle.kernel_contract.proofs.Statements.{changes_more}
use Rattle.kernel_contract.proofs.Expanding.{Expanding, CallExpands, then_expands, give_expands, fault_expands, or_fault_expands, tick_expands, out_expands, in_expands, begin_expands, end_expands, set_locals_expand, if_expands, tested_expands, call_expands, on_expands, turns_expand, from_case_expands}
use Rattle.kernel_contract.proofs.Accessing.{load_expands, store_expands, element_expands}
use Rattle.kernel_contract.proofs.Same.{object_same, place_type_same, is_part_same}

-- a call of `queue` is cut off, or one statement that puts the task into the list
abbrev pub Queues : Program → Calls → Type 0
Queues p calls = (k : ℕ) → k < length p.tasks → (after : ℤ → Behaviour) →
    Changes (queue_of p) law.posting (λ tasks. posted put_last tasks k) (λ tasks rest. rest ≡ after (pos (answer_of tasks k))) (calls (length p.bodies) (pos k ∷ []) after)

-- an answer is a byte
answer_kept : (tasks : List ℕ) (k : ℕ) → wrapped U8 (pos (answer_of tasks k)) ≡ pos (answer_of tasks k)
answer_kept tasks k = by (is_listed tasks k)
  where
    by : (t : Bool) → wrapped U8 (pos (if t then 5 else 0)) ≡ pos (if t then 5 else 0)
    by true = refl
    by false = refl

-- the same statements return values
mutual
  value_given : (q : ℕ) (s : Stmt) → gives_value (posting_stmt q s) ≡ gives_value s
  value_given q (plain.eval e) = refl
  value_given q (plain.block all) = some_given q all
  value_given q (plain.branch test x y) = ap (λ t. t || gives_value (posting_stmt q y)) (value_given q x) ∙ ap (λ t. gives_value x || t) (value_given q y)
  value_given q (plain.loop first test step body) = value_given q body
  value_given q (plain.switch e cases all) = some_given q all
  value_given q plain.break = refl
  value_given q plain.continue = refl
  value_given q (plain.return None) = refl
  value_given q (plain.return (Some e)) = refl
  value_given q (plain.atomic s) = value_given q s
  value_given q (plain.clear x) = refl
  value_given q (plain.here arguments first many body) = refl

  some_given : (q : ℕ) (all : Stmts) → some_gives_value (posting_stmts q all) ≡ some_gives_value all
  some_given q no_stmts = refl
  some_given q (more_stmts s rest) = ap (λ t. t || some_gives_value (posting_stmts q rest)) (value_given q s) ∙ ap (λ t. gives_value s || t) (some_given q rest)

module _ (p : Program) (types : List Ty) (c2 c : Calls) (apart : (x : ℕ) (wide : Bool) → IsInObject p x wide → IsApart (queue_of p) x wide)
    (called : (f : ℕ) (b : Body) → slice_get p.bodies f ≡ Some b → CallExpands (queue_of p) (IsInObject p) c2 c f) (queues : Queues p c2) where
  abbrev K : Program
  K = kernel_program p

  abbrev q : ℕ
  q = length p.bodies

  abbrev E : {A : Type 0} → Work A → Work A → Type 0
  E w2 w = Expanding (queue_of p) (IsInObject p) w2 w

  -- a post is a call
  post_expands : (k : ℕ) → k < length p.tasks → E (value K types c2 (posting_expr q (plain.post k))) (value p types c (plain.post k))
  post_expands k lt = record {
    by = λ after2 after r l keep. (
      refl,
      tt,
      changes_more (queue_of p) law.posting (λ tasks. posted put_last tasks k) (λ tasks rest. rest ≡ Does Tick (after2 (pos (answer_of tasks k)) l))
          (λ tasks. Ticks (queue_of p) (λ rest. Expands (queue_of p) rest (after (wrapped U8 (pos (answer_of tasks k))) l)))
          (λ tasks rest same. subst (Ticks (queue_of p) (λ rest. Expands (queue_of p) rest (after (wrapped U8 (pos (answer_of tasks k))) l))) (sym same)
          (subst (λ v. Expands (queue_of p) (after2 (pos (answer_of tasks k)) l) (after v l)) (sym (answer_kept tasks k)) (r (pos (answer_of tasks k)) l
          (subst (λ v. Keeps (IsInObject p) (after v l)) (answer_kept tasks k) (keep.1 (answer_of tasks k))))))
          (c2 q (pos k ∷ []) (λ v. Does Tick (after2 v l))) (queues k lt (λ v. Does Tick (after2 v l))),
    );
  }

  -- an update of a place of this type
  abbrev updating : Ty → Work ℤ → BinOp → IntType → Bool → Where → Work ℤ
  updating ty work op t gives_old w = ◌>>=◌ (load ty w) (λ old. ◌>>=◌ work (λ y. ◌>>=◌ (or_fault 3 (binary op t (wrapped t old) y)) (λ z.
      let new = wrapped (number_of ty) z in ◌>>◌ (store ty w new) (give (if gives_old then old else new)))))

  update_expands : (place : Place) (op : BinOp) (t : IntType) (e : Expr) (gives_old : Bool) (at : Pos) → IsPlace p types place
      → E (find K types c2 (posting_place q place)) (find p types c place) → E (value K types c2 (posting_expr q e)) (value p types c e)
      → E (value K types c2 (posting_expr q (plain.update place op t e gives_old at))) (value p types c (plain.update place op t e gives_old at))
  update_expands place op t e gives_old at h found given = then_expands found (λ w.
      subst (λ (ty : Ty). E (updating ty (value K types c2 (posting_expr q e)) op t gives_old w) (updating (place_type p types place) (value p types c e) op t gives_old w)) (sym (place_type_same p types place h))
      (then_expands (load_expands apart (place_type p types place) w) (λ old. then_expands given (λ y.
      then_expands {g2 = λ z. let new = wrapped (number_of (place_type p types place)) z in ◌>>◌ (store (place_type p types place) w new) (give (if gives_old then old else new))}
      {g = λ z. let new = wrapped (number_of (place_type p types place)) z in ◌>>◌ (store (place_type p types place) w new) (give (if gives_old then old else new))}
      (or_fault_expands 3 (binary op t (wrapped t old) y)) (λ z. let new = wrapped (number_of (place_type p types place)) z in
      then_expands (store_expands apart (place_type p types place) w new) (λ _. give_expands (if gives_old then old else new)))))))

  called_body : (o : Option Body) (f : ℕ) (A : List Ty → Type 0) (ty : Ty) → slice_get p.bodies f ≡ o → IsCallable o A ty → CallExpands (queue_of p) (IsInObject p) c2 c f
  called_body None f A ty is h = absurd h
  called_body (Some b) f A ty is h = called f b is

  mutual
    find_expands : (place : Place) → IsPlace p types place → E (find K types c2 (posting_place q place)) (find p types c place)
    find_expands (plain.object k) h = subst (λ (o : Option Object). E (give (At (object_address o))) (give (At (object_address (slice_get p.objects k))))) (sym (object_same p types k h)) (give_expands _)
    find_expands (plain.local x) h = give_expands _
    find_expands (plain.deref e t) h = then_expands (value_expands e (pointer t) h.1) (λ a.
        subst (λ t'. E (if t' then give (At (unsigned_abs a)) else fault 2) (if is_part p t (unsigned_abs a) then give (At (unsigned_abs a)) else fault 2)) (sym (is_part_same p t (unsigned_abs a)))
        (if_expands (is_part p t (unsigned_abs a)) (give_expands _) (fault_expands 2)))
    find_expands (plain.index place e) h =
        then_expands (find_expands place h.1) (λ w. then_expands (value_expands e (int h.2.0) h.2.1) (λ x.
        subst (λ (t : Ty). E (element (count_of t) (size_of p (element_of t)) w x) (element (count_of (place_type p types place)) (size_of p (element_of (place_type p types place))) w x)) (sym (place_type_same p types place h.1))
        (element_expands (count_of (place_type p types place)) (size_of p (element_of (place_type p types place))) w x)))
    find_expands (plain.field place k) h = then_expands (find_expands place h.1) (λ w.
        subst (λ (t : Ty). E (give (moved w (field_offset p.structs t k))) (give (moved w (field_offset p.structs (place_type p types place) k)))) (sym (place_type_same p types place h.1))
        (give_expands _))

    value_expands : (e : Expr) (ty : Ty) → Has p types e ty → E (value K types c2 (posting_expr q e)) (value p types c e)
    value_expands (plain.const t x) ty h = give_expands _
    value_expands plain.null ty h = give_expands _
    value_expands (plain.read place at) ty h = then_expands (find_expands place h.2) (λ w.
        subst (λ (t : Ty). E (load t w) (load (place_type p types place) w)) (sym (place_type_same p types place h.2)) (load_expands apart (place_type p types place) w))
    value_expands (plain.addr place) ty h = then_expands (find_expands place h.2) (λ w. give_expands _)
    value_expands (plain.un op t e) ty h = then_expands (value_expands e (int t) h.2) (λ x. give_expands _)
    value_expands (plain.bin op t a b) ty h =
        let second = second_some op t (Has p types b) h.3 in
        then_expands (value_expands a (int t) h.2) (λ x. then_expands (value_expands b second.0 second.1) (λ y. or_fault_expands 3 _))
    value_expands (plain.convert t e) ty h = then_expands (value_expands e h.1.0 h.1.1.1) (λ x. give_expands _)
    value_expands (plain.offset a b size) ty h = then_expands (value_expands a ty h.1) (λ x. then_expands (value_expands b (int h.2.0) h.2.1) (λ y. give_expands _))
    value_expands (plain.distance a b size) ty h = then_expands (value_expands a h.1.0 h.1.1.1) (λ x. then_expands (value_expands b h.1.0 h.1.1.2) (λ y. give_expands _))
    value_expands (plain.both a b) ty h = then_expands (value_expands a h.1.0 h.1.2) (λ x. if_expands (is_zero x) (give_expands _) (tested_expands (value_expands b h.2.0 h.2.2)))
    value_expands (plain.either a b) ty h = then_expands (value_expands a h.1.0 h.1.2) (λ x. if_expands (is_zero x) (tested_expands (value_expands b h.2.0 h.2.2)) (give_expands _))
    value_expands (plain.choice test a b) ty h = then_expands (value_expands test h.0.0 h.0.2) (λ x. if_expands (is_zero x) (value_expands b ty h.2) (value_expands a ty h.1))
    value_expands (plain.assign place e at) ty h =
        then_expands (find_expands place h.2) (λ w. then_expands (value_expands e ty h.3) (λ v.
        subst (λ (t : Ty). E (◌>>◌ (store t w v) (give v)) (◌>>◌ (store (place_type p types place) w v) (give v))) (sym (place_type_same p types place h.2))
        (then_expands (store_expands apart (place_type p types place) w v) (λ _. give_expands v))))
    value_expands (plain.update place op t e gives_old at) ty h = update_expands place op t e gives_old at h.2 (find_expands place h.2)
        (let second = second_some op t (Has p types e) h.3 in value_expands e second.0 second.1)
    value_expands (plain.call f arguments at) ty h =
        let with = called_with (slice_get p.bodies f) (AllHave p types arguments) ty h in
        then_expands (values_expand arguments with.0 with.1) (λ vs. then_expands tick_expands (λ _.
        then_expands (call_expands vs (called_body (slice_get p.bodies f) f (AllHave p types arguments) ty refl h)) (λ v. then_expands tick_expands (λ _. give_expands v))))
    value_expands (plain.post k) ty h = post_expands k h.1
    value_expands (plain.port_in port) ty h = then_expands (in_expands port) (λ x. give_expands _)
    value_expands (plain.port_out port e) ty h = then_expands (value_expands e (int _) h.2) (λ v. then_expands (out_expands port _) (λ _. give_expands v))
    value_expands (plain.comma a b) ty h = then_expands (value_expands a h.0.0 h.0.1) (λ _. value_expands b ty h.1)

    values_expand : (es : Exprs) (tys : List Ty) → AllHave p types es tys → E (values K types c2 (posting_exprs q es)) (values p types c es)
    values_expand no_exprs tys h = give_expands _
    values_expand (more_exprs e rest) [] h = absurd h
    values_expand (more_exprs e rest) (t ∷ tys) h = then_expands (value_expands e t h.0) (λ v. then_expands (values_expand rest tys h.1) (λ vs. give_expands _))

  -- ---- statements

  module _ (n : ℕ) where
    fill_expands : (first many : ℕ) (vs : List ℤ) → E (fill K types c2 n first many vs) (fill p types c n first many vs)
    fill_expands first many vs = set_locals_expand first (holding p.structs (take many (drop first types)) vs)

    done_expands : (step : Option Expr) → IsDone p types step → E (done K types c2 n (posting_maybe q step)) (done p types c n step)
    done_expands None h = give_expands tt
    done_expands (Some e) h = then_expands (value_expands e h.0 h.1) (λ _. give_expands tt)

    returned_expands : (e : Option Expr) (t : Ty) → IsGiven p types e t → E (returned K types c2 n (posting_maybe q e)) (returned p types c n e)
    returned_expands None t h = give_expands _
    returned_expands (Some e) t h = value_expands e t h.1

    mutual
      pub run_expands : (s : Stmt) (exits : Exits) → IsStmt p types s exits → E (run K types c2 n (posting_stmt q s)) (run p types c n s)
      run_expands (plain.eval e) exits h = then_expands (value_expands e h.0 h.1) (λ _. give_expands _)
      run_expands (plain.block all) exits h = run_from_expands all exits h zero
      run_expands (plain.branch test x y) exits h = then_expands (value_expands test h.0.0 h.0.2) (λ v. if_expands (is_zero v) (run_expands y exits h.2) (run_expands x exits h.1))
      run_expands (plain.loop first test step body) exits h = turns_expand n first (value_expands test h.0.0 h.0.2) (run_expands body (in_loop exits) h.2) (done_expands step h.1)
      run_expands (plain.switch e cases all) exits h =
          then_expands (value_expands e (int h.0.0) h.0.1) (λ v.
          then_expands (from_case_expands (start_of_value cases v) (start_of_default cases) (run_from_expands all (in_switch exits) h.2)) (λ flow. give_expands _))
      run_expands plain.break exits h = give_expands _
      run_expands plain.continue exits h = give_expands _
      run_expands (plain.return e) exits h = then_expands (returned_expands e exits.gives h) (λ v. give_expands _)
      run_expands (plain.atomic s) exits h = then_expands begin_expands (λ _. then_expands (run_expands s exits h) (λ flow. then_expands end_expands (λ _. give_expands flow)))
      run_expands (plain.clear x) exits h = then_expands (fill_expands x 1 []) (λ _. give_expands On)
      run_expands (plain.here arguments first many body) exits h =
          then_expands (values_expand arguments _ h.0.passed) (λ vs. then_expands (fill_expands first many vs) (λ _. then_expands tick_expands (λ _.
          then_expands (run_expands body (by_result p types first many) h.1) (λ flow. then_expands tick_expands (λ _.
          then_expands (subst (λ t. E (if t then fill K types c2 n (first + many) 1 (result flow ∷ []) else give tt) (if gives_value body then fill p types c n (first + many) 1 (result flow ∷ []) else give tt)) (sym (value_given q body))
          (if_expands (gives_value body) (fill_expands (first + many) 1 (result flow ∷ [])) (give_expands tt))) (λ _. give_expands On))))))

      pub run_from_expands : (all : Stmts) (exits : Exits) → AreStmts p types all exits → (k : ℕ) → E (run_from K types c2 n (posting_stmts q all) k) (run_from p types c n all k)
      run_from_expands no_stmts exits h k = give_expands _
      run_from_expands (more_stmts s rest) exits h zero = then_expands (run_expands s exits h.0) (λ flow. on_expands flow (run_from_expands rest exits h.1 zero))
      run_from_expands (more_stmts s rest) exits h (suc k) = run_from_expands rest exits h.1 k
