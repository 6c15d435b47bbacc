-- Each body of the kernel's program against the program's, however deep calls are.
use Rattle.std.proofs.Common.{◌≡◌, ℕ, ℤ, pos, zero, suc, ◌+◌, ◌<◌, ◌≤◌, Bool, true, false, [], ◌∷◌, length, Option, Some, refl, sym, ap, subst, ◌∙◌, arith}
use Rattle.std.specs.Prelude.{◌&&◌, nat_lt, slice_get}
use Rattle.std.proofs.Math.Nat.{mod-eq_of_lt}
use Rattle.std.proofs.lemmas.Bool.{lt-leb}
use Rattle.nm_base.specs.Behaviour.{Behaviour, Returns}
use Rattle.nesc_core.specs.Plain.{Body, Program}
use Rattle.nesc_core.specs.Calls.{HasNoCycle}
use Rattle.nesc_core.specs.Laws.{EachStructIsItsFields}
use Rattle.nesc_core.specs.WellFormed.{IsBody, IsWellFormed, by_return}
use Rattle.nesc_core.specs.Weights.{objects_end}
use Rattle.core_meaning.specs.Layout.{size_of}
use Rattle.core_meaning.specs.Numbers.{residue}
use Rattle.core_meaning.specs.Flow.{result}
use Rattle.core_meaning.specs.Act.{calls_of, enter, holding, root, run}
use Rattle.core_meaning.specs.SourceOf.{put_last}
use Rattle.run_meaning.specs.Runs.{rest_of}
use Rattle.task_queue.specs.Posting.{posting_stmt}
use Rattle.task_queue.specs.Kernel.{Fits, kernel_program}
use Rattle.task_queue.proofs.Bodies.{bodies_length, old_body}
use Rattle.queue_law.specs.Contract.{answer_of, first_of, posted}
use Rattle.queue_law.specs.Bytes.{StandsIn, address_in, is_byte_in}
use Rattle.queue_law.specs.Law.{EachKernelQueues}
use Rattle.queue_law.specs.Law as law
use Rattle.source_laws.specs.Depth.{DepthCutsNothing}
use Rattle.source_accesses.specs.Accesses.{IsInObject, bytes}
use Rattle.source_accesses.proofs.Keeps.{Keeps}
use Rattle.source_accesses.proofs.Lists.{all_at}
use Rattle.source_accesses.proofs.Bodies.{calls_go}
use Rattle.source_accesses.proofs.Objects.{in_data, objects_of}
use Rattle.loop_runs.specs.Kernel.{IsApart, Expands, Gives, Pops, Stands}
use Rattle.kernel_contract.specs.Bytes.{queue_of}
use Rattle.kernel_contract.proofs.Statements.{changes, statement_more}
use Rattle.kernel_contract.proofs.Expanding.{Expanded, CallExpands}
use Rattle.kernel_contract.proofs.Walking.{Queues, run_expands}
use Rattle.kernel_contract.proofs.Bytes.{first_small, stands_from, stands_is}

-- what a root is told
abbrev told : ℤ → Behaviour
told v = Returns (residue 32 v)

module _ (p : Program) (struct_law : EachStructIsItsFields) (queues_law : EachKernelQueues) (depth_law : DepthCutsNothing) (formed : IsWellFormed p) (no_cycle : HasNoCycle p) (fits : Fits p) where
  abbrev K : Program
  K = kernel_program p

  abbrev Fine : ℕ → Bool → Type 0
  Fine x wide = IsInObject p x wide

  body_of : (f : ℕ) (b : Body) → slice_get p.bodies f ≡ Some b → IsBody p b
  body_of f b is = all_at (IsBody p) p.bodies f b is formed.bodies

  -- objects lie below the kernel's bytes
  below : (x : ℕ) → x < objects_end p → is_byte_in p x ≡ false
  below x lt = ap (λ t. t && nat_lt x (address_in p + (length p.tasks + 2))) (lt-leb (address_in p) x (omega (arith, lt)))

  apart : (x : ℕ) (wide : Bool) → IsInObject p x wide → IsApart (queue_of p) x wide
  apart x wide h =
      let to = h.to in
      let end = (in_data p formed h.which h.object h.is).to in
      (by wide to, λ word. let two : x + 2 ≤ h.object.addr + size_of p h.object.ty = subst (λ t. x + bytes t ≤ h.object.addr + size_of p h.object.ty) word to in below (x + 1) (omega (arith, two, end)))
    where
      by : (t : Bool) → x + bytes t ≤ h.object.addr + size_of p h.object.ty → is_byte_in p x ≡ false
      by true to = let end = (in_data p formed h.which h.object h.is).to in below x (omega (arith, to, end))
      by false to = let end = (in_data p formed h.which h.object h.is).to in below x (omega (arith, to, end))

  -- ---- the two functions

  queues : (depth n : ℕ) → Queues p (calls_of K depth n)
  queues zero n k lt after = tt
  queues (suc depth) n k lt after = changes (queue_of p) law.posting (λ tasks. posted put_last tasks k) (λ tasks rest. rest ≡ after (pos (answer_of tasks k))) (calls_of K (suc depth) n (length p.bodies) (pos k ∷ []) after)
      (λ st tasks stands. statement_more (queue_of p) (λ st' rest. StandsIn p st' (posted put_last tasks k) × (rest ≡ after (pos (answer_of tasks k))))
      (λ st' rest. Stands (queue_of p) st' (posted put_last tasks k) × (rest ≡ after (pos (answer_of tasks k)))) (λ st' rest h. (stands_from p st' (posted put_last tasks k) h.0, h.1))
      (calls_of K (suc depth) n (length p.bodies) (pos k ∷ []) after) law.posting st ((queues_law p fits).posts depth n k lt after st tasks (stands_is p st tasks stands)))

  pub pops : (n : ℕ) → Pops (queue_of p) (root K (length p.bodies + 1) n)
  pops n =
      let deep : suc (length p.bodies + 1) ≡ length K.bodies = omega (arith, bodies_length p) in
      subst (λ d. Pops (queue_of p) (calls_of K d n (length p.bodies + 1) [] told)) deep
      (changes (queue_of p) law.taking rest_of (λ tasks rest. Gives (queue_of p) (first_of tasks) rest) (calls_of K (suc (length p.bodies + 1)) n (length p.bodies + 1) [] told)
      (λ st tasks stands. statement_more (queue_of p) (λ st' rest. StandsIn p st' (rest_of tasks) × (rest ≡ told (pos (first_of tasks))))
      (λ st' rest. Stands (queue_of p) st' (rest_of tasks) × Gives (queue_of p) (first_of tasks) rest)
      (λ st' rest h. (stands_from p st' (rest_of tasks) h.0, subst (Gives (queue_of p) (first_of tasks)) (sym h.1) (given (first_of tasks) (first_small p fits st tasks (stands_is p st tasks stands)))))
      (calls_of K (suc (length p.bodies + 1)) n (length p.bodies + 1) [] told) law.taking st ((queues_law p fits).takes (length p.bodies + 1) n told st tasks (stands_is p st tasks stands))))
    where
      given : (k : ℕ) → k < 256 → residue 32 (pos k) ≡ k
      given k small = let lt : k < 4294967296 = omega (arith, small) in mod-eq_of_lt lt

  -- ---- bodies

  calls_expand : (depth n f : ℕ) (b : Body) → slice_get p.bodies f ≡ Some b → CallExpands (queue_of p) Fine (calls_of K depth n) (calls_of p depth n) f
  calls_expand zero n f b is = record { by = λ arguments after2 after r keep. tt }
  calls_expand (suc depth) n f b is = record {
    by = λ arguments after2 after r.
        subst (λ (o : Option Body). Expanded (queue_of p) Fine (enter K o (calls_of K depth n) n arguments after2) (enter p (slice_get p.bodies f) (calls_of p depth n) n arguments after)) (sym (old_body p f b is))
        (subst (λ (o : Option Body). Expanded (queue_of p) Fine (run K b.locals (calls_of K depth n) n (posting_stmt (length p.bodies) b.code) (λ flow l. after2 (result flow)) (holding p.structs b.locals arguments)) (enter p o (calls_of p depth n) n arguments after)) (sym is)
        ((run_expands p b.locals (calls_of K depth n) (calls_of p depth n) apart (λ g c there. calls_expand depth n g c there) (queues depth n) n b.code (by_return b.result) (body_of f b is).code).by
        (λ flow l. after2 (result flow)) (λ flow l. after (result flow)) (λ flow l. r (result flow)) (holding p.structs b.locals arguments)));
  }

  -- a body that begins a context; both go as deep
  pub root_expands : (n f : ℕ) (b : Body) → slice_get p.bodies f ≡ Some b → Expands (queue_of p) (root K f n) (root p f n)
  root_expands n f b is =
      let deep : suc (length p.bodies + 1) ≡ length K.bodies = omega (arith, bodies_length p) in
      let less : length p.bodies + 2 ≡ suc (length p.bodies + 1) = omega arith in
      subst (λ d. Expands (queue_of p) (calls_of K d n f [] told) (root p f n)) deep
      (subst (Expands (queue_of p) (calls_of K (suc (length p.bodies + 1)) n f [] told)) (ap (λ d. calls_of p d n f [] told) (sym less) ∙ depth_law p no_cycle 2 n f [] told)
      ((calls_expand (suc (length p.bodies + 1)) n f b is).by [] told told (λ v keep. refl) (keeps (suc (length p.bodies + 1)))))
    where
      keeps : (depth : ℕ) → Keeps Fine (calls_of p depth n f [] told)
      keeps depth = (calls_go p (objects_of p struct_law formed) body_of n depth f).by [] told (λ v. tt)
