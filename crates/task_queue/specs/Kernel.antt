-- The kernel of tasks: the pending tasks as a list in bytes, and the program that posts by them (Gay et al. 2003, 3.1, and TEP 106: a task is pending once at most, and the first posted starts first; the bytes and the code are own).
use Rattle.std.specs.Prelude.{ℕ, pos, ◌+◌, ◌<◌, ◌≤◌, ◌^◌, false, List, [], ◌∷◌, ◌++◌, length, map, codes, Some}
use Rattle.nm_base.specs.declared.int_type.IntType.TheVariants.{U8, U16}
use Rattle.nesc_core.specs.declared.tree.BinOp.TheVariants.{Add, Sub, Eq, Ne}
use Rattle.nesc_core.specs.Plain.{int, array, Expr, const, read, bin, convert, either, assign, Place, object, local, index, Stmt, no_stmts, more_stmts, eval, block, branch, return, atomic, Object, Body, Program}
use Rattle.nesc_core.specs.Weights.{even, objects_start, objects_end}
use Rattle.task_queue.specs.Posting.{nowhere, posting_stmt}

-- what `pop` gives where there is no task
abbrev pub none : ℕ
none = 255

-- what a post answers: the task was put last, or it waits already
abbrev pub success : ℕ
success = 0

abbrev pub busy : ℕ
busy = 5

-- ---- short forms

abbrev pub word : ℕ → Expr
word n = const U16 (pos n)

abbrev pub byte : ℕ → Expr
byte n = const U8 (pos n)

abbrev pub value_at : Place → Expr
value_at place = read place nowhere

abbrev pub word_at : Place → Expr
word_at place = convert U16 (value_at place)

abbrev pub put : Place → Expr → Stmt
put place e = eval (assign place e nowhere)

abbrev pub is_equal : Expr → Expr → Expr
is_equal a b = bin Eq U16 a b

abbrev pub differs : Expr → Expr → Expr
differs a b = bin Ne U16 a b

abbrev pub sum : Expr → Expr → Expr
sum a b = bin Add U16 a b

abbrev pub less : Expr → Expr → Expr
less a b = bin Sub U16 a b

abbrev pub nothing : Stmt
nothing = block no_stmts

-- the first local holds a task, and the second one that stands before or behind it
abbrev pub task : Expr
task = value_at (local 0)

abbrev pub the_task : Expr
the_task = word_at (local 0)

abbrev pub other : Expr
other = value_at (local 1)

abbrev pub the_other : Expr
the_other = word_at (local 1)

-- ---- The bytes: those of the first and of the last task, and behind them for each task that of the next one. In a byte the task at place k
-- is k + 1, and 0 is none, so that memory that nobody has written yet stands for the empty list

module _ (bytes : ℕ) where
  abbrev pub byte_of : Expr → Place
  byte_of i = index (object bytes) i

  abbrev pub head : Place
  head = byte_of (word 0)

  abbrev pub tail : Place
  tail = byte_of (word 1)

  -- of a task as a byte has it
  abbrev pub next : Expr → Place
  next task = byte_of (sum task (word 1))

  -- ---- uint8_t queue(uint8_t task)

  -- next[task] != 0 || last == task
  abbrev pub waits : Expr
  waits = either (differs (word_at (next the_task)) (word 0)) (is_equal the_other the_task)

  -- if (last == 0) head = task; else next[last] = task;
  abbrev pub link : Stmt
  link = branch (is_equal the_other (word 0)) (put head task) (put (next the_other) task)

  -- atomic { task = task + 1; last = tail; if (waits) return busy; link; tail = task; return success; }
  abbrev pub queue_code : Stmt
  queue_code = atomic (block (
      more_stmts (put (local 0) (convert U8 (sum the_task (word 1))))
      (more_stmts (put (local 1) (value_at tail))
      (more_stmts (branch waits (return (Some (byte busy))) nothing)
      (more_stmts link
      (more_stmts (put tail task)
      (more_stmts (return (Some (byte success))) no_stmts)))))))

  abbrev pub queue_body : Body
  queue_body = record {
    name = codes "queue";
    params = 1;
    locals = int U8 ∷ int U8 ∷ [];
    result = int U8;
    code = queue_code;
    is_async = false;
    is_item = false;
  }

  -- ---- uint8_t pop()

  -- after = next[task]; head = after; next[task] = 0; if (after == 0) tail = 0;
  abbrev pub unlink : Stmt
  unlink = block (
      more_stmts (put (local 1) (value_at (next the_task)))
      (more_stmts (put head other)
      (more_stmts (put (next the_task) (byte 0))
      (more_stmts (branch (is_equal the_other (word 0)) (put tail (byte 0)) nothing) no_stmts))))

  -- atomic { task = head; if (task != 0) unlink; return task - 1; }, which is 255 where there is none
  abbrev pub pop_code : Stmt
  pop_code = atomic (block (
      more_stmts (put (local 0) (value_at head))
      (more_stmts (branch (differs the_task (word 0)) unlink nothing)
      (more_stmts (return (Some (convert U8 (less the_task (word 1))))) no_stmts))))

  abbrev pub pop_body : Body
  pop_body = record {
    name = codes "pop";
    params = 0;
    locals = int U8 ∷ int U8 ∷ [];
    result = int U8;
    code = pop_code;
    is_async = false;
    is_item = false;
  }

-- ---- the program

-- a body whose posts are calls of function `queue`
abbrev pub posting_body : (queue : ℕ) → Body → Body
posting_body queue b = record b { code = posting_stmt queue b.code }

-- the bytes lie behind the program's objects
abbrev pub bytes_object : Program → Object
bytes_object p = record {
  name = codes "queue";
  ty = array (int U8) (length p.tasks + 2);
  addr = even (objects_end p);
  norace = false;
  taken = false;
}

abbrev pub kernel_program : Program → Program
kernel_program p = record p {
  objects = p.objects ++ bytes_object p ∷ [];
  bodies = map (posting_body (length p.bodies)) p.bodies ++ queue_body (length p.objects) ∷ pop_body (length p.objects) ∷ [];
}

-- the program, and the numbers of its two new bodies
pub record Kernel : Type 0 where
  pub program : Program
  pub queue : ℕ
  pub pop : ℕ

abbrev pub kernel : Program → Kernel
kernel p = record { program = kernel_program p; queue = length p.bodies; pop = length p.bodies + 1 }

-- ---- what has a kernel

pub record Fits (p : Program) : Type 0 where
  pub tasks : length p.tasks ≤ 254
  -- in bytes
  pub room : objects_end p ≤ objects_start + 60000
  -- numbers name all objects and bodies
  pub objects : length p.objects < 2 ^ 32
  pub bodies : length p.bodies + 1 < 2 ^ 32
