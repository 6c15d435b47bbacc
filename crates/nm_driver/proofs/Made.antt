-- The application of so many modules, made of its files.
use Rattle.std.proofs.Common.{◌≡◌, ℕ, List, Option, Some, Bool, Result, Ok, Err, IfOk, arith, ap, subst, ◌∙◌}
use Rattle.nm_base.specs.declared.no_memory.NoMemory.{NoMemory}
use Rattle.nm_base.specs.Plain.{found_in}
use Rattle.nesc_preproc.specs.Expands.{Told}
use Rattle.mote_run.specs.Rows.{DoNotFall}
use Rattle.mote_run.specs.declared.totals.Totals.{Totals}
use Rattle.mote_run.specs.Totals.{summary_text}
use Rattle.generated_files.specs.Generated.{File, generated}
use Rattle.generated_files.specs.Schedule.{generated_rows}
use Rattle.nm_driver.specs.declared.subject.Subject.{Subject}
use Rattle.nm_words.specs.declared.mode.Mode.TheVariants.{Gen}
use Rattle.nm_driver.specs.Generated.{IsModules, told_of}
use Rattle.nm_driver.specs.Prepared.{PrintsAs, PrintsTotals}

-- ---- files

told : List File → Option Told
told files = Some (found_in files)

pub files_are : (n : ℕ) (files : List File) → files ≡ generated n → (let s : Option Told = Some (found_in files) in s ≡ Some (told_of n))
unfolding told told_of
files_are n files is = ap told is

-- ---- rows

pub in_order : DoNotFall generated_rows
in_order = (omega arith, (omega arith, (omega arith, (omega arith, (omega arith, (omega arith, (omega arith, (omega arith, (omega arith, (omega arith, tt))))))))))

-- ---- its line

pub line_as : {X : Type 0} (bytes : X → List ℕ) (r : Result X NoMemory) (n : ℕ) (t u : Totals) (e f : Bool) → t ≡ u → e ≡ f
    → IfOk r (λ s. bytes s ≡ summary_text n t e) → IfOk r (λ s. bytes s ≡ summary_text n u f)
line_as bytes (Ok s) n t u e f is_t is_e h = h ∙ ap (λ (x : Totals). summary_text n x e) is_t ∙ ap (λ (x : Bool). summary_text n u x) is_e
line_as bytes (Err d) n t u e f is_t is_e h = tt

-- ---- what is printed

module _ (texts : Option Told) (n : ℕ) (word : List ℕ) (is : texts ≡ Some (told_of n)) (of : IsModules word n) where
  pub made_prints : (s : Subject) → PrintsTotals texts n s → (told : Option Told) → PrintsAs told Gen word s
  made_prints s prints told = λ board rows budget.
      let p = subst (λ t. PrintsTotals t n s) is prints board rows budget in (n, of, p.0, p.1, p.2)
