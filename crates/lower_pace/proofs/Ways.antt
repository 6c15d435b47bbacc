-- How the code of a statement is left: labels that stand further on, and turns of loops, which begin with a Tick.
use Rattle.std.proofs.Common.{◌≡◌, ℕ, zero, suc, ◌+◌, ◌*◌, ◌<◌, ◌≤◌, Bool, true, false, List, [], ◌∷◌, ◌++◌, length, drop, Option, Some, None, refl, sym, subst, arith}
use Rattle.std.specs.Prelude.{⊤, ℤ, pos, is_none, slice_get, slice_index_or, if◌then◌else◌}
use Rattle.std.specs.List.{All}
use Rattle.std.specs.Ordering.{int_eq}
use Rattle.std.proofs.lemmas.List.Elements.{All-head, All-tail}
use Rattle.nm_base.specs.declared.int_type.IntType.{IntType}
use Rattle.nm_base.specs.IntType.{wrapped}
use Rattle.nesc_core.specs.Plain.{Ty, Expr, Exprs, no_exprs, more_exprs, Stmt, Stmts, Case, no_stmts, more_stmts, Program}
use Rattle.nesc_core.specs.Plain as plain
use Rattle.core_meaning.specs.Layout.{size_of}
use Rattle.core_meaning.specs.Flow.{start_of_default}
use Rattle.core_meaning.specs.Work.{number_of}
use Rattle.mid_code.specs.declared.instr.Mid.{Mid}
use Rattle.mid_code.specs.declared.instr.Mid.TheVariants.{Set, Bin, Label, End, Tick}
use Rattle.mid_code.specs.declared.instr.Op.TheVariants.{Or, Xor}
use Rattle.mid_code.specs.declared.instr.Test.TheVariants.{Eq}
use Rattle.mid_code.specs.Help.{is_wide}
use Rattle.mid_code.specs.Machine.{fn_of}
use Rattle.mid_code.proofs.Stands.{does}
use Rattle.lower_expr.specs.declared.spot.Regs.{Regs}
use Rattle.lower_expr.specs.declared.spot.Spot.{Spot}
use Rattle.lower_expr.specs.declared.spot.Spot.TheVariants.{Frame}
use Rattle.lower_expr.specs.Pieces.{const_code}
use Rattle.lower_expr.specs.Code.{is_void, taken_at}
use Rattle.lower_stmt.specs.Code.{Ways, WayOut, breaking, continuing, returning, back, case_code, cases_code, exit_code, label_of, nothing_code, same_code, way_out, zero_regs_code}
use Rattle.lower_pace.proofs.Flow.{Flow, Leads, Plain, Setting, SoonAt, at_head, at_tail, branch, by_step, flow_more, if_flows, if_plain, jump, label, leads_here, leads_more, leads_over, leads_past, plain_act, plains, regroup, returns}
use Rattle.lower_pace.proofs.Pieces.{const_plain}

-- ---- where code stands, and turns of loops

module _ (given : Setting) where
  abbrev whole : List Mid
  whole = (fn_of given.code given.f).code

  -- the rest of the code from some place on
  pub record Stand (u : List Mid) : Type 0 where
    pub at : ℕ
    pub is : drop at whole ≡ u

  pub stand_past : (i : Mid) (u : List Mid) → Stand (i ∷ u) → Stand u
  stand_past i u h = record { at = h.at + 1; is = at_tail whole h.at i u h.is }

  pub stand_over : (xs u : List Mid) → Stand (xs ++ u) → Stand u
  stand_over [] u h = h
  stand_over (i ∷ xs) u h = stand_over xs u (stand_past i (xs ++ u) h)

  -- a label in front of a Tick
  pub turn : (l : ℕ) (v u : List Mid) → Stand (Label l ∷ Tick ∷ v) → Leads given 10 l u
  turn l v u h = record {
    soon = λ at values frame rest called e.
        subst (λ to. SoonAt given 10 rest to values frame) (sym (given.labels.at h.at l (at_head whole h.at (Label l) (Tick ∷ v) h.is)))
        (by_step given h.at values frame rest 5 10 (Label l) _ (at_head whole h.at _ _ h.is) (does given.code given.f rest h.at values frame _ (at_head whole h.at _ _ h.is))
        (plain_act given (h.at + 1) values frame rest 0 5 Tick refl refl (at_head whole (h.at + 1) Tick v (at_tail whole h.at _ _ h.is)) (let most = given.sizes.light Tick refl in omega (arith, most)))
        (let most = given.sizes.light (Label l) refl in omega (arith, most)));
  }

  -- ---- ways out

  abbrev pub BackLeads : ℕ → Option ℕ → List Mid → Type 0
  BackLeads n None u = ⊤
  BackLeads n (Some l) u = Leads given n l u

  abbrev pub WayLeads : ℕ → Ways → WayOut → List Mid → Type 0
  WayLeads n w returning u = BackLeads n w.return_to u
  WayLeads n w breaking u = Leads given n w.break_to u
  WayLeads n w continuing u = Leads given n w.continue_to u

  pub record WaysLead (n : ℕ) (own : WayOut → Bool) (w : Ways) (u : List Mid) : Type 0 where
    pub way : (out : WayOut) → own out ≡ true → WayLeads n w out u

  back_further : (n m : ℕ) (o : Option ℕ) (xs u : List Mid) → n ≤ m → BackLeads n o u → BackLeads m o (xs ++ u)
  back_further n m None xs u le h = tt
  back_further n m (Some l) xs u le h = leads_more given n m l (xs ++ u) le (leads_over given n l xs u h)

  pub way_further : (n m : ℕ) (w : Ways) (out : WayOut) (xs u : List Mid) → n ≤ m → WayLeads n w out u → WayLeads m w out (xs ++ u)
  way_further n m w returning xs u le h = back_further n m w.return_to xs u le h
  way_further n m w breaking xs u le h = leads_more given n m w.break_to (xs ++ u) le (leads_over given n w.break_to xs u h)
  way_further n m w continuing xs u le h = leads_more given n m w.continue_to (xs ++ u) le (leads_over given n w.continue_to xs u h)

  -- of a part, with more code in front
  pub ways_further : (n m : ℕ) (own part : WayOut → Bool) (w : Ways) (xs u : List Mid) → n ≤ m → ((out : WayOut) → part out ≡ true → own out ≡ true) → WaysLead n own w u → WaysLead m part w (xs ++ u)
  ways_further n m own part w xs u le inside h = record { way = λ out e. way_further n m w out xs u le (h.way out (inside out e)) }

  back_flows : (n m : ℕ) (o : Option ℕ) (ty : Ty) (r : ℕ) (u : List Mid) → BackLeads n o u → Flow given n u → n + 20 ≤ m → Flow given m (back o ty r ∷ u)
  back_flows n m None ty r u to h le = returns given n m (taken_at ty r) u h le
  back_flows n m (Some l) ty r u to h le = jump given n m l u to h (omega (arith, le))

  pub way_flows : (n m : ℕ) (w : Ways) (r : ℕ) (out : WayOut) (u : List Mid) → WayLeads n w out u → Flow given n u → n + 20 ≤ m → Flow given m (way_out w r out ∷ u)
  way_flows n m w r returning u to h le = back_flows n m w.return_to w.gives r u to h le
  way_flows n m w r breaking u to h le = jump given n m w.break_to u to h (omega (arith, le))
  way_flows n m w r continuing u to h le = jump given n m w.continue_to u to h (omega (arith, le))

  -- ---- exits of atomic statements

  pub record Exit (m l : ℕ) (b : Bool) (code : List Mid) : Type 0 where
    pub flows : Flow given m code
    pub leads_to : b ≡ true → Leads given m l code

  pub exit_flows : (n m : ℕ) (w : Ways) (r : ℕ) (out : WayOut) (b : Bool) (o l : ℕ) (u : List Mid) → (b ≡ true → WayLeads n w out u) → Flow given n u → n + 60 ≤ m → Exit m l b (exit_code b o l (way_out w r out) ++ u)
  exit_flows n m w r out false o l u to h le = record { flows = flow_more given n m u (omega (arith, le)) h; leads_to = λ e. absurd (cc) }
  exit_flows n m w r out true o l u to h le =
      let end : Flow given (n + 4) (Label (l + 1) ∷ u) = label given n (n + 4) (l + 1) u h (omega arith) in
      let leaves : Flow given (n + 24) (way_out w r out ∷ Label (l + 1) ∷ u) = way_flows (n + 4) (n + 24) w r out _ (way_further n (n + 4) w out (Label (l + 1) ∷ []) u (omega arith) (to refl)) end (omega arith) in
      let ends : Flow given (n + 33) (End o ∷ way_out w r out ∷ Label (l + 1) ∷ u) = plains given (n + 24) (n + 33) 1 (End o ∷ []) _ (record { all = refl; short = omega arith }) leaves (omega arith) in
      let here : Flow given (n + 37) (Label l ∷ End o ∷ way_out w r out ∷ Label (l + 1) ∷ u) = label given (n + 33) (n + 37) l _ ends (omega arith) in
      record {
        flows = jump given (n + 37) m (l + 1) _
            (leads_past given _ _ _ _ (leads_past given _ _ _ _ (leads_past given _ _ _ _ (leads_more given (n + 4) (n + 37) (l + 1) _ (omega arith) (leads_here given (n + 4) (l + 1) u end))))) here (omega (arith, le));
        leads_to = λ e. leads_past given _ _ _ _ (leads_more given (n + 37) m l _ (omega (arith, le)) (leads_here given (n + 37) l _ here));
      }

-- ---- plain pieces

pub nothing_plain : (ty : Ty) (r : ℕ) → Plain 2 (nothing_code ty r)
nothing_plain ty r = if_plain (is_void ty) 2 [] (const_code (number_of ty) (pos 0) r) (record { all = refl; short = omega arith }) (const_plain (number_of ty) (pos 0) r)

pub regs_plain : (wide : Bool) (regs : Regs) → Plain 2 (zero_regs_code wide regs)
regs_plain true regs = record { all = refl; short = omega arith }
regs_plain false regs = record { all = refl; short = omega arith }

default_below : (cases : List Case) (count k : ℕ) → All (λ c. c.start < count) cases → start_of_default cases ≡ Some k → k < count
default_below [] count k h e = absurd (cc)
default_below (c ∷ cases) count k h e = by (is_none c.value) e (λ f. default_below cases count k (All-tail (λ x. x.start < count) c cases h) f)
  where
    by : (b : Bool) → (if b then Some c.start else start_of_default cases) ≡ Some k → (start_of_default cases ≡ Some k → k < count) → k < count
    by true e rest = let same : c.start ≡ k = cc in let lt = All-head (λ x. x.start < count) c cases h in omega (arith, same, lt)
    by false e rest = rest e

-- ---- cases of a switch

module _ (given : Setting) where
  abbrev C : ℕ → List Mid → Type 0
  C n u = Flow given n u

  same_flows : (n m : ℕ) (wide : Bool) (r l : ℕ) (u : List Mid) → Leads given n l u → C n u → n + 40 ≤ m → C m (same_code wide r l ++ u)
  same_flows n m true r l u to h le =
      plains given (n + 4) m 4 (Bin Xor (r + 2) r (r + 2) ∷ Bin Xor (r + 3) (r + 1) (r + 3) ∷ Bin Or (r + 2) (r + 2) (r + 3) ∷ Set (r + 3) 0 ∷ []) _ (record { all = refl; short = omega arith })
      (branch given n (n + 4) Eq (r + 2) (r + 3) l u to h (omega arith)) (omega (arith, le))
  same_flows n m false r l u to h le = branch given n m Eq r (r + 2) l u to h (omega (arith, le))

  case_flows : (n m : ℕ) (t : IntType) (o : Option ℤ) (r l : ℕ) (u : List Mid) → Leads given n l u → C n u → n + 60 ≤ m → C m (case_code t o r l ++ u)
  case_flows n m t None r l u to h le = flow_more given n m u (omega (arith, le)) h
  case_flows n m t (Some x) r l u to h le =
      if_flows given (int_eq (wrapped t x) x) m (const_code t x (r + 2) ++ same_code (is_wide t) r l) [] u
      (regroup given m (const_code t x (r + 2)) (same_code (is_wide t) r l) u
      (plains given (n + 40) m 2 (const_code t x (r + 2)) _ (const_plain t x (r + 2)) (same_flows n (n + 40) (is_wide t) r l u to h (omega arith)) (omega (arith, le))))
      (flow_more given n m u (omega (arith, le)) h)

  pub cases_flows : (n m : ℕ) (t : IntType) (cases : List Case) (default : Option ℕ) (r l count : ℕ) (u : List Mid) → ((k : ℕ) → k < count → Leads given n (l + 1 + k) u) → Leads given n (label_of default l) u →
      All (λ c. c.start < count) cases → C n u → n + 4 + 60 * length cases ≤ m → C m (cases_code t cases default r l ++ u)
  cases_flows n m t [] default r l count u starts other inside h le = jump given n m (label_of default l) u other h (omega (arith, le))
  cases_flows n m t (c ∷ cases) default r l count u starts other inside h le =
      let rest : List Mid = cases_code t cases default r l in
      let nr : ℕ = n + 4 + 60 * length cases in
      regroup given m (case_code t c.value r (label_of (Some c.start) l)) rest u
      (case_flows nr m t c.value r (l + 1 + c.start) (rest ++ u)
      (leads_more given n nr (l + 1 + c.start) _ (omega arith) (leads_over given n (l + 1 + c.start) rest u (starts c.start (All-head (λ x. x.start < count) c cases inside))))
      (cases_flows n nr t cases default r l count u starts other (All-tail (λ x. x.start < count) c cases inside) h (omega arith)) (omega (arith, le)))

  pub default_leads : (n : ℕ) (cases : List Case) (d : Option ℕ) (l count : ℕ) (u : List Mid) → start_of_default cases ≡ d → All (λ c. c.start < count) cases → Leads given n l u →
      ((k : ℕ) → k < count → Leads given n (l + 1 + k) u) → Leads given n (label_of d l) u
  default_leads n cases None l count u is inside out starts = out
  default_leads n cases (Some k) l count u is inside out starts = starts k (default_below cases count k inside is)

-- the sizes of so many locals from x on
abbrev pub sizes_from : Program → List Ty → (count x : ℕ) → ℕ
sizes_from p types zero x = 0
sizes_from p types (suc count) x = size_of p (slice_index_or types x plain.void) + sizes_from p types count (x + 1)

-- ---- statements, where locals have these types and spots: `bytes` is room for the sizes of those in a row

pub record Sized (p : Program) (types : List Ty) (spots : List Spot) (bytes : ℕ) : Type 0 where
  pub frames : (x o : ℕ) → x < length types → slice_get spots x ≡ Some (Frame o) → o + size_of p (slice_index_or types x plain.void) < 65536
  pub room : (count x : ℕ) → x + count ≤ length types → sizes_from p types count x ≤ bytes
