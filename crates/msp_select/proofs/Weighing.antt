-- Selected code meets the law with a bound that counts instructions.
use Rattle.std.proofs.Common.{◌≡◌, ◌⊎◌, ℕ, zero, suc, ◌+◌, ◌*◌, ◌/◌, ◌<◌, ◌≤◌, Bool, true, false, List, [], ◌∷◌, length, map, Option, Some, refl, sym, ap, ◌∙◌, subst, arith}
use mathlib.Core.Logic.{inl, inr}
use Rattle.nm_base.specs.declared.action.Action.{Action}
use Rattle.mid_code.specs.declared.instr.Mid.{Mid}
use Rattle.mid_code.specs.declared.instr.Mid.TheVariants.{Set, Move, Bin, Carry, Load, Store, Peek, Poke, In, Out, Label, Jump, Branch, Call, Help, Ret, Begin, End, Post, Tick, Fault}
use Rattle.mid_code.specs.Machine.{Activation, Goes, entry, fn_of, instruction, onward, started, step}
use Rattle.mid_code.specs.Reached.{innermost_instruction}
use Rattle.open_law.specs.Body.{IsOpenFunction}
use Rattle.open_law.proofs.View.{View}
use Rattle.open_law.proofs.Law.{NextOf, open_law}
use Rattle.msp_select.specs.Frames.{count_pushed}
use Rattle.msp_select.specs.Sound.{body_of}
use Rattle.msp_select.specs.Weight.{IsWeighed, SelectedCodeIsPaced, behind_it, entry_size, length_of, size_of}
use Rattle.msp_select.proofs.Reached.{Reached, at_start}
use Rattle.msp_select.proofs.Relation.{Setting, Entering, GoodOne, Here, Resuming, act, fn}
use Rattle.msp_select.proofs.Kept.{Premises, there}
use Rattle.msp_select.proofs.Doing.{After as OwnAfter, EntersBy, ResumesBy, fewer_left, stepped}
use Rattle.msp_select.proofs.Entering.{After as EntryAfter, Piece as EntryPiece, begins}
use Rattle.msp_select.proofs.Resuming.{After as BackAfter, Piece as BackPiece, resume}
use Rattle.msp_select.proofs.Selected.{at_entry, has_code, label_here, label_next, label_of, set_up, short, shown_at_start, sized, starting, premises_at}
use Rattle.msp_select.proofs.Weighted.{Amid, Behind, Piece, Weighs, keeps, weakened}

same_function : (b g : Activation) (xs ys : List Activation) → Goes (b ∷ xs) ≡ Goes (g ∷ ys) → b.f ≡ g.f
same_function b g xs ys e = let z : b ≡ g = cc in ap (λ (x : Activation). x.f) z

module _ (S : Setting) (left : List Activation → ℕ) (most long : ℕ) (P : Premises S left most) (entry_fits : (f : ℕ) → f < length S.code.fns → 3 * (S.own f / 2) + 1 < long) (call_fits : (f : ℕ) → f < length S.code.fns → count_pushed (fn_of S.code f).params + 1 < long) (help_fits : P.most_help + 4 < long) (least : 5 < long)
    (weight : List Activation → ℕ) (heaviest : ℕ) (weighed : IsWeighed S.code S.own P.most_help S.root weight heaviest) where
  abbrev size : Option Mid → ℕ
  size = size_of S.code S.own P.most_help

  -- of each state that is reached
  few_weight : (s : List Activation) (opens : List (List ℕ)) (made : List Action) (got : List ℕ) → Reached S.code S.root s opens made got → weight s ≤ heaviest
  few_weight s opens made got r = subst (λ x. weight x ≤ heaviest) r.state (weighed.few r.answers r.words r.taken)

  holds : (s : List Activation) (opens : List (List ℕ)) (made : List Action) (got : List ℕ) → Reached S.code S.root s opens made got → size (innermost_instruction S.code s) ≤ weight s
  holds s opens made got r = subst (λ x. size (innermost_instruction S.code x) ≤ weight x) r.state (weighed.holds r.answers r.words r.taken)

  falls : (s s' : List Activation) (opens : List (List ℕ)) (made : List Action) (got : List ℕ) → Reached S.code S.root s opens made got → step S.code s ≡ Goes s' → weight s' + size (innermost_instruction S.code s) ≤ weight s
  falls s s' opens made got r e = subst (λ x. weight s' + size (innermost_instruction S.code x) ≤ weight x) r.state (weighed.falls r.answers r.words r.taken s' (ap (step S.code) r.state ∙ e))

  abbrev most' : ℕ
  most' = heaviest + entry_size S.own S.root

  abbrev RelW : ℕ → View → Type 0
  RelW m v = (a : Activation) × (rest : List Activation) × ((Here S a rest v × (m ≡ weight (a ∷ rest))) ⊎ ((Entering S a rest v × (m ≡ weight (a ∷ rest) + entry_size S.own a.f)) ⊎ (Resuming S a rest v × (m ≡ weight (a ∷ rest) + 3))))

  abbrev BehindW : (n m : ℕ) → List Action → View → Type 0
  BehindW n m made w = Behind S.gives (act S) S.image S.data_end (S.deep S.root) S.marks S.c S.ram most' long RelW n m made w

  abbrev PieceW : ℕ → List Action → View → Type 0
  PieceW m made v = Piece S.gives (act S) S.image S.data_end (S.deep S.root) S.marks S.c S.ram most' long RelW m made v

  abbrev FromEach : ℕ → Type 0
  FromEach fuel = (a : Activation) (rest : List Activation) (v : View) (h : Here S a rest v) (m : ℕ) (made0 : List Action) → weight (a ∷ rest) ≤ m → v.made ≡ made0 → left (a ∷ rest) < fuel → PieceW m made0 v

  module _ (fuel : ℕ) (again : FromEach fuel) (a : Activation) (rest : List Activation) (v : View) (h : Here S a rest v) (m : ℕ) (made0 : List Action) (le : weight (a ∷ rest) ≤ m) (since : v.made ≡ made0) (lt : left (a ∷ rest) < suc fuel) where
    abbrev m0 : ℕ
    m0 = 2 * left (a ∷ rest)

    few : 2 * left (a ∷ rest) ≤ m0
    few = omega arith

    -- what runs before the next instruction
    enters : (i : Mid) (g : Activation) (more : List Activation) → instruction S.code a ≡ Some i → EntersBy S left most P a rest v h m0 made0 few since (Some i) → step S.code (a ∷ rest) ≡ Goes (g ∷ more) → behind_it S.code S.own P.most_help i ≡ entry_size S.own g.f
    enters (Call f ins outs) g more e x goes' = ap (entry_size S.own) (same_function (entry S.code f (map a.values ins)) g (a ∷ rest) more (sym (stepped S left most P a rest v h m0 made0 few since (Call f ins outs) e) ∙ goes'))
    enters (Set x' n) g more e x goes' = absurd x
    enters (Move x' y) g more e x goes' = absurd x
    enters (Bin o x' p q) g more e x goes' = absurd x
    enters (Carry o x' p q) g more e x goes' = absurd x
    enters (Load w x' p) g more e x goes' = absurd x
    enters (Store w x' p) g more e x goes' = absurd x
    enters (Peek w x' p) g more e x goes' = absurd x
    enters (Poke w x' p) g more e x goes' = absurd x
    enters (In x' port) g more e x goes' = absurd x
    enters (Out port x') g more e x goes' = absurd x
    enters (Label l) g more e x goes' = absurd x
    enters (Jump l) g more e x goes' = absurd x
    enters (Branch t x' y l) g more e x goes' = absurd x
    enters (Help k ins outs) g more e x goes' = absurd x
    enters (Ret vs) g more e x goes' = absurd x
    enters (Begin o) g more e x goes' = absurd x
    enters (End o) g more e x goes' = absurd x
    enters (Post k x') g more e x goes' = absurd x
    enters Tick g more e x goes' = absurd x
    enters (Fault n) g more e x goes' = absurd x

    resumes : (i : Mid) → ResumesBy S left most P a rest v h m0 made0 few since (Some i) → behind_it S.code S.own P.most_help i ≡ 3
    resumes (Call f ins outs) x = absurd x
    resumes (Set x' n) x = absurd x
    resumes (Move x' y) x = absurd x
    resumes (Bin o x' p q) x = absurd x
    resumes (Carry o x' p q) x = absurd x
    resumes (Load w x' p) x = absurd x
    resumes (Store w x' p) x = absurd x
    resumes (Peek w x' p) x = absurd x
    resumes (Poke w x' p) x = absurd x
    resumes (In x' port) x = absurd x
    resumes (Out port x') x = absurd x
    resumes (Label l) x = absurd x
    resumes (Jump l) x = absurd x
    resumes (Branch t x' y l) x = absurd x
    resumes (Help k ins outs) x = refl
    resumes (Ret vs) x = refl
    resumes (Begin o) x = absurd x
    resumes (End o) x = absurd x
    resumes (Post k x') x = absurd x
    resumes Tick x = absurd x
    resumes (Fault n) x = absurd x

    module _ (i : Mid) (e : instruction S.code a ≡ Some i) where
      own_size : size (innermost_instruction S.code (a ∷ rest)) ≡ length_of S.code S.own P.most_help i + behind_it S.code S.own P.most_help i
      own_size = ap size e

      falls_to : (s' : List Activation) → step S.code (a ∷ rest) ≡ Goes s' → weight s' + (length_of S.code S.own P.most_help i + behind_it S.code S.own P.most_help i) ≤ m
      falls_to s' g = let f = falls (a ∷ rest) s' (h.opens ∷ h.outer) v.made v.answers h.reached g in let z = own_size in omega (arith, f, z, le)

      weigh : (n : ℕ) → suc n ≤ length_of S.code S.own P.most_help i → (w : View) → OwnAfter S left most P a rest v h m0 made0 few since w → BehindW n m made0 w
      weigh n short' w (inl over) = inl over
      weigh n short' w (inr (k, kl, (g, more, inl (here, ke, inl goes')), why)) =
          let f = falls_to (g ∷ more) goes' in let b = few_weight (g ∷ more) (here.opens ∷ here.outer) w.made w.answers here.reached in
          inr (weight (g ∷ more), omega (arith, b), (g, more, inl (here, refl)), inl (omega (arith, f, short')))
      weigh n short' w (inr (k, kl, (g, more, inl (here, ke, inr new)), why)) =
          let b = few_weight (g ∷ more) (here.opens ∷ here.outer) w.made w.answers here.reached in
          inr (weight (g ∷ more), omega (arith, b), (g, more, inl (here, refl)), inr new)
      weigh n short' w (inr (k, kl, (g, more, inr (inl (entering, x), ke, goes')), why)) =
          let f = falls_to (g ∷ more) goes' in
          let z = enters i g more e (subst (EntersBy S left most P a rest v h m0 made0 few since) e x) goes' in
          let f' = falls (a ∷ rest) (g ∷ more) (h.opens ∷ h.outer) v.made v.answers h.reached goes' in let o = own_size in let b = few_weight (a ∷ rest) (h.opens ∷ h.outer) v.made v.answers h.reached in
          inr (weight (g ∷ more) + entry_size S.own g.f, omega (arith, f', o, z, b), (g, more, inr (inl (entering, refl))), inl (omega (arith, f, z, short')))
      weigh n short' w (inr (k, kl, (g, more, inr (inr (resuming, x), ke, goes')), why)) =
          let f = falls_to (g ∷ more) goes' in
          let z = resumes i (subst (ResumesBy S left most P a rest v h m0 made0 few since) e x) in
          let f' = falls (a ∷ rest) (g ∷ more) (h.opens ∷ h.outer) v.made v.answers h.reached goes' in let o = own_size in let b = few_weight (a ∷ rest) (h.opens ∷ h.outer) v.made v.answers h.reached in
          inr (weight (g ∷ more) + 3, omega (arith, f', o, z, b), (g, more, inr (inr (resuming, refl))), inl (omega (arith, f, z, short')))

      by_code : (b : Bool) → has_code i ≡ b → PieceW m made0 v
      by_code true code =
          let r = sized S left most P a rest v h m0 made0 few since i e code in
          let s = r.1 in let t = short S left most P a rest v h m0 made0 few since long call_fits help_fits least i e in
          let o = own_size in let w = holds (a ∷ rest) (h.opens ∷ h.outer) v.made v.answers h.reached in
          (r.0, omega (arith, s, t), omega (arith, s, o, w, le), weakened S.image S.data_end S.marks S.c.sp (GoodOne S) (NextOf S.gives (act S) S.image S.data_end (S.deep S.root) S.marks S.c S.ram) (OwnAfter S left most P a rest v h m0 made0 few since) (BehindW r.0 m made0) (weigh r.0 s) (suc r.0) v r.2)
      by_code false code =
          let l = label_of i code in
          let el = e ∙ ap Some l.1 in
          let next = label_next S left most P a rest v h m0 made0 few since l.0 el in
          let less = fewer_left S left most P (a ∷ rest) (onward a ∷ rest) (h.opens ∷ h.outer) v.made v.answers h.reached next in
          let f = falls_to (onward a ∷ rest) next in
          again (onward a) rest v (label_here S left most P a rest v h m0 made0 few since l.0 el) m made0 (omega (arith, f)) since (omega (arith, less, lt))

  pieces : (fuel : ℕ) → FromEach fuel
  pieces zero a rest v h m made0 le since lt = absurd (omega arith)
  pieces (suc fuel) a rest v h m made0 le since lt =
      let i = there (fn S a).code a.at h.place in
      by_code fuel (pieces fuel) a rest v h m made0 le since lt i.0 i.1 (has_code i.0) refl

  entered : (a : Activation) (rest : List Activation) (v : View) (m : ℕ) → m ≡ weight (a ∷ rest) + entry_size S.own a.f → (h : Entering S a rest v) → PieceW m v.made v
  entered a rest v m e h = by (begins S left most P a rest v h (2 * left (a ∷ rest) + 1) v.made less)
    where
      less : 2 * left (a ∷ rest) < 2 * left (a ∷ rest) + 1
      less = omega arith

      some : (i : ℕ) → i ≤ 3 * (S.own a.f / 2) → (w : View) → EntryAfter S left most P a rest v h (2 * left (a ∷ rest) + 1) v.made less w → BehindW i m v.made w
      some i li w (inl over) = inl over
      some i li w (inr (k, kl, (here, ke), why)) =
          let b = few_weight (a ∷ rest) (here.opens ∷ here.outer) w.made w.answers here.reached in
          inr (weight (a ∷ rest), omega (arith, b), (a, rest, inl (here, refl)), inl (omega (arith, e, li)))

      by : Here S a rest v ⊎ ((i : ℕ) × (i ≤ 3 * (S.own a.f / 2)) × EntryPiece S left most P a rest v h (2 * left (a ∷ rest) + 1) v.made less (suc i) v) → PieceW m v.made v
      by (inl here) = pieces (suc (left (a ∷ rest))) a rest v here m v.made (omega (arith, e)) refl (omega arith)
      by (inr r) =
          let s = r.1 in let k = entry_fits a.f h.function in
          (r.0, omega (arith, s, k), omega (arith, e, s), weakened S.image S.data_end S.marks S.c.sp (GoodOne S) (NextOf S.gives (act S) S.image S.data_end (S.deep S.root) S.marks S.c S.ram) (EntryAfter S left most P a rest v h (2 * left (a ∷ rest) + 1) v.made less) (BehindW r.0 m v.made) (some r.0 s) (suc r.0) v r.2)

  resumed : (a : Activation) (rest : List Activation) (v : View) (m : ℕ) → m ≡ weight (a ∷ rest) + 3 → (h : Resuming S a rest v) → PieceW m v.made v
  resumed a rest v m e h = by (resume S left most P a rest v h (2 * left (a ∷ rest) + 1) v.made less)
    where
      less : 2 * left (a ∷ rest) < 2 * left (a ∷ rest) + 1
      less = omega arith

      some : (i : ℕ) → i ≤ 2 → (w : View) → BackAfter S left most P a rest v h (2 * left (a ∷ rest) + 1) v.made less w → BehindW i m v.made w
      some i li w (inl over) = inl over
      some i li w (inr (k, kl, (here, ke), why)) =
          let b = few_weight (a ∷ rest) (here.opens ∷ here.outer) w.made w.answers here.reached in
          inr (weight (a ∷ rest), omega (arith, b), (a, rest, inl (here, refl)), inl (omega (arith, e, li)))

      by : Here S a rest v ⊎ ((i : ℕ) × (i ≤ 2) × BackPiece S left most P a rest v h (2 * left (a ∷ rest) + 1) v.made less (suc i) v) → PieceW m v.made v
      by (inl here) = pieces (suc (left (a ∷ rest))) a rest v here m v.made (omega (arith, e)) refl (omega arith)
      by (inr r) =
          let s = r.1 in
          (r.0, omega (arith, s, least), omega (arith, e, s), weakened S.image S.data_end S.marks S.c.sp (GoodOne S) (NextOf S.gives (act S) S.image S.data_end (S.deep S.root) S.marks S.c S.ram) (BackAfter S left most P a rest v h (2 * left (a ∷ rest) + 1) v.made less) (BehindW r.0 m v.made) (some r.0 s) (suc r.0) v r.2)

  next : (m : ℕ) (v : View) → m ≤ most' → RelW m v → PieceW m v.made v
  next m v le (a, rest, inl (h, e)) = pieces (suc (left (a ∷ rest))) a rest v h m v.made (omega (arith, e)) refl (omega arith)
  next m v le (a, rest, inr (inl (h, e))) = entered a rest v m e h
  next m v le (a, rest, inr (inr (h, e))) = resumed a rest v m e h

  pub weighs : Weighs S.gives (act S) S.image S.data_end (S.deep S.root) S.marks S.c S.ram most' long RelW
  weighs =
      let b = few_weight (started S.code S.root) ([] ∷ []) [] [] (at_start S.code S.root) in
      record {
        first = (
          weight (started S.code S.root) + entry_size S.own S.root,
          at_entry S left most long P entry_fits call_fits help_fits least,
          omega (arith, b),
          (entry S.code S.root [], [], inr (inl (starting S left most long P entry_fits call_fits help_fits least, refl))),
          shown_at_start S left most long P entry_fits call_fits help_fits least,
        );
        next = next;
      }

-- the relation of one start
abbrev RelatesW : Setting → (List Activation → ℕ) → ℕ → View → Type 0
RelatesW S weight m v = (a : Activation) × (rest : List Activation) × ((Here S a rest v × (m ≡ weight (a ∷ rest))) ⊎ ((Entering S a rest v × (m ≡ weight (a ∷ rest) + entry_size S.own a.f)) ⊎ (Resuming S a rest v × (m ≡ weight (a ∷ rest) + 3))))

pub paced : SelectedCodeIsPaced
paced code homes own deep left most long root gives data_end image marks entries places h weight heaviest weighed =
    let bound : 1 * (heaviest + entry_size own root + long + 2) ≡ heaviest + entry_size own root + long + 2 = omega arith in
    subst (λ b. IsOpenFunction image data_end marks gives (body_of code root) (entries root) (deep root) b) bound
    (open_law gives (body_of code root) image data_end (entries root) (deep root) (heaviest + entry_size own root + long) 1 marks
    (λ c ram. Amid gives (body_of code root) image data_end (deep root) marks c ram (heaviest + entry_size own root) long (RelatesW (set_up code homes own deep root gives data_end image marks entries places c ram) weight))
    (λ c ram start.
    keeps gives (body_of code root) image data_end (deep root) marks c ram (heaviest + entry_size own root) long (RelatesW (set_up code homes own deep root gives data_end image marks entries places c ram) weight)
    (weighs (set_up code homes own deep root gives data_end image marks entries places c ram) left most long (premises_at code homes own deep left most long root gives data_end image marks entries places h c ram start) h.entry h.call h.help h.least weight heaviest weighed)))
