-- The bodies of tasks, for parts one behind the other.
use Rattle.std.proofs.Common.{◌≡◌, ℕ, suc, ◌+◌, ◌<◌, List, [], ◌∷◌, ◌++◌, length, get_or, map, drop, sym, ap, ◌∙◌, arith, flat_map, length-append}
use Rattle.std.proofs.lemmas.List.{append_assoc}
use Rattle.std.proofs.Math.Seq.{drop-cons}
use Rattle.std.proofs.lemmas.List.Elements.{filter_map-append}
use Rattle.nesc_tree.specs.declared.declarations.Decl as decl
use Rattle.body_meaning.specs.Tree.{Decl, Head}
use Rattle.body_meaning.specs.View.{decl_of}
use Rattle.program_meaning.specs.Numbers.{definition_in, definitions, definitions_in, task_bodies_from, task_body}
use denote.Ref.{Bor}
use Rattle.elab_targets.specs.View.{instance_of}
use Rattle.elab_targets.specs.declared.application.Instance as code

-- element k stands at the front of what is left
next_of : {A : Type 0} (xs : List A) (k : ℕ) (x : A) → k < length xs → x ≡ get_or xs k x → drop k xs ≡ x ∷ drop (k + 1) xs
next_of xs k x below is = let more : suc k ≡ k + 1 = omega arith in
    drop-cons xs k x below ∙ ap (λ y. y ∷ drop (suc k) xs) (sym is) ∙ ap (λ j. x ∷ drop j xs) more

-- the tasks of two parts
pub of_both : (k : ℕ) (hs gs : List Head) → task_bodies_from k (hs ++ gs) ≡ task_bodies_from k hs ++ task_bodies_from (k + length hs) gs
of_both k [] gs = let e : k ≡ k + 0 = omega arith in ap (λ n. task_bodies_from n gs) e
of_both k (h ∷ hs) gs =
    let e : k + 1 + length hs ≡ k + length (h ∷ hs) = omega arith in
    ap (λ ns. task_body k h.kind ++ ns) (of_both (k + 1) hs gs)
    ∙ ap (λ n. task_body k h.kind ++ (task_bodies_from (k + 1) hs ++ task_bodies_from n gs)) e
    ∙ sym (append_assoc (task_body k h.kind) (task_bodies_from (k + 1) hs) (task_bodies_from (k + length (h ∷ hs)) gs))

-- ---- more parts

module _ (out new whole : List ℕ) (n m total : ℕ) (all a b : List Head) (split : all ≡ a ++ b) (number : m ≡ n + length a) where
  pub pushed_more : new ≡ out ++ task_bodies_from n a → out ++ task_bodies_from n all ≡ whole → new ++ task_bodies_from m b ≡ whole
  pushed_more pushed before =
      ap (λ (xs : List ℕ). xs ++ task_bodies_from m b) pushed
      ∙ append_assoc out (task_bodies_from n a) (task_bodies_from m b)
      ∙ ap (λ (k : ℕ). out ++ (task_bodies_from n a ++ task_bodies_from k b)) number
      ∙ ap (λ (xs : List ℕ). out ++ xs) (sym (of_both n a b) ∙ ap (task_bodies_from n) (sym split))
      ∙ before

  pub counted_more : n + length all ≡ total → m + length b ≡ total
  counted_more before =
      let e : length all ≡ length a + length b = ap length split ∙ length-append a b in
      omega (arith, number, e, before)

abbrev pub decls_in : Bor (List decl.Decl) → List Decl
decls_in h = map decl_of h.now

pub header_next : (hs : List (Bor (List decl.Decl))) (k : ℕ) (x : Bor (List decl.Decl)) → k < length hs → x ≡ get_or hs k x
    → definitions (flat_map decls_in (drop k hs)) ≡ definitions (map decl_of x.now) ++ definitions (flat_map decls_in (drop (k + 1) hs))
header_next hs k x below at =
    ap (λ (ys : List (Bor (List decl.Decl))). definitions (flat_map decls_in ys)) (next_of hs k x below at)
    ∙ filter_map-append definition_in (map decl_of x.now) (flat_map decls_in (drop (k + 1) hs))

pub instance_next : (is : List code.Instance) (k : ℕ) (x : code.Instance) → k < length is → x ≡ get_or is k x
    → definitions_in (map instance_of (drop k is)) ≡ definitions (map decl_of x.decls.now) ++ definitions_in (map instance_of (drop (k + 1) is))
instance_next is k x below at = ap (λ (ys : List code.Instance). definitions_in (map instance_of ys)) (next_of is k x below at)

pub all_tasks : (a b : List Head) (none mid out : List ℕ) (n : ℕ) → none ≡ [] → mid ≡ none ++ task_bodies_from 0 a → n ≡ length a → out ≡ mid ++ task_bodies_from n b → out ≡ task_bodies_from 0 (a ++ b)
all_tasks a b none mid out n empty first count last =
    last
    ∙ ap (λ (xs : List ℕ). xs ++ task_bodies_from n b) (first ∙ ap (λ (xs : List ℕ). xs ++ task_bodies_from 0 a) empty)
    ∙ ap (λ (k : ℕ). task_bodies_from 0 a ++ task_bodies_from k b) (let e : n ≡ 0 + length a = omega (arith, count) in e)
    ∙ sym (of_both 0 a b)
