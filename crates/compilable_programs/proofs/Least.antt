-- Bytes of code and of stack are those of each other proof of them.
use Rattle.std.proofs.Common.{◌≡◌, ℕ, suc, ◌+◌, ◌*◌, ◌<◌, ◌≤◌, List, [], ◌∷◌, length, sum, sum_by, subst, arith}
use Rattle.std.specs.Prelude.{slice_index}
use Rattle.std.proofs.lemmas.List.Sums.{sum_by-cons}
use Rattle.nm_base.specs.declared.limit.Room.TheVariants.{Code, Ram}
use Rattle.msp_isa.specs.declared.code.CodeFn.{CodeFn}
use Rattle.msp_isa.specs.Stands.{items_of}
use Rattle.msp_layout.specs.Bytes.{HasBytes, sizes_of}
use Rattle.msp_layout.specs.Depth.{IsDeepest, IsStack, Names}
use Rattle.msp_layout.proofs.Growing.{sum-cons}
use Rattle.compilable_programs.specs.Laws.{LaidImagesHaveRoom}

-- ---- code

sum_least : (a b : List ℕ) → length a ≡ length b → ((k : ℕ) → slice_index a k ≤ slice_index b k) → sum a ≤ sum b
sum_least [] b len le = omega arith
sum_least (x ∷ a) [] len le = absurd (omega (arith, len))
sum_least (x ∷ a) (y ∷ b) len le =
    let first = le 0 in
    let rest = sum_least a b (omega (arith, len)) (λ k. le (suc k)) in
    let s = sum-cons x a in
    let t = sum-cons y b in
    omega (arith, first, rest, s, t)

sums_least : (xs ys : List (List ℕ)) → length xs ≡ length ys → ((f : ℕ) → f < length xs → sum (sizes_of xs f) ≤ sum (sizes_of ys f)) → sum_by sum xs ≤ sum_by sum ys
sums_least [] ys len le = omega arith
sums_least (x ∷ xs) [] len le = absurd (omega (arith, len))
sums_least (x ∷ xs) (y ∷ ys) len le =
    let first = le 0 (omega arith) in
    let rest = sums_least xs ys (omega (arith, len)) (λ f lt. le (suc f) (omega (arith, lt))) in
    let s = sum_by-cons sum x xs in
    let t = sum_by-cons sum y ys in
    omega (arith, first, rest, s, t)

-- no other bytes of the code are fewer
bytes_least : (code : List CodeFn) (a b : ℕ) → HasBytes code a → HasBytes code b → a ≤ b
bytes_least code a b h k =
    let e = sums_least h.sizes k.sizes (omega (arith, one, other)) each in
    let s = h.sum in
    let t = k.sum in
    omega (arith, e, s, t)
  where
    one : length h.sizes ≡ length code
    one = h.shortest.len

    other : length k.sizes ≡ length code
    other = k.shortest.len

    each : (f : ℕ) → f < length h.sizes → sum (sizes_of h.sizes f) ≤ sum (sizes_of k.sizes f)
    each f lt =
        let own = h.shortest.each f (omega (arith, lt, one)) in
        let its = k.shortest.each f (omega (arith, lt, one)) in
        let len : length (sizes_of h.sizes f) ≡ length (sizes_of k.sizes f) = (let m = own.correct.len in let n = its.correct.len in omega (arith, m, n)) in
        sum_least (sizes_of h.sizes f) (sizes_of k.sizes f) len (own.least (sizes_of k.sizes f) its.correct)

-- ---- stack

deepest_least : (code : List CodeFn) (Root : ℕ → Type 0) (a b : ℕ) → IsDeepest code Root a → IsDeepest code Root b → a ≤ b
deepest_least code Root a b h k = subst (λ n. n ≤ b) h.met (k.bound h.root h.path h.is_root h.is_path)

-- no other bound of the stack is smaller
stack_least : (code : List CodeFn) (lines : List ℕ) (reset a b : ℕ) → IsStack code lines reset a → IsStack code lines reset b → a ≤ b
stack_least code lines reset a b h k =
    let base = deepest_least code (λ f. f ≡ reset) h.base k.base h.from_reset k.from_reset in
    let handlers = deepest_least code (Names lines) h.handlers k.handlers h.from_lines k.from_lines in
    let s = h.both in
    let t = k.both in
    omega (arith, base, handlers, s, t)

-- ---- the law

pub have_room : LaidImagesHaveRoom
have_room code lines reset ram stack words vectors image bytes fits Code need cause =
    let least = bytes_least code cause.bytes (2 * length words) cause.has bytes in
    let few = image.fits in
    let above = cause.above in
    omega (arith, least, few, above)
have_room code lines reset ram stack words vectors image bytes fits Ram need cause =
    let least = stack_least code lines reset cause.stack stack cause.is_stack fits.is_stack in
    let few = fits.fits in
    let above = cause.above in
    omega (arith, least, few, above)
