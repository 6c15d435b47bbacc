-- The texts of files as the pieces that are written, one after the other.
use Rattle.std.proofs.Common.{◌≡◌, ℕ, ◌+◌, List, [], ◌∷◌, ◌++◌, map, codes, decimal, arith, sym, ap, ◌∙◌, append_assoc}
use Rattle.std.specs.List.{flat_map, range_with_len}
use Rattle.std.proofs.lemmas.List.{append-nil, map-id}
use Rattle.std.proofs.lemmas.List.Concat.{flat_map-append}
use Rattle.std.proofs.lemmas.List.FromFn.{map-range_with_len_more}
use Rattle.generated_files.specs.Generated.{File, configuration_text, generated, interrupt_text, listed, module_file, module_name, module_text, text_of, wire}

-- the numbers below n and below n + 1
range_more : (n : ℕ) → range_with_len 0 (n + 1) ≡ range_with_len 0 n ++ n ∷ []
range_more n =
    sym (map-id (range_with_len 0 (n + 1))) ∙ map-range_with_len_more (λ (k : ℕ). k) 0 n n (omega arith)
    ∙ ap (λ (ks : List ℕ). ks ++ n ∷ []) (map-id (range_with_len 0 n))

-- ---- the modules in the list of components

-- what is written of one module
pub listed_spelled : (k : ℕ) → codes "G" ++ (decimal k ++ codes "C, ") ≡ listed k
listed_spelled k = sym (simp append_assoc)

-- one module more
pub listed_more : (start text new : List ℕ) (n : ℕ) → text ≡ start ++ flat_map listed (range_with_len 0 n) → new ≡ text ++ listed n → new ≡ start ++ flat_map listed (range_with_len 0 (n + 1))
listed_more start text new n so_far step =
    let so : List ℕ = flat_map listed (range_with_len 0 n) in
    let whole : flat_map listed (range_with_len 0 (n + 1)) ≡ so ++ listed n =
    ap (flat_map listed) (range_more n) ∙ flat_map-append listed (range_with_len 0 n) (n ∷ []) ∙ ap (λ (t : List ℕ). so ++ t) (append-nil (listed n)) in
    step ∙ ap (λ (t : List ℕ). t ++ listed n) so_far
    ∙ append_assoc start so (listed n)
    ∙ ap (λ (t : List ℕ). start ++ t) (sym whole)

-- ---- the lines of the wires

-- what is written of one wire
pub wire_spelled : (k : ℕ) → codes "  G" ++ (decimal k ++ codes "C.Boot -> MainC;\n") ≡ wire k ++ 10 ∷ []
wire_spelled k = sym (simp append_assoc)

-- one wire more
pub wires_more : (start text new : List ℕ) (n : ℕ) → text ≡ start ++ text_of (map wire (range_with_len 0 n)) → new ≡ text ++ (wire n ++ 10 ∷ []) → new ≡ start ++ text_of (map wire (range_with_len 0 (n + 1)))
wires_more start text new n so_far step =
    let so : List ℕ = text_of (map wire (range_with_len 0 n)) in
    let whole : text_of (map wire (range_with_len 0 (n + 1))) ≡ so ++ (wire n ++ 10 ∷ []) =
    ap text_of (map-range_with_len_more wire 0 n n (omega arith))
    ∙ flat_map-append (λ (line : List ℕ). line ++ 10 ∷ []) (map wire (range_with_len 0 n)) (wire n ∷ [])
    ∙ ap (λ (t : List ℕ). so ++ t) (append-nil (wire n ++ 10 ∷ [])) in
    step ∙ ap (λ (t : List ℕ). t ++ (wire n ++ 10 ∷ [])) so_far
    ∙ append_assoc start so (wire n ++ 10 ∷ [])
    ∙ ap (λ (t : List ℕ). start ++ t) (sym whole)

-- ---- whole texts

-- what stands before the modules, behind them, and behind the wires
abbrev pub head : List ℕ
head = codes "configuration GenAppC { }\nimplementation {\n  components MainC, "

abbrev pub middle : List ℕ
middle = codes "GenIrqC;\n"

abbrev pub tail : List ℕ
tail = codes "  GenIrqC.Boot -> MainC;\n}\n"

regrouped : (a b : List ℕ) → (((head ++ a) ++ middle) ++ b) ++ tail ≡ head ++ (((a ++ codes "GenIrqC;") ++ 10 ∷ []) ++ (b ++ tail))
regrouped a b = simp append_assoc

-- the five pieces of the configuration are its text
pub configuration_spelled : (n : ℕ) (t0 t1 t2 t3 t4 t5 : List ℕ) → t0 ≡ [] → t1 ≡ t0 ++ head → t2 ≡ t1 ++ flat_map listed (range_with_len 0 n) → t3 ≡ t2 ++ middle
    → t4 ≡ t3 ++ text_of (map wire (range_with_len 0 n)) → t5 ≡ t4 ++ tail → t5 ≡ configuration_text n
unfolding configuration_text
configuration_spelled n t0 t1 t2 t3 t4 t5 e0 e1 e2 e3 e4 e5 =
    let a : List ℕ = flat_map listed (range_with_len 0 n) in
    let b : List ℕ = text_of (map wire (range_with_len 0 n)) in
    let one : t1 ≡ head = e1 ∙ ap (λ (t : List ℕ). t ++ head) e0 in
    let two : t2 ≡ head ++ a = e2 ∙ ap (λ (t : List ℕ). t ++ a) one in
    let three : t3 ≡ (head ++ a) ++ middle = e3 ∙ ap (λ (t : List ℕ). t ++ middle) two in
    let four : t4 ≡ ((head ++ a) ++ middle) ++ b = e4 ∙ ap (λ (t : List ℕ). t ++ b) three in
    let last : text_of (map wire (range_with_len 0 n) ++ codes "  GenIrqC.Boot -> MainC;" ∷ codes "}" ∷ []) ≡ b ++ tail =
    flat_map-append (λ (line : List ℕ). line ++ 10 ∷ []) (map wire (range_with_len 0 n)) (codes "  GenIrqC.Boot -> MainC;" ∷ codes "}" ∷ []) in
    e5 ∙ ap (λ (t : List ℕ). t ++ tail) four ∙ regrouped a b ∙ ap (λ (t : List ℕ). head ++ (((a ++ codes "GenIrqC;") ++ 10 ∷ []) ++ t)) (sym last)

-- the pieces of a module are its text, and those of its name its name
pub module_spelled : (k : ℕ) (text : List ℕ)
    → text ≡ codes "module G" ++ (decimal k ++ (codes "C { uses interface Boot; }\nimplementation {\n  uint16_t n;\n  task void t() { n += "
    ++ (decimal (k + 1) ++ (codes "; port_write(0x0120, n); if (n < 3 * " ++ (decimal (k + 1) ++ codes ") post t(); }\n  event void Boot.booted() { post t(); }\n}\n")))))
    → text ≡ module_text k
unfolding module_text
module_spelled k text e = e ∙ sym (simp append_assoc)

pub module_named : (k : ℕ) → codes "G" ++ (decimal k ++ codes "C.nc") ≡ module_name k ++ codes ".nc"
module_named k = sym (simp append_assoc)

-- ---- the files

-- one file of a module more
pub modules_more : (start files new : List File) (n : ℕ) (file : File) → files ≡ start ++ map module_file (range_with_len 0 n) → file ≡ module_file n → new ≡ files ++ file ∷ []
    → new ≡ start ++ map module_file (range_with_len 0 (n + 1))
modules_more start files new n file so_far is step =
    step ∙ ap (λ (fs : List File). fs ++ file ∷ []) so_far
    ∙ append_assoc start (map module_file (range_with_len 0 n)) (file ∷ [])
    ∙ ap (λ (f : File). start ++ (map module_file (range_with_len 0 n) ++ f ∷ [])) is
    ∙ ap (λ (fs : List File). start ++ fs) (sym (map-range_with_len_more module_file 0 n n (omega arith)))

-- configuration, modules and handler are all files
pub all_files : (n : ℕ) (v0 v1 v2 v3 : List File) (first last : File) → v0 ≡ [] → first ≡ (codes "GenAppC.nc", configuration_text n) → v1 ≡ v0 ++ first ∷ []
    → v2 ≡ v1 ++ map module_file (range_with_len 0 n) → last ≡ (codes "GenIrqC.nc", interrupt_text) → v3 ≡ v2 ++ last ∷ [] → v3 ≡ generated n
all_files n v0 v1 v2 v3 first last e0 is_first e1 e2 is_last e3 =
    let modules : List File = map module_file (range_with_len 0 n) in
    let one : v1 ≡ first ∷ [] = e1 ∙ ap (λ (fs : List File). fs ++ first ∷ []) e0 in
    let two : v2 ≡ first ∷ modules = e2 ∙ ap (λ (fs : List File). fs ++ modules) one in
    e3 ∙ ap (λ (fs : List File). fs ++ last ∷ []) two
    ∙ ap (λ (f : File). f ∷ (modules ++ last ∷ [])) is_first
    ∙ ap (λ (f : File). (codes "GenAppC.nc", configuration_text n) ∷ (modules ++ f ∷ [])) is_last
