-- The files of the generated application, as names and bytes: n modules that post a task each, a module that a line enters, and
-- the configuration that wires them (own).
use Rattle.std.specs.Prelude.{ℕ, ◌+◌, List, [], ◌∷◌, ◌++◌, map, codes, decimal}
use Rattle.std.specs.List.{flat_map, range_with_len}

-- lines, a newline behind each
abbrev pub text_of : List (List ℕ) → List ℕ
text_of lines = flat_map (λ (line : List ℕ). line ++ 10 ∷ []) lines

-- the name of module k
abbrev pub module_name : ℕ → List ℕ
module_name k = codes "G" ++ (decimal k ++ codes "C")

-- ---- the configuration

abbrev pub listed : ℕ → List ℕ
listed k = module_name k ++ codes ", "

abbrev pub wire : ℕ → List ℕ
wire k = codes "  " ++ (module_name k ++ codes ".Boot -> MainC;")

unfoldable pub configuration_text : ℕ → List ℕ
configuration_text n = text_of (
    codes "configuration GenAppC { }"
    ∷ codes "implementation {"
    ∷ (codes "  components MainC, " ++ (flat_map listed (range_with_len 0 n) ++ codes "GenIrqC;"))
    ∷ (map wire (range_with_len 0 n)
    ++ codes "  GenIrqC.Boot -> MainC;"
    ∷ codes "}"
    ∷ []))

-- ---- the modules

unfoldable pub module_text : ℕ → List ℕ
module_text k = text_of (
    (codes "module " ++ (module_name k ++ codes " { uses interface Boot; }"))
    ∷ codes "implementation {"
    ∷ codes "  uint16_t n;"
    ∷ (codes "  task void t() { n += " ++ (decimal (k + 1) ++ (codes "; port_write(0x0120, n); if (n < 3 * " ++ (decimal (k + 1) ++ codes ") post t(); }"))))
    ∷ codes "  event void Boot.booted() { post t(); }"
    ∷ codes "}"
    ∷ [])

unfoldable pub interrupt_text : List ℕ
interrupt_text = text_of (
    codes "module GenIrqC { uses interface Boot; }"
    ∷ codes "implementation {"
    ∷ codes "  uint16_t c;"
    ∷ codes "  task void r() { uint16_t v; atomic v = c; port_write(0x0130, v); }"
    ∷ codes "  void rx() @atomic_hwevent() @vector(2) { c++; post r(); }"
    ∷ codes "  event void Boot.booted() { port_write(0x0100, 4); }"
    ∷ codes "}"
    ∷ [])

-- ---- all files, each with its name

abbrev pub File : Type 0
File = List ℕ × List ℕ

abbrev pub module_file : ℕ → File
module_file k = (module_name k ++ codes ".nc", module_text k)

-- the application of n modules
abbrev pub generated : ℕ → List File
generated n = (codes "GenAppC.nc", configuration_text n) ∷ (map module_file (range_with_len 0 n) ++ (codes "GenIrqC.nc", interrupt_text) ∷ [])
