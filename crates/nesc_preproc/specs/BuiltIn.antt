-- The texts that are built in; files are not asked for them (own; nesC 1.3 Reference and TEP 107 for what they declare).
use Rattle.std.specs.Prelude.{ℕ, Bool, true, false, List, codes, Option, Some, None}
use Rattle.nesc_macros.specs.Invocation.{Name, same_name}

unfoldable pub prelude : List ℕ
prelude = codes "typedef char int8_t;            typedef unsigned char uint8_t;\ntypedef int int16_t;            typedef unsigned int uint16_t;\ntypedef long int32_t;           typedef unsigned long uint32_t;\ntypedef uint8_t bool;           enum { FALSE = 0, TRUE = 1 };\ntypedef uint8_t error_t @combine(\"ecombine\");\nenum { SUCCESS = 0, FAIL = 1, ESIZE = 2, ECANCEL = 3, EOFF = 4, EBUSY = 5, EINVAL = 6,\n       ERETRY = 7, ERESERVE = 8, EALREADY = 9, ENOMEM = 10, ENOACK = 11 };\nerror_t ecombine(error_t r1, error_t r2) { return r1 == r2 ? r1 : FAIL; }\n"

unfoldable pub boot_interface : List ℕ
boot_interface = codes "interface Boot { event void booted(); }\n"

unfoldable pub init_interface : List ℕ
init_interface = codes "interface Init { command error_t init(); }\n"

unfoldable pub main_component : List ℕ
main_component = codes "module MainC { provides interface Boot; uses interface Init as SoftwareInit; }\nimplementation {\n  default command error_t SoftwareInit.init() { return SUCCESS; }\n  default event void Boot.booted() { }\n  void boot() @spontaneous() {\n    atomic { call SoftwareInit.init(); }\n    signal Boot.booted();\n  }\n}\n"

-- the text of this name, where it is built in
unfoldable pub built_in_text : Name → Option (List ℕ)
built_in_text name =
    elim (same_name name (codes "prelude")) [
      | true ↦ Some prelude
      | false ↦ elim (same_name name (codes "Boot.nc")) [
        | true ↦ Some boot_interface
        | false ↦ elim (same_name name (codes "Init.nc")) [
          | true ↦ Some init_interface
          | false ↦ elim (same_name name (codes "MainC.nc")) [ true ↦ Some main_component | false ↦ None ]
        ]
      ]
    ]

unfoldable pub is_built_in : Name → Bool
is_built_in name = elim (built_in_text name) [ Some _ ↦ true | None ↦ false ]
