-- That the elements and fields that an expression names have sizes (own).
use Rattle.std.specs.Prelude.{⊤, ◌<◌, List, length}
use Rattle.nesc_core.specs.Plain.{Ty, Expr, Exprs, no_exprs, more_exprs, Place, Program}
use Rattle.nesc_core.specs.Plain as plain
use Rattle.nesc_core.specs.PlaceTypes.{place_type, element_of, fields_of}
use Rattle.nesc_core.specs.Size.{IsSized}

-- in a body with these types of locals
module _ (p : Program) (types : List Ty) where
  abbrev mutual
    pub PlaceHasSizes : Place → Type 0
    PlaceHasSizes (plain.object k) = ⊤
    PlaceHasSizes (plain.local x) = ⊤
    PlaceHasSizes (plain.deref e t) = HasSizes e
    PlaceHasSizes (plain.index place e) = IsSized p.structs (element_of (place_type p types place)) × PlaceHasSizes place × HasSizes e
    PlaceHasSizes (plain.field place k) =
        IsSized p.structs (place_type p types place) × (k < length (fields_of p.structs (place_type p types place))) × PlaceHasSizes place

    pub HasSizes : Expr → Type 0
    HasSizes (plain.const t x) = ⊤
    HasSizes plain.null = ⊤
    HasSizes (plain.read place at) = PlaceHasSizes place
    HasSizes (plain.addr place) = PlaceHasSizes place
    HasSizes (plain.un op t e) = HasSizes e
    HasSizes (plain.bin op t a b) = HasSizes a × HasSizes b
    HasSizes (plain.convert t e) = HasSizes e
    HasSizes (plain.offset a b size) = HasSizes a × HasSizes b
    HasSizes (plain.distance a b size) = HasSizes a × HasSizes b
    HasSizes (plain.both a b) = HasSizes a × HasSizes b
    HasSizes (plain.either a b) = HasSizes a × HasSizes b
    HasSizes (plain.choice test a b) = HasSizes test × HasSizes a × HasSizes b
    HasSizes (plain.assign place e at) = PlaceHasSizes place × HasSizes e
    HasSizes (plain.update place op t e gives_old at) = PlaceHasSizes place × HasSizes e
    HasSizes (plain.call f arguments at) = AllHaveSizes arguments
    HasSizes (plain.post k) = ⊤
    HasSizes (plain.port_in port) = ⊤
    HasSizes (plain.port_out port e) = HasSizes e
    HasSizes (plain.comma a b) = HasSizes a × HasSizes b

    pub AllHaveSizes : Exprs → Type 0
    AllHaveSizes no_exprs = ⊤
    AllHaveSizes (more_exprs e rest) = HasSizes e × AllHaveSizes rest
