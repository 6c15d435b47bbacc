-- Where reading stops for want of levels.
use Rattle.std.specs.Prelude.{◌≡◌, Bool, true, false, List}
use Rattle.nm_base.specs.declared.token.Token.{Token}
use Rattle.nesc_parse_types.specs.declared.stop.Stop.{Stop}
use Rattle.nesc_parse_types.specs.declared.stop.Stop.TheVariants as rust

-- too deep exactly where a text of what is wanted would begin
abbrev pub StopsAt : Stop → Bool → List Token → Type 0
StopsAt rust.Memory begins ts = ⊥
StopsAt (rust.Syntax us) begins ts = (begins ≡ false) × (us.now ≡ ts)
StopsAt (rust.Deep us) begins ts = (begins ≡ true) × (us.now ≡ ts)
