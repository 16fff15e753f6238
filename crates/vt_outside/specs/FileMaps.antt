-- The bytes of each name in a map from names to bytes.
use Rattle.std.specs.Prelude.{ℕ, option_map, Vec, String}
use Rattle.std.specs.BTreeMap.{BTreeMap, get_by_text}
use Rattle.std.specs.declared.alloc.Global.{Global}
use Rattle.vt_outside.specs.Files.{Files}

-- what each name holds in the map
abbrev pub held_in_map : BTreeMap (String Global) (Vec ℕ Global) → Files
held_in_map entries = λ q. option_map (λ v. v.items) (get_by_text entries q)
