use Rattle.std.proofs.Common.{◌≡◌, take, map, fold, flat_map}
use Rattle.std.specs.Char.{to_ascii_lowercase}
use Rattle.std.specs.Hash as fed
use Rattle.dns_name.proofs.name_cmp.hash_name.Given as goal

abbrev pub invariant-octets : goal.invariant-octets
invariant-octets g l = l.state ≡ fold g.H.Hasher.write l.initial.state (flat_map fed.u8 (map to_ascii_lowercase (take l.octet-index l.octets)))
