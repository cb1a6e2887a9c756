-- An OPT record by its fields: the root owns it, and its class is the sender's payload size (RFC 6891, section 6.1.2).
use Rattle.std.specs.Prelude.{ℕ, List, [], ◌∷◌, ◌++◌}
use Rattle.dns_name.specs.Place.{two, four}
use Rattle.dns_base.specs.Msg.{ResourceRecord}

abbrev pub opt_resource : ℕ → ℕ → List ℕ → ResourceRecord
opt_resource size ttl options = record { owner = []; rtype = 41; class = size; ttl = ttl; rdata = options }

-- the octets before the options
abbrev pub opt_head : ℕ → ℕ → ℕ → List ℕ
opt_head size ttl len = 0 ∷ 0 ∷ 41 ∷ (two size ++ (four ttl ++ two len))
