-- A zone of two names of RFC 5155, appendix A, and their NSEC3s: a chain that is whole, of a zone below the root.
use Rattle.std.specs.Prelude.{ℕ, false, List, [], ◌∷◌, codes}
use Rattle.dns_name.specs.declared.serial.Serial.{Serial}
use Rattle.dns_message.specs.declared.rdata.RecordData.{RecordData}
use Rattle.dns_message.specs.declared.rdata.RecordData.TheVariants.{A, Named, Soa}
use Rattle.dns_message.specs.declared.record.Record.{Record}
use Rattle.dns_zone.specs.Owned.{ZoneState}
use Rattle.dns_denial.specs.Nsec3.{Hashing, IsWhole3, Nsec3State}

abbrev pub apex_name : List (List ℕ)
apex_name = codes "example" ∷ []

abbrev pub host_name : List (List ℕ)
host_name = codes "ns1" ∷ codes "example" ∷ []

abbrev pub record_of_example : List (List ℕ) → RecordData → Record
record_of_example owner rdata = record { owner = owner; class = 1; ttl = 3600; rdata = rdata }

abbrev pub first_serial : Serial
first_serial = record { 0 = 1 }

abbrev pub example_zone : ZoneState
example_zone = record {
  apex = apex_name;
  records = record_of_example apex_name (Soa host_name host_name first_serial 3600 300 3600000 3600)
      ∷ record_of_example apex_name (Named 2 host_name)
      ∷ record_of_example host_name (A (192 ∷ 0 ∷ 2 ∷ 1 ∷ []))
      ∷ [];
}

-- the salt aabbccdd and 12 iterations
abbrev pub example_hashing : Hashing
example_hashing = record { salt = 170 ∷ 187 ∷ 204 ∷ 221 ∷ []; iterations = 12 }

-- 0p9mhaveqvm6t7vbl5lop2u3t2rp3tom
abbrev pub apex_hash : List ℕ
apex_hash = 6 ∷ 83 ∷ 104 ∷ 171 ∷ 238 ∷ 215 ∷ 236 ∷ 110 ∷ 159 ∷ 235 ∷ 169 ∷ 107 ∷ 140 ∷ 139 ∷ 195 ∷ 232 ∷ 183 ∷ 145 ∷ 247 ∷ 22 ∷ []

-- 2t7b4g4vsa5smi47k61mv5bv1a22bojr
abbrev pub host_hash : List ℕ
host_hash = 23 ∷ 78 ∷ 178 ∷ 64 ∷ 159 ∷ 226 ∷ 139 ∷ 203 ∷ 72 ∷ 135 ∷ 161 ∷ 131 ∷ 111 ∷ 149 ∷ 127 ∷ 10 ∷ 132 ∷ 37 ∷ 226 ∷ 123 ∷ []

abbrev pub example_chain : List Nsec3State
example_chain = record { hash = apex_hash; opt_out = false; next = host_hash; types = 2 ∷ 6 ∷ [] }
    ∷ record { hash = host_hash; opt_out = false; next = apex_hash; types = 1 ∷ [] }
    ∷ []

abbrev pub ExampleChainIsWhole : Type 0
ExampleChainIsWhole = IsWhole3 example_zone example_hashing example_chain
