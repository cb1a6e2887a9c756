-- The TSIG record of a reply that refuses a request, made piece by piece.
use Rattle.std.proofs.Common.{◌≡◌, ℕ, List, [], ◌++◌, refl}
use Rattle.dns_name.specs.Labels.{spell}
use Rattle.dns_message.specs.Msg.{ResourceRecord}
use Rattle.dns_message.specs.Sections.{field}
use Rattle.dns_tsig.specs.declared.signing.TsigFields.{TsigFields}
use Rattle.dns_tsig.specs.Digested.{digested}
use Rattle.dns_tsig.specs.Keys.{KeyParts, algorithm_name, mac_of}
use Rattle.dns_tsig.specs.Refusals.{signed_by_key}
use Rattle.dns_tsig.specs.Signed.{data_behind, tsig_by}
use Rattle.dns_tsig.specs.Tsig.{tsig_record}

abbrev pub pieces : List (List ℕ) → List ℕ → TsigFields → ℕ → List ℕ → List ℕ → ResourceRecord
pieces owner a s id mac o = record { owner = owner; rtype = 250; class = 255; ttl = 0; rdata = a ++ data_behind s id mac o }

pub signed_pieces : (k : KeyParts) (s t : TsigFields) (prior before reply o other mac a : List ℕ) (owner : List (List ℕ)) (id : ℕ) →
    s ≡ t → prior ≡ before → o ≡ other → owner ≡ k.name → a ≡ spell (algorithm_name k.algorithm) → id ≡ field 0 reply →
    mac ≡ mac_of k (digested prior reply (tsig_by k s reply o [])) → pieces owner a s id mac o ≡ tsig_record (signed_by_key k t before reply other)
signed_pieces k s t prior before reply o other mac a owner id stamp mac_before rest named algorithm number code = rw (code, named, algorithm, number, mac_before, stamp, rest) refl
