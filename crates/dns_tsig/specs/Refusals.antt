-- The TSIG of a reply that refuses a request (RFC 8945, sections 5.2.3 and 5.3.2).
use Rattle.std.specs.Prelude.{ℕ, List, []}
use Rattle.dns_message.specs.Sections.{field}
use Rattle.dns_tsig.specs.declared.error.TsigError.{TsigError}
use Rattle.dns_tsig.specs.declared.error.TsigError.TheVariants.{FormErr, BadKey, BadSig, BadTime, BadTrunc}
use Rattle.dns_tsig.specs.declared.signing.TsigFields.{TsigFields}
use Rattle.dns_tsig.specs.Codes.{error_code}
use Rattle.dns_tsig.specs.Digested.{digested}
use Rattle.dns_tsig.specs.Keys.{KeyParts, mac_of}
use Rattle.dns_tsig.specs.Signed.{tsig_by}
use Rattle.dns_tsig.specs.Tsig.{Tsig, six}

-- at BADTIME the time and the fudge of the request, so that its sender can verify the reply; else those of the server
abbrev pub refusal_stamp : TsigError → ℕ → ℕ → Tsig → TsigFields
refusal_stamp BadTime now fudge t = record { time = t.time; fudge = t.fudge; error = 18 }
refusal_stamp FormErr now fudge t = record { time = now; fudge = fudge; error = 0 }
refusal_stamp BadKey now fudge t = record { time = now; fudge = fudge; error = 17 }
refusal_stamp BadSig now fudge t = record { time = now; fudge = fudge; error = 16 }
refusal_stamp BadTrunc now fudge t = record { time = now; fudge = fudge; error = 22 }

-- at BADTIME the time of the server
abbrev pub other_octets : TsigError → List ℕ → List ℕ
other_octets BadTime time = time
other_octets FormErr time = []
other_octets BadKey time = []
other_octets BadSig time = []
other_octets BadTrunc time = []

-- if the key isn't known or the MAC is wrong: the names of the request, and no MAC
abbrev pub unsigned_by : TsigFields → Tsig → List ℕ → List ℕ → Tsig
unsigned_by s t reply other = record {
  key = t.key;
  algorithm = t.algorithm;
  time = s.time;
  fudge = s.fudge;
  mac = [];
  original_id = field 0 reply;
  error = s.error;
  other = other;
}

abbrev pub unsigned_refusal : TsigError → ℕ → ℕ → Tsig → List ℕ → Tsig
unsigned_refusal e now fudge t reply = unsigned_by (refusal_stamp e now fudge t) t reply (other_octets e (six now))

-- if the time or the size of the MAC is refused: signed under the key, after the MAC of the request
abbrev pub signed_by_key : KeyParts → TsigFields → List ℕ → List ℕ → List ℕ → Tsig
signed_by_key k s prior reply other = tsig_by k s reply other (mac_of k (digested prior reply (tsig_by k s reply other [])))

abbrev pub signed_refusal : KeyParts → TsigError → ℕ → ℕ → Tsig → List ℕ → Tsig
signed_refusal k e now fudge t reply = signed_by_key k (refusal_stamp e now fudge t) t.mac reply (other_octets e (six now))
