-- What a client makes of the signed replies to its request.
use Rattle.std.specs.Prelude.{ℕ, ◌≡◌, ◌+◌, ◌≤◌, false, List, [], map, Result, Ok}
use Rattle.dns_hmac.specs.Digests.{size_of}
use Rattle.dns_name.specs.Labels.{IsName}
use Rattle.dns_base.specs.Msg.{Msg}
use Rattle.dns_base.specs.Wire.{wire}
use Rattle.dns_service.specs.Cut.{cut}
use Rattle.dns_tsig.specs.declared.error.TsigError.{TsigError}
use Rattle.dns_tsig.specs.Sending.{IsTimely, chain_sent}
use Rattle.dns_tsig.specs.Signed.{tsig_by}
use Rattle.dns_tsig.specs.Streams.{Chain, behind_all, chain_behind}
use Rattle.dns_tsig.specs.Verified.{Verifies}
use Rattle.dns_signing.specs.Room.{tsig_size}
use Rattle.dns_signing.specs.SignedReplies.{SignerParts, code_of, signed_message, signed_replies, stamped}

-- the room for a reply has the header and an OPT record at least. With its TSIG the reply is no longer than a message may be
pub record HasRoom (p : SignerParts) : Type 0 where
  pub least : 23 ≤ p.room
  pub most : p.room + tsig_size p.key ≤ 65535

-- a reply is cut to its room and signed after all its records
abbrev pub signed_cut : SignerParts → Msg → Msg
signed_cut p m = signed_message p (code_of p (cut p.room m)) (cut p.room m)

-- before the first reply, under a key that has a name, with a clock that agrees within the fudge
pub record IsAtClient (p : SignerParts) (now : ℕ) : Type 0 where
  pub first : p.begun ≡ false
  pub named : IsName p.key.name
  pub timely : IsTimely now p.stamp

-- a reply is verified after the request's MAC, and comes back as it was before it was signed
abbrev pub VerifiesFirst : SignerParts → ℕ → ℕ → Msg → Type 0
VerifiesFirst p least now m =
    let mac = code_of p m in
    Verifies p.key least now p.prior (wire m) (wire (signed_message p mac m)) (tsig_by p.key p.stamp (wire m) [] mac)

-- replies are taken one after the other, each MAC whole
abbrev pub client_takes : SignerParts → ℕ → List Msg → Result Chain TsigError
client_takes p now replies = behind_all p.key (size_of p.key.algorithm) now (Ok (chain_behind p.prior))
    (map wire (signed_replies p replies))

abbrev pub chain_after : SignerParts → List Msg → Chain
chain_after p replies = chain_sent p.key (chain_behind p.prior) (map (stamped p) replies)
