-- NOTIFYs that are signed, and the answers to them.
use Rattle.std.proofs.Common.{◌≡◌, ℕ, List, [], Option, Some, Ok, subst, sym}
use Rattle.dns_hmac.specs.Macs.{octets_of}
use Rattle.dns_notifier.specs.Signings.{IsSigned, IsVerified, SigningParts}
use Rattle.dns_peer_keys.specs.Exchanges.{GivesSigned, reply_of, request_stamp}
use Rattle.dns_peer_keys.specs.declared.request.SignedRequest.{SignedRequest}
use Rattle.dns_tsig.specs.Found.{found}
use Rattle.dns_tsig.specs.Keys.{KeyParts}
use Rattle.dns_tsig.specs.Signed.{Signs}

pub is_signed : (before after : SigningParts) (secs : ℕ) (message m : List ℕ) (key : KeyParts) (given : Option SignedRequest) (r : SignedRequest) → key ≡ before.key → after.key ≡ before.key → after.mac ≡ Some (octets_of r.mac) → m ≡ message → given ≡ Some r → GivesSigned key secs m given → IsSigned before.key secs message r.octets.items after
is_signed before after secs message m key given r key_is kept known same is gives =
    let at_key : GivesSigned key secs m (Some r) = subst (λ (o : Option SignedRequest). GivesSigned key secs m o) is gives in
    let at_own : Signs before.key [] (request_stamp secs) [] m r.octets.items (octets_of r.mac) =
    subst (λ (k : KeyParts). Signs k [] (request_stamp secs) [] m r.octets.items (octets_of r.mac)) key_is at_key in
    record {
      kept = kept;
      code = octets_of r.mac;
      known = known;
      signed = subst (λ (x : List ℕ). Signs before.key [] (request_stamp secs) [] x r.octets.items (octets_of r.mac)) same at_own;
    }

pub is_verified : (s : SigningParts) (secs : ℕ) (given answer code m reply : List ℕ) (key : KeyParts) → key ≡ s.key → s.mac ≡ Some code → m ≡ given → reply_of key code secs (found m) ≡ Ok reply → answer ≡ reply → IsVerified s secs given answer
is_verified s secs given answer code m reply key key_is known same taken is =
    let at_own : reply_of s.key code secs (found m) ≡ Ok reply = subst (λ (k : KeyParts). reply_of k code secs (found m) ≡ Ok reply) key_is taken in
    let of_given : reply_of s.key code secs (found given) ≡ Ok reply =
    subst (λ (x : List ℕ). reply_of s.key code secs (found x) ≡ Ok reply) same at_own in
    record {
      code = code;
      sent = known;
      taken = subst (λ (a : List ℕ). reply_of s.key code secs (found given) ≡ Ok a) (sym is) of_given;
    }
