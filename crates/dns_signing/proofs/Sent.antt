-- Replies that are sent one after the other.
use Rattle.std.proofs.Common.{◌≡◌, ℕ, zero, suc, Bool, true, false, List, [], ◌∷◌, map, Some, None, refl, ap, ◌∙◌}
use Rattle.std.specs.List.{AllByRecursion}
use Rattle.dns_base.specs.Msg.{IsMessage, Msg}
use Rattle.dns_base.specs.Wire.{wire}
use Rattle.dns_service.specs.Cut.{cut}
use Rattle.dns_service.specs.declared.service.Polled.TheVariants.{Ready}
use Rattle.dns_tsig.specs.Messages.{IsBare}
use Rattle.dns_tsig.specs.Sending.{IsStream, IsTimely, sent}
use Rattle.dns_tsig.specs.Signed.{tsig_by, with_tsig}
use Rattle.dns_tsig.specs.Streams.{chain_at}
use Rattle.dns_signing.specs.Clients.{HasRoom}
use Rattle.dns_signing.specs.SignedReplies.{SignerParts, behind_answer, behind_reply, code_of, given, signed, signed_answers, signed_replies, stamped}
use Rattle.dns_signing.proofs.Cutting.{cut_bare}
use Rattle.dns_signing.proofs.Rooms.{is_signed}
use Rattle.dns_signing.proofs.Verifying.{wire_more}

-- the octets of the replies are those of a stream whose every message is signed
pub sent_as : (p : SignerParts) (ms : List Msg) → HasRoom p → map wire (signed_replies p ms) ≡ sent p.key (chain_at p.prior p.begun) (map (stamped p) ms)
sent_as p [] h = refl
sent_as p (m ∷ ms) h =
    let c = cut p.room m in
    let q = behind_reply p (Some m) in
    let t = tsig_by p.key p.stamp (wire c) [] (code_of p c) in
    let head : wire (signed p m) ≡ with_tsig (wire c) t = ap wire (is_signed p m h) ∙ wire_more c t in
    ap (λ (o : List ℕ). o ∷ map wire (signed_replies q ms)) head ∙ ap (λ (xs : List (List ℕ)). with_tsig (wire c) t ∷ xs) (sent_as q ms (record { least = h.least; most = h.most }))

module _ (lawful : (n : ℕ) (m : Msg) → IsMessage m → IsMessage (cut n m)) where
  cut_is_bare : (n : ℕ) (m : Msg) → IsBare m → IsBare (cut n m)
  cut_is_bare n m b = record { message = lawful n m b.message; none = cut_bare n m b.none }

  pub is_stream : (p : SignerParts) (now : ℕ) (b : Bool) (ms : List Msg) → IsTimely now p.stamp → AllByRecursion IsBare ms → IsStream now b 0 (map (stamped p) ms)
  is_stream p now b [] t h = tt
  is_stream p now b (m ∷ ms) t h = (cut_is_bare p.room m h.0, t, is_stream p now true ms t h.1)

-- the answers of a stream of replies are those replies
pub as_given : (p : SignerParts) (ms : List Msg) (k : ℕ) → p.ended ≡ false → signed_answers (given ms) p k ≡ given (signed_replies p ms) k
as_given p [] zero e = rw e refl
as_given p [] (suc k) e =
    let kept : behind_answer p (Ready None) ≡ p = rw e refl in
    ap (λ (q : SignerParts). signed_answers (given []) q k) kept ∙ as_given p [] k e
as_given p (m ∷ ms) zero e = rw e refl
as_given p (m ∷ ms) (suc k) e =
    let kept : behind_answer p (given (m ∷ ms) 0) ≡ behind_reply p (Some m) = rw e refl in
    ap (λ (q : SignerParts). signed_answers (given ms) q k) kept ∙ as_given (behind_reply p (Some m)) ms k e
