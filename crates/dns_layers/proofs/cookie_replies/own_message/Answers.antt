-- A new cookie is made at the time of the answer.
use Rattle.std.proofs.Common.{◌≡◌, ℕ, List, Result, IfOk, subst}
use Rattle.dns_base.specs.Built.{Built}
use Rattle.dns_cookie.specs.Cookies.{Cookie}
use Rattle.dns_layers.specs.Cookies.{fresh_reply}
use Rattle.dns_layers.proofs.cookie_replies.own_message.Goals as goal

with_made : {E : Type 0} (o : List ℕ) (code : ℕ) (x y : Cookie) (r : Result Built E) → x ≡ y → IfOk r (λ (b : Built). b.message ≡ fresh_reply o code x) → IfOk r (λ (b : Built). b.message ≡ fresh_reply o code y)
with_made o code x y r e h = subst (λ (z : Cookie). IfOk r (λ (b : Built). b.message ≡ fresh_reply o code z)) e h

pub returns-in-Fresh : goal.returns-in-Fresh
returns-in-Fresh c = rw c.in-Fresh.is (with_made c.args.request.now c.in-Fresh.rcode _ _ c.fresh_reply.result c.create_response-made.ensures c.fresh_reply.ensures)
