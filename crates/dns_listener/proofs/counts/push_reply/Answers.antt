use Rattle.std.proofs.Common.{◌≡◌, ◌∙◌, ◌++◌, ℕ, List, append_assoc, codes, decimal, string_bytes}
use Rattle.dns_listener.proofs.Told.{if_ok}
use Rattle.dns_listener.proofs.counts.push_reply.Goals as goal

joined : (text a b c d e f g more : List ℕ) → more ≡ text ++ (a ++ (b ++ (c ++ (d ++ (e ++ (f ++ g)))))) → more ≡ text ++ (a ++ b ++ c ++ d ++ e ++ f ++ g)
joined text a b c d e f g more p = p ∙ simp append_assoc

pub returns : goal.returns
returns c =
    let r = c.args.reply.now in
    if_ok c.writeln.result (joined (string_bytes c.args.text.now)
    (codes "replies ") r.code.now (codes " ") (decimal r.udp) (codes " over UDP, ") (decimal r.tcp) (codes " over TCP\n")
    (string_bytes c.writeln.new.self)) c.writeln.ensures.bytes
