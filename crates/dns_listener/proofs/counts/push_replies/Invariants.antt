use Rattle.std.proofs.Common.{◌≡◌, ◌++◌, drop, string_bytes}
use Rattle.dns_listener.specs.Counting.{reply_lines}
use Rattle.dns_listener.proofs.counts.push_replies.Given as goal

abbrev pub invariant-each : goal.invariant-each
invariant-each l =
    string_bytes l.text ++ reply_lines (drop l.reply-index l.replies) ≡ string_bytes l.fn.text ++ reply_lines l.replies
