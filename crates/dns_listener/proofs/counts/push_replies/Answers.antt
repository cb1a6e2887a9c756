use Rattle.std.proofs.Common.{◌++◌, string_bytes}
use Rattle.dns_listener.specs.Counting.{reply_lines}
use Rattle.dns_listener.proofs.Told.{told_more}
use Rattle.dns_listener.proofs.counts.push_replies.Goals as goal

pub each-preserved : goal.each-preserved
each-preserved c =
    let rs = c.args.replies.now in
    told_more rs c.each.reply-index _ (string_bytes c.each.text) (string_bytes c.push_reply.new.text) (string_bytes c.args.text.now ++ reply_lines rs)
    c.each-test.true c.in_ok-push_reply.ensures c.each.invariant
