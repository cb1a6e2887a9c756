-- The refusals of replies.
use Rattle.std.proofs.Common.{◌≡◌, ℕ, List, Option, Some, Result, Err, ap, subst, sym}
use Rattle.dns_name.specs.declared.error.ParseError.{ParseError}
use Rattle.dns_name.specs.declared.error.ParseError.TheVariants.{ShortInput, Form, OutOfMemory as NoMemory}
use Rattle.dns_base.specs.Msg.{Msg}
use Rattle.dns_base.specs.Standing.{GivesParsed}
use Rattle.dns_opt.specs.OptRecords.{OptState, opt_of}
use Rattle.dns_service.specs.ReplyErrors.{parse_refused}
use Rattle.dns_route.specs.declared.kept.KeptKinds.TheVariants.{SubnetsAndErrors}
use Rattle.dns_route.specs.KeptOptions.{kept_opt}
use Rattle.dns_route.specs.ReplyMessage.{BeginsReply, Composes, ReplyState, reply_by, reply_read, reply_with, reply_with_opt}

-- a copy that is refused is so as a reply
pub copy_refused : (opt : Option OptState) (read : Result Msg ParseError) (e : ParseError) → GivesParsed (Err e) read → Composes (reply_with_opt opt read) (Err (parse_refused e))
copy_refused opt read ShortInput g = (ShortInput, ap (reply_with_opt opt) g)
copy_refused opt read (Form f) g = (Form f, ap (reply_with_opt opt) g)
copy_refused opt read NoMemory g = tt

-- what is refused isn't begun
refused_so : (read : Result ReplyState ParseError) (e : ParseError) → GivesParsed (Err e) read → BeginsReply (λ (r : ReplyState). r) read (Err (parse_refused e))
refused_so read ShortInput g = (ShortInput, g)
refused_so read (Form f) g = (Form f, g)
refused_so read NoMemory g = tt

-- options that are refused are so as a reply
pub options_refused : (o : List ℕ) (s : OptState) (e : ParseError) → opt_of o ≡ Some s → GivesParsed (Err e) (reply_with o (kept_opt s.head.size SubnetsAndErrors s)) → BeginsReply (λ (r : ReplyState). r) (reply_read o) (Err (parse_refused e))
options_refused o s e h g = subst (λ r. BeginsReply (λ (x : ReplyState). x) r (Err (parse_refused e))) (sym (ap (reply_by o) h)) (refused_so (reply_with o (kept_opt s.head.size SubnetsAndErrors s)) e g)
