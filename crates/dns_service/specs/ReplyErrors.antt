-- A refused push and a refused reading as the refusal of a reply (RFC 1035, section 4.1.1): running out of memory stays apart.
use Rattle.dns_name.specs.declared.error.ParseError.{ParseError}
use Rattle.dns_name.specs.declared.error.ParseError.TheVariants.{ShortInput, Form, OutOfMemory as NoMemoryToParse}
use Rattle.dns_base.specs.declared.error.PushError.{PushError}
use Rattle.dns_base.specs.declared.error.PushError.TheVariants.{ShortBuf, OutOfMemory as NoMemoryToPush}
use Rattle.dns_service.specs.declared.reply_error.ReplyError.{ReplyError}
use Rattle.dns_service.specs.declared.reply_error.ReplyError.TheVariants.{Service, OutOfMemory as NoMemory}
use Rattle.dns_service.specs.declared.service.ServiceError.TheVariants.{FormatError, InternalError}

-- a reply that has no room is an internal error
abbrev pub push_refused : PushError → ReplyError
push_refused ShortBuf = Service InternalError
push_refused NoMemoryToPush = NoMemory

-- what can't be read is a format error
abbrev pub parse_refused : ParseError → ReplyError
parse_refused ShortInput = Service FormatError
parse_refused (Form reason) = Service FormatError
parse_refused NoMemoryToParse = NoMemory
