-- What is read of a request, once, before anything is decided about it: of its header (RFC 1035, section 4.1.1), and of its OPT
-- items (RFC 6891, section 6.1.1) with the first keepalive (RFC 7828) and the first cookie (RFC 7873).
use Rattle.std.specs.Prelude.{ℕ, Bool, true, false, List, [], ◌∷◌, Option, Some, None, Result, Ok, Err}
use Rattle.dns_name.specs.declared.error.ParseError.{ParseError}
use Rattle.dns_base.specs.Header.{header_of}
use Rattle.dns_base.specs.Sections.{counts_of}
use Rattle.dns_cookie.specs.Cookies.{Cookie}
use Rattle.dns_replies.specs.OptData.{for_code}
use Rattle.dns_replies.specs.CookieData.{cookie_data}
use Rattle.dns_replies.specs.Items.{first_ok, items_of}
use Rattle.dns_replies.specs.OptRecords.{OptState}
use Rattle.dns_replies.specs.Timers.{keepalive_data}
use Rattle.dns_service.specs.OptItems.{opt_items}
use Rattle.dns_service.specs.declared.asked.Asked.{Asked}
use Rattle.dns_service.specs.declared.asked.AskedOpt.{AskedOpt}
use Rattle.dns_service.specs.declared.asked.AskedOpt.TheVariants.{NoItem, One, Faulty}
use Rattle.dns_service.specs.declared.asked.AskedRecord.{AskedRecord}
use Rattle.dns_service.specs.declared.asked.AskedCookie.{AskedCookie}
use Rattle.dns_service.specs.declared.asked.AskedCookie.TheVariants.{NoCookie, Unreadable, Sent}

-- a keepalive has a timeout, which a client may not send
abbrev pub has_timeout : Option (Option ℕ) → Bool
has_timeout None = false
has_timeout (Some None) = false
has_timeout (Some (Some n)) = true

-- the first keepalive of an option list has a timeout
abbrev pub sends_timeout : List ℕ → Bool
sends_timeout d = has_timeout (first_ok (items_of (for_code 11 keepalive_data) d))

-- the first cookie of some
abbrev pub first_cookie : List (Result Cookie ParseError) → AskedCookie
first_cookie [] = NoCookie
first_cookie (Ok c ∷ more) = Sent c
first_cookie (Err e ∷ more) = Unreadable

-- the first cookie of an option list
abbrev pub cookie_in : List ℕ → AskedCookie
cookie_in d = first_cookie (items_of (for_code 10 cookie_data) d)

-- what is kept of an OPT record
abbrev pub asked_record : OptState → AskedRecord
asked_record s = record {
  size = s.head.size;
  version = s.head.version;
  sends_timeout = sends_timeout s.options;
  cookie = cookie_in s.options;
}

-- none, one record, or what is refused: two or more items, or a first one that is no record. The first record is kept.
abbrev pub behind_record : AskedRecord → List (Option OptState) → AskedOpt
behind_record h [] = One h
behind_record h (x ∷ more) = Faulty (Some h)

abbrev pub asked_opt : List (Option OptState) → AskedOpt
asked_opt [] = NoItem
asked_opt (None ∷ more) = Faulty None
asked_opt (Some s ∷ more) = behind_record (asked_record s) more

-- what is asked by octets that are a message
abbrev pub asked_of : List ℕ → Asked
asked_of o = record {
  id = (header_of o).id;
  rd = (header_of o).rd;
  opcode = (header_of o).opcode;
  qdcount = (counts_of o).qdcount;
  opt = asked_opt (opt_items o);
}

-- what is kept of the first item, if it is a record
abbrev pub first_asked : AskedOpt → Option AskedRecord
first_asked NoItem = None
first_asked (One h) = Some h
first_asked (Faulty first) = first

-- the first cookie of that record
abbrev pub asked_cookie : AskedOpt → AskedCookie
asked_cookie NoItem = NoCookie
asked_cookie (One h) = h.cookie
asked_cookie (Faulty None) = NoCookie
asked_cookie (Faulty (Some h)) = h.cookie

-- the greatest payload that it states, none if there is no record
abbrev pub client_size : AskedOpt → Option ℕ
client_size NoItem = None
client_size (One h) = Some h.size
client_size (Faulty None) = None
client_size (Faulty (Some h)) = Some h.size

-- there is an item
abbrev pub has_item : AskedOpt → Bool
has_item NoItem = false
has_item (One h) = true
has_item (Faulty first) = true
