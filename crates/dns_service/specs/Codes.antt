-- Numbers of the registries: response codes (RFC 1035, section 4.1.1; RFC 2136, section 1.3; RFC 6891, section 9; RFC 7873,
-- section 8), opcodes (RFC 1035, section 4.1.1; RFC 1996, section 3.1), a type of records (RFC 1035, section 3.2.2), and options
-- (RFC 7871, section 6; RFC 7828, section 3.1; RFC 8914, section 2).
use Rattle.std.specs.Prelude.{ℕ}

abbrev pub noerror : ℕ
noerror = 0

abbrev pub formerr : ℕ
formerr = 1

abbrev pub servfail : ℕ
servfail = 2

abbrev pub notimp : ℕ
notimp = 4

abbrev pub refused_code : ℕ
refused_code = 5

abbrev pub notauth : ℕ
notauth = 9

abbrev pub badvers : ℕ
badvers = 16

abbrev pub badcookie : ℕ
badcookie = 23

abbrev pub query_opcode : ℕ
query_opcode = 0

abbrev pub iquery_opcode : ℕ
iquery_opcode = 1

abbrev pub notify_opcode : ℕ
notify_opcode = 4

abbrev pub soa_type : ℕ
soa_type = 6

abbrev pub subnet_option : ℕ
subnet_option = 8

abbrev pub keepalive_option : ℕ
keepalive_option = 11

abbrev pub extended_error_option : ℕ
extended_error_option = 15
