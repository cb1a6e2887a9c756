-- Which server is asked for a datagram: one of those under the deepest name that ends the name of its question (RFC 1034, section
-- 3.1), and else one of the root's. What has no header makes no query, nor does a response (RFC 1035, section 4.1.1).
use Rattle.std.specs.Prelude.{ℕ, ◌%◌, ◌||◌, List, length, nat_lt, slice_get, Bool, if◌then◌else◌, Option, Some, None, unwrap_or}
use Rattle.dns_base.specs.Header.{header_of}
use Rattle.dns_base.specs.Sections.{first_of, questions_of}
use Rattle.dns_message.specs.declared.question.Question.{Question}
use Rattle.dns_routes.specs.Routes.{Route, chosen}
use Rattle.dns_lookup.specs.declared.lookup_event.UpstreamConfig.{UpstreamConfig}

-- the server of a number, if they are counted again and again from the first
abbrev pub server_at : ℕ → List UpstreamConfig → Option UpstreamConfig
server_at n servers = slice_get servers (n % length servers)

-- the servers for a question
abbrev pub servers_for : List UpstreamConfig → List (Route (List UpstreamConfig)) → Option Question → List UpstreamConfig
servers_for root routes None = root
servers_for root routes (Some q) = unwrap_or (chosen q.qname routes) root

-- octets that are no query
abbrev pub is_no_query : List ℕ → Bool
is_no_query o = nat_lt (length o) 12 || (header_of o).qr

-- the server that is asked for octets, if they are a query
abbrev pub asked_server : List UpstreamConfig → List (Route (List UpstreamConfig)) → ℕ → List ℕ → Option UpstreamConfig
asked_server root routes n o = if is_no_query o then None else server_at n (servers_for root routes (first_of (questions_of o).0))
