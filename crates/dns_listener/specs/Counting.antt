-- What is told of counts.
use Rattle.std.specs.Prelude.{ℕ, ◌≡◌, ◌++◌, List, [], ◌∷◌, codes, decimal, map}
use Rattle.std.specs.List.{flat_map}
use Rattle.dns_listener.specs.declared.counts.Numbers.{Numbers}
use Rattle.dns_listener.specs.declared.counts.ReplyNumbers.{ReplyNumbers}

-- the response codes that are told, by their names (RFC 6895, section 2.3), and all others
abbrev pub code_names : List (List ℕ)
code_names =
    codes "NOERROR" ∷ codes "FORMERR" ∷ codes "SERVFAIL" ∷ codes "NXDOMAIN" ∷ codes "NOTIMP" ∷ codes "REFUSED" ∷ codes "NOTAUTH"
    ∷ codes "other" ∷ []

abbrev pub code_of : ReplyNumbers → List ℕ
code_of n = n.code.now

-- the line of a response code
abbrev pub reply_line : ReplyNumbers → List ℕ
reply_line n =
    codes "replies " ++ n.code.now ++ codes " " ++ decimal n.udp ++ codes " over UDP, " ++ decimal n.tcp ++ codes " over TCP\n"

abbrev pub reply_lines : List ReplyNumbers → List ℕ
reply_lines replies = flat_map reply_line replies

-- the lines of connections, responses that were dropped, and transfers
abbrev pub other_lines : Numbers → List ℕ
other_lines n =
    codes "connections " ++ decimal n.connections ++ codes " accepted\n"
    ++ codes "responses " ++ decimal n.dropped ++ codes " dropped\n"
    ++ codes "transfers " ++ decimal n.begun ++ codes " begun, " ++ decimal n.refused ++ codes " refused\n"

-- the line of replies that were limited
abbrev pub limited_line : Numbers → List ℕ
limited_line n = codes "limited replies " ++ decimal n.truncated ++ codes " truncated, " ++ decimal n.limited ++ codes " not sent\n"

-- a text says numbers
abbrev pub Reports : List ℕ → Type 0
Reports text =
    (n : Numbers) × (map code_of n.replies ≡ code_names) × (text ≡ reply_lines n.replies ++ (other_lines n ++ limited_line n))
