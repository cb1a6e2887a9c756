-- The kind of a response, by which it is limited.
use Rattle.std.specs.Prelude.{ℕ, ◌&&◌, ◌||◌, Bool, List, [], ◌∷◌, Option, Some, None, Result, Ok, Err, nat_eq, nat_lt, unwrap_or, if◌then◌else◌}
use Rattle.dns_name.specs.declared.error.ParseError.{ParseError}
use Rattle.dns_message.specs.Header.{header_of}
use Rattle.dns_message.specs.Msg.{ResourceRecord}
use Rattle.dns_message.specs.Sections.{answers_of, field, reached, standing_authority}
use Rattle.dns_message.specs.Standing.{Standing}
use Rattle.dns_rate_limit.specs.declared.kind.Kind.{Kind}
use Rattle.dns_rate_limit.specs.declared.kind.Kind.TheVariants.{Answer as CountedAnswer, Referral as CountedReferral, Negative as CountedNegative, Error as CountedError}
use Rattle.dns_limited_sock.specs.declared.reply_kind.ReplyKind.{ReplyKind}
use Rattle.dns_limited_sock.specs.declared.reply_kind.ReplyKind.TheVariants.{Answer, Referral, Negative, Error}

-- an SOA record says that there is no such data in its zone (RFC 2308, section 2), an NS record that its servers are to be asked (RFC
-- 1034, section 4.3.1)
abbrev pub kind_of_record : ResourceRecord → Option ReplyKind
kind_of_record r = if nat_eq r.rtype 6 then Some (Negative r.owner) else (if nat_eq r.rtype 2 then Some Referral else None)

abbrev pub or_later : Option ReplyKind → Option ReplyKind → Option ReplyKind
or_later (Some k) later = Some k
or_later None later = later

-- what the first SOA or NS record says
abbrev pub kind_among : List (Result Standing ParseError) → Option ReplyKind
kind_among [] = None
kind_among (Err e ∷ more) = None
kind_among (Ok s ∷ more) = or_later (kind_of_record s.resource) (kind_among more)

abbrev pub kind_in : Result (List (Result Standing ParseError)) ParseError → Option ReplyKind
kind_in (Ok more) = kind_among more
kind_in (Err e) = None

-- a response code other than NOERROR and NXDOMAIN
abbrev pub is_error : ℕ → Bool
is_error code = nat_lt 0 code && (nat_lt code 3 || nat_lt 3 code)

-- an error; else one with answers; else what its authority section says
abbrev pub kind_of : List ℕ → ReplyKind
kind_of o = if is_error (header_of o).rcode then Error
    else (if nat_eq (header_of o).rcode 0 && nat_lt 0 (field 6 o) then Answer
    else unwrap_or (kind_in (reached (answers_of o).1 (standing_authority o))) Answer)

-- the kind by which a response is counted
abbrev pub counted_as : ReplyKind → Kind
counted_as Answer = CountedAnswer
counted_as Referral = CountedReferral
counted_as (Negative zone) = CountedNegative zone
counted_as Error = CountedError
