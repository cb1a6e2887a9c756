-- What is read of the lines of settings and of events is in range.
use Rattle.std.proofs.Common.{◌≡◌, ℕ, zero, suc, ◌+◌, ◌*◌, ◌<◌, ◌≤◌, ◌^◌, ◌==◌, Bool, true, false, ◌||◌, List, [], ◌∷◌, length, refl, sym, ◌∙◌, arith}
use Rattle.std.specs.Prelude.{IfSome, Ok, Err, Result, Option, Some, None, unwrap_or, codes, if◌then◌else◌}
use Rattle.std.specs.List.{AllByRecursion}
use Rattle.std.specs.Str.{bytes_eq}
use Rattle.std.proofs.lemmas.List.Elements.{All-from_recursion}
use Rattle.hex.specs.Hex.{IsBytes, decode_of, decode_sized}
use Rattle.hex.specs.declared.error.FromHexError.{FromHexError}
use Rattle.hex.proofs.HexLemmas.{decode_of-ok, decode_sized-ok, decode_sized-twice}
use Rattle.dns_name.specs.declared.address.IpAddr.TheVariants.{V4}
use Rattle.dns_name.specs.declared.address.SocketAddr.{SocketAddr}
use Rattle.dns_service.specs.Config.{Dgram, IsBetween, IsBudget, IsDgram, IsResponseSize, IsStream, Stream, default_dgram, default_stream, in_range, limited_budget, limited_size}
use Rattle.dns_events.specs.declared.event.EventKind.{EventKind}
use Rattle.dns_events.specs.declared.event.EventKind.TheVariants.{Datagram, Turn, Offer, Piece, End, Fault, Close, Write, Tick, Release, Reconfigure, Shutdown}
use Rattle.dns_trace.specs.BudgetLine.{budgeted}
use Rattle.dns_trace.specs.DgramLine.{dgram_line, dgram_values}
use Rattle.dns_trace.specs.EventLines.{bare_line, bare_or_wide, connection_line, datagram_line, event_line, event_of, last_budget, moment_of, named_kind, offer_line, piece_line, reconfigure_line, shutdown_line, socket_addr_of, turn_line, wide_event_of, wide_line, write_line}
use Rattle.dns_trace.specs.InRange.{IsAddress, IsEvent, IsKind, IsOctets, IsSettings, IsSocketAddr}
use Rattle.dns_trace.specs.Reading.{unless}
use Rattle.dns_trace.specs.Said.{Said, settings_said}
use Rattle.dns_trace.specs.SettingLines.{denied_of, deny_line, edns_line, first_budget_line, first_dgram_line, first_said, first_stream_line, of_one_word, said_once, secret_line, setting_line, strict_line}
use Rattle.dns_trace.specs.StreamLine.{configured, stream_line, stream_values, timeouts_of}
use Rattle.dns_trace.specs.Values.{addr_of, from_hex, hex_octets_of, num_of, port_of, quad_of, secret_of, six, size_or_none, yes_no_of}
use Rattle.dns_trace.specs.Words.{word_at}
use Rattle.dns_trace.specs.declared.budget_line.Budget.{Budget}
use Rattle.dns_trace.specs.declared.reason.Reason.{Reason}
use Rattle.dns_trace.specs.declared.reason.Reason.TheVariants.{Order, Count, Value}
use Rattle.dns_trace.specs.declared.setting.Setting.{Setting}
use Rattle.dns_trace.specs.declared.setting.Setting.TheVariants.{Strict, Edns, Secret, Deny, Dgram as DgramSetting, Stream as StreamSetting, Budget as BudgetSetting}
use Rattle.dns_script.proofs.AnswersBack.{one_behind}
use Rattle.dns_script.proofs.ReadRange.{Reads, at_ok, below, bound, choice, given, refused}

-- ---- octets

decoded : (w : List ℕ) (r : Result (List ℕ) FromHexError) → decode_of w ≡ r → Reads IsBytes (from_hex r)
decoded w (Ok o) e = record { each = (decode_of-ok w o e).3 }
decoded w (Err x) e = refused

none : IsBytes []
none k = omega arith

pub hex_read : (w : List ℕ) → Reads IsBytes (hex_octets_of w)
unfolding hex_octets_of
hex_read w = choice IsBytes (bytes_eq w (codes "-")) _ _ (λ e. given _ _ none) (λ e. decoded w (decode_of w) refl)

sized : (w : List ℕ) (n : ℕ) (r : Result (List ℕ) FromHexError) → decode_sized w n ≡ r → Reads (IsOctets n) (from_hex r)
sized w n (Ok o) e =
    let len = decode_sized-ok w n o e in
    let read = decode_of-ok w o (sym (decode_sized-twice w n len) ∙ e) in
    let both : length w ≡ 2 * length o = read.2 in
    let same : length o ≡ n = omega arith in
    given _ _ (same, read.3)
sized w n (Err x) e = refused

secret_read : (w : List ℕ) → Reads (IsOctets 16) (secret_of w)
unfolding secret_of
secret_read w = sized w 16 (decode_sized w 16) refl

-- ---- addresses

six_read : (r : Result (List ℕ) Reason) → Reads (IsOctets 16) r → Reads IsAddress (six r)
six_read (Ok o) h = record { each = h.each }
six_read (Err e) h = refused

four : (a b c d : ℕ) → a < 256 → b < 256 → c < 256 → d < 256 → IsBytes (a ∷ b ∷ c ∷ d ∷ [])
four a b c d ha hb hc hd zero = ha
four a b c d ha hb hc hd (suc zero) = hb
four a b c d ha hb hc hd (suc (suc zero)) = hc
four a b c d ha hb hc hd (suc (suc (suc zero))) = hd
four a b c d ha hb hc hd (suc (suc (suc (suc i)))) = omega arith

quad_read : (ps : List (List ℕ)) → Reads IsAddress (quad_of ps)
unfolding quad_of
quad_read ps =
    bound IsAddress (unless Value (length ps == 4)) _ (λ u e.
    bound _ _ _ (λ a ea. bound _ _ _ (λ b eb. bound _ _ _ (λ c ec. bound _ _ _ (λ d ed.
    given IsAddress (V4 (a ∷ b ∷ c ∷ d ∷ [])) (refl, four a b c d (below 3 256 (word_at ps 0) a ea) (below 3 256 (word_at ps 1) b eb) (below 3 256 (word_at ps 2) c ec) (below 3 256 (word_at ps 3) d ed)))))))

addr_read : (w : List ℕ) → Reads IsAddress (addr_of w)
unfolding addr_of
addr_read w = choice IsAddress (length w == 32) _ _ (λ e. six_read (from_hex (decode_sized w 16)) (sized w 16 (decode_sized w 16) refl)) (λ e. quad_read _)

num_read : (w : List ℕ) (n : ℕ) → num_of w ≡ Ok n → n < 2 ^ 64
num_read w n e = below 20 18446744073709551616 w n e

-- ---- configurations

between : (low high x : ℕ) → low ≤ high → IsBetween low high (in_range low high x)
between low high x le = (omega (arith, le), omega (arith, le))

size_read : (o : Option ℕ) → IsResponseSize (limited_size o)
size_read None = tt
size_read (Some n) = between 512 4096 n (omega arith)

count_read : (o : Option ℕ) → IsBudget (limited_budget o)
count_read None = tt
count_read (Some n) = between 1 1000000 n (omega arith)

dgram_read : (ws : List (List ℕ)) (i : ℕ) → Reads IsDgram (dgram_values ws i)
unfolding dgram_values
dgram_read ws i =
    bound IsDgram (size_or_none (word_at ws i)) _ (λ size e. bound _ _ _ (λ write e2. given _ _ (record { max_response_size = size_read size; write_timeout = between 1 60000 write (omega arith) })))

configured_read : (idle write queue limit : ℕ) (accepts : Bool) → IsStream (configured idle write queue limit accepts)
configured_read idle write queue limit accepts = record {
  max_concurrent_connections = between 1 100000 limit (omega arith);
  connection_config = record {
    idle_timeout = between 200 2592000000 idle (omega arith);
    response_write_timeout = between 1 3600000 write (omega arith);
    max_queued_responses = between 1 1024 queue (omega arith);
    response_budget = tt;
    budget_window = (omega arith, omega arith);
  };
}

stream_read : (ws : List (List ℕ)) (i : ℕ) → Reads IsStream (stream_values ws i)
unfolding stream_values
stream_read ws i =
    bound IsStream (timeouts_of ws i) _ (λ timeouts e.
    bound _ (num_of (word_at ws (i + 2))) _ (λ queue e2. bound _ (num_of (word_at ws (i + 3))) _ (λ limit e3. bound _ (yes_no_of (word_at ws (i + 4))) _ (λ accepts e4.
    given _ _ (configured_read timeouts.0 timeouts.1 queue limit accepts)))))

budgeted_in : (o : Option Budget) (s : Stream) → IsStream s → IsStream (budgeted o s)
budgeted_in None s h = h
budgeted_in (Some b) s h = record {
  max_concurrent_connections = h.max_concurrent_connections;
  connection_config = record {
    idle_timeout = h.connection_config.idle_timeout;
    response_write_timeout = h.connection_config.response_write_timeout;
    max_queued_responses = h.connection_config.max_queued_responses;
    response_budget = count_read b.count;
    budget_window = between 1 3600000 b.window (omega arith);
  };
}

-- ---- settings

pub record IsSaid (s : Said) : Type 0 where
  pub secret : IfSome s.secret (IsOctets 16)
  pub denied : AllByRecursion IsAddress s.denied
  pub dgram : IfSome s.dgram IsDgram
  pub stream : IfSome s.stream IsStream

once_read : {A : Type 0} (P : A → Type 0) (before : Bool) (said : Option A) (read : Result A Reason) (put : A → Said) → Reads P read → ((a : A) → P a → IsSaid (put a)) → Reads IsSaid (said_once before said read put)
once_read P before said read put h puts = bound IsSaid (first_said before said) _ (λ u e. bound IsSaid read _ (λ a e2. given IsSaid (put a) (puts a (at_ok P read a h e2))))

one_word : {A : Type 0} (P : A → Type 0) (ws : List (List ℕ)) (read : List ℕ → Result A Reason) → ((w : List ℕ) → Reads P (read w)) → Reads P (of_one_word ws read)
one_word P ws read each = bound P _ (λ u. read (word_at ws 1)) (λ u e. each (word_at ws 1))

any : {A : Type 0} (r : Result A Reason) → Reads (λ a. Unit {0}) r
any (Ok a) = given _ _ tt
any (Err e) = refused

-- if nothing of a secret, of those who are denied and of configurations is said
same_said : (s t : Said) → IsSaid s → t.secret ≡ s.secret → t.denied ≡ s.denied → t.dgram ≡ s.dgram → t.stream ≡ s.stream → IsSaid t
same_said s t h a b c d = record { secret = rw a h.secret; denied = rw b h.denied; dgram = rw c h.dgram; stream = rw d h.stream }

strict_read : (before : Bool) (s : Said) (ws : List (List ℕ)) → IsSaid s → Reads IsSaid (strict_line before s ws)
unfolding strict_line
strict_read before s ws h = once_read (λ b. Unit {0}) before s.strict _ (λ b. record s { strict = Some b }) (any _) (λ b k. same_said s _ h refl refl refl refl)

edns_read : (before : Bool) (s : Said) (ws : List (List ℕ)) → IsSaid s → Reads IsSaid (edns_line before s ws)
unfolding edns_line
edns_read before s ws h = once_read (λ b. Unit {0}) before s.edns _ (λ b. record s { edns = Some b }) (any _) (λ b k. same_said s _ h refl refl refl refl)

secret_line_read : (before : Bool) (s : Said) (ws : List (List ℕ)) → IsSaid s → Reads IsSaid (secret_line before s ws)
unfolding secret_line
secret_line_read before s ws h =
    once_read (IsOctets 16) before s.secret (of_one_word ws secret_of) (λ o. record s { secret = Some o }) (one_word (IsOctets 16) ws secret_of secret_read)
    (λ o k. record { secret = k; denied = h.denied; dgram = h.dgram; stream = h.stream })

denied_read : (ws : List (List ℕ)) → Reads IsAddress (denied_of ws)
unfolding denied_of
denied_read ws = one_word IsAddress ws addr_of addr_read

deny_read : (before : Bool) (s : Said) (ws : List (List ℕ)) → IsSaid s → Reads IsSaid (deny_line before s ws)
unfolding deny_line
deny_read before s ws h =
    bound IsSaid (unless Order before) _ (λ u e. bound _ (denied_of ws) _ (λ a e2.
    given _ _ (record { secret = h.secret; denied = one_behind IsAddress s.denied a h.denied (at_ok IsAddress (denied_of ws) a (denied_read ws) e2); dgram = h.dgram; stream = h.stream })))

dgram_line_read : (ws : List (List ℕ)) → Reads IsDgram (dgram_line ws)
unfolding dgram_line
dgram_line_read ws = bound IsDgram (unless Count (length ws == 3)) _ (λ u e. dgram_read ws 1)

stream_line_read : (ws : List (List ℕ)) → Reads IsStream (stream_line ws)
unfolding stream_line
stream_line_read ws = bound IsStream (unless Count (length ws == 6)) _ (λ u e. stream_read ws 1)

first_dgram_read : (before : Bool) (s : Said) (ws : List (List ℕ)) → IsSaid s → Reads IsSaid (first_dgram_line before s ws)
unfolding first_dgram_line
first_dgram_read before s ws h =
    once_read IsDgram before s.dgram (dgram_line ws) (λ d. record s { dgram = Some d }) (dgram_line_read ws) (λ d k. record { secret = h.secret; denied = h.denied; dgram = k; stream = h.stream })

first_stream_read : (before : Bool) (s : Said) (ws : List (List ℕ)) → IsSaid s → Reads IsSaid (first_stream_line before s ws)
unfolding first_stream_line
first_stream_read before s ws h =
    once_read IsStream before s.stream (stream_line ws) (λ t. record s { stream = Some t }) (stream_line_read ws) (λ t k. record { secret = h.secret; denied = h.denied; dgram = h.dgram; stream = k })

first_budget_read : (before : Bool) (s : Said) (ws : List (List ℕ)) → IsSaid s → Reads IsSaid (first_budget_line before s ws)
unfolding first_budget_line
first_budget_read before s ws h = once_read (λ b. Unit {0}) before s.budget _ (λ b. record s { budget = Some b }) (any _) (λ b k. same_said s _ h refl refl refl refl)

pub setting_read : (setting : Setting) (before : Bool) (s : Said) (ws : List (List ℕ)) → IsSaid s → Reads IsSaid (setting_line setting before s ws)
setting_read Strict before s ws h = strict_read before s ws h
setting_read Edns before s ws h = edns_read before s ws h
setting_read Secret before s ws h = secret_line_read before s ws h
setting_read Deny before s ws h = deny_read before s ws h
setting_read DgramSetting before s ws h = first_dgram_read before s ws h
setting_read StreamSetting before s ws h = first_stream_read before s ws h
setting_read BudgetSetting before s ws h = first_budget_read before s ws h

dgram_or : (o : Option Dgram) → IfSome o IsDgram → IsDgram (unwrap_or o default_dgram)
dgram_or None h = record { max_response_size = (omega arith, omega arith); write_timeout = (omega arith, omega arith) }
dgram_or (Some d) h = h

stream_or : (o : Option Stream) → IfSome o IsStream → IsStream (unwrap_or o default_stream)
stream_or None h = record {
  max_concurrent_connections = (omega arith, omega arith);
  connection_config = record {
    idle_timeout = (omega arith, omega arith);
    response_write_timeout = (omega arith, omega arith);
    max_queued_responses = (omega arith, omega arith);
    response_budget = tt;
    budget_window = (omega arith, omega arith);
  };
}
stream_or (Some s) h = h

pub settings_in_range : (s : Said) → IsSaid s → IsSettings (settings_said s)
settings_in_range s h = record {
  cookies = h.secret;
  denied = All-from_recursion IsAddress s.denied h.denied;
  dgram = dgram_or s.dgram h.dgram;
  stream = budgeted_in s.budget (unwrap_or s.stream default_stream) (stream_or s.stream h.stream);
}

-- ---- events

-- two numbers of 64 bits
record AreMoments (m : ℕ × ℕ) : Type 0 where
  first : m.0 < 2 ^ 64
  second : m.1 < 2 ^ 64

moment_read : (ws : List (List ℕ)) → Reads AreMoments (moment_of ws)
unfolding moment_of
moment_read ws =
    bound AreMoments (num_of (word_at ws 1)) _ (λ a e. bound _ (num_of (word_at ws 2)) _ (λ b e2. given _ _ (record { first = num_read (word_at ws 1) a e; second = num_read (word_at ws 2) b e2 })))

event_with : (ws : List (List ℕ)) (kind : EventKind) → ((client : ℕ) → IsKind kind client) → Reads IsEvent (event_of ws kind)
unfolding event_of
event_with ws kind h =
    bound IsEvent (moment_of ws) _ (λ m e. bound _ (num_of (word_at ws 3)) _ (λ client e2.
    let moment = at_ok AreMoments (moment_of ws) m (moment_read ws) e in
    given _ _ (record { at = moment.first; secs = moment.second; client = num_read (word_at ws 3) client e2; kind = h client })))

wide_with : (ws : List (List ℕ)) (kind : EventKind) → IsKind kind 0 → Reads IsEvent (wide_event_of ws kind)
unfolding wide_event_of
wide_with ws kind h =
    bound IsEvent (moment_of ws) _ (λ m e.
    let moment = at_ok AreMoments (moment_of ws) m (moment_read ws) e in
    given _ _ (record { at = moment.first; secs = moment.second; client = omega arith; kind = h }))

socket_read : (ws : List (List ℕ)) → Reads IsSocketAddr (socket_addr_of ws)
unfolding socket_addr_of
socket_read ws =
    bound IsSocketAddr (addr_of (word_at ws 4)) _ (λ ip e. bound _ (port_of (word_at ws 5)) _ (λ port e2.
    given _ _ (record { ip = at_ok IsAddress (addr_of (word_at ws 4)) ip (addr_read (word_at ws 4)) e; port = below 20 65536 (word_at ws 5) port e2 })))

bare_read : (ws : List (List ℕ)) (kind : EventKind) → ((client : ℕ) → IsKind kind client) → Reads IsEvent (bare_line ws kind)
unfolding bare_line
bare_read ws kind h = bound IsEvent (unless Count (length ws == 4)) _ (λ u e. event_with ws kind h)

octets_at : (ws : List (List ℕ)) (i : ℕ) (o : List ℕ) → hex_octets_of (word_at ws i) ≡ Ok o → IsBytes o
octets_at ws i o e = at_ok IsBytes (hex_octets_of (word_at ws i)) o (hex_read (word_at ws i)) e

socket_at : (ws : List (List ℕ)) (a : SocketAddr) → socket_addr_of ws ≡ Ok a → IsSocketAddr a
socket_at ws a e = at_ok IsSocketAddr (socket_addr_of ws) a (socket_read ws) e

datagram_read : (ws : List (List ℕ)) → Reads IsEvent (datagram_line ws)
unfolding datagram_line
datagram_read ws =
    bound IsEvent (unless Count (length ws == 7)) _ (λ u e. bound _ (socket_addr_of ws) _ (λ addr e2. bound _ (hex_octets_of (word_at ws 6)) _ (λ o e3.
    event_with ws (Datagram addr o) (λ client. (socket_at ws addr e2, octets_at ws 6 o e3)))))

turn_read : (ws : List (List ℕ)) → Reads IsEvent (turn_line ws)
unfolding turn_line
turn_read ws = bound IsEvent (unless Count (length ws == 5)) _ (λ u e. bound _ (num_of (word_at ws 4)) _ (λ n e2. event_with ws (Turn n) (λ client. num_read (word_at ws 4) n e2)))

offer_read : (ws : List (List ℕ)) → Reads IsEvent (offer_line ws)
unfolding offer_line
offer_read ws = bound IsEvent (unless Count (length ws == 6)) _ (λ u e. bound _ (socket_addr_of ws) _ (λ addr e2. event_with ws (Offer addr) (λ client. socket_at ws addr e2)))

piece_read : (ws : List (List ℕ)) → Reads IsEvent (piece_line ws)
unfolding piece_line
piece_read ws = bound IsEvent (unless Count (length ws == 5)) _ (λ u e. bound _ (hex_octets_of (word_at ws 4)) _ (λ o e2. event_with ws (Piece o) (λ client. octets_at ws 4 o e2)))

write_read : (ws : List (List ℕ)) → Reads IsEvent (write_line ws)
unfolding write_line
write_read ws = bound IsEvent (unless Count (length ws == 5)) _ (λ u e. bound _ (num_of (word_at ws 4)) _ (λ n e2. event_with ws (Write n) (λ client. num_read (word_at ws 4) n e2)))

reconfigure_read : (ws : List (List ℕ)) → Reads IsEvent (reconfigure_line ws)
unfolding reconfigure_line
reconfigure_read ws =
    bound IsEvent (unless Count ((length ws == 10) || (length ws == 12))) _ (λ u e. bound _ (dgram_values ws 3) _ (λ d e2. bound _ (stream_values ws 5) _ (λ s e3. bound _ (last_budget ws) _ (λ b e4.
    wide_with ws (Reconfigure d (budgeted b s)) (
      at_ok IsDgram (dgram_values ws 3) d (dgram_read ws 3) e2,
      budgeted_in b s (at_ok IsStream (stream_values ws 5) s (stream_read ws 5) e3),
      refl,
    )))))

shutdown_read : (ws : List (List ℕ)) → Reads IsEvent (shutdown_line ws)
unfolding shutdown_line
shutdown_read ws = bound IsEvent (unless Count (length ws == 3)) _ (λ u e. wide_with ws Shutdown refl)

wide_read : (ws : List (List ℕ)) → Reads IsEvent (wide_line ws)
wide_read ws = choice IsEvent (bytes_eq (word_at ws 0) (codes "reconfigure")) _ _ (λ e. reconfigure_read ws) (λ e. choice _ (bytes_eq (word_at ws 0) (codes "shutdown")) _ _ (λ e2. shutdown_read ws) (λ e2. refused))

-- an event of which nothing more is said
abbrev IsBare : Option EventKind → Type 0
IsBare o = IfSome o (λ kind. (client : ℕ) → IsKind kind client)

either : (b : Bool) (x y : Option EventKind) → IsBare x → IsBare y → IsBare (if b then x else y)
either true x y h k = h
either false x y h k = k

bare_kind : (w : List ℕ) → IsBare (named_kind w)
bare_kind w =
    either (bytes_eq w (codes "end")) (Some End) _ (λ client. tt)
    (either (bytes_eq w (codes "fault")) (Some Fault) _ (λ client. tt)
    (either (bytes_eq w (codes "close")) (Some Close) _ (λ client. tt)
    (either (bytes_eq w (codes "tick")) (Some Tick) _ (λ client. tt) tt)))

bare_or : (o : Option EventKind) (ws : List (List ℕ)) → IsBare o → Reads IsEvent (bare_or_wide o ws)
bare_or (Some kind) ws h = bare_read ws kind h
bare_or None ws h = wide_read ws

connection_read : (ws : List (List ℕ)) → Reads IsEvent (connection_line ws)
connection_read ws =
    choice IsEvent (bytes_eq (word_at ws 0) (codes "piece")) _ _ (λ e. piece_read ws)
    (λ e. choice _ (bytes_eq (word_at ws 0) (codes "write")) _ _ (λ e2. write_read ws)
    (λ e2. choice _ (bytes_eq (word_at ws 0) (codes "release")) _ _ (λ e3. bare_read ws Release (λ client. tt)) (λ e3. bare_or (named_kind (word_at ws 0)) ws (bare_kind (word_at ws 0)))))

pub event_read : (ws : List (List ℕ)) → Reads IsEvent (event_line ws)
event_read ws =
    choice IsEvent (bytes_eq (word_at ws 0) (codes "datagram")) _ _ (λ e. datagram_read ws)
    (λ e. choice _ (bytes_eq (word_at ws 0) (codes "turn")) _ _ (λ e2. turn_read ws)
    (λ e2. choice _ (bytes_eq (word_at ws 0) (codes "offer")) _ _ (λ e3. offer_read ws) (λ e3. connection_read ws)))
