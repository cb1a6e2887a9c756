-- A client that begins is that of its slate.
use Rattle.dns_session.specs.Serving.{Serving}
use Rattle.std.proofs.Common.{◌≡◌, ℕ, zero, suc, ◌≤◌, ◌<◌, List, [], ◌∷◌, length, Some, None, true, false, refl, ap, sym, ◌∙◌, subst, lit≤, lt-ltb, zero-add}
use Rattle.std.specs.Arc.{arc_value}
use Rattle.std.specs.Prelude.{nat_lt, slice_get, Option, MatchOption}
use Rattle.std.proofs.lemmas.Bool.{le-ltb}
use Rattle.circular_buffer.specs.Buffer.{buffer}
use Rattle.dns_name.specs.declared.address.SocketAddr.{SocketAddr}
use Rattle.dns_base.specs.Header.{header_of}
use Rattle.dns_framing.specs.Answer.{Answer}
use Rattle.dns_framing.specs.Config.{Dgram, Connection, Stream}
use Rattle.dns_framing.specs.Req.{Req}
use Rattle.dns_events.specs.declared.event.Output.{Output}
use Rattle.dns_session.specs.Budget.{unspent}
use Rattle.dns_session.specs.Frames.{frames}
use Rattle.dns_session.specs.Slate.{Slate, Conf, IsUnused, fresh}
use Rattle.dns_session.specs.Requests.{header_size, request_of_datagram, unpolled}
use Rattle.dns_session.specs.Datagrams.{asks_nothing, at_once, exchange, refused_datagram}
use Rattle.dns_session.specs.Connections.{opened}
use Rattle.dns_session.specs.Stands.{IsExchange, IsGoing, IsKeptOfRequest, IsOpen, KeepsAll, Keeps, sole}
use Rattle.dns_session.specs.Turns.{limit_for}
use Rattle.dns_session.specs.Unfinished.{IsInOrder, request_at}
use Rattle.dns_framing.specs.InvokerStatus.TheVariants.{Normal}
use Rattle.dns_session.specs.declared.connection_request.ConnectionRequest.{ConnectionRequest}
use Rattle.dns_framing.specs.declared.invoker.ConnectionInvoker.{ConnectionInvoker}
use Rattle.dns_session.specs.declared.kept.KeptRequest.{KeptRequest}
use Rattle.dns_session.specs.declared.connection.OpenConnection.{OpenConnection}
use Rattle.dns_session.specs.declared.unfinished.Unfinished.{Unfinished}
use Rattle.dns_framing.specs.Polls.{PolledRequest}
use Rattle.dns_session.proofs.Keeping.{none_sole}

module _ {R F : Type 0} (answer : PolledRequest F R → ℕ → Answer) (answers : Serving) where
  -- no request is made
  exchanged_none : (client : ℕ) (addr : SocketAddr) (at secs : ℕ) (o : List ℕ) (s : Slate) → IsUnused s → asks_nothing o ≡ true
      → IsExchange answer answers client None (exchange client addr at secs o s)
  exchanged_none client addr at secs o s unused none =
      rw none (record {
        client = refl;
        freed = ap (λ (s : Slate). s.freed) unused;
        phase = refl;
        requests = none_sole answer answers;
        queue = ap (λ (s : Slate). s.queue) unused;
      })

  kept_first : (q : KeptRequest F R) (r : Req (Unit {0})) → IsKeptOfRequest answer answers q (unpolled r) → (k : ℕ) → Keeps answer answers (sole (Some q) k) (slice_get (unpolled r ∷ []) k)
  kept_first q r h zero = h
  kept_first q r h (suc k) = tt

  -- what is kept of a request that was called
  pub called : (q : KeptRequest F R) (r : Req (Unit {0})) → ((j : ℕ) → answer q.polled j ≡ answers.answer r j) → arc_value q.message ≡ r.octets → q.limit ≡ limit_for answers r → IsKeptOfRequest answer answers q (unpolled r)
  called q r h message limit = record { going = refl; polled = λ j. h j ∙ ap (answers.answer r) (sym (zero-add j)); message = message; limit = limit }

  exchanged : (q : KeptRequest F R) (client : ℕ) (addr : SocketAddr) (at secs : ℕ) (o : List ℕ) (dgram : Dgram) (r : Req (Unit {0})) (s : Slate)
      → IsUnused s → IsKeptOfRequest answer answers q (unpolled r)
      → r ≡ request_of_datagram dgram addr at secs o → s.conf.dgram ≡ dgram → asks_nothing o ≡ false
      → IsExchange answer answers client (Some q) (exchange client addr at secs o s)
  exchanged q client addr at secs o dgram r s unused h is d asks =
      let e : r ≡ request_of_datagram s.conf.dgram addr at secs o = is ∙ ap (λ (x : Dgram). request_of_datagram x addr at secs o) (sym d) in
      rw (asks, ← e) (record {
        client = refl;
        freed = ap (λ (s : Slate). s.freed) unused;
        phase = refl;
        requests = kept_first q r h;
        queue = ap (λ (s : Slate). s.queue) unused;
      })

  -- what is shorter than a header makes no request, and is answered with nothing
  pub begun_short : (client : ℕ) (addr : SocketAddr) (at secs : ℕ) (o : List ℕ) (outs : List Output) (s : Slate) → IsUnused s → length o < 12 → outs ≡ []
      → (outs ≡ at_once client s.conf.dgram o) × IsExchange answer answers client None (exchange client addr at secs o s)
  begun_short client addr at secs o outs s unused short none =
      let l : nat_lt (length o) header_size ≡ true = lt-ltb (length o) 12 short in
      (rw l none, exchanged_none client addr at secs o s unused (rw l refl))

  -- a response makes no request, and is refused at once
  pub begun_response : (client : ℕ) (addr : SocketAddr) (at secs : ℕ) (o : List ℕ) (dgram : Dgram) (outs : List Output) (s : Slate) → IsUnused s → 12 ≤ length o → (header_of o).qr ≡ true
      → s.conf.dgram ≡ dgram → outs ≡ refused_datagram client dgram o
      → (outs ≡ at_once client s.conf.dgram o) × IsExchange answer answers client None (exchange client addr at secs o s)
  begun_response client addr at secs o dgram outs s unused long response d says =
      let l : nat_lt (length o) header_size ≡ false = le-ltb (length o) 12 long in
      (rw (l, response) (says ∙ ap (λ (x : Dgram). refused_datagram client x o) (sym d)), exchanged_none client addr at secs o s unused (rw (l, response) refl))

  -- a query is asked
  pub begun_query : (g : Option (KeptRequest F R)) (client : ℕ) (addr : SocketAddr) (at secs : ℕ) (o : List ℕ) (dgram : Dgram) (outs : List Output) (s : Slate)
      → IsUnused s → 12 ≤ length o → (header_of o).qr ≡ false → MatchOption g ⊥ (λ q. IsKeptOfRequest answer answers q (unpolled (request_of_datagram dgram addr at secs o)))
      → s.conf.dgram ≡ dgram → outs ≡ []
      → (outs ≡ at_once client s.conf.dgram o) × IsExchange answer answers client g (exchange client addr at secs o s)
  begun_query None client addr at secs o dgram outs s unused long query h d none = absurd h
  begun_query (Some q) client addr at secs o dgram outs s unused long query h d none =
      let l : nat_lt (length o) header_size ≡ false = le-ltb (length o) 12 long in
      (rw (l, query) none, exchanged q client addr at secs o dgram (request_of_datagram dgram addr at secs o) s unused h refl d (rw (l, query) refl))

  -- what is kept of a connection's request that was called
  pub called_going : (q : ConnectionRequest F R) (r : Req (Unit {0})) → ((j : ℕ) → answer q.polled j ≡ answers.answer r j) → arc_value q.message ≡ r.octets → q.status ≡ Normal → q.held ≡ None → IsGoing answer answers q (unpolled r)
  called_going q r h message status held = record { going = refl; polled = λ j. h j ∙ ap (answers.answer r) (sym (zero-add j)); message = message; held = held; status = status }

  none_kept : (u : Unfinished (ConnectionRequest F R)) → u.count ≡ 0 → ((k : ℕ) → request_at u k ≡ None) → IsInOrder u → KeepsAll answer answers 0 u []
  none_kept u made none in_order = record { made = made; held_open = refl; in_order = in_order; each = λ k. let g = none k in rw g tt }

  -- the invoker of a connection that opens
  abbrev pub new_invoker : ℕ → Connection → ConnectionInvoker
  new_invoker at c = record { at = at; idle_timeout = c.idle_timeout; budget = unspent c; queue = buffer [] c.max_queued_responses; status = Normal; held = None }

  module _ {W : Type 0} where
    opened_fresh : (c : OpenConnection W R F) (client at : ℕ) (stream : Stream) (k : Conf)
        → c.invoker ≡ new_invoker at stream.connection_config → c.write_timeout ≡ stream.connection_config.response_write_timeout
        → c.timer ≡ at → c.framer ≡ [] → c.unfinished.count ≡ 0 → ((k : ℕ) → request_at c.unfinished k ≡ None) → IsInOrder c.unfinished → c.transactions ≡ 0
        → k.over ≡ false → k.stream ≡ stream
        → IsOpen answer answers client c (opened client c.addr at (fresh k))
    unfolding frames
    opened_fresh c client at stream k invoker write timer framer made none in_order transactions over e =
        let same : stream.connection_config ≡ k.stream.connection_config = ap (λ (x : Stream). x.connection_config) (sym e) in
        record {
          client = refl;
          freed = refl;
          phase = refl;
          not_over = over;
          addr = refl;
          idle_timeout = ap (λ (i : ConnectionInvoker). i.idle_timeout) invoker ∙ ap (λ (x : Connection). x.idle_timeout) same;
          write_timeout = write ∙ ap (λ (x : Connection). x.response_write_timeout) same;
          timer = timer;
          kept = framer;
          within = lit≤ tt;
          requests = rw transactions (none_kept c.unfinished made none in_order);
          queue = ap (λ (i : ConnectionInvoker). i.queue.items) invoker;
          bound = ap (λ (i : ConnectionInvoker). i.queue.capacity) invoker ∙ ap (λ (x : Connection). x.max_queued_responses) same;
          budget = ap (λ (i : ConnectionInvoker). i.budget) invoker ∙ ap unspent same;
        }

    pub admitted : (c : OpenConnection W R F) (client at : ℕ) (stream : Stream) (s : Slate)
        → c.invoker ≡ new_invoker at stream.connection_config → c.write_timeout ≡ stream.connection_config.response_write_timeout
        → c.timer ≡ at → c.framer ≡ [] → c.unfinished.count ≡ 0 → ((k : ℕ) → request_at c.unfinished k ≡ None) → IsInOrder c.unfinished → c.transactions ≡ 0
        → IsUnused s → s.conf.over ≡ false → s.conf.stream ≡ stream
        → IsOpen answer answers client c (opened client c.addr at s)
    admitted c client at stream s invoker write timer framer made none in_order transactions unused over e =
        let P : Slate → Type 0 = λ s. IsOpen answer answers client c (opened client c.addr at s) in
        subst P (sym unused) (opened_fresh c client at stream s.conf invoker write timer framer made none in_order transactions over e)
