-- An open connection that stands for a slate stands for another one, if what changed fits that.
use Rattle.dns_session.specs.Serving.{Serving}
use Rattle.std.proofs.Common.{◌≡◌, ℕ, ◌≤◌, length, Bool, false, ap, sym, ◌∙◌}
use Rattle.dns_name.specs.declared.address.SocketAddr.{SocketAddr}
use Rattle.dns_framing.specs.Answer.{Answer}
use Rattle.dns_framing.specs.Polls.{PolledRequest}
use Rattle.dns_session.specs.Connections.{spending}
use Rattle.dns_session.specs.Frames.{frames, past}
use Rattle.dns_session.specs.Slate.{Slate, Phase}
use Rattle.dns_session.specs.Stands.{IsOpen, KeepsAll}
use Rattle.dns_session.specs.declared.connection.OpenConnection.{OpenConnection}

-- what neither frames nor turns nor writes change of a connection and its slate
abbrev pub Settled : Type 0
Settled = SocketAddr × ℕ × ℕ × Bool × Phase × SocketAddr × ℕ

abbrev pub settled : {W R F : Type 0} → OpenConnection W R F → Slate → Settled
settled c s = (c.addr, c.write_timeout, s.client, s.freed, s.phase, s.addr, s.connection.response_write_timeout)

module _ {R F : Type 0} (answer : PolledRequest F R → ℕ → Answer) (answers : Serving) where
  pub open_on : {W : Type 0} {number : ℕ} {c c' : OpenConnection W R F} {s s' : Slate}
      → settled c' s' ≡ settled c s
      → s'.conf.over ≡ false
      → c'.invoker.idle_timeout ≡ s'.connection.idle_timeout
      → c'.timer ≡ s'.reset_at
      → c'.framer ≡ past s'.taken s'.received
      → s'.taken ≤ length (frames s'.received)
      → KeepsAll answer answers c'.transactions c'.unfinished s'.requests
      → c'.invoker.queue.items ≡ s'.queue
      → c'.invoker.queue.capacity ≡ s'.bound
      → c'.invoker.budget ≡ spending s'
      → IsOpen answer answers number c s → IsOpen answer answers number c' s'
  open_on same over idle timer kept within requests queue bound budget h =
      record {
        client = h.client ∙ sym (ap (λ (x : Settled). x.2) same);
        freed = ap (λ (x : Settled). x.3) same ∙ h.freed;
        phase = ap (λ (x : Settled). x.4) same ∙ h.phase;
        not_over = over;
        addr = ap (λ (x : Settled). x.0) same ∙ h.addr ∙ sym (ap (λ (x : Settled). x.5) same);
        idle_timeout = idle;
        write_timeout = ap (λ (x : Settled). x.1) same ∙ h.write_timeout ∙ sym (ap (λ (x : Settled). x.6) same);
        timer = timer;
        kept = kept;
        within = within;
        requests = requests;
        queue = queue;
        bound = bound;
        budget = budget;
      }
