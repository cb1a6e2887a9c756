-- What a link's calls said of why its connection was closed.
use Rattle.std.proofs.Common.{◌≡◌, ℕ, List, [], ◌∷◌, ◌++◌, sym, ◌∙◌, ap, subst, append_assoc}
use Rattle.std.proofs.lemmas.List.{append_cancel_left}
use Rattle.dns_name.specs.declared.address.SocketAddr.{SocketAddr}
use Rattle.dns_events.specs.declared.look.Look.{Look}
use Rattle.dns_events.specs.declared.event.Event.{Event}
use Rattle.dns_events.specs.declared.event.Why.{Why}
use Rattle.dns_events.specs.declared.event.Why.TheVariants.{Ended, Short, Idle, WriteTimeout, Fault, Commanded, Shutdown}
use Rattle.dns_book.specs.declared.history.Known.{Known}
use Rattle.dns_io.specs.Traffic.{Traffic}
use Rattle.dns_session.specs.Serving.{Serving}
use Rattle.dns_session.specs.Reasons.{HasShortFrame}
use Rattle.dns_stream_driver.specs.Endings.{EndsSo, EndShown, WasServed, ShownFrom, offer}
use Rattle.dns_stream_driver.specs.Links.{pieces_in}
use Rattle.dns_stream_driver.specs.declared.connection.ConnectionEnd.{ConnectionEnd}
use Rattle.dns_stream_driver.specs.declared.connection.ConnectionEnd.TheVariants.{Closed, OutOfMemory}
use Rattle.dns_account.specs.Law.{SeenWhy, EndSeen, TookShortFrame}

abbrev behind : List Event → List Event
behind [] = []
behind (e ∷ es) = es

-- one event after a list, and then others
same_tail : (n es fs : List Event) (e f : Event) → (n ++ e ∷ []) ++ es ≡ (n ++ f ∷ []) ++ fs → es ≡ fs
same_tail n es fs e f same =
    ap behind (append_cancel_left n (e ∷ es) (f ∷ fs) (sym (append_assoc n (e ∷ []) es) ∙ same ∙ append_assoc n (f ∷ []) fs))

module _ (answers : Serving) (client : ℕ) (addr : SocketAddr) (look : Look) (n n' : List Event) (k k' : Known) (t t' : Traffic) where
  short_seen : WasServed answers Short client addr look n n' k k' t t' → ShownFrom answers Short client addr look n n' t t' → TookShortFrame t t'
  short_seen served shown =
      let o = served.opened in
      let s = o.story in
      let x = shown.shown in
      record {
        octets = pieces_in s.events;
        taken = s.came;
        short = subst (λ es. HasShortFrame (pieces_in es))
            (same_tail n x.events s.events (offer client addr shown.at shown.secs) (offer client addr o.at o.secs) (sym x.noted ∙ s.noted)) x.shows;
      }

  why_seen : (why : Why) → WasServed answers why client addr look n n' k k' t t' → ShownFrom answers why client addr look n n' t t' → SeenWhy why t t'
  why_seen Ended served shown = shown.shown.shows
  why_seen Short served shown = short_seen served shown
  why_seen Idle served shown = tt
  why_seen WriteTimeout served shown = tt
  why_seen Fault served shown = tt
  why_seen Commanded served shown = tt
  why_seen Shutdown served shown = tt

  pub end_seen : (end : ConnectionEnd) → EndsSo answers end client addr look n n' k k' t t' → EndShown answers end client addr look n n' t t' → EndSeen end t t'
  end_seen (Closed why) ends shown = why_seen why ends shown
  end_seen OutOfMemory ends shown = tt
