-- What all clients are sent, if each hears of the server's changes only when it looks. Lists of steps go from the oldest to the
-- newest; a step s comes after the steps q.
use Rattle.std.specs.Prelude.{ℕ, List, [], ◌∷◌, ◌++◌, length, drop, nat_eq, if◌then◌else◌, Bool, true, false, not, ◌&&◌}
use Rattle.std.specs.List.{list_any}
use Rattle.dns_events.specs.declared.look.Look.{Look as State}
use Rattle.dns_admission.specs.declared.admission.Admission.TheVariants.{Admitted, Full}
use Rattle.dns_admission.specs.declared.call.Call.{Call}
use Rattle.dns_admission.specs.declared.call.Call.TheVariants as call
use Rattle.dns_admission.specs.declared.call.Reply.{Reply}
use Rattle.dns_admission.specs.declared.call.Reply.TheVariants as reply
use Rattle.dns_admission.specs.Machine.{state_after, reply_of, new_state}
use Rattle.dns_events.specs.declared.event.EventKind.{EventKind}
use Rattle.dns_events.specs.declared.event.EventKind.TheVariants.{Datagram, Offer, Release, Reconfigure, Shutdown}
use Rattle.dns_events.specs.declared.event.Output.{Output}
use Rattle.dns_events.specs.declared.event.Output.TheVariants.{TurnedAway}
use Rattle.dns_events.specs.declared.event.Step.{Step}
use Rattle.dns_events.specs.declared.event.Step.TheVariants.{Own, Look}
use Rattle.dns_session.specs.Serving.{Serving}
use Rattle.dns_session.specs.Slate.{Slate, phase_is_closed, fresh}
use Rattle.dns_core.specs.Settings.{opening}
use Rattle.dns_core.specs.Sent.{slate_after, sent}
use Rattle.dns_core.specs.Out.{is_unused, put}
use Rattle.dns_core.specs.Placed.{placed}
use Rattle.dns_events.specs.declared.settings.Settings.{Settings}

abbrev pub stepping : Step → ℕ
stepping (Own e) = e.client
stepping (Look at secs c) = c

-- the call of the book that an event makes, by its client's slate, and whether that is a member. An offer under a number that isn't
-- used asks for a slot; the first release that finds a connection closed gives it back; what all clients hear is entered; and all
-- else looks, which changes nothing
abbrev pub call_for : Slate → Bool → EventKind → Call
call_for s member (Offer addr) = if is_unused s.phase then call.Admit else call.Look
call_for s member Release = if member && (phase_is_closed s.phase && not s.freed) then call.Release else call.Look
call_for s member (Reconfigure dgram stream) = call.Reconfigure dgram stream
call_for s member Shutdown = call.Shutdown
call_for s member _ = call.Look

-- an event makes its client a member, by its slate, the book, and what the book replies
abbrev pub is_admitted : Reply → Bool
is_admitted (reply.Admission (Admitted look)) = true
is_admitted _ = false

abbrev pub enters : Slate → State → Reply → EventKind → Bool
enters s b r (Offer addr) = is_admitted r
enters s b r (Datagram addr o) = is_unused s.phase && not b.closed
enters s b r _ = false

-- a client is turned away if every slot is taken
abbrev pub refused_offer : ℕ → Reply → List Output
refused_offer c (reply.Admission (Full taken limit accepted)) = TurnedAway c accepted ∷ []
refused_offer c _ = []

-- the book, and the exchanges and connections by rising number
pub record Membership : Type 0 where
  pub book : State
  pub members : List ℕ

module _ (answers : Serving) (settings : Settings) where
  -- the slate of a client, by the events that it heard
  unfoldable pub placed_slate : ℕ → List Step → Slate
  placed_slate c q = slate_after answers (fresh (opening settings)) (placed settings c q)

  -- what a client is sent more with a step s
  unfoldable pub placed_gain : ℕ → List Step → Step → List Output
  placed_gain c q s = drop (length (sent answers settings (placed settings c q))) (sent answers settings (placed settings c (q ++ s ∷ [])))

  abbrev pub call_at : List Step → List ℕ → Step → Call
  call_at q ms (Own e) = call_for (placed_slate e.client q) (list_any (nat_eq e.client) ms) e.kind
  call_at q ms (Look at secs c) = call.Look

  abbrev pub enters_at : List Step → Membership → Step → Bool
  enters_at q h (Own e) = enters (placed_slate e.client q) h.book (reply_of h.book (call_at q h.members (Own e))) e.kind
  enters_at q h (Look at secs c) = false

  -- the book and the members after a step
  abbrev pub next_membership : List Step → Membership → Step → Membership
  next_membership q h s = record {
    book = state_after h.book (call_at q h.members s);
    members = (if enters_at q h s then put (stepping s) h.members else h.members);
  }

  abbrev pub membership_after : List Step → Membership → List Step → Membership
  membership_after q h [] = h
  membership_after q h (s ∷ ss) = membership_after (q ++ s ∷ []) (next_membership q h s) ss

  unfoldable pub membership : List Step → Membership
  membership steps = membership_after [] (record { book = new_state settings.dgram settings.stream; members = [] }) steps

  -- what is sent for a step: to a member its gain, and to who is turned away that it is
  abbrev pub step_gained : List Step → Step → List Output
  step_gained q s =
      if list_any (nat_eq (stepping s)) (membership (q ++ s ∷ [])).members then placed_gain (stepping s) q s
      else refused_offer (stepping s) (reply_of (membership q).book (call_at q (membership q).members s))

  abbrev pub outs_after : List Step → List Step → List Output
  outs_after q [] = []
  outs_after q (s ∷ ss) = step_gained q s ++ outs_after (q ++ s ∷ []) ss

  unfoldable pub outs : List Step → List Output
  outs steps = outs_after [] steps
