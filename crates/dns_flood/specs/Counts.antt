-- How many outputs there are of each kind, and the line that says so.
use Rattle.std.specs.Prelude.{◌≡◌, ℕ, ◌+◌, ◌-◌, ◌^◌, ◌<◌, ◌≤◌, min, Bool, true, false, List, [], ◌∷◌, ◌++◌, length, codes, count_by, decimal}
use Rattle.dns_service.specs.Answer.{Answer}
use Rattle.dns_events.specs.declared.event.Event.{Event}
use Rattle.dns_events.specs.declared.event.Output.{Output}
use Rattle.dns_events.specs.declared.event.Output.TheVariants.{Closed, TurnedAway}
use Rattle.dns_service.specs.declared.polled.PolledRequest.{PolledRequest}
use Rattle.dns_session.specs.Serving.{Serving}
use Rattle.dns_core.specs.Machine.{last_version}
use Rattle.dns_core.specs.Out.{out}
use Rattle.dns_core.specs.Server.{Serves}
use Rattle.dns_core.specs.Trails.{is_datagram_sent, is_frame}
use Rattle.dns_core.specs.declared.server.Server.{Server}
use Rattle.dns_events.specs.declared.settings.Settings.{Settings}
use Rattle.dns_flood.specs.declared.counts.Counts.{Counts}

abbrev pub closes : Output → Bool
closes (Closed client why) = true
closes _ = false

abbrev pub turns_away : Output → Bool
turns_away (TurnedAway client accepted) = true
turns_away _ = false

unfoldable pub output_counts : List Output → Counts
output_counts outs = record {
  datagrams = count_by is_datagram_sent outs;
  frames = count_by is_frame outs;
  closed = count_by closes outs;
  turned_away = count_by turns_away outs;
}

-- both together
abbrev pub sum_of : Counts → Counts → Counts
sum_of a b = record {
  datagrams = a.datagrams + b.datagrams;
  frames = a.frames + b.frames;
  closed = a.closed + b.closed;
  turned_away = a.turned_away + b.turned_away;
}

-- the sum of two counts, each number of which stops at 2^128 - 1
abbrev pub saturated_sum : Counts → Counts → Counts
saturated_sum a b = record {
  datagrams = min (a.datagrams + b.datagrams) (2 ^ 128 - 1);
  frames = min (a.frames + b.frames) (2 ^ 128 - 1);
  closed = min (a.closed + b.closed) (2 ^ 128 - 1);
  turned_away = min (a.turned_away + b.turned_away) (2 ^ 128 - 1);
}

-- none of them is greater
pub record IsAtMost (most : ℕ) (c : Counts) : Type 0 where
  pub datagrams : c.datagrams ≤ most
  pub frames : c.frames ≤ most
  pub closed : c.closed ≤ most
  pub turned_away : c.turned_away ≤ most

-- whatever the settings and the events before, of which there are fewer than versions, and what was sent for them was counted:
-- so is what is sent with e after them, which was served too
abbrev pub CountsEvent : {W R F : Type 0} → (PolledRequest F R → ℕ → Answer) → Serving → Server W R F → Server W R F → Event
    → Counts → Counts → Type 0
CountsEvent answer answers old new e counts more = (settings : Settings) (q : List Event) → length q < last_version
    → Serves answer answers settings q old → counts ≡ output_counts (out answers settings q)
    → Serves answer answers settings (q ++ e ∷ []) new × (more ≡ output_counts (out answers settings (q ++ e ∷ [])))

-- events N datagrams A frames B closed C turned D
unfoldable pub summary_line : ℕ → Counts → List ℕ
summary_line events c =
    codes "events " ++ (decimal events
    ++ (codes " datagrams " ++ (decimal c.datagrams
    ++ (codes " frames " ++ (decimal c.frames
    ++ (codes " closed " ++ (decimal c.closed
    ++ (codes " turned " ++ (decimal c.turned_away ++ codes "\n")))))))))
