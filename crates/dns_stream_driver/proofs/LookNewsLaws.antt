-- News that are noted, and then heard.
use Rattle.std.proofs.Common.{◌≡◌, ℕ, List, [], ◌∷◌, ◌++◌, ◌==◌, ◌&&◌, not, if◌then◌else◌, refl, sym, ◌∙◌, append_assoc, append-nil, Bool, true, false, Option}
use Rattle.dns_events.specs.declared.look.Look.{Look}
use Rattle.dns_admission.specs.declared.call.Call.TheVariants.{Look as ToLook}
use Rattle.dns_admission.specs.declared.call.Reply.TheVariants.{Look as Shown}
use Rattle.dns_book.specs.Seats.{Called}
use Rattle.dns_book.specs.declared.history.Known.{Known}
use Rattle.dns_service.specs.Answer.{Answer}
use Rattle.dns_events.specs.declared.event.Event.{Event}
use Rattle.dns_events.specs.declared.event.EventKind.{EventKind}
use Rattle.dns_events.specs.declared.event.EventKind.TheVariants.{Reconfigure, Shutdown}
use Rattle.dns_events.specs.declared.event.Why.{Why}
use Rattle.dns_service.specs.declared.polled.PolledRequest.{PolledRequest}
use Rattle.dns_session.specs.News.{wide, new_configurations, new_end}
use Rattle.dns_session.specs.declared.client.ClientCore.{ClientCore}
use Rattle.dns_recorder.specs.Own.{is_wide}
use Rattle.dns_recorder.specs.Notes.{NotedKinds, NotedWide, AllWide}
use Rattle.dns_recorder.specs.Woven.{kinds, AreNobodys, news_kinds, seen_with}
use Rattle.dns_recorder.proofs.NotedEvents.{kinds_append}
use Rattle.dns_stream_driver.specs.Blames.{HeardFor}
use Rattle.dns_stream_driver.specs.Steps.{LookedOnce, SeesLook, HeardNews}

pub looked_once : (look : Look) (k k' : Known) → Called k ToLook (Shown look) k' → LookedOnce k k'
looked_once look k k' c = record { look = look; called = c }

pub wide_none : (n : List Event) → NotedWide n n
wide_none n = record { events = []; wide = tt; nobodys = tt; noted = sym (append-nil n) }

unless_wide : (b : Bool) (e : Event) → is_wide e.kind ≡ true → AllWide (kinds (if b then [] else e ∷ []))
unless_wide true e w = tt
unless_wide false e w = (w, tt)

where_wide : (b : Bool) (e : Event) → is_wide e.kind ≡ true → AllWide (kinds (if b then e ∷ [] else []))
where_wide true e w = (w, tt)
where_wide false e w = tt

pub version_wide : (version : ℕ) (look : Look) → AllWide (kinds (new_configurations version look))
version_wide version look = unless_wide (look.version == version) (wide (Reconfigure look.dgram look.stream)) refl

pub end_wide : (over : Bool) (look : Look) → AllWide (kinds (new_end over look))
end_wide over look = where_wide (look.closed && not over) (wide Shutdown) refl

pub both_wide : (ks ls : List EventKind) → AllWide ks → AllWide ls → AllWide (ks ++ ls)
both_wide [] ls a b = b
both_wide (k ∷ ks) ls a b = (a.0, both_wide ks ls a.1 b)

pub wide_version : (version : ℕ) (look : Look) (n n1 n2 : List Event) → NotedKinds (kinds (new_configurations version look)) n n1 → n2 ≡ n1 → NotedWide n n2
wide_version version look n n1 n2 a e = record { events = a.events; wide = rw a.kinds_are (version_wide version look); nobodys = a.nobodys; noted = e ∙ a.noted }

both_nobodys : (es fs : List Event) → AreNobodys es → AreNobodys fs → AreNobodys (es ++ fs)
both_nobodys [] fs a b = b
both_nobodys (e ∷ es) fs a b = (a.0, both_nobodys es fs a.1 b)

-- the configurations, and then the shutdown
pub noted_news : (last look : Look) (n n1 n2 : List Event) → NotedKinds (kinds (new_configurations last.version look)) n n1 → NotedKinds (kinds (new_end last.closed look)) n1 n2 → NotedKinds (news_kinds last look) n n2
noted_news last look n n1 n2 a b = record {
  events = a.events ++ b.events;
  kinds_are = rw (kinds_append a.events b.events, a.kinds_are, b.kinds_are) (sym (kinds_append (new_configurations last.version look) (new_end last.closed look)));
  nobodys = both_nobodys a.events b.events a.nobodys b.nobodys;
  noted = rw (b.noted, a.noted) (append_assoc n a.events b.events);
}

pub news_wide : (last look : Look) → AllWide (news_kinds last look)
news_wide last look = rw (kinds_append (new_configurations last.version look) (new_end last.closed look)) (both_wide (kinds (new_configurations last.version look)) (kinds (new_end last.closed look)) (version_wide last.version look) (end_wide last.closed look))

pub wide_news : (last look : Look) (n n' : List Event) → NotedKinds (news_kinds last look) n n' → NotedWide n n'
wide_news last look n n' a = record { events = a.events; wide = rw a.kinds_are (news_wide last look); nobodys = a.nobodys; noted = a.noted }

module _ {W R F : Type 0} (answer : PolledRequest F R → ℕ → Answer) where
  pub heard_news : (why : Option Why) (core core' : ClientCore W R F) (last last' look : Look) (n n' : List Event) (k k' : Known) →
      Called k ToLook (Shown look) k' → NotedKinds (news_kinds last look) n n' → last' ≡ seen_with last look → SeesLook answer core core' look why → HeardNews answer why core core' last last' n n' k k'
  heard_news why core core' last last' look n n' k k' c a l s = record { look = look; called = c; last_is = l; news = a; sees = s }

  pub heard_for : (why : Option Why) (core core' : ClientCore W R F) (look : Look) (k k' : Known) → Called k ToLook (Shown look) k' → SeesLook answer core core' look why → HeardFor answer why core core' k k'
  heard_for why core core' look k k' c s = record { look = look; called = c; sees = s }
